-- Decoded text is not longer than the bytes that it was read from, and where these end with the closing quote it is shorter. An escape
-- has at least as many bytes as what it stands for: four bytes of a character take a backslash, a letter, a digit and a closer.
use Rattle.std.proofs.Common.{Ok, Err}
use Rattle.items.specs.declared.Quotes.{Quotes}
use Rattle.items.specs.declared.Quotes.TheVariants.{Double, Lines}
use Rattle.items.specs.Classes.{delim_of, in_quotes, after_backslash, stops_hex, in_hex, in_trim, ends, plain, closes, stops}
use Rattle.items.specs.Meaning.{unescape, unescape_next, unescape_brace, unescape_hex, unescape_trim}
use Rattle.items.specs.Readers.{last_is, scalar_of}
use Rattle.items.proofs.Cases.{by_quotes, by_backslash, by_hex, by_trim, by_value}
use Rattle.items.proofs.Fine.{Between}
use Rattle.chars.proofs.Width.{width_le, width-utf8}
use Rattle.laws.specs.Quoted.{code}
use Rattle.laws.proofs.Choice.{by_bool, if_all, impossible}
use Rattle.chars.specs.Encode.{is_scalar, encode}
use Rattle.digits.specs.Hex.{hex_value, Hex}
use Prim.Native.Nat.{ℕ, suc, ◌+◌, ◌-◌, ◌≤◌}
use mathlib.Core.Path.{◌≡◌, refl}
use mathlib.Core.Bool.{Bool, true, false}
use mathlib.Core.List.{List, [], ◌∷◌, ◌++◌}
use lib.ListN.{length, drop, length-append}
use lib.Dec.{eqb}
use native.Mathlib.Omega.{arith}
use native.Mathlib.Nat.{le_of_suc-le-suc, not-suc-le-zero}
use borrow.Author.Tests.{eqb-true}

encode_le : (v : ℕ) → length (encode v) ≤ 4
unfolding encode
encode_le v = if_all (λ (l : List ℕ). length l ≤ 4) (is_scalar v) (omega (arith, width-utf8 v, width_le v)) (omega arith)

-- a value has a digit
digit_there : (ds : List ℕ) (v : ℕ) → scalar_of (hex_value ds) ≡ Ok v → 1 ≤ length ds
unfolding hex_value scalar_of
digit_there [] v e = impossible cc
digit_there (d ∷ ds) v e = omega arith

-- digits that spell a character spell a scalar value
pub scalar_is : (h : Hex) (v : ℕ) → scalar_of h ≡ Ok v → is_scalar v ≡ true
unfolding scalar_of
scalar_is (Ok n) v e =
    by_bool (is_scalar n)
    (λ y. let f = rw y at e in let q : n ≡ v = cc in rw (← q) y)
    (λ y. let f = rw y at e in impossible cc)
scalar_is (Err w) v e = impossible cc

-- E is what is known of the bytes, t how much shorter than these the text is for it
module _ (k : Quotes) (t : ℕ) (small : t ≤ 1) (E : List ℕ → Type 0) (tail : (c : ℕ) (cs : List ℕ) → E (c ∷ cs) → E cs)
    (after_plain : (c : ℕ) (cs : List ℕ) → E (c ∷ cs) → in_quotes k c ≡ plain → t ≤ length cs)
    (after-closer : (closer c : ℕ) (cs : List ℕ) → eqb (delim_of k) closer ≡ false → E (c ∷ cs) → in_hex k closer c ≡ closes → t ≤ length cs)
    (brackets : (eqb (delim_of k) (code ";") ≡ false) × (eqb (delim_of k) (code "}") ≡ false)) where
  mutual
    unfolding unescape

    quoted_le : (l : List ℕ) → E l → length (unescape k l) ≤ length l - t
    quoted_le [] h = omega arith
    quoted_le (c ∷ cs) h = by_quotes (in_quotes k c)
        (λ e. rw (e, unescape) (omega arith))
        (λ e. rw (e, unescape) (omega (arith, next_le cs (tail c cs h))))
        (λ e. rw (e, unescape) (omega (arith, quoted_le cs (tail c cs h), after_plain c cs h e)))

    next_le : (l : List ℕ) → E l → length (unescape_next k l) ≤ length l + 1 - t
    next_le [] h = omega arith
    next_le (c ∷ cs) h = by_backslash (after_backslash c)
        (λ x e. rw (e, unescape_next) (omega (arith, quoted_le cs (tail c cs h))))
        (λ e. rw (e, unescape_next) (omega (arith, hex_le (code ";") brackets.0 [] cs (tail c cs h))))
        (λ e. rw (e, unescape_next) (omega (arith, brace_le cs (tail c cs h))))
        (λ e. rw (e, unescape_next) (omega (arith, trim_le false cs (tail c cs h))))
        (λ e. rw (e, unescape_next) (omega (arith, trim_le true cs (tail c cs h))))
        (λ e. rw (e, unescape_next) (omega arith))

    brace_le : (l : List ℕ) → E l → length (unescape_brace k l) ≤ length l + 2 - t
    brace_le [] h = omega arith
    brace_le (c ∷ cs) h = by_bool (eqb c (code "{"))
        (λ e. rw (e, unescape_brace) (omega (arith, hex_le (code "}") brackets.1 [] cs (tail c cs h))))
        (λ e. rw (e, unescape_brace) (by_hex (in_hex k (code ";") c)
        (λ f. rw f (omega arith))
        (λ f. rw f (omega arith))
        (λ f. rw f (omega (arith, hex_le (code ";") brackets.0 (c ∷ []) cs (tail c cs h))))))

    hex_le : (closer : ℕ) → eqb (delim_of k) closer ≡ false → (ds l : List ℕ) → E l → length (unescape_hex k closer ds l) ≤ length l + length ds + 2 - t
    hex_le closer g ds [] h = omega arith
    hex_le closer g ds (c ∷ cs) h = by_hex (in_hex k closer c)
        (λ e. rw (e, unescape_hex) (by_value (scalar_of (hex_value ds))
        (λ v f. rw f (omega (arith, length-append (encode v) (unescape k cs), encode_le v, digit_there ds v f, quoted_le cs (tail c cs h), after-closer closer c cs g h e)))
        (λ n d f. rw f (omega arith))
        (λ n d p f. rw f (omega arith))))
        (λ e. rw (e, unescape_hex) (omega arith))
        (λ e. rw (e, unescape_hex) (omega (arith, hex_le closer g (ds ++ (c ∷ [])) cs (tail c cs h), length-append ds (c ∷ []))))

    trim_le : (seen : Bool) (l : List ℕ) → E l → length (unescape_trim k seen l) ≤ length l + 1 - t
    trim_le seen [] h = omega arith
    trim_le seen (c ∷ cs) h = by_trim (in_trim c)
        (λ e. rw (e, unescape_trim) (omega (arith, trim_le seen cs (tail c cs h))))
        (λ e. rw (e, unescape_trim) (by_bool seen
        (λ f. rw f (omega (arith, quoted_le cs (tail c cs h))))
        (λ f. rw f (omega (arith, trim_le true cs (tail c cs h))))))
        (λ e. rw (e, unescape_trim) (by_quotes (in_quotes k c)
        (λ f. rw f (omega arith))
        (λ f. rw f (omega (arith, next_le cs (tail c cs h))))
        (λ f. rw f (omega (arith, quoted_le cs (tail c cs h))))))

-- neither closer of hex digits closes quotes
not_closers : (k : Quotes) → (eqb (delim_of k) (code ";") ≡ false) × (eqb (delim_of k) (code "}") ≡ false)
not_closers Double = (refl, refl)
not_closers Lines = (refl, refl)

-- ---- of any bytes

pub shorter : (k : Quotes) (l : List ℕ) → length (unescape k l) ≤ length l
shorter k l =
    omega (arith, quoted_le k 0 (omega arith) (λ _. Unit {0}) (λ c cs h. tt) (λ c cs h e. omega arith) (λ closer c cs g h e. omega arith) (not_closers k) l tt)

-- ---- of bytes that end with the closing quote

abbrev EndsIn : ℕ → List ℕ → Type 0
EndsIn b [] = Unit {0}
EndsIn b (c ∷ []) = eqb c b ≡ true
EndsIn b (c ∷ d ∷ cs) = EndsIn b (d ∷ cs)

ends_tail : (b c : ℕ) (cs : List ℕ) → EndsIn b (c ∷ cs) → EndsIn b cs
ends_tail b c [] h = tt
ends_tail b c (d ∷ cs) h = h

ends_in : (b c : ℕ) (cs : List ℕ) → last_is b (c ∷ cs) ≡ true → EndsIn b (c ∷ cs)
ends_in b c [] h = h
ends_in b c (d ∷ cs) h =
    let e : length (c ∷ d ∷ cs) - 1 ≡ suc (length (d ∷ cs) - 1) = omega arith in
    ends_in b d cs (rw e at h)

-- a plain character is not the last, nor is the closer of hex digits
plain-not : (k : Quotes) (c : ℕ) (cs : List ℕ) → EndsIn (delim_of k) (c ∷ cs) → in_quotes k c ≡ plain → 1 ≤ length cs
unfolding in_quotes
plain-not k c [] h e = let z : ends ≡ plain = rw h at e in impossible cc
plain-not k c (d ∷ cs) h e = omega arith

closer_not : (k : Quotes) (closer c : ℕ) (cs : List ℕ) → eqb (delim_of k) closer ≡ false → EndsIn (delim_of k) (c ∷ cs) → in_hex k closer c ≡ closes
    → 1 ≤ length cs
unfolding in_hex
closer_not k closer c [] a h e =
    let f : c ≡ delim_of k = eqb-true c (delim_of k) h in
    let g : eqb c closer ≡ false = rw f a in
    by_bool (stops_hex c)
    (λ s. let z : stops ≡ closes = rw (g, s) at e in impossible cc)
    (λ s. let z : stops ≡ closes = rw (g, s, h) at e in impossible cc)
closer_not k closer c (d ∷ cs) a h e = omega arith

-- the text between quotes is at least two bytes shorter than the item
pub decoded_shorter : (k : Quotes) (raw : List ℕ) → Between (delim_of k) raw → length (unescape k (drop 1 raw)) + 2 ≤ length raw
decoded_shorter k [] h = absurd (not-suc-le-zero h.0)
decoded_shorter k (b ∷ []) h = absurd (not-suc-le-zero (le_of_suc-le-suc h.0))
decoded_shorter k (b ∷ c ∷ cs) h =
    let e : EndsIn (delim_of k) (c ∷ cs) = ends_in (delim_of k) b (c ∷ cs) h.1 in
    omega (arith, quoted_le k 1 (omega arith) (EndsIn (delim_of k)) (ends_tail (delim_of k)) (plain-not k) (closer_not k) (not_closers k) (c ∷ cs) e)
