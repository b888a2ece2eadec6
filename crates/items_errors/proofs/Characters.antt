-- Where a character's error 11 comes from: its digits stand after `x`, `u` or `u{`, and with a brace before another.
use Rattle.std.proofs.Common.{Ok, Err, Result}
use Prim.Native.Nat.{ℕ, suc, ◌+◌, ◌-◌, ◌<◌}
use mathlib.Core.Path.{◌≡◌, refl, sym, ap, subst, ◌∙◌}
use mathlib.Core.Bool.{true, false, ◌&&◌, ◌||◌}
use mathlib.Core.List.{List, [], ◌∷◌, ◌++◌, map, append-nil}
use lib.ListN.{length, get_or, take, drop}
use lib.Dec.{eqb, ltb}
use native.Mathlib.Omega.{arith}
use borrow.Author.Tests.{eqb-true}
use Rattle.laws.specs.Quoted.{code, codes}
use Rattle.laws.specs.Texts.{starts, begins}
use Rattle.laws.proofs.Choice.{by_bool, no_yes, if_all, if_is, and_true}
use Rattle.chars.specs.Encode.{utf8, bytes_of, is_scalar, spelled}
use Rattle.chars.specs.Utf8.{front, Front}
use Rattle.chars.specs.Utf8 as Utf8
use Rattle.digits.specs.Hex.{hex_value, Hex, wrong}
use Rattle.items.specs.Kinds as kind
use Rattle.items.specs.declared.CharError.{CharError}
use Rattle.items.specs.declared.CharError.TheVariants.{Wrong, WrongAt}
use Rattle.items.specs.Meaning.{lookup, lower, char_names, unnamed, before_delimiter, nameless, only_one, later, hex_named, spelled_out, character_of}
use Rattle.items.specs.Readers.{last_is, scalar_of}
use Rattle.items_errors.specs.First.{OfCharacter, Stand, character}
use Rattle.items_errors.proofs.Phases.{Stops}

-- of the bytes t after `#\`: where digits fail they stand after a byte of ASCII, and before one or at the end
pub record Named (t : List ℕ) (d q : ℕ) : Type 0 where
  pub x : List ℕ
  pub k : ℕ
  pub ds : List ℕ
  pub ys : List ℕ
  pub p : ℕ
  pub ascii : k < 0x80
  pub stop : Stops ys
  pub is : t ≡ x ++ k ∷ (ds ++ ys)
  pub anchor : (raw : List ℕ) → raw ≡ codes "#\\" ++ t → Stand raw ds (2 + (length x + 1))
  pub fails : hex_value ds ≡ wrong d p
  pub place : q ≡ length x + 1 + p

abbrev pub Of : List ℕ → Result ℕ CharError → Type 0
Of t (Ok c) = Unit {0}
Of t (Err (Wrong n d)) = (n ≡ kind.InvalidHexEscapeLiteral → ⊥)
Of t (Err (WrongAt n d q)) = (n ≡ kind.InvalidHexEscapeLiteral → Named t d q)

-- digits ds after x and k
of_digits : (t x : List ℕ) (k : ℕ) (ds ys : List ℕ) → k < 0x80 → Stops ys → t ≡ x ++ k ∷ (ds ++ ys)
    → ((raw : List ℕ) → raw ≡ codes "#\\" ++ t → Stand raw ds (2 + (length x + 1)))
    → (n : ℕ) → n ≡ length x + 1
    → (h : Hex) → hex_value ds ≡ h
    → Of t (later n (scalar_of h))
unfolding scalar_of
of_digits t x k ds ys ascii stop is anchor n e (Ok v) f = if_all (λ (c : Result ℕ CharError). Of t (later n c)) (is_scalar v) tt (λ z. omega arith)
of_digits t x k ds ys ascii stop is anchor n e (Err w) f =
    λ z. record { x = x; k = k; ds = ds; ys = ys; p = w.place; ascii = ascii; stop = stop; is = is; anchor = anchor; fails = f; place = omega arith }

of_nameless : (t : List ℕ) → Of t (nameless true t)
unfolding nameless
of_nameless t = if_all (Of t) (ltb (suc (before_delimiter (drop 1 t))) (length t)) (λ z. absurd (omega arith)) (λ z. omega arith)

of_only : (f : Front) (t : List ℕ) → Of t (only_one true f t)
of_only (Utf8.char c n) t = if_all (Of t) (eqb n (length t)) tt (of_nameless t)
of_only (Utf8.bad n) t = of_nameless t
of_only Utf8.cut t = of_nameless t
of_only Utf8.none t = of_nameless t

-- the last of some bytes
last_byte : (l : List ℕ) → 0 < length l → l ≡ take (length l - 1) l ++ (get_or l (length l - 1) 0 ∷ [])
last_byte [] h = absurd (omega arith)
last_byte (b ∷ []) h = refl
last_byte (b ∷ c ∷ l) h =
    let n : length (b ∷ c ∷ l) - 1 ≡ suc (length (c ∷ l) - 1) = omega arith in
    rw n (ap (λ (k : List ℕ). b ∷ k) (last_byte (c ∷ l) (omega arith)))

-- `x`, or `u` and no brace
data Letters : ℕ → List ℕ → Type 0 where
  an_x : (l : List ℕ) → Letters (code "x") l
  a_u : (l : List ℕ) → starts (code "{") l ≡ false → Letters (code "u") l

letters_small : (k : ℕ) (l : List ℕ) → Letters k l → k < 0x80
letters_small k l (an_x m) = omega arith
letters_small k l (a_u m h) = omega arith

letters_anchor : (k : ℕ) (l : List ℕ) → Letters k l → (raw : List ℕ) → raw ≡ codes "#\\" ++ (k ∷ l) → Stand raw l 3
letters_anchor k l (an_x m) raw is =
    character (codes "#\\x") [] OfCharacter.x (is ∙ ap (λ (r : List ℕ). codes "#\\x" ++ r) (sym (append-nil l)))
letters_anchor k l (a_u m h) raw is =
    character (codes "#\\u") [] (OfCharacter.u h) (is ∙ ap (λ (r : List ℕ). codes "#\\u" ++ r) (sym (append-nil l)))

of_plain : (k : ℕ) (l : List ℕ) → Letters k l → Of (k ∷ l) (later 1 (scalar_of (hex_value l)))
of_plain k l w =
    of_digits (k ∷ l) [] k l [] (letters_small k l w) Stops.over (ap (λ (m : List ℕ). k ∷ m) (sym (append-nil l))) (letters_anchor k l w) 1 refl
    (hex_value l) refl

-- between braces
of_braced : (u k : ℕ) (l : List ℕ) → u ≡ code "u" → k ≡ code "{" → last_is (code "}") (u ∷ k ∷ l) ≡ true
    → Of (u ∷ k ∷ l) (later 2 (scalar_of (hex_value (take (length (u ∷ k ∷ l) - 3) l))))
of_braced u k [] a b e =
    let z : k ≡ code "}" = eqb-true k (code "}") e in absurd (omega arith)
of_braced u k (m ∷ l) a b e =
    let n : length (u ∷ k ∷ m ∷ l) - 3 ≡ length (m ∷ l) - 1 = omega arith in
    let j : length (u ∷ k ∷ m ∷ l) - 1 ≡ suc (suc (length (m ∷ l) - 1)) = omega arith in
    let f : eqb (get_or (m ∷ l) (length (m ∷ l) - 1) 0) (code "}") ≡ true = rw j at e in
    let z : get_or (m ∷ l) (length (m ∷ l) - 1) 0 ≡ code "}" = eqb-true _ _ f in
    let ds : List ℕ = take (length (m ∷ l) - 1) (m ∷ l) in
    let is : m ∷ l ≡ ds ++ codes "}" = last_byte (m ∷ l) (omega arith) ∙ ap (λ (y : ℕ). ds ++ (y ∷ [])) z in
    rw n (of_digits (u ∷ k ∷ m ∷ l) (u ∷ []) k ds (codes "}") (omega arith) (Stops.byte (code "}") [] (omega arith))
    (ap (λ (r : List ℕ). u ∷ k ∷ r) is)
    (λ raw w. character (codes "#\\u{") (codes "}") OfCharacter.brace
    (w ∙ ap (λ (y : ℕ). codes "#\\" ++ (y ∷ k ∷ m ∷ l)) a ∙ ap (λ (y : ℕ). codes "#\\u" ++ (y ∷ m ∷ l)) b ∙ ap (λ (r : List ℕ). codes "#\\u{" ++ r) is))
    2 refl (hex_value ds) refl)

-- after `u` or `x`
of_named : (k m : ℕ) (l : List ℕ) → (eqb k (code "u") || eqb k (code "x")) ≡ true → Of (k ∷ m ∷ l) (hex_named (k ∷ m ∷ l))
unfolding hex_named starts
of_named k m l first =
    let t : List ℕ = k ∷ m ∷ l in
    if_is (Of t) (eqb k (code "u") && eqb m (code "{"))
    (λ e. let g = and_true (eqb k (code "u")) (eqb m (code "{")) e in
    if_is (Of t) (last_is (code "}") t)
    (λ f. of_braced k m l (eqb-true _ _ g.0) (eqb-true _ _ g.1) f) (λ f z. omega arith))
    (λ e. of_plain k (m ∷ l) (by_bool (eqb k (code "u"))
    (λ f. subst (λ (n : ℕ). Letters n (m ∷ l)) (sym (eqb-true k (code "u") f)) (a_u (m ∷ l) (no_brace f e)))
    (λ f. let g : eqb k (code "x") ≡ true = rw f at first in
    subst (λ (n : ℕ). Letters n (m ∷ l)) (sym (eqb-true k (code "x") g)) (an_x (m ∷ l)))))
  where
    no_brace : eqb k (code "u") ≡ true → (eqb k (code "u") && eqb m (code "{")) ≡ false → starts (code "{") (m ∷ l) ≡ false
    no_brace f e = let g : eqb m (code "{") ≡ false = rw f at e in g

of_spelled : (t : List ℕ) → Of t (spelled_out true t)
unfolding spelled_out
of_spelled [] = of_only (front []) []
of_spelled (k ∷ []) =
    if_is (Of (k ∷ [])) ((eqb k (code "u") || eqb k (code "x")) && ltb 1 1)
    (λ e. no_yes (and_true (eqb k (code "u") || eqb k (code "x")) false e).1) (λ e. of_only (front (k ∷ [])) (k ∷ []))
of_spelled (k ∷ m ∷ l) =
    let t : List ℕ = k ∷ m ∷ l in
    if_is (Of t) ((eqb k (code "u") || eqb k (code "x")) && ltb 1 (length t))
    (λ e. of_named k m l (and_true (eqb k (code "u") || eqb k (code "x")) (ltb 1 (length t)) e).0)
    (λ e. of_only (front t) t)

pub of_character : (t : List ℕ) → Of t (character_of true t)
unfolding character_of
of_character t = if_all (Of t) (eqb (lookup char_names (map lower t) unnamed) unnamed) (of_spelled t) tt

-- what begins with `#\` is that and what follows it
pub begins_is : (raw : List ℕ) → begins (spelled "#\\") raw ≡ true → raw ≡ codes "#\\" ++ drop 2 raw
unfolding begins bytes_of utf8
begins_is [] e = no_yes e
begins_is (a ∷ []) e = no_yes (and_true (eqb (code "#") a) false e).1
begins_is (a ∷ b ∷ l) e =
    let g = and_true (eqb (code "#") a) (eqb (code "\\") b && true) e in
    let h = and_true (eqb (code "\\") b) true g.1 in
    ap (λ (n : ℕ). n ∷ b ∷ l) (sym (eqb-true (code "#") a g.0)) ∙ ap (λ (n : ℕ). code "#" ∷ n ∷ l) (sym (eqb-true (code "\\") b h.0))
