-- In report mode an error points at its own place: what is known of an outcome, which carries its own range, and of a character that is none. That
-- an item that is read has it, stands in `OwnSteps`.
use Rattle.std.proofs.Common.{Ok, Err, Result}
use Prim.Native.Nat.{ℕ, suc, ◌+◌, ◌-◌, ◌≤◌, ◌<◌}
use mathlib.Core.Path.{◌≡◌, refl}
use mathlib.Core.Bool.{Bool, true, false, ◌&&◌, ◌||◌}
use mathlib.Core.List.{List, [], ◌∷◌, map}
use mathlib.Core.Logic.{◌⊎◌, inl, inr}
use lib.ListN.{length, get_or, take, drop}
use lib.Dec.{T, eqb, ltb}
use native.Mathlib.Omega.{arith}
use borrow.Author.Tests.{eqb-true, ltb-true, ltb-false}
use Rattle.laws.specs.Quoted.{code, one_of}
use Rattle.laws.specs.Texts.{span}
use Rattle.laws.proofs.Choice.{by_bool, if_all, if_is, impossible}
use Rattle.chars.specs.Encode.{is_scalar}
use Rattle.chars.specs.Utf8.{front, Front}
use Rattle.chars.specs.Utf8 as Utf8
use Rattle.chars.proofs.Round.{one_read}
use Rattle.digits.specs.Hex.{hex_value, Hex}
use Rattle.items.specs.declared.Outcome.{Outcome}
use Rattle.items.specs.declared.Outcome.TheVariants.{Token, Str, HereStr, Word, Run, Lined, Keyword, Character, Error, ErrorAt}
use Rattle.items.specs.declared.CharError.{CharError}
use Rattle.items.specs.declared.CharError.TheVariants.{Wrong, WrongAt}
use Rattle.items.specs.Kinds as kind
use Rattle.items.specs.Meaning.{lookup}
use Rattle.items.specs.Meaning.{lower, char_names, unnamed, is_delimiter, before_delimiter, nameless, only_one, later, hex_named, spelled_out, character_of}
use Rattle.items.specs.Points.{extent_errors, PointsAt}
use Rattle.items.specs.Readers.{first_is, last_is, scalar_of, past_failing}

pub holds : (b : Bool) → T b → b ≡ true
holds true t = refl
holds false t = absurd t

-- ---- what is known of an outcome, its extent from s to e

abbrev pub Own : ℕ → ℕ → Outcome → Type 0
Own s e (Token k d) = T (ltb k kind.first_error)
Own s e Str = Unit {0}
Own s e HereStr = Unit {0}
Own s e Word = Unit {0}
Own s e Run = Unit {0}
Own s e Lined = Unit {0}
Own s e Keyword = Unit {0}
Own s e Character = Unit {0}
Own s e (Error n d) = T (one_of extent_errors n)
Own s e (ErrorAt n d a b) = (0 < b) × PointsAt s e n a b

-- ---- a character that is none

-- the error of any bytes t after `#\`: where it fails there is a digit or none, or a delimiter after the first character
abbrev pub Fails : List ℕ → Result ℕ CharError → Type 0
Fails t (Ok x) = Unit {0}
Fails t (Err (Wrong n d)) = T (one_of extent_errors n)
Fails t (Err (WrongAt n d p)) = (n ≡ kind.InvalidHexEscapeLiteral) ⊎ ((n ≡ kind.InvalidCharDelimiter) × (0 < p) × (p < length t) × ((at : ℕ) → past_failing d at (drop p t) ≡ at + 1))

digits_fail : (t : List ℕ) (n : ℕ) (h : Hex) → Fails t (later n (scalar_of h))
unfolding scalar_of
digits_fail t n (Ok v) = if_all (λ (x : Result ℕ CharError). Fails t (later n x)) (is_scalar v) tt tt
digits_fail t n (Err w) = inl refl

-- a delimiter is one byte
pub delimiter_small : (c : ℕ) → is_delimiter c ≡ true → c < 0x80
unfolding is_delimiter
delimiter_small c h = by_bool (ltb c 0x80) (λ e. ltb-true c 0x80 e) (λ e. absurd (none_large (ltb-false c 0x80 e)))
  where
    none_large : 0x80 ≤ c → ⊥
    none_large g =
        let a : eqb c (code ";") ≡ false = eqb_no c (code ";") g (omega arith) in
        let b : eqb c (code "\"") ≡ false = eqb_no c (code "\"") g (omega arith) in
        let d : eqb c (code "'") ≡ false = eqb_no c (code "'") g (omega arith) in
        let e : eqb c (code ",") ≡ false = eqb_no c (code ",") g (omega arith) in
        let z : false ≡ true = rw (a, b, d, e) at h in
        impossible cc
      where
        eqb_no : (c k : ℕ) → 0x80 ≤ c → k < 0x80 → eqb c k ≡ false
        eqb_no c k g h = by_bool (eqb c k) (λ e. let z : c ≡ k = eqb-true c k e in absurd (omega arith)) (λ e. e)

at_delimiter : (l : List ℕ) → before_delimiter l < length l → (at : ℕ) → past_failing 0 at (drop (before_delimiter l) l) ≡ at + 1
unfolding span past_failing
at_delimiter [] h at = absurd (omega arith)
at_delimiter (c ∷ cs) h at = by_bool (is_delimiter c)
    (λ e. rw (e, span) (rw (one_read c cs (delimiter_small c e))))
    (λ e. rw (e, span) (at_delimiter cs (let g = rw (e, span) at h in omega arith) at))

nameless_fails : (t : List ℕ) → Fails t (nameless true t)
unfolding nameless span
nameless_fails [] = tt
nameless_fails (c ∷ cs) =
    if_is (Fails (c ∷ cs)) (ltb (suc (before_delimiter cs)) (length (c ∷ cs)))
    (λ e. let h : suc (before_delimiter cs) < length (c ∷ cs) = ltb-true _ _ e in inr (refl, omega arith, h, at_delimiter cs (omega arith)))
    (λ e. tt)

only_fails : (f : Front) (t : List ℕ) → Fails t (only_one true f t)
only_fails (Utf8.char c n) t = if_all (Fails t) (eqb n (length t)) tt (nameless_fails t)
only_fails (Utf8.bad n) t = nameless_fails t
only_fails Utf8.cut t = nameless_fails t
only_fails Utf8.none t = nameless_fails t

named_fails : (t : List ℕ) → Fails t (hex_named t)
unfolding hex_named
named_fails t =
    if_all (Fails t) (first_is (code "u") t && eqb (get_or t 1 0) (code "{"))
    (if_all (Fails t) (last_is (code "}") t) (digits_fail t 2 (hex_value (take (length t - 3) (drop 2 t)))) tt)
    (digits_fail t 1 (hex_value (drop 1 t)))

spelled_fails : (t : List ℕ) → Fails t (spelled_out true t)
unfolding spelled_out
spelled_fails t =
    if_all (Fails t) ((first_is (code "u") t || first_is (code "x") t) && ltb 1 (length t)) (named_fails t) (only_fails (front t) t)

pub character_fails : (t : List ℕ) → Fails t (character_of true t)
unfolding character_of
character_fails t = if_all (Fails t) (eqb (lookup char_names (map lower t) unnamed) unnamed) (spelled_fails t) tt
