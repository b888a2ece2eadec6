-- The forms of a character that has no name, by what the code finds: one character alone, and hexadecimal digits.
use Prim.Native.Nat.{ℕ, suc, ◌+◌, ◌-◌, ◌≤◌, ◌<◌}
use mathlib.Core.Path.{◌≡◌, refl, sym, ap, subst, ◌∙◌}
use mathlib.Core.Bool.{Bool, true, false, ◌||◌}
use mathlib.Core.List.{List}
use native.Mathlib.Nat.{zero-add}
use native.Mathlib.Omega.{arith}
use lib.Dec.{eqb}
use lib.ListN.{length, get_or, take, drop, length-drop}
use lib.Seq.{length-take-le}
use borrow.Author.Tests.{eq-eqb, ne_eqb, lt-ltb, le-ltb}
use Rattle.std.specs.Prelude.{if◌then◌else◌, Err, Ok, Result}
use Rattle.laws.specs.Quoted.{code}
use Rattle.laws.proofs.Lent.{part_rest}
use Rattle.laws.proofs.Choice.{and_no}
use Rattle.chars.specs.Utf8 as Utf8
use Rattle.chars.specs.Utf8.{Front, front, placed}
use Rattle.chars.specs.declared.Decoded.{Decoded}
use Rattle.chars.specs.declared.Decoded.TheVariants as decoded
use Rattle.digits.specs.Hex.{hex_value}
use Rattle.items.specs.declared.CharError.{CharError}
use Rattle.items.specs.declared.CharError.TheVariants.{Wrong, WrongAt}
use Rattle.items.specs.Kinds as kind
use Rattle.items.specs.Readers.{scalar_of}
use Rattle.items.proofs.Failing.{Inside, hex_inside}
use Rattle.items.specs.Meaning.{before_delimiter, nameless, only_one, later, hex_named, spelled_out}

-- ---- one character alone, by what stands at the front of the text

abbrev alone : Bool → Decoded → List ℕ → Result ℕ CharError
alone report (decoded.Char c n) t = if eqb n (length t) then Ok c else nameless report t
alone report decoded.Bad t = nameless report t
alone report decoded.Cut t = nameless report t
alone report decoded.End t = nameless report t

alone_front : (report : Bool) (f : Front) (t : List ℕ) → alone report (placed 0 f) t ≡ only_one report f t
alone_front report (Utf8.char c n) t = simp zero-add
alone_front report (Utf8.bad n) t = refl
alone_front report Utf8.cut t = refl
alone_front report Utf8.none t = refl

module _ (report : Bool) (t : List ℕ) {d : Decoded} (e : d ≡ placed 0 (front t)) where
  pub alone_is : (a : Decoded) → d ≡ a → alone report a t ≡ only_one report (front t) t
  alone_is a g = ap (λ (x : Decoded). alone report x t) (sym g ∙ e) ∙ alone_front report (front t) t

  module _ (c n : ℕ) (g : d ≡ decoded.Char c n) where
    pub alone_all : n ≡ length t → Ok c ≡ only_one report (front t) t
    alone_all h = rw (eq-eqb n (length t) h) at (alone_is (decoded.Char c n) g)

    pub alone_more : (n ≡ length t → ⊥) → nameless report t ≡ only_one report (front t) t
    alone_more h = rw (ne_eqb n (length t) h) at (alone_is (decoded.Char c n) g)

-- ---- no name

module _ (report : Bool) (t : List ℕ) where
  module _ (p : ℕ) (told : report ≡ true) (first : p ≡ 1 + before_delimiter (drop 1 t)) where
    first_suc : suc (before_delimiter (drop 1 t)) ≡ p
    first_suc = omega arith

    pub delimited : p < length t → Err (WrongAt kind.InvalidCharDelimiter 0 p) ≡ nameless report t
    unfolding nameless
    delimited h = rw (told, first_suc, lt-ltb p (length t) h)

    pub undelimited : length t ≤ p → Err (Wrong kind.InvalidCharName 0) ≡ nameless report t
    unfolding nameless
    undelimited h = rw (told, first_suc, le-ltb p (length t) h)

  pub untold : report ≡ false → Err (Wrong kind.InvalidCharName 0) ≡ nameless report t
  unfolding nameless
  untold h = rw h

-- ---- hexadecimal digits

module _ (t : List ℕ) where
  pub hex_x_lem : (get_or t 0 0 ≡ code "u" → ⊥) → later 1 (scalar_of (hex_value (take (length t - 1) (drop 1 t)))) ≡ hex_named t
  unfolding hex_named
  hex_x_lem h = rw (part_rest t 1, ne_eqb _ _ h)

  module _ (u : get_or t 0 0 ≡ code "u") where
    pub hex_u_lem : (get_or t 1 0 ≡ code "{" → ⊥) → later 1 (scalar_of (hex_value (take (length t - 1) (drop 1 t)))) ≡ hex_named t
    unfolding hex_named
    hex_u_lem h = rw (part_rest t 1, eq-eqb _ _ u, ne_eqb _ _ h)

    module _ (brace : get_or t 1 0 ≡ code "{") where
      pub hex_unclosed : (get_or t (length t - 1) 0 ≡ code "}" → ⊥) → Err (Wrong kind.UnclosedHexEscape (code "}")) ≡ hex_named t
      unfolding hex_named
      hex_unclosed h = rw (eq-eqb _ _ u, eq-eqb _ _ brace, ne_eqb _ _ h)

      module _ (last : get_or t (length t - 1) 0 ≡ code "}") where
        -- the closing brace is not the opening one
        apart : (length t - 1 ≡ 1 → ⊥)
        apart one = let z : code "{" ≡ code "}" = sym brace ∙ ap (λ (j : ℕ). get_or t j 0) (sym one) ∙ last in omega arith

        pub hex_room : 1 < length t → 2 ≤ length t - 1
        hex_room h = omega (arith, apart)

        pub hex_braces : later 2 (scalar_of (hex_value (take (length t - 1 - 2) (drop 2 t)))) ≡ hex_named t
        unfolding hex_named
        hex_braces = let e : length t - 3 ≡ length t - 1 - 2 = omega arith in rw (eq-eqb _ _ u, eq-eqb _ _ brace, eq-eqb _ _ last, e)

-- the failing place of a part, counted from the start of the whole, is no place past the end
pub part_place : (t : List ℕ) (from to e d p : ℕ) → from ≤ to → to ≤ length t
    → scalar_of (hex_value (take (to - from) (drop from t))) ≡ Err (WrongAt e d p)
    → from + p ≤ length t
part_place t from to e d p h g f =
    let part : List ℕ = take (to - from) (drop from t) in
    let in-part : p ≤ length part = subst (Inside (length part)) f (hex_inside part) in
    omega (arith, length-take-le (to - from) (drop from t) (omega (arith, length-drop from t)))

-- ---- which of them

pub short_alone : (report : Bool) (t : List ℕ) → length t ≤ 1 → spelled_out report t ≡ only_one report (front t) t
unfolding spelled_out
short_alone report t h = rw (le-ltb 1 (length t) h) (rw (and_no (eqb (get_or t 0 0) (code "u") || eqb (get_or t 0 0) (code "x"))))
