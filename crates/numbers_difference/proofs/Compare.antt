-- The two readers on <number>: they differ on a text exactly if it meets one of the three conditions.
use mathlib.Core.List.{List, [], ◌++◌, ◌∷◌}
use Prim.Native.Nat.{◌+◌, ◌-◌, ◌≤◌, ℕ}
use mathlib.Core.Logic.{◌↔◌, ◌⊎◌, inl, inr}
use mathlib.Core.Path.{◌∙◌, ◌≡◌, ap, refl, subst, sym}
use native.Mathlib.Omega.{arith}
use lib.ListN.{drop, length, length-append}
use lib.Seq.{drop-append-add, take-append_seam}
use lib.Dec.{eqb}
use borrow.Author.Tests.{eqb-false, eqb-true, lt-ltb, ne_eqb}
use mathlib.Core.Bool.{false, true}
use Rattle.numbers.specs.declared.ParseError.TheVariants.{NoNumber, ZeroDenominator}
use Rattle.numbers.specs.declared.Parts.{Parts}
use Rattle.numbers.specs.declared.Parts.TheVariants.{Polar}
use Rattle.numbers.specs.declared.Real.{Real}
use Rattle.numbers_standard.proofs.Letters.{UpperOf, lower_is}
use Rattle.laws.specs.Texts.{before}
use Rattle.laws.proofs.Choice.{by_bool, yes_no, impossible}
use Rattle.laws.specs.Quoted.{code}
use Rattle.numbers_standard.specs.Grammar.{complex, number_parts, parse_standard}
use Rattle.std.specs.Prelude.{if◌then◌else◌, None, Option, Some, Ok, Err}
use Rattle.numbers.specs.Grammar.{Parsed, judged, parse_number, polar_of, prefix, zero_parts}
use Rattle.laws.specs.Letters.{lower, to_lower}
use Rattle.numbers_standard.specs.Reals.{real}
use Rattle.numbers_difference.proofs.WithParts.{BelowSlash, Condition, HexE, Side, Upper}
use Rattle.numbers_difference.proofs.Walk.{Foreign, foreign_at, foreign_hash, other, radix_le, real_other}
use Rattle.numbers_difference.specs.Productions.{Letter, Prefix}
use Rattle.numbers_difference.specs.R7rs.{Number}
use Rattle.numbers_difference.proofs.Bought.{ReadC, complex_read}
use Rattle.numbers_difference.proofs.Whole.{Prefixed, Seen, complex_inv, complex_is, no_parts, parts_inv, parts_is, parts_seen, prefix_hash, prefix_made, prefix_mark, prefix_radix, seen}
use Rattle.numbers_difference.specs.Conditions.{SignedBelow, capital, is_capital, is_n, sign_after_odd_e, somewhere}
use Rattle.numbers_difference.proofs.Runs.{all, all_append, all_cons, before_here}
use Rattle.numbers_difference.proofs.Reals.{below_not, below_plain, below_real, real_low}
use Rattle.numbers_difference.proofs.LowerCase.{complex_low}
use Rattle.numbers_difference.proofs.Derived.{plain-not}
use Rattle.numbers.specs.Reals as bought
use Rattle.numbers.specs.Grammar as bought-grammar

-- <number>: what the bought reader takes apart
unfoldable bought_parts : List ℕ → Option Parts
bought_parts s = if eqb (prefix s) 0 then bought-grammar.complex 10 0 s else bought-grammar.complex (prefix s) 2 (drop 2 s)

number_bought : (s : List ℕ) → parse_number s ≡ judged (bought_parts s)
unfolding parse_number bought_parts
number_bought s = by_bool (eqb (prefix s) 0) (λ e. rw e) (λ e. rw e)

bought_seen : (R : ℕ) (g s : List ℕ) → Seen R g s → bought_parts (g ++ s) ≡ bought-grammar.complex R (length g) s
unfolding bought_parts
bought_seen R g s (inl e) = rw (e.2, e.1, e.0)
bought_seen R g s (inr e) = rw (e.1, e.3, e.2, ne_eqb R 0 e.0)

judged_some : (a : Parts) → judged (Some a) ≡ Err NoNumber → ⊥
unfolding judged
judged_some a h = by_bool (zero_parts a) (λ e. zero (rw e at h)) (λ e. is (rw e at h))
  where
    zero : ◌≡◌ {A = Parsed} (Err ZeroDenominator) (Err NoNumber) → ⊥
    zero q = impossible cc

    is : ◌≡◌ {A = Parsed} (Ok a) (Err NoNumber) → ⊥
    is q = impossible cc

judged_none : judged None ≡ Err NoNumber
unfolding judged
judged_none = refl

-- a reader that finds parts gives them, or error 8; one that finds none says "no number"
bought_accepts : (s : List ℕ) (a : Parts) → bought_parts s ≡ Some a → parse_number s ≡ Err NoNumber → ⊥
bought_accepts s a p e = judged_some a (sym (ap judged p) ∙ sym (number_bought s) ∙ e)

bought_rejects : (s : List ℕ) → bought_parts s ≡ None → parse_number s ≡ Err NoNumber
bought_rejects s p = number_bought s ∙ ap judged p ∙ judged_none

standard_accepts : (s : List ℕ) (a : Parts) → number_parts s ≡ Some a → parse_standard s ≡ Err NoNumber → ⊥
unfolding parse_standard
standard_accepts s a p e = judged_some a (sym (ap judged p) ∙ e)

standard_rejects : (s : List ℕ) → number_parts s ≡ None → parse_standard s ≡ Err NoNumber
unfolding parse_standard
standard_rejects s p = ap judged p ∙ judged_none

-- with equal parts, or with none, the answers are equal
equal_parts : (s : List ℕ) → bought_parts s ≡ number_parts s → parse_number s ≡ parse_standard s
unfolding parse_standard
equal_parts s e = number_bought s ∙ ap judged e

-- every text is a prefix and what follows it
record Split (s : List ℕ) : Type 0 where
  R : ℕ
  g : List ℕ
  t : List ℕ
  mark : Prefix R g
  text : s ≡ g ++ t
  look : Seen R g t

split : (s : List ℕ) → Split s
split s =
    by_bool (eqb (prefix s) 0)
    (λ e. record { R = 10; g = []; t = s; mark = Prefix.empty; text = refl; look = inl (refl, refl, eqb-true (prefix s) 0 e) })
    (λ e. marked (eqb-false (prefix s) 0 e) (prefix_made s (eqb-false (prefix s) 0 e)))
  where
    marked : (prefix s ≡ 0 → ⊥) → Prefixed s → Split s
    marked n m = record { R = prefix s; g = code "#" ∷ m.0 ∷ []; t = m.1; mark = m.3; text = m.2; look = inr (n, sym (ap prefix m.2), refl, refl) }

-- a prefix holds no capital
cap_letter : (c x : ℕ) → lower c ≡ x → is_capital false x ≡ false → is_capital false (x - to_lower) ≡ false
    → is_n false x ≡ false → is_n false (x - to_lower) ≡ false → (is_capital false c ≡ false) × (is_n false c ≡ false)
cap_letter c x h a b d e = go (lower_is c x h)
  where
    go : (c ≡ x) ⊎ UpperOf c x → (is_capital false c ≡ false) × (is_n false c ≡ false)
    go (inl q) = (ap (is_capital false) q ∙ a, ap (is_n false) q ∙ d)
    go (inr q) = let z : c ≡ x - to_lower = omega arith in (ap (is_capital false) z ∙ b, ap (is_n false) z ∙ e)

cap_hash : is_capital false (code "#") ≡ false
unfolding is_capital
cap_hash = refl

prefix_cap : (c : ℕ) (t : List ℕ) → (is_capital false c ≡ false) × (is_n false c ≡ false) → capital false (code "#" ∷ c ∷ t) ≡ capital false t
unfolding somewhere is_n
prefix_cap c t h = first ∙ second
  where
    first : capital false (code "#" ∷ c ∷ t) ≡ capital false (c ∷ t)
    first = rw cap_hash

    second : capital false (c ∷ t) ≡ capital false t
    second = rw (h.0, h.1)

prefix_capital : {R : ℕ} {g : List ℕ} (t : List ℕ) → Prefix R g → capital false (g ++ t) ≡ capital false t
unfolding is_capital is_n
prefix_capital t Prefix.empty = refl
prefix_capital t (Prefix.binary {c = c} (Letter.letter m)) = prefix_cap c t (cap_letter c (code "b") m refl refl refl refl)
prefix_capital t (Prefix.octal {c = c} (Letter.letter m)) = prefix_cap c t (cap_letter c (code "o") m refl refl refl refl)
prefix_capital t (Prefix.decimal {c = c} (Letter.letter m)) = prefix_cap c t (cap_letter c (code "d") m refl refl refl refl)
prefix_capital t (Prefix.hex {c = c} (Letter.letter m)) = prefix_cap c t (cap_letter c (code "x") m refl refl refl refl)

-- a side of condition 1
side_other : {R p : ℕ} {s : List ℕ} (x : ℕ) → Foreign x → R ≤ 16 → Side R p s → all (other x) s ≡ true
side_other x f l (Side.plain d c) = real_other x f l d
side_other {s = s} x f l (Side.slashed d) = plain-not x f.0 s (below_plain l d)

side_real : {R p : ℕ} {s : List ℕ} → R ≤ 16 → Side R p s → (r : Real) × (bought.real R p s ≡ Some r)
side_real l (Side.plain {r = r} d c) = (r, real_low l d c)
side_real {p = p} l (Side.slashed d) = below_real p l d

module _ {R : ℕ} {g a b : List ℕ} (m : Prefix R g) (x : Side R (length g) a) (y : Side R (length g + length a + 1) b) where
  l : R ≤ 16
  l = radix_le (prefix_radix m)

  side_seen : Seen R g (a ++ code "@" ∷ b)
  side_seen = seen (a ++ code "@" ∷ b) m (all_append (other (code "#")) a (code "@" ∷ b)
      (side_other (code "#") foreign_hash l x) (all_cons (other (code "#")) (code "@") b at_hash (side_other (code "#") foreign_hash l y)))
    where
      at_hash : other (code "#") (code "@") ≡ true
      at_hash = refl

  here : before (code "@") (a ++ code "@" ∷ b) ≡ length a
  here = before_here (code "@") a b (side_other (code "@") foreign_at l x)

  side_bought : (c : Parts) × (bought_parts (g ++ (a ++ code "@" ∷ b)) ≡ Some c)
  unfolding bought-grammar.complex polar_of
  side_bought =
      let u = side_real l x in
      let v = side_real l y in (
        Polar u.0 v.0,
        bought_seen R g (a ++ code "@" ∷ b) side_seen ∙
            simp (
              here,
              lt-ltb (length a) (length (a ++ code "@" ∷ b)) (omega (arith, length-append a (code "@" ∷ b))),
              take-append_seam a (code "@" ∷ b),
              drop-append-add a (code "@" ∷ b) 1,
              u.1,
              v.1,
            ),
      )

  side_standard : SignedBelow R a ⊎ SignedBelow R b → number_parts (g ++ (a ++ code "@" ∷ b)) ≡ None
  unfolding complex polar_of
  side_standard w =
      parts_seen R g (a ++ code "@" ∷ b) side_seen ∙
      simp (here, lt-ltb (length a) (length (a ++ code "@" ∷ b)) (omega (arith, length-append a (code "@" ∷ b))), take-append_seam a (code "@" ∷ b), drop-append-add a (code "@" ∷ b) 1) (go w)
    where
      second : (u : Option Real) → polar_of u None ≡ None
      second (Some r) = refl
      second None = refl

      go : SignedBelow R a ⊎ SignedBelow R b → polar_of (real R (length g) a) (real R (length g + length a + 1) b) ≡ None
      go (inl d) = rw (below_not (length g) l d)
      go (inr d) = rw (below_not (length g + length a + 1) l d) (second (real R (length g) a))

-- what the bought reader reads has no capital, and in radix 16 no sign after an odd number of e's
module _ (s : List ℕ) (w : Split s) where
  le : w.R ≤ 16
  le = radix_le (prefix_radix w.mark)

  to_bought : bought_parts s ≡ bought-grammar.complex w.R (length w.g) w.t
  to_bought = ap bought_parts w.text ∙ bought_seen w.R w.g w.t w.look

  to_parts : number_parts s ≡ complex w.R (length w.g) w.t
  to_parts = ap number_parts w.text ∙ parts_seen w.R w.g w.t w.look

  to_capital : capital false s ≡ capital false w.t
  to_capital = ap (capital false) w.text ∙ prefix_capital w.t w.mark

  read_of : (a : Parts) → bought_parts s ≡ Some a → ReadC w.R (length w.g) w.t a
  read_of a e = complex_read w.R (length w.g) w.t a le (sym to_bought ∙ e)

  read_capital : (a : Parts) → bought_parts s ≡ Some a → capital false s ≡ false
  read_capital a e = to_capital ∙ go (read_of a e)
    where
      go : ReadC w.R (length w.g) w.t a → capital false w.t ≡ false
      go (inl d) = d.1
      go (inr d) = d.1

  read_odd : (a : Parts) → bought_parts s ≡ Some a → w.R ≡ 16 → sign_after_odd_e false w.t ≡ false
  read_odd a e = go (read_of a e)
    where
      go : ReadC w.R (length w.g) w.t a → w.R ≡ 16 → sign_after_odd_e false w.t ≡ false
      go (inl d) = d.2
      go (inr d) = d.2

  -- the bought reader alone
  bought_only : (a : Parts) → bought_parts s ≡ Some a → number_parts s ≡ None → BelowSlash s
  bought_only a e n = go (read_of a e)
    where
      go : ReadC w.R (length w.g) w.t a → BelowSlash s
      go (inl d) = no_parts (sym n ∙ to_parts ∙ complex_is (prefix_radix w.mark) d.0)
      go (inr d) =
          let b = d.0 in
          let q : BelowSlash (w.g ++ (b.a ++ code "@" ∷ b.b)) = BelowSlash.polar w.mark b.first b.second b.below in
          subst (λ (y : List ℕ). BelowSlash y) (sym (w.text ∙ ap (λ (y : List ℕ). w.g ++ y) b.text)) q

  -- the second reader: a capital, a sign after an odd number of e's, or the same parts
  hex_e_lem : (a : Parts) {R : ℕ} {g : List ℕ} (t : List ℕ) → Prefix R g → R ≡ 16 → Number (g ++ t) a → sign_after_odd_e false t ≡ true → HexE (g ++ t)
  hex_e_lem a t (Prefix.hex m) h n o = HexE.hex_e m n o
  hex_e_lem a t Prefix.empty h n o = absurd (omega arith)
  hex_e_lem a t (Prefix.binary m) h n o = absurd (omega arith)
  hex_e_lem a t (Prefix.octal m) h n o = absurd (omega arith)
  hex_e_lem a t (Prefix.decimal m) h n o = absurd (omega arith)

  standard_only : (a : Parts) → number_parts s ≡ Some a → (bought_parts s ≡ Some a) ⊎ (Upper s ⊎ HexE s)
  standard_only a e =
      by_bool (capital false s) (λ c. inr (inl (record { parts = a; number = parts_inv s a e; upper = c }))) (λ c.
      by_bool (eqb w.R 16)
      (λ h. by_bool (sign_after_odd_e false w.t)
      (λ o. inr (inr (subst (λ (y : List ℕ). HexE y) (sym w.text) (hex_e_lem a w.t w.mark (eqb-true w.R 16 h) (subst (λ (y : List ℕ). Number y a) w.text (parts_inv s a e)) o))))
      (λ o. low c (λ _. o)))
      (λ h. low c (λ q. absurd (eqb-false w.R 16 h q))))
    where
      low : capital false s ≡ false → (w.R ≡ 16 → sign_after_odd_e false w.t ≡ false) → (bought_parts s ≡ Some a) ⊎ (Upper s ⊎ HexE s)
      low c o = inl (to_bought ∙ complex_low (prefix_radix w.mark) (complex_inv w.R (length w.g) w.t a le (sym to_parts ∙ e)) (sym to_capital ∙ c) o)

-- the answers differ, so a condition is met
differ_met : (s : List ℕ) → (parse_number s ≡ parse_standard s → ⊥) → Condition s
differ_met s n = go (bought_parts s) refl (number_parts s) refl
  where
    go : (u : Option Parts) → bought_parts s ≡ u → (v : Option Parts) → number_parts s ≡ v → Condition s
    go u p (Some a) q = second (standard_only s (split s) a q)
      where
        second : (bought_parts s ≡ Some a) ⊎ (Upper s ⊎ HexE s) → Condition s
        second (inl e) = absurd (n (equal_parts s (e ∙ sym q)))
        second (inr e) = inr e
    go (Some a) p None q = inl (bought_only s (split s) a p q)
    go None p None q = absurd (n (equal_parts s (p ∙ sym q)))

-- by the first condition the bought reader alone accepts the text
abbrev pub BoughtAlone : List ℕ → Type 0
BoughtAlone s = (parse_number s ≡ Err NoNumber → ⊥) × (parse_standard s ≡ Err NoNumber)

pub below_alone : {s : List ℕ} → BelowSlash s → BoughtAlone s
below_alone (BelowSlash.polar {g = g} {a = a} {b = b} m x y w) =
    let u = side_bought m x y in
    (bought_accepts (g ++ (a ++ code "@" ∷ b)) u.0 u.1, standard_rejects (g ++ (a ++ code "@" ∷ b)) (side_standard m x y w))

-- by the other two the second reader alone does
abbrev pub StandardAlone : List ℕ → Type 0
StandardAlone s = (parse_standard s ≡ Err NoNumber → ⊥) × (parse_number s ≡ Err NoNumber)

upper_alone : (s : List ℕ) → Upper s → StandardAlone s
upper_alone s u = (standard_accepts s u.parts (parts_is u.number), bought_rejects s (rejects (bought_parts s) refl))
  where
    rejects : (v : Option Parts) → bought_parts s ≡ v → bought_parts s ≡ None
    rejects None e = e
    rejects (Some a) e = yes_no (sym u.upper ∙ read_capital s (split s) a e)

hex_alone : {s : List ℕ} → HexE s → StandardAlone s
hex_alone (HexE.hex_e {c = c} {s = t} {a = a} m n o) =
    (standard_accepts (code "#" ∷ c ∷ t) a (parts_is n), bought_rejects (code "#" ∷ c ∷ t) (rejects (bought_parts (code "#" ∷ c ∷ t)) refl))
  where
    hexed : Split (code "#" ∷ c ∷ t)
    hexed = record { R = 16; g = code "#" ∷ c ∷ []; t = t; mark = Prefix.hex m; text = refl; look = inr ((λ e. omega arith), prefix_hash c t ∙ prefix_mark (Prefix.hex m), refl, refl) }

    rejects : (v : Option Parts) → bought_parts (code "#" ∷ c ∷ t) ≡ v → bought_parts (code "#" ∷ c ∷ t) ≡ None
    rejects None e = e
    rejects (Some b) e = yes_no (sym o ∙ read_odd (code "#" ∷ c ∷ t) hexed b e refl)

pub other_alone : (s : List ℕ) → Upper s ⊎ HexE s → StandardAlone s
other_alone s (inl c) = upper_alone s c
other_alone s (inr c) = hex_alone c

-- a condition is met, so the answers differ
met_differ : (s : List ℕ) → Condition s → parse_number s ≡ parse_standard s → ⊥
met_differ s (inl c) e = let h = below_alone c in h.0 (e ∙ h.1)
met_differ s (inr c) e = let h = other_alone s c in h.0 (sym e ∙ h.1)

-- the two readers differ on a text exactly if it meets one of the three conditions
pub differ : (s : List ℕ) → (parse_number s ≡ parse_standard s → ⊥) ↔ Condition s
differ s = (differ_met s, met_differ s)

-- What both readers accept has the same parts, the same places and the same error 8.
pub same_parts : (s : List ℕ) → (parse_number s ≡ Err NoNumber → ⊥) → (parse_standard s ≡ Err NoNumber → ⊥) → parse_number s ≡ parse_standard s
same_parts s b n = go (number_parts s) refl
  where
    second : {a : Parts} → number_parts s ≡ Some a → (bought_parts s ≡ Some a) ⊎ (Upper s ⊎ HexE s) → parse_number s ≡ parse_standard s
    second q (inl e) = equal_parts s (e ∙ sym q)
    second q (inr c) = absurd (b (other_alone s c).1)

    go : (v : Option Parts) → number_parts s ≡ v → parse_number s ≡ parse_standard s
    go (Some a) q = second q (standard_only s (split s) a q)
    go None q = absurd (n (standard_rejects s q))
