-- In report mode every record of error 11 that the whole-text call writes points at the first of its digits that fails (specs/First): where
-- the digits stand is known from their reading (`Eleven`), and the digit reader stops at the first that fails (`Digits`).
use Prim.Native.Nat.{ℕ, ◌+◌, ◌-◌}
use mathlib.Core.Path.{◌≡◌, refl, sym, ap, subst, ◌∙◌}
use mathlib.Core.Bool.{Bool, true}
use mathlib.Core.Logic.{inl, inr}
use mathlib.Core.List.{List, ◌∷◌, ◌++◌, append_assoc}
use lib.ListN.{length, drop, take, length-append}
use lib.Seq.{drop-append_seam, take_at}
use native.Mathlib.Omega.{arith}
use Rattle.chars.specs.Encode.{utf8, width, bytes_of}
use Rattle.chars.specs.Utf8.{chars}
use Rattle.chars.proofs.Good.{good_bytes_lem}
use Rattle.chars.proofs.Round.{back, one_read}
use Rattle.digits.specs.Hex.{hex_value, empty, bad_digit, overflow, wrong}
use Rattle.items.specs.Items.{items}
use Rattle.items.specs.Readers.{past_failing}
use Rattle.items.specs.Whole.{served, read_of}
use Rattle.items.proofs.Every.{Every}
use Rattle.items_coverage.specs.Records.{rows_in}
use Rattle.items_errors.specs.First.{plus, Stand, FailAt, FirstFails, PointsAtFirst}
use Rattle.items_errors.specs.First as first
use Rattle.items_errors.proofs.Digits.{digit_small, BadAt, Over, Many, Known, known, empty_none, empty_value, over_value}
use Rattle.items_errors.proofs.Phases.{Digits}
use Rattle.items_errors.proofs.Eleven.{IsChar, Eleven, eleven_items}
use Rattle.items_errors.proofs.Places.{Whole, whole_bad, digits_whole}
use Rattle.items_errors.proofs.Rows.{every_scalar, read_every_row}

-- ---- the digits ds fail at p, and zs stands behind them; their text starts at n

record Failing (ds zs : List ℕ) (n d p : ℕ) : Type 0 where
  q : ℕ
  fails : FailAt ds d p q
  past : past_failing d (n + p) (drop p ds ++ zs) ≡ n + q

module _ (ds zs : List ℕ) (n p : ℕ) where
  -- behind the plus that is taken
  past_plus : (sign t : List ℕ) → ds ≡ sign ++ t → plus ds ≡ length sign → drop (plus ds) ds ≡ t
  past_plus sign t is taken = ap (λ (k : ℕ). drop k ds) taken ∙ ap (drop (length sign)) is ∙ drop-append_seam sign t

  no_digits : hex_value ds ≡ wrong empty p → Failing ds zs n empty p
  unfolding past_failing
  no_digits e =
      let z : p ≡ 0 = empty_value ds p e in
      record {
        q = 0;
        fails = subst (λ (k : ℕ). FailAt ds empty k 0) (sym z) (first.none (empty_none ds p e));
        past = omega arith;
      }

  bad_digit_holds : Whole ds → hex_value ds ≡ wrong bad_digit p → Failing ds zs n bad_digit p
  unfolding past_failing
  bad_digit_holds w e =
      let r : BadAt ds p = whole_bad ds p w e in
      let t : List ℕ = utf8 r.c ++ r.after in
      let front : List ℕ = r.sign ++ r.good in
      let k : p ≡ length front = r.place ∙ sym (length-append r.sign r.good) in
      let left : drop p ds ≡ t = ap (drop p) r.is ∙ ap (λ (m : ℕ). drop m (front ++ t)) k ∙ drop-append_seam front t in
      let all : drop p ds ++ zs ≡ utf8 r.c ++ (r.after ++ zs) = ap (λ (l : List ℕ). l ++ zs) left ∙ append_assoc (utf8 r.c) r.after zs in
      let at : plus ds + length r.good ≡ p = omega (arith, r.taken, r.place) in
      record {
        q = p + width r.c;
        fails = subst (λ (m : ℕ). FailAt ds bad_digit m (m + width r.c)) at
            (first.bad r.good r.c r.after (past_plus r.sign (r.good ++ t) (r.is ∙ append_assoc r.sign r.good t) r.taken)
            r.digits r.fits r.scalar r.wrong);
        past = ap (past_failing bad_digit (n + p)) all ∙ (rw (back r.c (r.after ++ zs) r.scalar) (omega arith));
      }

  one_too_many : hex_value ds ≡ wrong overflow p → Failing ds zs n overflow p
  unfolding past_failing
  one_too_many e =
      let m : Many ds p = over_value ds p e in
      let r : Over m.rest (length m.sign) 0 p = m.over in
      let t : List ℕ = r.c ∷ r.after in
      let front : List ℕ = m.sign ++ r.ds in
      let is : ds ≡ m.sign ++ (r.ds ++ t) = m.is ∙ ap (λ (l : List ℕ). m.sign ++ l) r.is in
      let k : p ≡ length front = sym r.place ∙ sym (length-append m.sign r.ds) in
      let left : drop p ds ≡ t
      = ap (drop p) (is ∙ sym (append_assoc m.sign r.ds t)) ∙ ap (λ (l : ℕ). drop l (front ++ t)) k ∙ drop-append_seam front t in
      let at : plus ds + length r.ds ≡ p = omega (arith, m.taken, r.place) in
      record {
        q = p + 1;
        fails = subst (λ (l : ℕ). FailAt ds overflow l (l + 1)) at
            (first.over r.ds r.c r.after (past_plus m.sign (r.ds ++ t) is m.taken) r.digits r.fits r.digit r.large);
        past = ap (λ (l : List ℕ). past_failing overflow (n + p) (l ++ zs)) left
            ∙ (rw (one_read r.c (r.after ++ zs) (digit_small r.c r.digit)) (omega arith));
      }

  failing : (d : ℕ) → Known (wrong d p) → Whole ds → hex_value ds ≡ wrong d p → Failing ds zs n d p
  failing d (inl f) w e = subst (λ (k : ℕ). Failing ds zs n k p) (sym f) (no_digits (e ∙ ap (λ (k : ℕ). wrong k p) f))
  failing d (inr (inl f)) w e = subst (λ (k : ℕ). Failing ds zs n k p) (sym f) (bad_digit_holds w (e ∙ ap (λ (k : ℕ). wrong k p) f))
  failing d (inr (inr f)) w e = subst (λ (k : ℕ). Failing ds zs n k p) (sym f) (one_too_many (e ∙ ap (λ (k : ℕ). wrong k p) f))

-- ---- of an extent, of an item, of a record

first_fails : (s : ℕ) (raw : List ℕ) (d a b : ℕ) (g : Digits s raw d a b) → Whole g.ds → Stand raw g.ds (length g.x + 1) → FirstFails raw s d a b
first_fails s raw d a b g w stand =
    let n : ℕ = s + (length g.x + 1) in
    let r : Failing g.ds g.zs n d g.p = failing g.ds g.zs n g.p d (subst Known g.fails (known g.ds)) w g.fails in
    let at : a ≡ n + g.p = omega (arith, g.from) in
    record {
      ds = g.ds;
      n = length g.x + 1;
      p = g.p;
      q = r.q;
      stand = stand;
      fails = r.fails;
      begins = at;
      ends = g.to ∙ ap (λ (k : ℕ). past_failing d k (drop g.p g.ds ++ g.zs)) at ∙ r.past;
    }

-- what is said of an extent from s to e in a text
abbrev FirstIn : List ℕ → ℕ → ℕ → ℕ → ℕ → ℕ → Type 0
FirstIn whole s e d a b = FirstFails (take (e - s) (drop s whole)) s d a b

items_first : (cs : List ℕ) → Every IsChar cs → Every (Eleven (FirstIn (bytes_of cs))) (items true cs)
items_first cs good =
    eleven_items (FirstIn (bytes_of cs)) (bytes_of cs)
    (λ s i rest chars stands long is scalars d a b g.
    let raw : take (i.at - s) (drop s (bytes_of cs)) ≡ i.bytes
    = ap (take (i.at - s)) stands ∙ take_at i.bytes rest (i.at - s) (omega arith) in
    subst (λ (l : List ℕ). FirstFails l s d a b) (sym raw)
    (first_fails s i.bytes d a b g.0 (digits_whole s i.bytes chars is scalars d a b g.0) g.1))
    cs refl good

-- WHATEVER `read` SERVED IN REPORT MODE: every record of error 11 points at the first of its digits that fails
pub read_points_at_first : (source : List ℕ) (skip : Bool) (recs text : List ℕ) (n m : ℕ) → (read_of source 1 skip recs text).answer ≡ served n m
    → Every (PointsAtFirst source) (rows_in n (read_of source 1 skip recs text).records)
read_points_at_first source skip recs text n m e =
    read_every_row source 1 skip recs text n m e (Eleven (FirstIn source)) (PointsAtFirst source) (λ free depth i h. h)
    (λ good. subst (λ (s : List ℕ). Every (Eleven (FirstIn s)) (items true (chars source))) (good_bytes_lem source good) (items_first (chars source) (every_scalar source good)))
