-- The parts of a source and what they give: how much, and one part after the other.
use Rattle.std.proofs.Common.{None, Option, Some}
use Rattle.chars.specs.Utf8.{Front, char, bad, cut, none, front, onward, sequences, verdict, first_bad}
use Rattle.items.specs.Items.{record_words, records, texts}
use Rattle.items.specs.Whole.{in_report, items_in}
use Rattle.items.proofs.Fit.{records-length}
use Rattle.lexer.proofs.Opens.{few_items}
use Rattle.lexer.specs.Inner.{Few}
use Rattle.laws.proofs.Choice.{by_bool, no_yes}
use Rattle.lexer_fields.specs.Fields.{Field, field_by, field_of, fields_on, parts, is_in_order, row_words, item_count, records_in, texts_in, row_of, rows_from}
use Prim.Native.Nat.{ℕ, zero, suc, ◌+◌, ◌-◌, ◌*◌, ◌≤◌}
use mathlib.Core.Path.{◌≡◌, refl, sym, ap, ◌∙◌, subst}
use mathlib.Core.Bool.{Bool, true}
use mathlib.Core.List.{List, [], ◌∷◌, ◌++◌, append_assoc}
use lib.ListN.{length, take, drop, length-append, length-drop}
use lib.Seq.{length-take-le}
use lib.Dec.{leb}
use native.Mathlib.Omega.{arith}
use borrow.Author.Tests.{leb-true}

-- ---- the first bad sequence starts in the text

abbrev pub Ahead : ℕ → Option ℕ → Type 0
Ahead n None = Unit
Ahead n (Some p) = p ≤ n

bad_ahead : (s : List ℕ) (k at : ℕ) → Ahead (at + length s) (verdict (sequences k at s))
unfolding sequences
bad_ahead [] k at = tt
bad_ahead (b ∷ s) (suc k) at = subst (λ (n : ℕ). Ahead n (verdict (sequences k (at + 1) s))) (omega arith) (bad_ahead s k (at + 1))
bad_ahead (b ∷ s) zero at =
    by (front (b ∷ s)) (λ k. subst (λ (n : ℕ). Ahead n (verdict (sequences k (at + 1) s))) (omega arith) (bad_ahead s k (at + 1)))
  where
    by : (f : Front) → ((k : ℕ) → Ahead (at + length (b ∷ s)) (verdict (sequences k (at + 1) s)))
        → Ahead (at + length (b ∷ s)) (verdict (onward at f (λ k. sequences k (at + 1) s)))
    by (char c n) more = more (n - 1)
    by (bad n) more = omega arith
    by cut more = omega arith
    by none more = tt

pub first_bad_ahead : (s : List ℕ) (p : ℕ) → first_bad s ≡ Some p → p ≤ length s
unfolding first_bad
first_bad_ahead s p e = let h : p ≤ 0 + length s = subst (Ahead (0 + length s)) e (bad_ahead s 0 0) in omega arith

-- ---- one end after the other

pub in_order : (n from e : ℕ) (ends : List ℕ) → is_in_order n from (e ∷ ends) ≡ true → (from ≤ e) × (e ≤ n) × (is_in_order n e ends ≡ true)
unfolding is_in_order
in_order n from e ends h = by_bool (leb from e)
    (λ a. by_bool (leb e n)
    (λ b. (leb-true from e a, leb-true e n b, rw (a, b) at h))
    (λ b. no_yes (rw (a, b) at h)))
    (λ a. no_yes (rw a at h))

pub part_length : (s : List ℕ) (from e : ℕ) → e ≤ length s → length (take (e - from) (drop from s)) ≡ e - from
part_length s from e h = length-take-le (e - from) (drop from s) (omega (arith, length-drop from s))

-- ---- how much a part gives

module _ (mode : ℕ) (skip : Bool) where
  pub few_field : (part : List ℕ) → Few part (field_of mode skip part).items
  unfolding field_of texts
  few_field part = by (first_bad part)
    where
      by : (u : Option ℕ) → Few part (field_by u (items_in part mode skip)).items
      by None = few_items part (in_report mode) skip
      by (Some p) = (omega arith, omega arith)

  -- and the parts from a place on, which end in order
  pub few_fields : (s ends : List ℕ) (from : ℕ) → from ≤ length s → is_in_order (length s) from ends ≡ true
      → (from + item_count (fields_on mode skip (parts s from ends)) ≤ length s) × (from + length (texts_in (fields_on mode skip (parts s from ends))) ≤ length s)
  unfolding fields_on parts item_count texts_in
  few_fields s [] from h o = (omega arith, omega arith)
  few_fields s (e ∷ ends) from h o =
      let k = in_order (length s) from e ends o in
      let f : Field = field_of mode skip (take (e - from) (drop from s)) in
      let few : Few (take (e - from) (drop from s)) f.items = few_field (take (e - from) (drop from s)) in
      let more = few_fields s ends e k.1 k.2 in
      let l : length (take (e - from) (drop from s)) ≡ e - from = part_length s from e k.1 in (
        omega (arith, few.0, more.0, k.0, k.1),
        omega (arith, few.1, more.1, k.0, k.1, length-append (texts f.items) (texts_in (fields_on mode skip (parts s e ends)))),
      )

  pub fields_length : (s ends : List ℕ) (from : ℕ) → length (fields_on mode skip (parts s from ends)) ≡ length ends
  unfolding fields_on parts
  fields_length s [] from = refl
  fields_length s (e ∷ ends) from = ap suc (fields_length s ends e)

-- ---- one part after the other

pub count_append : (a b : List Field) → item_count (a ++ b) ≡ item_count a + item_count b
unfolding item_count
count_append [] b = omega arith
count_append (f ∷ a) b = omega (arith, count_append a b)

pub texts_append : (a b : List Field) → texts_in (a ++ b) ≡ texts_in a ++ texts_in b
unfolding texts_in
texts_append [] b = refl
texts_append (f ∷ a) b = rw (texts_append a b) (sym (append_assoc (texts f.items) (texts_in a) (texts_in b)))

pub records_append : (a b : List Field) → records_in (a ++ b) ≡ records_in a ++ records_in b
unfolding records_in
records_append [] b = refl
records_append (f ∷ a) b = rw (records_append a b) (sym (append_assoc (records 0 0 f.items) (records_in a) (records_in b)))

rows_append : (r t : ℕ) (a b : List Field) → rows_from r t (a ++ b) ≡ rows_from r t a ++ rows_from (r + item_count a) (t + length (texts_in a)) b
unfolding rows_from item_count texts_in
rows_append r t [] b = let x : r + 0 ≡ r = omega arith in let y : t + 0 ≡ t = omega arith in rw (x, y)
rows_append r t (f ∷ a) b =
    let x : r + length f.items + item_count a ≡ r + item_count (f ∷ a) = omega arith in
    let y : t + length (texts f.items) + length (texts_in a) ≡ t + length (texts_in (f ∷ a)) = omega (arith, length-append (texts f.items) (texts_in a)) in
    ap (λ (l : List ℕ). row_of r t f ++ l) (rows_append (r + length f.items) (t + length (texts f.items)) a b)
    ∙ ap (λ (n : ℕ). row_of r t f ++ (rows_from (r + length f.items) (t + length (texts f.items)) a ++ rows_from n (t + length (texts f.items) + length (texts_in a)) b)) x
    ∙ ap (λ (n : ℕ). row_of r t f ++ (rows_from (r + length f.items) (t + length (texts f.items)) a ++ rows_from (r + item_count (f ∷ a)) n b)) y

-- the rows of the parts after some, from the start
pub rows_after : (a b : List Field) → rows_from 0 0 (a ++ b) ≡ rows_from 0 0 a ++ rows_from (item_count a) (length (texts_in a)) b
rows_after a b =
    rows_append 0 0 a b
    ∙ ap (λ (x : ℕ). rows_from 0 0 a ++ rows_from x (0 + length (texts_in a)) b) (omega arith)
    ∙ ap (λ (x : ℕ). rows_from 0 0 a ++ rows_from (item_count a) x b) (omega arith)

pub records_in_length : (fs : List Field) → length (records_in fs) ≡ record_words * item_count fs
unfolding records_in item_count
records_in_length [] = refl
records_in_length (f ∷ fs) =
    omega (arith, length-append (records 0 0 f.items) (records_in fs), records-length 0 0 f.items, records_in_length fs)

pub rows_length : (r t : ℕ) (fs : List Field) → length (rows_from r t fs) ≡ row_words * length fs
unfolding rows_from
rows_length r t [] = refl
rows_length r t (f ∷ fs) = omega (arith, rows_length (r + length f.items) (t + length (texts f.items)) fs)
