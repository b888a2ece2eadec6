-- A finding of a plan that is read is told exactly if a row tells it: `told_by_a_row` and `row_is_told`.
use Rattle.std.proofs.Common.{None, Option, Some}
use Prim.Native.Nat.{ℕ, zero, suc, ◌+◌, ◌≤◌, ◌<◌}
use mathlib.Core.Path.{◌≡◌, refl, sym, ap, subst}
use mathlib.Core.Logic.{◌⊎◌, inl, inr}
use mathlib.Core.List.Memᴰ
use mathlib.Core.List.{List, Memᴰ}
use native.Mathlib.Omega.{arith}
use lib.Dec.{eqb}
use lib.ListN.{length}
use borrow.Author.Tests.{eqb-true, eqb-false, le-ltb}
use Rattle.laws.proofs.Choice.{by_bool}
use Rattle.chars.specs.Utf8.{first_bad}
use Rattle.items.specs.Whole.{limit}
use Rattle.nested.specs.Items.{count_of}
use Rattle.findings_rows.specs.Laid.{flat}
use Rattle.findings_rows.specs.Rows.{rows_of}
use Rattle.findings.specs.Finding.{listed}
use Rattle.findings.specs.Lists.{list_of}
use Rattle.findings.specs.Slips.{swallower}
use Rattle.findings.specs.Told.{left_over, row_told, list_told, told_at, told_from, told_of}
use Rattle.findings.specs.Find.{find_of}
use Rattle.findings.specs.declared.Finding.{Finding}

-- ---- among what some rows tell

from_row : (f : ℕ → List Finding) (n i p : ℕ) {x : Finding} → i ≤ p → p < i + n → Memᴰ x (f p) → Memᴰ x (told_from f n i)
unfolding told_from
from_row f zero i p h k m = absurd (omega arith)
from_row f (suc n) i p {x} h k m =
    by_bool (eqb i p)
    (λ e. Memᴰ.append_left (told_from f n (i + 1)) (subst (λ (j : ℕ). Memᴰ x (f j)) (sym (eqb-true i p e)) m))
    (λ e. let d = eqb-false i p e in Memᴰ.append_right (f i) (from_row f n (i + 1) p (omega arith) (omega arith) m))

of_row : (f : ℕ → List Finding) (n i : ℕ) {x : Finding} → Memᴰ x (told_from f n i) → (p : ℕ) × (p < i + n) × Memᴰ x (f p)
unfolding told_from
of_row f zero i m = absurd (Memᴰ.not-nil m)
of_row f (suc n) i {x} m = go (λ k. of_row f n (i + 1) k) (Memᴰ.append_cases (f i) m)
  where
    go : (Memᴰ x (told_from f n (i + 1)) → (p : ℕ) × (p < i + 1 + n) × Memᴰ x (f p)) → Memᴰ x (f i) ⊎ Memᴰ x (told_from f n (i + 1))
        → (p : ℕ) × (p < i + suc n) × Memᴰ x (f p)
    go later (inl k) = (i, omega arith, k)
    go later (inr k) = let r = later k in (r.0, omega (arith, r.1), r.2)

in_listed : (t : Option Finding) {x : Finding} → t ≡ Some x → Memᴰ x (listed t)
in_listed t e = rw e (Memᴰ.head refl)

of_listed : (t : Option Finding) {x : Finding} → Memᴰ x (listed t) → t ≡ Some x
of_listed None m = absurd (Memᴰ.not-nil m)
of_listed (Some f) m = ap Some (sym (Memᴰ.eq_of_singleton m))

-- ---- a plan

module _ (source : List ℕ) where
  abbrev rows : List ℕ
  rows = flat (rows_of source)

  -- row p tells x: as the finding about lists, or as its own
  abbrev pub Tells : ℕ → Finding → Type 0
  Tells p x = (list_told (list_of source rows) p ≡ Some x) ⊎ (row_told source rows (swallower source rows) (left_over source rows) p ≡ Some x)

  module _ (short : length source ≤ limit) (good : first_bad source ≡ None) where
    found : find_of source ≡ told_of source rows
    unfolding find_of
    found = rw (le-ltb limit (length source) short, good)

    pub told_by_a_row : (x : Finding) → Memᴰ x (find_of source) → (p : ℕ) × (p < count_of rows) × Tells p x
    unfolding told_of
    told_by_a_row x m =
        let r = of_row (told_at source rows (list_of source rows) (swallower source rows) (left_over source rows)) (count_of rows) 0 (subst (Memᴰ x) found m) in
        (r.0, omega (arith, r.1), go r.0 (Memᴰ.append_cases (listed (list_told (list_of source rows) r.0)) r.2))
      where
        go : (p : ℕ) → Memᴰ x (listed (list_told (list_of source rows) p))
            ⊎ Memᴰ x (listed (row_told source rows (swallower source rows) (left_over source rows) p)) → Tells p x
        go p (inl k) = inl (of_listed (list_told (list_of source rows) p) k)
        go p (inr k) = inr (of_listed (row_told source rows (swallower source rows) (left_over source rows) p) k)

    pub row_is_told : (x : Finding) (p : ℕ) → p < count_of rows → Tells p x → Memᴰ x (find_of source)
    unfolding told_of
    row_is_told x p h t =
        subst (Memᴰ x) (sym found)
        (from_row (told_at source rows (list_of source rows) (swallower source rows) (left_over source rows)) (count_of rows) 0 p (omega arith) (omega arith) (go t))
      where
        go : Tells p x → Memᴰ x (told_at source rows (list_of source rows) (swallower source rows) (left_over source rows) p)
        go (inl e) = Memᴰ.append_left (listed (row_told source rows (swallower source rows) (left_over source rows) p)) (in_listed (list_told (list_of source rows) p) e)
        go (inr e) = Memᴰ.append_right (listed (list_told (list_of source rows) p)) (in_listed (row_told source rows (swallower source rows) (left_over source rows) p) e)
