-- What holds of every item of a text holds of every record that the whole-text call writes, comments kept or skipped.
use Rattle.std.proofs.Common.{None}
use Prim.Native.Nat.{ℕ, ◌+◌}
use mathlib.Core.Path.{◌≡◌, sym, subst}
use mathlib.Core.Bool.{Bool, true}
use mathlib.Core.List.{List, [], ◌∷◌}
use lib.ListN.{length}
use Rattle.chars.specs.Encode.{is_scalar}
use Rattle.chars.specs.Utf8.{chars, first_bad}
use Rattle.chars.proofs.Good.{Scalars, good_scalars}
use Rattle.items.specs.Items.{Item, items, kept, depth_after, record_of, memory_of}
use Rattle.items.specs.Whole.{served, in_report, read_of}
use Rattle.items.proofs.Every.{Every}
use Rattle.items.proofs.Skipped.{kept_every}
use Rattle.items_coverage.specs.Records.{rows_in}
use Rattle.items_coverage.proofs.Calls.{Rows, served_rows}
use Rattle.items_coverage.proofs.Records.{rows_from}

pub every_scalar : (source : List ℕ) → first_bad source ≡ None → Every (λ (c : ℕ). is_scalar c ≡ true) (chars source)
every_scalar source good = all (chars source) (good_scalars source good)
  where
    all : (cs : List ℕ) → Scalars cs → Every (λ (c : ℕ). is_scalar c ≡ true) cs
    all [] h = tt
    all (c ∷ cs) h = (h.0, all cs h.1)

module _ (P : Item → Type 0) (Q : List ℕ → Type 0) (row : (free depth : ℕ) (i : Item) → P i → Q (record_of free depth i)) where
  pub every_row : (free depth : ℕ) (is : List Item) → Every P is → Every Q (rows_from free depth is)
  every_row free depth [] h = tt
  every_row free depth (i ∷ is) h = (row free depth i h.0, every_row (free + length (memory_of i.text)) (depth_after i.kind depth) is h.1)

pub read_every_row : (source : List ℕ) (mode : ℕ) (skip : Bool) (recs text : List ℕ) (n m : ℕ) → (read_of source mode skip recs text).answer ≡ served n m
    → (P : Item → Type 0) (Q : List ℕ → Type 0) → ((free depth : ℕ) (i : Item) → P i → Q (record_of free depth i))
    → (first_bad source ≡ None → Every P (items (in_report mode) (chars source)))
    → Every Q (rows_in n (read_of source mode skip recs text).records)
read_every_row source mode skip recs text n m e P Q row all =
    let r : Rows source mode skip recs text n m = served_rows source mode skip recs text n m e in
    let is : List Item = items (in_report mode) (chars source) in
    subst (Every Q) (sym r.rows) (every_row P Q row 0 0 (kept skip is) (kept_every P skip is (all r.good)))
