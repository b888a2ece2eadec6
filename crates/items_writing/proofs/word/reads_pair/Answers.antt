-- The run after the plus is passed; where a vertical line follows it, the number with the plus and what stands in the lines decide (laws
-- `pair_number`, `pair_lined`), else the machine over the rest (`pair_ends`, `pair_apart`).
use mathlib.Core.Path.{sym, subst, ◌∙◌}
use mathlib.Core.List.{List}
use Prim.Native.Nat.{ℕ, ◌≤◌}
use lib.ListN.{length}
use lib.Seq.{length-take-le}
use native.Mathlib.Omega.{arith}
use Rattle.laws.proofs.Lent.{part_rest}
use Rattle.items_writing.proofs.PairDecided.{run_inside, line_there, pair_number, pair_lined, pair_ends, pair_apart}
use Rattle.items_writing.proofs.word.reads_pair.Goals as goal

pub slice_bounds-plus_number-end : goal.slice_bounds-plus_number-end
slice_bounds-plus_number-end c =
    sym (length-take-le _ _ (run_inside c.args.t.now c.requires _ c.ascii_run-k.ensures))

pub returns-then-plus_number : goal.returns-then-plus_number
returns-then-plus_number c =
    pair_number c.args.t.now c.requires _ c.ascii_run-k.ensures
    (sym c.if-starts_at.true ∙ c.starts_at.ensures) (sym c.if-plus_number.true ∙ c.plus_number.ensures)

pub slice_bounds-reads_lined-count : goal.slice_bounds-reads_lined-count
slice_bounds-reads_lined-count c =
    run_inside c.args.t.now c.requires _ c.ascii_run-k.ensures

pub slice_bounds-reads_lined-start : goal.slice_bounds-reads_lined-start
slice_bounds-reads_lined-start c =
    run_inside c.args.t.now c.requires _ c.ascii_run-k.ensures

pub reads_lined-requires : goal.reads_lined-requires
reads_lined-requires c =
    let k = c.ascii_run-k.result in
    subst (λ (l : List ℕ). 1 ≤ length l) (sym (part_rest c.args.t.now k))
    (line_there c.args.t.now c.requires k c.ascii_run-k.ensures
    (sym c.if-starts_at.true ∙ c.starts_at.ensures))

pub returns-then-starts_at : goal.returns-then-starts_at
returns-then-starts_at c =
    let k = c.ascii_run-k.result in
    pair_lined c.args.t.now c.requires k c.ascii_run-k.ensures
    (sym c.if-starts_at.true ∙ c.starts_at.ensures)
    (sym c.if-plus_number.false ∙ c.plus_number.ensures) (part_rest c.args.t.now k) c.reads_lined.ensures

pub stand_on-requires : goal.stand_on-requires
stand_on-requires c = (run_inside c.args.t.now c.requires _ c.ascii_run-k.ensures, omega arith)

pub returns-in-Some : goal.returns-in-Some
returns-in-Some c =
    pair_ends c.args.t.now c.requires _ c.ascii_run-k.ensures
    c.stand_on.ensures
    (sym c.if-starts_at.false ∙ c.starts_at.ensures)
    c.in-Some.is
    c.is_pair_of.ensures

pub returns-in-None : goal.returns-in-None
returns-in-None c =
    pair_apart c.args.t.now c.requires _ c.ascii_run-k.ensures c.stand_on.ensures
    (sym c.if-starts_at.false ∙ c.starts_at.ensures) c.in-None.is
