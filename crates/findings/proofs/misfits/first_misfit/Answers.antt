-- The pass keeps what `Passing` says.
use mathlib.Core.Path.{refl, sym, ◌∙◌, ap}
use Rattle.findings.proofs.LineStarts.{line_le}
use Rattle.findings.proofs.MisfitPass.{passing_start, passing_end, passing_hit, passing_next}
use Rattle.findings.specs.Lines.{line_start}
use Rattle.findings.specs.declared.Row.{Row}
use native.Mathlib.Omega.{arith}
use Rattle.findings.proofs.misfits.first_misfit.Goals as goal

pub line_from-line-requires : goal.line_from-line-requires
unfolding line_start
line_from-line-requires c = refl

pub overflow_sub-offsets : goal.overflow_sub-offsets
overflow_sub-offsets c = omega (arith, c.line_from-line.ensures, line_le c.args.source.now c.row_at-first.result.start)

pub loop-k-init : goal.loop-k-init
loop-k-init c = passing_start _ _ (ap (λ (r : Row). r.start) c.row_at-first.ensures) c.line_from-line.ensures

pub line_from-line-requires-in-loop-k : goal.line_from-line-requires-in-loop-k
line_from-line-requires-in-loop-k c = c.loop-k.invariant.here

pub slice_bounds-is_misfit-end : goal.slice_bounds-is_misfit-end
slice_bounds-is_misfit-end c = sym c.loop-k.invariant.wide

pub slice_bounds-is_misfit-end-in-loop-k : goal.slice_bounds-is_misfit-end-in-loop-k
slice_bounds-is_misfit-end-in-loop-k c = sym c.loop-k.invariant.far

pub is_misfit-requires : goal.is_misfit-requires
is_misfit-requires c = omega (arith, c.line_from-line-in-loop-k.ensures, line_le c.args.source.now c.row_at-row.result.start)

pub returns-then-is_misfit : goal.returns-then-is_misfit
returns-then-is_misfit c =
    passing_hit _ _ c.loop-k.invariant c.loop-k-test.true c.row_at-row.ensures c.line_from-line-in-loop-k.ensures
    (sym c.is_misfit.ensures ∙ c.if-is_misfit.true)

pub slice_bounds-note-end : goal.slice_bounds-note-end
slice_bounds-note-end c = sym c.loop-k.invariant.wide

pub slice_bounds-note-end-in-loop-k : goal.slice_bounds-note-end-in-loop-k
slice_bounds-note-end-in-loop-k c = sym c.loop-k.invariant.far

pub overflow_sub-at : goal.overflow_sub-at
overflow_sub-at c = omega (arith, c.line_from-line-in-loop-k.ensures, line_le c.args.source.now c.row_at-row.result.start)

pub loop-k-preserved : goal.loop-k-preserved
loop-k-preserved c =
    rw (c.note.ensures, c.note-in-loop-k.ensures)
    (passing_next _ _ c.loop-k.invariant c.loop-k-test.true c.row_at-row.ensures c.line_from-line-in-loop-k.ensures
    (sym c.is_misfit.ensures ∙ c.if-is_misfit.false))

pub returns : goal.returns
returns c = passing_end _ _ c.loop-k.invariant c.loop-k-test.false
