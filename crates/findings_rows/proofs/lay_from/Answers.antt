-- The rows of the items that are done are laid; at the end all are.
use mathlib.Core.Path.{sym, ap, ◌∙◌}
use native.Mathlib.Omega.{arith}
use Rattle.items.specs.Items.{words_of}
use Rattle.items.specs.declared.Record.{Record}
use Rattle.lexer.proofs.ReadingOn.{size_le}
use Rattle.findings_rows.specs.Laid.{laid_at}
use Rattle.findings_rows.proofs.Lays.{laying, laying_moved, laying_on, laying_end, lent_length}
use Rattle.findings_rows.proofs.lay_from.Goals as goal

pub loop-found-init : goal.loop-found-init
loop-found-init c =
    laying c.args.source.now c.args.spot c.args.words.now

pub next_row-requires : goal.next_row-requires
next_row-requires c = c.requires

pub overflow_add-w : goal.overflow_add-w
overflow_add-w c =
    let g = c.loop-found.invariant in
    omega (arith, g.count, g.few, size_le c.args.source.now c.args.spot, c.requires)

pub loop-found-smaller : goal.loop-found-smaller
loop-found-smaller c =
    (laying_moved c.args.source.now c.args.spot c.args.words.now c.loop-found.invariant
    c.in-Some.found.nine c.in-Some.found.after (sym c.in-Some.is ∙ c.next_row.ensures)).smaller

pub loop-found-preserved : goal.loop-found-preserved
loop-found-preserved c =
    laying_on c.args.source.now c.args.spot c.args.words.now c.loop-found.invariant
    c.in-Some.found.nine c.in-Some.found.after (sym c.in-Some.is ∙ c.next_row.ensures)
    c.depth_after-depth.result c.depth_after-depth.ensures
    (c.lay.ensures ∙ ap (λ (x : Record). laid_at c.loop-found.w (words_of x) c.loop-found.words) c.row_of.ensures)

pub shape_of-words : goal.shape_of-words
shape_of-words c =
    lent_length c.args.source.now c.args.spot c.args.words.now c.loop-found.invariant

pub returns : goal.returns
returns c =
    laying_end c.args.source.now c.args.spot c.args.words.now c.loop-found.invariant
    (sym c.in_default.is ∙ c.next_row.ensures)
