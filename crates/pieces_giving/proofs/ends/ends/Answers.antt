-- One item or a pair, as the extent's meaning says.
use mathlib.Core.Path.{sym, ap, ◌∙◌}
use lib.Seq.{length-take-le}
use native.Mathlib.Omega.{arith}
use Rattle.pieces_giving.specs.Answers.{state_of, text_turned}
use Rattle.pieces.specs.Calls.{Turn}
use Rattle.pieces_giving.proofs.Shown.{ends_one, ends_pair}
use Rattle.pieces_giving.proofs.Steps.{ends_at}
use Rattle.meaning.specs.Meant.{meant}
use Rattle.pieces_giving.proofs.ends.ends.Goals as goal

pub slice_bounds-shown_after-end-2 : goal.slice_bounds-shown_after-end-2
slice_bounds-shown_after-end-2 c = sym (length-take-le c.args.m.len c.args.buf.now (omega arith))

pub shown_after-shown-requires : goal.shown_after-shown-requires
shown_after-shown-requires c = (
  omega (arith, length-take-le c.args.m.len c.args.buf.now (omega arith)),
  c.requires.0.far,
  c.requires.0.from,
  c.requires.0.to,
  c.requires.1,
)

pub slice_bounds-last_after-end-2 : goal.slice_bounds-last_after-end-2
slice_bounds-last_after-end-2 c =
    sym (length-take-le c.args.m.len c.args.buf.now (omega arith))

pub last_after-last-requires : goal.last_after-last-requires
last_after-last-requires c = (
  omega (arith, length-take-le c.args.m.len c.args.buf.now (omega arith)),
  c.requires.0.far,
  c.requires.0.from,
  c.requires.0.to,
  c.requires.1,
)

pub slice_bounds-meaning-end-2 : goal.slice_bounds-meaning-end-2
slice_bounds-meaning-end-2 c =
    sym (length-take-le c.args.m.len c.args.buf.now (omega arith))

pub meaning-requires : goal.meaning-requires
meaning-requires c =
    let l = length-take-le c.args.m.len c.args.buf.now (omega arith) in (omega (arith, l), omega (arith, l), c.requires.1.number)

pub give_one-requires : goal.give_one-requires
give_one-requires c =
    (c.requires.0, c.requires.2)

pub give_pair-requires : goal.give_pair-requires
give_pair-requires c = c.requires.0

pub returns-in-One : goal.returns-in-One
returns-in-One c =
    let g = rw (
      c.last_after-last.ensures,
      c.shown_after-shown.ensures,
    ) at c.give_one.ensures in let e = ends_one (state_of c.args.m c.args.buf.now)
    c.args.start c.args.what c.args.b _ (ends_at c.args.m c.args.buf.now _ _ c.requires.0) _
    (sym (ap meant c.in-One.is) ∙ c.meaning.ensures) in
    (g.0 ∙ e, g.1 ∙ ap (λ (t : Turn). text_turned t c.args.text.now) e)

pub returns-in-Two : goal.returns-in-Two
returns-in-Two c =
    let g = rw (
      c.last_after-last.ensures,
      c.shown_after-shown.ensures,
    ) at c.give_pair.ensures in let e = ends_pair (state_of c.args.m c.args.buf.now)
    c.args.start c.args.what c.args.b _ (ends_at c.args.m c.args.buf.now _ _ c.requires.0) _ _
    (sym (ap meant c.in-Two.is) ∙ c.meaning.ensures) in
    (g.0 ∙ e, g.1 ∙ ap (λ (t : Turn). text_turned t c.args.text.now) e)
