-- The space, the plus and the text in its form.
use native.Mathlib.Omega.{arith}
use mathlib.Core.Bool.{not}
use mathlib.Core.List.{◌++◌}
use lib.ListN.{length-append}
use Rattle.laws.specs.Quoted.{code}
use Rattle.items_writing.specs.Pieces.{lone, shown, piece}
use Rattle.items_writing.proofs.QuotedBytes.{lone_few, shown_few}
use Rattle.items_writing.proofs.turning.piece_length.Goals as goal

pub overflow_add-result : goal.overflow_add-result
overflow_add-result c =
    omega (arith, lone_few (not c.args.first) (code " "), lone_few c.args.turn.pair (code "+"), c.lone_length-2.ensures, c.lone_length.ensures)

pub overflow_add-result-2 : goal.overflow_add-result-2
overflow_add-result-2 c =
    omega (
      arith,
      lone_few (not c.args.first) (code " "),
      lone_few c.args.turn.pair (code "+"),
      c.lone_length-2.ensures,
      c.lone_length.ensures,
      c.shown_length.ensures,
      shown_few c.args.turn.form c.args.t.now,
    )

pub returns : goal.returns
unfolding piece
returns c =
    omega (
      arith,
      c.lone_length-2.ensures,
      c.lone_length.ensures,
      c.shown_length.ensures,
      length-append
          (lone (not c.args.first) (code " ")) (lone c.args.turn.pair (code "+") ++ shown c.args.turn.form c.args.t.now),
      length-append
          (lone c.args.turn.pair (code "+")) (shown c.args.turn.form c.args.t.now),
    )
