-- The text memory is as it was before the call.
use Rattle.std.proofs.Common.{◌≡◌, sym, ap, ◌∙◌}
use Rattle.pieces_cuttings.specs.Inner.{is_unwritten}
use Rattle.pieces_cuttings.specs.Notes.{room}
use Rattle.pieces_cuttings.proofs.Unwritten.{all_marks}
use Rattle.pieces_cuttings.proofs.noting.note_other.Goals as goal

pub returns-then-before : goal.returns-then-before
returns-then-before c =
    let kept : c.marked.result ≡ c.args.before.kept = c.marked.ensures ∙ ap is_unwritten c.requires ∙ all_marks room ∙ sym c.if-before.true in
    rw kept
