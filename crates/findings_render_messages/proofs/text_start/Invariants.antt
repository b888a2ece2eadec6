use mathlib.Core.Bool.{true}
use mathlib.Core.Path.{◌≡◌}
use lib.ListN.{drop}
use Rattle.findings_render_messages.specs.Messages.{behind}
use Rattle.findings_render_messages.proofs.text_start.Given as goal

abbrev pub invariant-loop-i : goal.invariant-loop-i
invariant-loop-i l = behind l.key l.start (drop l.i l.t) ≡ behind l.key true l.t
