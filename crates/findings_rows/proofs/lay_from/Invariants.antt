use Rattle.lexer.specs.Reading.{size_of}
use Rattle.findings_rows.proofs.Lays.{Laying}
use Rattle.findings_rows.proofs.lay_from.Given as goal

abbrev pub invariant-loop-found : goal.invariant-loop-found
invariant-loop-found l = Laying l.source l.initial.p l.initial.words l.words l.p l.depth l.w

abbrev pub decreases-loop-found : goal.decreases-loop-found
decreases-loop-found l = size_of l.source l.p
