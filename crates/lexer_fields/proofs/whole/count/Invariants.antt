use mathlib.Core.List.{List}
use Rattle.lexer_fields.specs.Fields.{Field}
use Rattle.lexer_fields.proofs.Progress.{Progress}
use Rattle.lexer_fields.proofs.whole.count.Given as goal

abbrev pub invariant-loop-place : goal.invariant-loop-place
invariant-loop-place l = (done : List Field) × Progress l.parts.source.now l.parts.ends.now l.parts.mode l.parts.skip l.place-index l.from l.n l.free done
