use Rattle.lexer_fields.proofs.Writing.{Writing}
use Rattle.lexer_fields.proofs.whole.write.Given as goal

abbrev pub invariant-loop-i : goal.invariant-loop-i
invariant-loop-i l =
    Writing l.parts.source.now l.parts.ends.now l.parts.mode l.parts.skip l.initial.rows l.initial.recs l.initial.text l.rows l.recs l.text l.i l.from l.n l.w l.free
