-- The loop keeps: the run from place i on ends where the run from the first place on does.
use mathlib.Core.Path.{sym, ◌∙◌}
use Rattle.laws.proofs.Runs.{span_hit, span_stop}
use Rattle.byte_runs.proofs.Blocks.{end_max, passes_on, passes_not}
use Rattle.byte_runs.proofs.runs.bytes_end.Goals as goal

pub returns-then-ends : goal.returns-then-ends
returns-then-ends g c =
    sym (span_stop (g.C.ByteClass.passes c.args.class) c.args.t.now
    c.loop-i.i c.loop-i-test.true (passes_not _ c.ends.ensures c.if-ends.true)) ∙ c.loop-i.invariant

pub loop-i-preserved : goal.loop-i-preserved
loop-i-preserved g c =
    sym (span_hit (g.C.ByteClass.passes c.args.class) c.args.t.now
    c.loop-i.i c.loop-i-test.true (passes_on _ c.ends.ensures c.if-ends.false)) ∙ c.loop-i.invariant

pub returns : goal.returns
returns g c =
    let a = c.args in
    c.max.ensures
    ∙ end_max (g.C.ByteClass.passes a.class) a.t.now a.from c.loop-i.i c.loop-i.auto.i c.loop-i.auto.i-end c.loop-i-test.false c.loop-i.invariant
