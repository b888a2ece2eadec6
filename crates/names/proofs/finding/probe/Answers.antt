-- Each turn asks one slot as `probe` does: the rest of the search from the next slot on is what `probe` says of one look fewer.
use native.Mathlib.Omega.{arith}
use mathlib.Core.Path.{◌≡◌, sym, ◌∙◌}
use Prim.Native.Nat.{◌+◌, ◌-◌}
use Rattle.names.specs.Call.{looks}
use Rattle.names.proofs.Laws.{hash_small, slot_small, next_small, probe_free, probe_hit, probe_miss, probe_end}
use Rattle.names.proofs.finding.probe.Goals as goal

pub slot_of-s-requires : goal.slot_of-s-requires
slot_of-s-requires c = rw c.requires.h_value (hash_small _)

pub loop-step-init : goal.loop-step-init
loop-step-init c =
    (rw (c.slot_of-s.ensures, c.requires.h_value) (slot_small _), c.tag_of-tag.ensures ∙ rw c.requires.h_value, rw (c.slot_of-s.ensures, c.requires.h_value))

pub returns-then-v-eq0 : goal.returns-then-v-eq0
returns-then-v-eq0 c =
    probe_free c.args.words.now c.args.bytes.now c.args.party c.args.name.now
    (looks - c.loop-step._step) c.loop-step.s c.word-v.ensures (omega arith) c.if-v-eq0.true ∙ c.loop-step.invariant.2

pub proposes-requires : goal.proposes-requires
proposes-requires c = record {
  tag_value = c.loop-step.invariant.1;
  v_nonzero = omega (arith, c.if-v-eq0.false);
  readable = c.requires.readable;
}

pub overflow_sub-result : goal.overflow_sub-result
overflow_sub-result c = omega (arith, c.if-v-eq0.false)

pub returns-then-proposes : goal.returns-then-proposes
returns-then-proposes c =
    probe_hit c.args.words.now c.args.bytes.now c.args.party c.args.name.now
    (looks - c.loop-step._step) c.loop-step.s c.word-v.ensures (omega arith)
    c.if-v-eq0.false (sym c.proposes.ensures ∙ c.if-proposes.true) ∙ c.loop-step.invariant.2

pub loop-step-preserved : goal.loop-step-preserved
loop-step-preserved c =
    let one : looks - (c.loop-step._step + 1) ≡ looks - c.loop-step._step - 1 = omega arith in (
      next_small _,
      c.loop-step.invariant.1,
      rw one (probe_miss c.args.words.now c.args.bytes.now c.args.party c.args.name.now
          (looks - c.loop-step._step) c.loop-step.s c.word-v.ensures (omega arith)
          c.if-v-eq0.false (sym c.proposes.ensures ∙ c.if-proposes.false) ∙ c.loop-step.invariant.2),
    )

pub returns : goal.returns
returns c =
    probe_end c.args.words.now c.args.bytes.now
    c.args.party c.args.name.now (looks - c.loop-step._step) c.loop-step.s (omega arith) ∙ c.loop-step.invariant.2
