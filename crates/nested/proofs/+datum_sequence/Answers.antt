-- The datum reader keeps its promise where the sequence reader keeps its own below, and the sequence reader keeps its promise where the
-- datum reader does: so both keep theirs.
use native.Mathlib.Omega.{arith}
use Prim.Native.Nat.{◌<◌, ◌+◌, ◌-◌}
use Rattle.std.proofs.Common.{Ok, Err}
use Rattle.std.proofs.lemmas.Result.{err_from_is_err_and}
use mathlib.Core.Path.{refl, sym, ap, ◌∙◌}
use lib.ListN.{replicate}
use Rattle.nested.specs.declared.Class.TheVariants.{Alien, Fails, Marks, Simple, Opens}
use Rattle.nested.specs.declared.Frame.TheVariants.{Quoting, Dropping, Fresh}
use Rattle.nested.specs.declared.NestErrorKind.TheVariants as kinds
use Rattle.nested.specs.Errors.{mark_in}
use Rattle.nested.specs.Said.{got}
use Rattle.nested.specs.Items.{count_of}
use Rattle.nested.proofs.Turns.{datum_simple, stop_said, pass_said, dot_said, close_said, skipped_said, dropped_failed, took_said, took_level, failed_level, above}
use Rattle.nested.proofs.Loops.{begins_level, depth_more, starting_plan, going_start, going_more, going_stop, going_done, going_end, going_shut}
use Rattle.nested.proofs.Runs.{opened_sequence, opened_leaf, opened_run, rest_inner, rest_few}
use Rattle.nested.proofs.+datum_sequence.Goals as goal

pub datum-returns-in-Err : goal.datum-returns-in-Err
datum-returns-in-Err t c =
    stop_said c.args.records.now c.args.at c.args.depth c.args.w c.args.nodes.now (omega arith) (omega arith)
    c.class_at-k.result c.args.f c.in-Err.kind c.class_at-k.ensures (sym (ap mark_in c.in-Err.is) ∙ c.wrong_at.ensures)

pub datum-returns-in-Alien : goal.datum-returns-in-Alien
datum-returns-in-Alien t c =
    stop_said c.args.records.now c.args.at c.args.depth c.args.w c.args.nodes.now (omega arith) (omega arith)
    Alien c.args.f kinds.Alien (sym c.in-Alien.is ∙ c.class_at-k.ensures) refl

pub datum-returns-in-Fails : goal.datum-returns-in-Fails
datum-returns-in-Fails t c =
    stop_said c.args.records.now c.args.at c.args.depth c.args.w c.args.nodes.now (omega arith) (omega arith)
    Fails c.args.f kinds.ErrorItem (sym c.in-Fails.is ∙ c.class_at-k.ensures) refl

pub datum-returns-in-Passes : goal.datum-returns-in-Passes
datum-returns-in-Passes t c =
    pass_said c.args.records.now c.args.at c.args.depth c.args.w c.args.nodes.now (omega arith) (omega arith)
    c.args.f (sym c.in-Passes.is ∙ c.class_at-k.ensures)

pub datum-sequence-requires : goal.datum-sequence-requires
datum-sequence-requires t c =
    let in-text : c.args.at < count_of c.args.records.now = omega arith in (
      omega (arith, c.decreases, in-text),
      begins_level c.args.records.now c.args.count (c.args.at + 1) (c.args.depth + 1) 1 Dropping c.requires.0 refl (omega arith) (omega arith)
          (depth_more c.args.depth (rw c.in-Drops.is at (sym c.wrong_at.ensures ∙ ap mark_in c.in_default.is))),
    )

pub datum-returns-in_err-r-in-Drops : goal.datum-returns-in_err-r-in-Drops
datum-returns-in_err-r-in-Drops t c =
    let p = err_from_is_err_and c.from_residual.result c.from_residual.ensures.1 in
    rw (p.1, p.2)
    (dropped_failed c.args.records.now c.args.at c.args.depth c.args.w c.args.nodes.now (omega arith) (omega arith)
    c.args.f (replicate 1 0) c.sequence.new.nodes (sym c.in-Drops.is ∙ c.class_at-k.ensures)
    (rw c.in-Drops.is at (sym c.wrong_at.ensures ∙ ap mark_in c.in_default.is)) _
    (opened_sequence c.args.records.now c.args.at (c.args.depth + 1) Dropping 0 (replicate 1 0) c.sequence.new.nodes (Err c.in_err-r-in-Drops.field-0.0) refl
    c.in_err-r-in-Drops.ensures))

pub datum-returns-in_ok-r-in-Drops : goal.datum-returns-in_ok-r-in-Drops
datum-returns-in_ok-r-in-Drops t c =
    rw c.skipped.ensures
    (skipped_said c.args.records.now c.args.at c.args.depth c.args.w c.args.nodes.now (omega arith) (omega arith)
    c.args.f (replicate 1 0) c.sequence.new.nodes (sym c.in-Drops.is ∙ c.class_at-k.ensures)
    (rw c.in-Drops.is at (sym c.wrong_at.ensures ∙ ap mark_in c.in_default.is)) c.in_ok-r-in-Drops.r
    (opened_sequence c.args.records.now c.args.at (c.args.depth + 1) Dropping 0 (replicate 1 0) c.sequence.new.nodes (Ok c.in_ok-r-in-Drops.r) refl
    c.in_ok-r-in-Drops.ensures))

pub datum-sequence-requires-in-Marks : goal.datum-sequence-requires-in-Marks
datum-sequence-requires-in-Marks t c =
    let in-text : c.args.at < count_of c.args.records.now = omega arith in (
      omega (arith, c.decreases, in-text),
      begins_level c.args.records.now c.args.count (c.args.at + 1) (c.args.depth + 1) (c.args.w + 1) Quoting c.requires.0 refl (omega arith)
          (omega arith) (depth_more c.args.depth (starting_plan c.args.f c.args.depth (rw c.in-Marks.is at
          (sym c.wrong_at.ensures ∙ ap mark_in c.in_default.is)))),
    )

pub datum-took-requires : goal.datum-took-requires
datum-took-requires t c =
    above c.args.records.now c.args.at (c.args.depth + 1) Quoting c.args.w c.args.nodes.now c.sequence-in-Marks.new.nodes
    c.in_ok-r-in-Marks.r
    (opened_sequence c.args.records.now c.args.at (c.args.depth + 1) Quoting c.args.w c.args.nodes.now c.sequence-in-Marks.new.nodes
    (Ok c.in_ok-r-in-Marks.r) refl c.in_ok-r-in-Marks.ensures)

pub datum-returns-in_err-r-in-Marks : goal.datum-returns-in_err-r-in-Marks
datum-returns-in_err-r-in-Marks t c =
    let p = err_from_is_err_and c.from_residual-in_err-r-in-Marks.result c.from_residual-in_err-r-in-Marks.ensures.1 in
    rw (p.1, p.2)
    (failed_level c.args.records.now c.args.at c.args.depth c.args.w c.args.nodes.now c.sequence-in-Marks.new.nodes c.sequence-in-Marks.new.nodes
    Marks Quoting (omega arith) (sym c.in-Marks.is ∙ c.class_at-k.ensures) (λ g i ms ls. refl) refl c.sequence-in-Marks.auto.nodes
    _ c.args.f
    (opened_sequence c.args.records.now c.args.at (c.args.depth + 1) Quoting c.args.w c.args.nodes.now c.sequence-in-Marks.new.nodes
    (Err c.in_err-r-in-Marks.field-0.0) refl c.in_err-r-in-Marks.ensures)
    (rw c.in-Marks.is at (sym c.wrong_at.ensures ∙ ap mark_in c.in_default.is)))

pub datum-returns-in_ok-r-in-Marks : goal.datum-returns-in_ok-r-in-Marks
datum-returns-in_ok-r-in-Marks t c =
    took_level c.args.records.now c.args.at c.args.depth c.args.w c.args.nodes.now c.sequence-in-Marks.new.nodes c.took.new.nodes
    Marks Quoting (omega arith) (sym c.in-Marks.is ∙ c.class_at-k.ensures) (λ g i ms ls. refl) refl c.sequence-in-Marks.auto.nodes
    c.in_ok-r-in-Marks.r c.took.result c.args.f
    (opened_sequence c.args.records.now c.args.at (c.args.depth + 1) Quoting c.args.w c.args.nodes.now c.sequence-in-Marks.new.nodes
    (Ok c.in_ok-r-in-Marks.r) refl c.in_ok-r-in-Marks.ensures)
    c.took.ensures (rw c.in-Marks.is at (sym c.wrong_at.ensures ∙ ap mark_in c.in_default.is))

pub datum-returns-in-Simple : goal.datum-returns-in-Simple
datum-returns-in-Simple t c =
    rw c.held.ensures
    (took_said c.args.records.now c.args.at c.args.depth c.args.w c.args.nodes.now c.put.new.nodes (Simple c.in-Simple.m)
    (got (c.args.at + 1) (c.args.w + 1) c.in-Simple.m) c.args.f
    (datum_simple c.args.records.now c.args.at c.args.depth c.args.w c.args.nodes.now c.put.new.nodes (omega arith) c.in-Simple.m
    (sym c.in-Simple.is ∙ c.class_at-k.ensures) (omega arith) c.put.ensures)
    (rw c.in-Simple.is at (sym c.wrong_at.ensures ∙ ap mark_in c.in_default.is)))

pub datum-overflow_add-leaf : goal.datum-overflow_add-leaf
datum-overflow_add-leaf t c = omega (arith, (c.closes_at.ensures c.if-closes_at.true).0)

pub datum-returns-then-closes_at : goal.datum-returns-then-closes_at
datum-returns-then-closes_at t c =
    let end = c.simples-end.result in
    let v = c.args.w + (end - c.args.at) in
    let q = c.closes_at.ensures c.if-closes_at.true in
    took_level c.args.records.now c.args.at c.args.depth c.args.w c.args.nodes.now c.simples-end.new.nodes c.took-then-closes_at.new.nodes
    (Opens c.in-Opens.s) (Fresh c.in-Opens.s) (omega arith) (sym c.in-Opens.is ∙ c.class_at-k.ensures) (λ g i ms ls. refl) refl
    c.simples-end.auto.nodes (got (end + 1) v c.shape_kind.result) c.took-then-closes_at.result c.args.f
    (opened_leaf c.args.records.now c.args.at (c.args.depth + 1) c.args.w c.in-Opens.s c.args.nodes.now c.simples-end.new.nodes end (omega arith)
    c.simples-end.ensures v c.shape_kind.result q.0 q.1 refl c.shape_kind.ensures)
    c.took-then-closes_at.ensures (rw c.in-Opens.is at (sym c.wrong_at.ensures ∙ ap mark_in c.in_default.is))

pub datum-sequence-requires-in-Opens : goal.datum-sequence-requires-in-Opens
datum-sequence-requires-in-Opens t c =
    let in-text : c.args.at < count_of c.args.records.now = omega arith in
    let R = c.simples-end.ensures in
    let end = c.simples-end.result in (
      omega (arith, c.decreases, in-text, R.simples.count, R.simples.inside),
      begins_level c.args.records.now c.args.count end (c.args.depth + 1) (c.args.w + (end - c.args.at)) c.begun.result c.requires.0
          (rest_inner c.args.records.now c.args.at (c.args.depth + 1) c.args.w c.in-Opens.s c.args.nodes.now c.simples-end.new.nodes end
          (omega arith) R c.begun.result c.begun.ensures)
          R.simples.inside
          (rest_few c.args.records.now c.args.at (c.args.depth + 1) c.args.w c.in-Opens.s c.args.nodes.now c.simples-end.new.nodes end
          (omega arith) R)
          (depth_more c.args.depth (starting_plan c.args.f c.args.depth (rw c.in-Opens.is at
          (sym c.wrong_at.ensures ∙ ap mark_in c.in_default.is)))),
    )

pub datum-took-requires-in-Opens : goal.datum-took-requires-in-Opens
datum-took-requires-in-Opens t c =
    let end = c.simples-end.result in
    above c.args.records.now c.args.at (c.args.depth + 1) (Fresh c.in-Opens.s) c.args.w c.args.nodes.now c.sequence-in-Opens.new.nodes
    c.in_ok-r-in-Opens.r
    (opened_run c.args.records.now c.args.at (c.args.depth + 1) c.args.w c.in-Opens.s c.args.nodes.now c.simples-end.new.nodes end (omega arith)
    c.simples-end.ensures c.begun.result (c.args.w + (end - c.args.at)) c.sequence-in-Opens.new.nodes c.begun.ensures refl
    c.simples-end.auto.nodes (Ok c.in_ok-r-in-Opens.r) c.in_ok-r-in-Opens.ensures)

pub datum-returns-in_err-r-in-Opens : goal.datum-returns-in_err-r-in-Opens
datum-returns-in_err-r-in-Opens t c =
    let end = c.simples-end.result in
    let p = err_from_is_err_and c.from_residual-in_err-r-in-Opens.result c.from_residual-in_err-r-in-Opens.ensures.1 in
    rw (p.1, p.2)
    (failed_level c.args.records.now c.args.at c.args.depth c.args.w c.args.nodes.now c.sequence-in-Opens.new.nodes c.sequence-in-Opens.new.nodes
    (Opens c.in-Opens.s) (Fresh c.in-Opens.s) (omega arith) (sym c.in-Opens.is ∙ c.class_at-k.ensures) (λ g i ms ls. refl) refl
    (c.sequence-in-Opens.auto.nodes ∙ c.simples-end.auto.nodes) _ c.args.f
    (opened_run c.args.records.now c.args.at (c.args.depth + 1) c.args.w c.in-Opens.s c.args.nodes.now c.simples-end.new.nodes end (omega arith)
    c.simples-end.ensures c.begun.result (c.args.w + (end - c.args.at)) c.sequence-in-Opens.new.nodes c.begun.ensures refl
    c.simples-end.auto.nodes (Err c.in_err-r-in-Opens.field-0.0) c.in_err-r-in-Opens.ensures)
    (rw c.in-Opens.is at (sym c.wrong_at.ensures ∙ ap mark_in c.in_default.is)))

pub datum-returns-in_ok-r-in-Opens : goal.datum-returns-in_ok-r-in-Opens
datum-returns-in_ok-r-in-Opens t c =
    let end = c.simples-end.result in
    took_level c.args.records.now c.args.at c.args.depth c.args.w c.args.nodes.now c.sequence-in-Opens.new.nodes c.took-in-Opens.new.nodes
    (Opens c.in-Opens.s) (Fresh c.in-Opens.s) (omega arith) (sym c.in-Opens.is ∙ c.class_at-k.ensures) (λ g i ms ls. refl) refl
    (c.sequence-in-Opens.auto.nodes ∙ c.simples-end.auto.nodes) c.in_ok-r-in-Opens.r c.took-in-Opens.result c.args.f
    (opened_run c.args.records.now c.args.at (c.args.depth + 1) c.args.w c.in-Opens.s c.args.nodes.now c.simples-end.new.nodes end (omega arith)
    c.simples-end.ensures c.begun.result (c.args.w + (end - c.args.at)) c.sequence-in-Opens.new.nodes c.begun.ensures refl
    c.simples-end.auto.nodes (Ok c.in_ok-r-in-Opens.r) c.in_ok-r-in-Opens.ensures)
    c.took-in-Opens.ensures (rw c.in-Opens.is at (sym c.wrong_at.ensures ∙ ap mark_in c.in_default.is))

pub datum-returns-in-Closes : goal.datum-returns-in-Closes
datum-returns-in-Closes t c =
    close_said c.args.records.now c.args.at c.args.depth c.args.w c.args.nodes.now (omega arith) (omega arith)
    c.in-Closes._bracket c.args.f (sym c.in-Closes.is ∙ c.class_at-k.ensures)
    (rw c.in-Closes.is at (sym c.wrong_at.ensures ∙ ap mark_in c.in_default.is))

pub datum-returns-in-Dots : goal.datum-returns-in-Dots
datum-returns-in-Dots t c =
    dot_said c.args.records.now c.args.at c.args.depth c.args.w c.args.nodes.now (omega arith) (omega arith)
    c.args.f c.pointed_at.result (sym c.in-Dots.is ∙ c.class_at-k.ensures)
    (rw c.in-Dots.is at (sym c.wrong_at.ensures ∙ ap mark_in c.in_default.is)) c.pointed_at.ensures

pub sequence-loop-at-init : goal.sequence-loop-at-init
sequence-loop-at-init t c =
    going_start c.args.records.now c.args.count c.args.from c.args.depth c.args.f c.args.first c.args.nodes.now c.requires

pub sequence-datum-requires : goal.sequence-datum-requires
sequence-datum-requires t c = (
  omega (arith, c.decreases, c.loop-at.invariant.back, c.loop-at-test.true, c.requires.counted, c.requires.shallow),
  (c.requires.counted, c.loop-at-test.true, c.loop-at.invariant.few, c.requires.shallow),
)

pub sequence-loop-at-smaller : goal.sequence-loop-at-smaller
sequence-loop-at-smaller t c = let T = rw c.in-On.is at c.in_ok-t.ensures in omega (arith, T.1.past, T.1.inside)

pub sequence-loop-at-preserved : goal.sequence-loop-at-preserved
sequence-loop-at-preserved t c =
    going_more c.args.records.now c.args.count c.args.from c.args.depth c.args.f c.args.first c.args.nodes.now c.requires _ _ _ _
    c.loop-at.invariant _ _ _ _ c.datum.auto.nodes (rw c.in-On.is at c.in_ok-t.ensures)

pub sequence-returns-in-Shut : goal.sequence-returns-in-Shut
sequence-returns-in-Shut t c =
    going_shut c.args.records.now c.args.count c.args.from c.args.depth c.args.f c.args.first c.args.nodes.now c.requires _ _ _ _
    c.loop-at.invariant c.datum.new.nodes _ _ c.node_kind-kind.result c.datum.auto.nodes (rw c.in-Shut.is at c.in_ok-t.ensures) c.node_kind-kind.ensures

pub sequence-returns-in_err-t : goal.sequence-returns-in_err-t
sequence-returns-in_err-t t c =
    let p = err_from_is_err_and c.from_residual.result c.from_residual.ensures.1 in
    rw (p.1, p.2)
    (going_stop c.args.records.now c.args.count c.args.from c.args.depth c.args.f c.args.first c.args.nodes.now c.requires _ _ _ _
    c.loop-at.invariant _ c.datum.new.nodes c.in_err-t.ensures)

pub sequence-returns-in-Err : goal.sequence-returns-in-Err
sequence-returns-in-Err t c =
    rw c.requires.counted
    (going_end c.args.records.now c.args.count c.args.from c.args.depth c.args.f c.args.first c.args.nodes.now c.requires _ _ _ _
    c.loop-at.invariant c.in-Err.kind (omega (arith, c.loop-at-test.false, c.requires.counted)) (sym (ap mark_in c.in-Err.is) ∙ c.ending_at.ensures))

pub sequence-returns : goal.sequence-returns
sequence-returns t c =
    rw c.requires.counted
    (going_done c.args.records.now c.args.count c.args.from c.args.depth c.args.f c.args.first c.args.nodes.now c.requires _ _ _ _
    c.loop-at.invariant _ (omega (arith, c.loop-at-test.false, c.requires.counted)) (sym c.ending_at.ensures ∙ ap mark_in c.in_default.is))
