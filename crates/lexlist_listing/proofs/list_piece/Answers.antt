-- The loop keeps: what the calls from here on come to is what all calls come to. Each call is the next one of the caller of Drive.
use Rattle.std.proofs.Common.{◌≡◌, ◌+◌, ◌-◌, ◌*◌, length, sym, refl, ◌∙◌, arith}
use Rattle.lexlist_listing.proofs.Calls.{last_word, all_taken, some_left, no_calls}
use Rattle.lexlist_listing.proofs.list_piece.Goals as goal

pub loop-init : goal.loop-init
loop-init g c =
    let z : 2 * length c.args.bytes.now + 2 - 0 ≡ 2 * length c.args.bytes.now + 2 = omega arith in
    (omega arith, refl, λ next. rw z)

pub returns-then-is_some : goal.returns-then-is_some
returns-then-is_some g c =
    λ next. let l = c.loop in let p = c.piece-answer in
    rw c.heed-now.ensures (sym (last_word _ _ l.from (2 * length c.args.bytes.now + 2 - l.counter) l.now.items l.now.state _ p.result _ l.invariant.1 p.ensures.0 (omega arith)
    (rw c.heed-now.ensures at (sym c.is_some.ensures ∙ c.if-is_some.true)) next) ∙ l.invariant.2 next)

pub returns-then-bytes-from : goal.returns-then-bytes-from
returns-then-bytes-from g c =
    λ next. let l = c.loop in let p = c.piece-answer in
    rw c.heed-now.ensures (sym (all_taken _ _ l.from (2 * length c.args.bytes.now + 2 - l.counter) l.now.items l.now.state _ p.result _ l.invariant.1 p.ensures.0 (omega arith)
    c.if-bytes-from.true next) ∙ l.invariant.2 next)

pub loop-preserved : goal.loop-preserved
loop-preserved g c =
    let l = c.loop in let p = c.piece-answer in (
      omega arith,
      omega arith,
      λ next. rw c.heed-now.ensures (sym (some_left _ _ l.from (2 * length c.args.bytes.now + 2 - l.counter) l.now.items l.now.state _ p.result _ l.invariant.1 p.ensures.0 (omega arith)
          (2 * length c.args.bytes.now + 2 - (l.counter + 1)) (omega arith)
          (rw c.heed-now.ensures at (sym c.is_some.ensures ∙ c.if-is_some.false)) c.if-bytes-from.false next) ∙ l.invariant.2 next),
    )

pub returns : goal.returns
returns g c = λ next. let l = c.loop in
    rw c.too_few.ensures (sym (no_calls _ (2 * length c.args.bytes.now + 2 - l.counter) l.now.items l.now.state _ next (omega arith)) ∙ l.invariant.2 next)
