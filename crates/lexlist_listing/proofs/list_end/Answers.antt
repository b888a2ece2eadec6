-- The loop keeps: what the calls from here on come to is what all calls come to. Each call is the next one of the caller of Drive.
use Rattle.std.proofs.Common.{◌+◌, ◌-◌, sym, refl, ◌∙◌, arith}
use Rattle.lexlist_listing.proofs.Calls.{end_said, end_on, no_ends}
use Rattle.lexlist_listing.proofs.list_end.Goals as goal

pub loop-init : goal.loop-init
loop-init g c = (refl, refl)

pub returns-then-is_some : goal.returns-then-is_some
returns-then-is_some g c =
    λ next. let l = c.loop in let p = c.end-answer in
    rw c.heed-now.ensures (sym (end_said _ _ (4 - l.counter) l.now.items l.now.state p.result _ l.invariant.0 p.ensures.0 (omega arith)
    (rw c.heed-now.ensures at (sym c.is_some.ensures ∙ c.if-is_some.true)) next) ∙ l.invariant.1)

pub loop-preserved : goal.loop-preserved
loop-preserved g c =
    let l = c.loop in let p = c.end-answer in (
      omega arith,
      rw c.heed-now.ensures (sym (end_on _ _ (4 - l.counter) l.now.items l.now.state p.result _ l.invariant.0 p.ensures.0 (omega arith) (4 - (l.counter + 1)) (omega arith)
          (rw c.heed-now.ensures at (sym c.is_some.ensures ∙ c.if-is_some.false))) ∙ l.invariant.1),
    )

pub returns : goal.returns
returns g c = λ next. let l = c.loop in rw c.too_few.ensures (sym (no_ends _ (4 - l.counter) l.now.items l.now.state (omega arith)) ∙ l.invariant.1)
