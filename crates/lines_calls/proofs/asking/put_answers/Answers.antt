-- The loop keeps: what is left to answer leads to the memory that all answers lead to.
use native.Mathlib.Omega.{arith}
use Prim.Native.Nat.{◌+◌, ◌*◌}
use mathlib.Core.Path.{◌≡◌, refl, ◌∙◌}
use lib.ListN.{set, length-set}
use Rattle.lines_calls.proofs.Answers.{locates, answers_next, answers_all}
use Rattle.lines_calls.proofs.asking.put_answers.Goals as goal

pub loop-k-init : goal.loop-k-init
loop-k-init c = (refl, refl)

pub place_at-r-requires : goal.place_at-r-requires
place_at-r-requires c = c.requires.0

pub bounds-found-k-in-loop-k : goal.bounds-found-k-in-loop-k
bounds-found-k-in-loop-k c =
    omega (arith, length-set c.loop-k.found (2 * c.loop-k.k) c.line_word.result, c.loop-k.invariant.0, c.requires.1)

pub loop-k-preserved : goal.loop-k-preserved
loop-k-preserved c =
    let l = c.loop-k in
    let a = c.args in
    let r = locates a.text.now a.index.now c.wide.result
    c.requires.0 c.place_at-r.ensures in
    let z : 2 * (l.k + 1) ≡ 2 * l.k + 2 = omega arith in (
      length-set (set l.found (2 * l.k) c.line_word.result) ((2 * l.k) + 1) c.column_word.result
          ∙ length-set l.found (2 * l.k) c.line_word.result
          ∙ l.invariant.0,
      l.invariant.1
          ∙ answers_next a.text.now a.index.now a.places.now l.found l.k (2 * l.k) (omega arith) (rw c.wide.ensures at r)
          ∙ rw (z, ← c.line_word.ensures, ← c.column_word.ensures),
    )

pub shape_of-found : goal.shape_of-found
shape_of-found c = c.loop-k.invariant.0

pub returns : goal.returns
returns c = let a = c.args in let l = c.loop-k in answers_all a.text.now a.index.now
    a.places.now a.found.now l.k (2 * l.k) c.requires.1 c.loop-k-test.false l.invariant.1
