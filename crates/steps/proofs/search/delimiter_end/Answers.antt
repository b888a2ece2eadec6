-- The loop keeps: up to the place i the delimiter stands nowhere, and it is not known whole (Sought).
use native.Mathlib.Omega.{arith}
use Prim.Native.Nat.{ℕ, ◌+◌, ◌-◌, ◌≤◌, ◌<◌}
use mathlib.Core.Path.{◌≡◌, refl, ap, subst}
use mathlib.Core.Bool.{false}
use lib.Dec.{ltb}
use lib.ListN.{length, drop}
use borrow.Author.Tests.{ltb-true, ltb-false}
use Rattle.laws.specs.Texts.{begins}
use Rattle.laws.proofs.Choice.{by_bool}
use Rattle.items.specs.Readers.{unreturned}
use Rattle.steps.proofs.Sought.{byte_in, begun_none, clear_to}
use Rattle.steps.proofs.search.delimiter_end.Tie as tie
use Rattle.steps.proofs.search.delimiter_end.Lts as lts
use Rattle.steps.proofs.search.delimiter_end.Reads as reads
use Rattle.steps.proofs.search.delimiter_end.Goals as goal
use Rattle.steps.proofs.search.delimiter_end.Goals.{then-not-refuted+else-known-n+else-agreed_far, else-not-refuted}

-- up to the place that was found
clear : (c : lts.After-find_pair tie.the-claims reads.Pre reads.Post goal.the-invariant-loop-i goal.the-decreases-loop-i) (k : ℕ) → c.args.from ≤ k → k < c.find_pair-i.result
    → begins (unreturned c.args.line.now) (drop k c.args.s.now) ≡ false
clear c =
    let f = c.args in
    let p = c.requires in
    let l = c.loop-i in
    clear_to f.line.now f.s.now f.from l.i c.find_pair-i.result (f.n - 1) p.2 (ap (λ (m : ℕ). m - 1) p.1)
    l.invariant.4 c.find_pair-i.ensures.2

-- there is room for a delimiter, which is not empty
fits : (c : lts.Else1 tie.the-claims reads.Pre reads.Post goal.the-invariant-loop-i goal.the-decreases-loop-i) → c.find_pair-i.result + c.args.n ≤ length c.args.s.now
fits c = omega (arith, c.if-s-i.false, c.find_pair-i.ensures.1)

some : (c : lts.Else1 tie.the-claims reads.Pre reads.Post goal.the-invariant-loop-i goal.the-decreases-loop-i) → 0 < c.args.n
some c =
    omega (arith, c.requires.1, byte_in c.args.line.now 0 0 refl c.requires.2.0)

-- past a place that was looked at and is none
clear-past : (c : lts.Else1 tie.the-claims reads.Pre reads.Post goal.the-invariant-loop-i goal.the-decreases-loop-i)
    → begins (unreturned c.args.line.now) (drop c.find_pair-i.result c.args.s.now) ≡ false
    → (k : ℕ) → c.args.from ≤ k → k < c.find_pair-i.result + 1
    → begins (unreturned c.args.line.now) (drop k c.args.s.now) ≡ false
clear-past c none k h b =
    let f = c.args in
    let r = c.find_pair-i.result in
    by_bool (ltb k r)
    (λ e. clear c.before k h (ltb-true k r e))
    (λ e. let q : r ≡ k = omega (arith, ltb-false k r e, b) in
    subst (λ (i : ℕ). begins (unreturned f.line.now) (drop i f.s.now) ≡ false) q none)

-- what was compared and is no delimiter is not known whole
more : (c : lts.Else3 tie.the-claims reads.Pre reads.Post goal.the-invariant-loop-i goal.the-decreases-loop-i) → c.compared-known.result.count < length (unreturned c.args.line.now)
more c =
    let p = c.requires in
    omega (arith, p.1, c.if-known-n.false, c.compared-known.ensures.0.knows.begun.few)

pub overflow_sub-gap : goal.overflow_sub-gap
overflow_sub-gap c =
    let p = c.requires in
    omega (arith, p.1, byte_in c.args.line.now 0 0 refl p.2.0)

pub bounds-line-0 : goal.bounds-line-0
bounds-line-0 c = c.requires.2.0.0

pub overflow_sub-last : goal.overflow_sub-last
overflow_sub-last c = omega (arith, c.requires.2.0.0)

pub bounds-line-line : goal.bounds-line-line
bounds-line-line c = c.requires.2.1.0

pub loop-i-init : goal.loop-i-init
loop-i-init c =
    let f = c.args in
    let p = c.requires in (
      omega arith,
      p.0,
      byte_in f.line.now 0 0 refl p.2.0,
      record { begun = begun_none f.line.now f.s.now f.from p.0; waits = λ h. p.2.0 },
      λ k h m. absurd (omega arith),
    )

pub overflow_sub-s : goal.overflow_sub-s
overflow_sub-s c = c.loop-i.invariant.1

pub find_pair-i-requires : goal.find_pair-i-requires
find_pair-i-requires c = omega (arith, c.loop-i.invariant.1, c.loop-i-test.true)

pub overflow_sub-s-in-loop-i : goal.overflow_sub-s-in-loop-i
overflow_sub-s-in-loop-i c = omega (arith, c.find_pair-i.ensures.1)

pub returns-then-s-i : goal.returns-then-s-i
returns-then-s-i c =
    let p = c.requires in
    (omega arith, λ k h m. clear c.before.before k h (omega (arith, m, p.1, c.if-s-i.true, c.find_pair-i.ensures.1)))

pub refuted-requires : goal.refuted-requires
refuted-requires c =
    let l = c.loop-i in
    (omega (arith, c.requires.1, fits c.before), l.invariant.2, l.invariant.3)

pub compared-known-requires : goal.compared-known-requires
compared-known-requires c =
    let l = c.loop-i in (
      omega (arith, c.requires.1, fits c.before.before.before),
      l.invariant.2,
      l.invariant.3,
      omega arith,
      λ q h. absurd (omega arith),
    )

pub overflow_add-result : goal.overflow_add-result
overflow_add-result c = omega (arith, fits c.before.before.before.before.before.before)

pub returns-then-known-n : goal.returns-then-known-n
returns-then-known-n c =
    let p = c.requires in
    (fits c.before.before.before.before.before.before, λ k h m. clear c.before.before.before.before.before.before.before k h (omega (arith, m, p.1)))

pub overflow_add-i : goal.overflow_add-i
overflow_add-i c = omega (arith, fits c.before.before.before.before.before.before.before.before, some c.before.before.before.before.before.before.before.before)

pub linear_end-requires : goal.linear_end-requires
linear_end-requires c =
    let p = c.requires in
    (omega (arith, fits c.before.before.before.before.before.before.before.before, some c.before.before.before.before.before.before.before.before), p.1, more c.before.before.before, c.compared-known.ensures.0.knows)

pub returns-then-agreed_far : goal.returns-then-agreed_far
returns-then-agreed_far c =
    let none = c.compared-known.ensures.0.missed (more c.before.before.before.before) in
    let past = c.find_pair-i.result + 1 in
    let e = c.linear_end.ensures in (
      e.0,
      λ k h m. by_bool (ltb k past)
          (λ t. clear-past c.before.before.before.before.before.before.before.before.before none k h (ltb-true k past t))
          (λ t. e.1 k (ltb-false k past t) m),
    )

pub overflow_add-i-in-loop-i : goal.overflow_add-i-in-loop-i
overflow_add-i-in-loop-i c = omega (arith, fits c.before.before.before, some c.before.before.before)

pub loop-i-smaller : goal.loop-i-smaller
loop-i-smaller c = omega (arith, fits c.before.before.before, some c.before.before.before, c.find_pair-i.ensures.0)

pub loop-i-preserved : goal.loop-i-preserved
loop-i-preserved c =
    let l = c.loop-i in
    let first : c.args.from ≤ c.find_pair-i.result + 1 = omega (arith, l.invariant.0, c.find_pair-i.ensures.0) in
    let last : c.find_pair-i.result + 1 ≤ length c.args.s.now = omega (arith, fits c.before.before.before, some c.before.before.before) in
    elim c.if-not-refuted.branch [
      | then-not-refuted+else-known-n+else-agreed_far w ↦
          let e = w.compared-known.ensures.0 in
          let few : w.compared-known.result.count < length (unreturned c.args.line.now)
          = omega (arith, c.requires.1, w.if-known-n.false, e.knows.begun.few) in
          (first, last, rw w.known-is few, rw w.known-is e.knows, clear-past c.before.before.before (e.missed few))
      | else-not-refuted w ↦ (
        first,
        last,
        rw w.known-is l.invariant.2,
        rw w.known-is l.invariant.3,
        clear-past c.before.before.before (c.refuted.ensures w.if-not-refuted.false),
      )
    ]

pub returns : goal.returns
returns c =
    let p = c.requires in
    let l = c.loop-i in
    (omega arith, λ k h m. l.invariant.4 k h (omega (arith, m, p.1, c.loop-i-test.false)))
