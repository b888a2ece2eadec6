-- A place that differs from the bytes known tells nothing new; at any other more may be learnt (Sought).
use native.Mathlib.Omega.{arith}
use Prim.Native.Nat.{ℕ, ◌+◌}
use mathlib.Core.Path.{◌≡◌, sym, ap, ◌∙◌}
use lib.ListN.{get_or}
use Rattle.byte_runs.specs.Search.{Alike}
use Rattle.byte_runs.proofs.Searched.{alike_on}
use Rattle.steps.proofs.Sought.{begun_there, known_missed}
use Rattle.steps.proofs.search.compared.Tie as tie
use Rattle.steps.proofs.search.compared.Lts as lts
use Rattle.steps.proofs.search.compared.Reads as reads
use Rattle.steps.proofs.search.compared.Goals as goal

-- the bytes that agree
alike : (c : lts.After-agreeing tie.the-claims reads.Pre reads.Post) → Alike c.args.s.now c.args.i c.args.known.at (c.args.same + c.agreeing.result)
alike c =
    let f = c.args in
    alike_on f.s.now f.i f.known.at f.same c.agreeing.result c.requires.4 c.agreeing.ensures.1

pub overflow_add-i : goal.overflow_add-i
overflow_add-i c = let p = c.requires in omega (arith, p.0, p.1, p.3)

pub overflow_add-known : goal.overflow_add-known
overflow_add-known c = let p = c.requires in omega (arith, p.2.begun.room, p.3)

pub overflow_sub-known : goal.overflow_sub-known
overflow_sub-known c = c.requires.3

pub agreeing-requires : goal.agreeing-requires
agreeing-requires c = let p = c.requires in (omega (arith, p.0, p.1, p.3), omega (arith, p.2.begun.room, p.3))

pub overflow_add-k : goal.overflow_add-k
overflow_add-k c = let p = c.requires in omega (arith, p.0, p.1, p.3, c.agreeing.ensures.0)

pub overflow_add-result : goal.overflow_add-result
overflow_add-result c = let p = c.requires in omega (arith, p.0, p.1, c.if-k-known.true)

pub returns-then-k-known : goal.returns-then-k-known
returns-then-k-known c =
    let f = c.args in
    let p = c.requires in
    let k = f.same + c.agreeing.result in
    let b = p.2.begun in
    let less = c.if-k-known.true in (
      record {
        knows = record { begun = b; waits = p.2.waits };
        stands = λ q h. alike c.before.before.before q h ∙ b.same q (omega arith);
        no_more = omega arith;
        missed = λ h. known_missed f.line.now f.s.now f.known.at f.i f.known.count f.known.read k b less
            (λ e. let x : f.i + f.same + c.agreeing.result ≡ f.i + k = omega arith in
            let y : f.known.at + f.same + c.agreeing.result ≡ f.known.at + k = omega arith in
            c.agreeing.ensures.2 (omega arith) (ap (λ (j : ℕ). get_or f.s.now j 0) x ∙ e ∙ sym (ap (λ (j : ℕ). get_or f.s.now j 0) y)));
      },
      omega arith,
    )

pub learn-requires : goal.learn-requires
learn-requires c =
    let f = c.args in
    let p = c.requires in (
      p.0,
      begun_there f.line.now f.s.now f.known.at f.i f.known.count f.known.read (omega (arith, p.0, p.1))
          (λ q h. alike c.before.before.before q (omega (arith, h, c.if-k-known.false))) p.2.begun,
    )

pub returns : goal.returns
returns c =
    (c.learn.ensures.0, omega (arith, c.learn.ensures.1, c.requires.3))
