-- The own half is asked first, and the other one only where the own answers nothing, as `or_else` has it: before the second turn that is known,
-- and the own half's free slot.
use Prim.Native.Nat.{ℕ, ◌-◌, ◌<◌}
use native.Mathlib.Omega.{arith}
use mathlib.Core.Path.{refl, sym, ◌∙◌}
use mathlib.Core.Logic.{inl, inr, ⊎_elim}
use Rattle.names.proofs.Gives.{find_other, find_own}
use Rattle.names.proofs.Laws.{halves}
use Rattle.names.proofs.finding.find.Invariants.{left}
use Rattle.names.proofs.finding.find.Goals as goal

left_less : (p : ℕ) → p < 2 → left p (1 - p) < left p p
left_less p h = halves (λ q. left q (1 - q) < left q q) (omega arith) (omega arith) p h

pub loop-half-init : goal.loop-half-init
loop-half-init c = inl refl

pub lookup-said-requires : goal.lookup-said-requires
lookup-said-requires c =
    let p = c.requires in record {
      h_value = p.h_value;
      readable = ⊎_elim (λ e. rw e p.readable) (λ e. rw e.0 p.readable_2) c.loop-half.invariant;
    }

pub returns-then-half-party : goal.returns-then-half-party
returns-then-half-party c =
    ⊎_elim
    (λ e. absurd (c.if-half-party.true e))
    (λ e. (
      find_other c.args.words.now
          c.args.bytes.now c.args.party c.args.name.now e.1 (c.lookup-said.ensures.0 ∙ rw e.0),
      e.2,
    ))
    c.loop-half.invariant

pub returns-in-Some : goal.returns-in-Some
returns-in-Some c =
    let e = c.if-half-party.false in
    let said = c.lookup-said.ensures in (
      find_own c.args.words.now
          c.args.bytes.now c.args.party c.args.name.now c.in-Some.is (said.0 ∙ rw e),
      said.1 ∙ rw e,
    )

pub loop-half-smaller : goal.loop-half-smaller
loop-half-smaller c =
    rw c.if-half-party.false (left_less _ c.requires.readable.party)

pub loop-half-preserved : goal.loop-half-preserved
loop-half-preserved c =
    let e = c.if-half-party.false in
    let said = c.lookup-said.ensures in
    inr (refl, sym (said.0 ∙ rw e) ∙ c.in-None.is, said.1 ∙ rw e)
