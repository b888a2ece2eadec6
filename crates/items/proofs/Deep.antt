-- A character opens at most one nested comment: `#|` is the one step that goes deeper, and it goes one deeper. Outside of such comments a phase
-- has the depth 0.
use Prim.Native.Nat.{ℕ, suc, ◌≤◌}
use mathlib.Core.Path.{◌≡◌, subst}
use mathlib.Core.Bool.{Bool}
use mathlib.Core.Logic.{◌↔◌}
use native.Mathlib.Omega.{arith}
use native.Mathlib.Nat.{le_refl}
use Rattle.items.specs.declared.Phase.{Phase}
use Rattle.items.specs.declared.Phase.TheVariants as ph
use Rattle.items.specs.declared.Next.TheVariants.{Eat}
use Rattle.items.specs.Machine.{step_of, depth_of}
use Rattle.items.specs.Readers.{SoFar}
use Rattle.items.proofs.Phases.{Says, knows_of, InPhase}
use Rattle.items.proofs.Walk.{WalkSteps, KnownAfter, silent, silent_ends, walk_step}

abbrev within : ℕ → Says
within n = record {
  nest = λ d. d ≤ n;
  closed = λ k. Unit {0};
  escape = λ from. Unit {0};
  brace = λ from. Unit {0};
  digits = λ closer from m. Unit {0};
  done = λ o. Unit {0};
}

-- a phase that is at most n deep
depth_within : (n : ℕ) (p : Phase) → (depth_of p ≤ n) ↔ InPhase (within n) p
depth_within n ph.InLine = ((λ _. tt), (λ _. omega arith))
depth_within n ph.AfterComma = ((λ _. tt), (λ _. omega arith))
depth_within n ph.AfterHash = ((λ _. tt), (λ _. omega arith))
depth_within n ph.AfterAngle = ((λ _. tt), (λ _. omega arith))
depth_within n ph.HereDelim = ((λ _. tt), (λ _. omega arith))
depth_within n ph.HereStart = ((λ _. tt), (λ _. omega arith))
depth_within n ph.HereBody = ((λ _. tt), (λ _. omega arith))
depth_within n ph.InWord = ((λ _. tt), (λ _. omega arith))
depth_within n ph.WordEscape = ((λ _. tt), (λ _. omega arith))
depth_within n ph.InRun = ((λ _. tt), (λ _. omega arith))
depth_within n ph.InHash = ((λ _. tt), (λ _. omega arith))
depth_within n ph.HashEscape = ((λ _. tt), (λ _. omega arith))
depth_within n ph.HashTick = ((λ _. tt), (λ _. omega arith))
depth_within n ph.HashComma = ((λ _. tt), (λ _. omega arith))
depth_within n (ph.Nest d) = ((λ h. h), (λ h. h))
depth_within n (ph.NestBar d) = ((λ h. h), (λ h. h))
depth_within n (ph.NestSharp d) = ((λ h. h), (λ h. h))
depth_within n (ph.Quoted k) = ((λ _. tt), (λ _. omega arith))
depth_within n (ph.Closed k) = ((λ _. tt), (λ _. omega arith))
depth_within n (ph.TrimBefore k) = ((λ _. tt), (λ _. omega arith))
depth_within n (ph.TrimAfter k) = ((λ _. tt), (λ _. omega arith))
depth_within n (ph.Escape k from) = ((λ _. tt), (λ _. omega arith))
depth_within n (ph.Brace k from) = ((λ _. tt), (λ _. omega arith))
depth_within n (ph.Hex k closer from m) = ((λ _. tt), (λ _. omega arith))
depth_within n (ph.Done o) = ((λ _. tt), (λ _. omega arith))

deeper : (report : Bool) (i : SoFar) (c n : ℕ) → WalkSteps report i c (knows_of (within n)) (knows_of (within (suc n))) (λ o. Unit {0})
deeper report i c n = record {
  comment = tt;
  splice = λ _ _. tt;
  datum = λ _ _. tt;
  bracket = λ _ _ _. tt;
  unexpected = tt;
  opens_nest_holds = λ _ _. omega arith;
  nest = λ d e l h. omega arith;
  carries = silent c (within n) (within (suc n));
  ends = λ _ _ _. tt;
  escapes = λ _ _ _. tt;
  solid = λ _ _. tt;
  invalid = λ _ _ _. tt;
  hex_x = λ _ _ _ _. tt;
  hex_u = λ _ _ _ _. tt;
  braced = λ _ _ _ _. tt;
  unbraced = λ _ _ _. tt;
  digit = λ _ _ _ _ _ _. tt;
  unclosed = λ _ _ _ _ _. tt;
  no_scalar = λ _ _ _ _ _ _ _. tt;
  fails = λ _ _ _ _ _ _ _ _ _ _ _. tt;
}

pub deep_eat : (report : Bool) (p : Phase) (i : SoFar) (c : ℕ) (q : Phase) → step_of report p i c ≡ Eat q → depth_of q ≤ suc (depth_of p)
deep_eat report p i c q e =
    let n : ℕ = depth_of p in
    let g = walk_step report i c (knows_of (within n)) (knows_of (within (suc n))) (λ o. Unit {0}) (deeper report i c n) (silent_ends (within n) i.bytes) p ((depth_within n p).0 (le_refl n)) in
    (depth_within (suc n) q).1 (subst (KnownAfter (knows_of (within (suc n))) (λ o. Unit {0})) e g)
