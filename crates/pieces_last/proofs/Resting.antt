-- Where no item is held the end gives nothing more.
use Prim.Native.Nat.{◌≤◌}
use mathlib.Core.Path.{◌≡◌}
use lib.Dec.{eqb}
use native.Mathlib.Omega.{arith}
use borrow.Author.Tests.{eqb-true, eqb-false}
use Rattle.laws.proofs.Choice.{by_bool}
use Rattle.pieces_lent.specs.declared.Words.{Words}
use Rattle.pieces_lent.specs.Coding.{stage_of}
use Rattle.pieces_quick.specs.Words.{Unheld}
use Rattle.pieces_quick.proofs.Knows.{idle_stands, line_stands, opening_stands}
use Rattle.pieces_last.specs.Ends.{Stays}

module _ (w : Words) (h : Unheld w) where
  pub opening_stays : w.stage ≡ 0 → w.at ≡ 0 → Stays w
  unfolding stage_of
  opening_stays k first = record { stands = opening_stands w h k first; rests = λ s. rw k }

  line_stays : w.stage ≡ 2 → Stays w
  unfolding stage_of
  line_stays k = record { stands = line_stands w h k; rests = λ s. rw k }

  idle_stays : w.stage ≡ 3 → Stays w
  unfolding stage_of
  idle_stays k = record { stands = idle_stands w h k; rests = λ s. rw k }

  pub between_stays : w.stage ≤ 3 → 2 ≤ w.stage → Stays w
  between_stays most least =
      by_bool (eqb w.stage 2)
      (λ e. line_stays (eqb-true w.stage 2 e))
      (λ e. idle_stays (omega (arith, eqb-false w.stage 2 e)))
