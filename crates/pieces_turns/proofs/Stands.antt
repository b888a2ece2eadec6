-- Small facts of the turns that the proofs of the functions share.
use Prim.Native.Nat.{ℕ, ◌+◌}
use mathlib.Core.Path.{◌≡◌, refl, sym, subst}
use mathlib.Core.List.{List}
use lib.Dec.{ltb}
use Rattle.laws.proofs.Choice.{if_all}
use Rattle.chars.specs.Encode.{width}
use Rattle.items.specs.declared.Phase.{Phase}
use Rattle.items.specs.declared.Next.TheVariants.{Eat}
use Rattle.pieces.specs.declared.Stage.{Stage}
use Rattle.pieces.specs.declared.State.{State}
use Rattle.pieces.specs.Expected.{longest}
use Rattle.pieces.specs.Calls.{Turn, on_next, on_stage}
use Rattle.pieces_giving.specs.Answers.{text_turned}

-- a character that belongs to an item gives nothing, or a stop
pub eat_quiet : (s : State) (st c : ℕ) (q : Phase) (old : List ℕ) → text_turned (on_next s st c (Eat q)) old ≡ old
eat_quiet s st c q old = if_all (λ (t : Turn). text_turned t old ≡ old) (ltb longest (s.marks.len + width c)) refl refl

-- what holds of a stage holds of the one where the reader stands
pub on_stage_lem : (s : State) (c : ℕ) (old : List ℕ) (g h : Stage) → g ≡ h → {t : Turn} {now : List ℕ}
    → (t ≡ on_stage s h c) × (now ≡ text_turned (on_stage s h c) old) → (t ≡ on_stage s g c) × (now ≡ text_turned (on_stage s g c) old)
on_stage_lem s c old g h e {t} {now} k = subst (λ (x : Stage). (t ≡ on_stage s x c) × (now ≡ text_turned (on_stage s x c) old)) (sym e) k
