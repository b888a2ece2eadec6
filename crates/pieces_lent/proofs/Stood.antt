-- A call on words that stand for a state that reads on is made on that state.
use Rattle.std.proofs.Common.{Some}
use Prim.Native.Nat.{ℕ, ◌<◌}
use mathlib.Core.Path.{◌≡◌, refl, sym, ap, ◌∙◌}
use mathlib.Core.Bool.{true}
use mathlib.Core.List.{List}
use lib.ListN.{length}
use borrow.Author.Tests.{eq-eqb, le-ltb, ltb-true}
use Rattle.laws.proofs.Choice.{no_yes, and_true}
use Rattle.pieces.specs.declared.Stage.{Stage}
use Rattle.pieces.specs.declared.Stage.TheVariants.{Opening, Pound, FirstLine, Idle, Busy, Waiting, Stopped}
use Rattle.pieces.specs.declared.Marks.{Marks}
use Rattle.pieces.specs.declared.State.{State}
use Rattle.pieces.specs.Expected.{longest}
use Rattle.pieces.specs.Calls.{Reply, text_after, piece_stage, piece_of}
use Rattle.pieces_calls.specs.Answers.{piece_in}
use Rattle.pieces_giving.specs.Answers.{state_of}
use Rattle.pieces_turns.specs.Inner.{reads_on, Sound}
use Rattle.pieces_lent.specs.declared.Words.{Words}
use Rattle.pieces_lent.specs.Coding.{stage_count, Narrowed, standing, is_code, seen}
use Rattle.pieces_lent.proofs.Back.{narrowed}

-- what the numbers of a code are held to
pub code_narrow : (w : Words) → is_code w ≡ true → (w.stage < stage_count) × Narrowed w
unfolding is_code
code_narrow w e =
    let a = and_true _ _ e in (ltb-true _ _ (and_true _ _ a.1).0, narrowed w (and_true _ _ (and_true _ _ a.0).0).0)

pub code_seen : (w : Words) → is_code w ≡ true → seen w ≡ Some (standing w)
code_seen w e = rw e

-- every stage that reads on does as that between items
stage_on : (s : State) (g : Stage) (bs : List ℕ) → reads_on g ≡ true → piece_stage s g bs ≡ piece_stage s Idle bs
stage_on s Opening bs c = refl
stage_on s Pound bs c = refl
stage_on s FirstLine bs c = refl
stage_on s Idle bs c = refl
stage_on s (Busy st p) bs c = refl
stage_on s (Waiting st b) bs c = no_yes c
stage_on s (Stopped n p) bs c = no_yes c

module _ (m : Marks) (buf text : List ℕ) (h : Sound m buf text) (bs : List ℕ) where
  call_on : piece_in m buf bs (length text) ≡ piece_stage (state_of m buf) Idle bs
  unfolding piece_of
  call_on =
      rw (eq-eqb (length buf) longest h.full, h.bounded, le-ltb (length text) longest h.room) (stage_on (state_of m buf) m.stage bs h.calm)

  pub called_on : {r : Reply} {then : List ℕ}
      → (r ≡ piece_stage (state_of m buf) Idle bs) × (then ≡ text_after (piece_stage (state_of m buf) Idle bs).what text)
      → (r ≡ piece_in m buf bs (length text)) × (then ≡ text_after (piece_in m buf bs (length text)).what text)
  called_on e = (e.0 ∙ sym call_on, e.1 ∙ ap (λ (x : Reply). text_after x.what text) (sym call_on))
