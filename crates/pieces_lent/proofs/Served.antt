-- A call on words that are a code is the call on the marks that they stand for, with its marks as words; any other words are refused and
-- stay. So the code's two arms are the definition's.
use mathlib.Core.Path.{◌≡◌, refl, sym, ap, ◌∙◌}
use mathlib.Core.Bool.{Bool, true, false}
use mathlib.Core.List.{List}
use Prim.Native.Nat.{ℕ}
use Rattle.refusal.specs.Refusals as refusal
use Rattle.std.specs.Prelude.{if◌then◌else◌, None, Some}
use Rattle.laws.proofs.Choice.{impossible}
use Rattle.pieces.specs.declared.Marks.{Marks}
use Rattle.pieces.specs.declared.Pieced.{Pieced}
use Rattle.pieces.specs.declared.Got.TheVariants.{Refused}
use Rattle.pieces.specs.Calls.{Reply, text_after}
use Rattle.pieces_calls.specs.Answers.{pieced}
use Rattle.pieces_lent.specs.declared.LentState.{LentState}
use Rattle.pieces_lent.specs.declared.Told.{Told}
use Rattle.pieces_lent.specs.Coding.{standing, is_code, seen}
use Rattle.pieces_lent.specs.Calls.{Said, worded, outside, for_code, said, told_of}

-- ---- what decoding tells

seen_by : (b : Bool) {m n : Marks} → (if b then Some n else None) ≡ Some m → (b ≡ true) × (n ≡ m)
seen_by true {m} {n} e = (refl, cc)
seen_by false e = impossible cc

unseen_by : (b : Bool) (n : Marks) → (if b then Some n else None) ≡ None → b ≡ false
unseen_by true n e = impossible cc
unseen_by false n e = refl

-- ---- what a call says of the state and the text memory

abbrev pub Says : LentState → (Marks → Reply) → Told → List ℕ → List ℕ → List ℕ → Type 0
Says s f t buf text old = (said t buf text ≡ for_code s f) × (text ≡ text_after (for_code s f).what old)

module _ (s : LentState) (f : Marks → Reply) (old : List ℕ) where
  pub served : {m : Marks} {p : Pieced} {t : Told} {buf text : List ℕ} → seen s.words ≡ Some m → t ≡ told_of p
      → (pieced p buf text ≡ f m) × (text ≡ text_after (f m).what old) → Says s f t buf text old
  served {m} {p} {t} {buf} {text} e d h =
      let k = seen_by (is_code s.words) e in
      let same : for_code s f ≡ worded (f m) = rw k.0 (ap (λ (n : Marks). worded (f n)) k.1) in
      (ap (λ (u : Told). said u buf text) d ∙ ap worded h.0 ∙ sym same, h.1 ∙ ap (λ (u : Said). text_after u.what old) (sym same))

  pub unserved : {t : Told} → seen s.words ≡ None → t ≡ record { words = s.words; taken = 0; got = Refused refusal.out_of_bounds 0 }
      → Says s f t s.buf old old
  unserved {t} e d =
      let same : for_code s f ≡ outside s = rw (unseen_by (is_code s.words) (standing s.words) e) in
      (ap (λ (u : Told). said u s.buf old) d ∙ sym same, ap (λ (u : Said). text_after u.what old) (sym same))
