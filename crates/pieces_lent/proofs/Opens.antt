-- Opening, by its three answers: the words are those of a fresh state and the buffer is all 0, but for a buffer of another length.
use Prim.Native.Nat.{ℕ, ◌<◌}
use mathlib.Core.Path.{◌≡◌, refl, ap, ◌∙◌}
use mathlib.Core.Bool.{Bool}
use mathlib.Core.List.{List, []}
use native.Mathlib.Omega.{arith}
use lib.ListN.{length, replicate}
use lib.Dec.{eqb}
use borrow.Author.Tests.{eq-eqb, ne_eqb, lt-ltb, le-ltb}
use Rattle.refusal.specs.Refusals as refusal
use Rattle.laws.proofs.Choice.{if_yes, if_no}
use Rattle.items.specs.Whole.{is_mode}
use Rattle.pieces.specs.declared.Got.{Got}
use Rattle.pieces.specs.declared.Got.TheVariants.{More, Refused}
use Rattle.pieces.specs.Calls.{reply, more, refused, fresh, open_of}
use Rattle.pieces.specs.Expected.{longest}
use Rattle.pieces_lent.specs.declared.Words.{Words}
use Rattle.pieces_lent.specs.declared.Told.{Told}
use Rattle.pieces_lent.specs.Coding.{coded}
use Rattle.pieces_lent.specs.Calls.{worded, said, open_for}

-- nothing is taken
abbrev nothing_taken : Words → Got → Told
nothing_taken w g = record { words = w; taken = 0; got = g }

module _ (mode : ℕ) (skip : Bool) (buf : List ℕ) {w : Words} where
  pub opens_short : {t : Told} → (length buf ≡ longest → ⊥) → w ≡ coded (fresh 0 skip).marks → t ≡ record { words = w; taken = 0; got = Refused refusal.out_of_bounds 0 }
      → said t buf [] ≡ open_for mode skip buf
  unfolding open_for
  opens_short {t} h e d =
      if_no (eqb (length buf) longest) _ _ (ne_eqb _ _ h)
      (ap (λ (u : Told). said u buf []) d ∙ ap (λ (v : Words). said (nothing_taken v (Refused refusal.out_of_bounds 0)) buf []) e)

  module _ {bytes : List ℕ} (h : length buf ≡ longest) (cleared : bytes ≡ replicate (length buf) 0) where
    pub opens_no_mode : {t : Told} → 1 < mode → w ≡ coded (fresh 0 skip).marks → t ≡ record { words = w; taken = 0; got = Refused refusal.no_such_mode mode }
        → said t bytes [] ≡ open_for mode skip buf
    unfolding open_for open_of
    opens_no_mode {t} far e d =
        if_yes (eqb (length buf) longest) _ _ (eq-eqb _ _ h)
        (ap (λ (u : Told). said u bytes []) d
        ∙ ap (λ (v : Words). said (nothing_taken v (Refused refusal.no_such_mode mode)) bytes []) e
        ∙ ap (λ (b : List ℕ). said (nothing_taken (coded (fresh 0 skip).marks) (Refused refusal.no_such_mode mode)) b []) (cleared ∙ ap (λ (n : ℕ). replicate n 0) h)
        ∙ ap worded (if_no (is_mode mode) (reply 0 more (fresh mode skip)) (reply 0 (refused refusal.no_such_mode mode) (fresh 0 skip)) (le-ltb mode 2 (omega arith)) refl))

    pub opens : mode < 2 → w ≡ coded (fresh mode skip).marks → said (record { words = w; taken = 0; got = More }) bytes [] ≡ open_for mode skip buf
    unfolding open_for open_of
    opens near e =
        if_yes (eqb (length buf) longest) _ _ (eq-eqb _ _ h)
        (ap (λ (v : Words). said (nothing_taken v More) bytes []) e
        ∙ ap (λ (b : List ℕ). said (nothing_taken (coded (fresh mode skip).marks) More) b []) (cleared ∙ ap (λ (n : ℕ). replicate n 0) h)
        ∙ ap worded (if_yes (is_mode mode) (reply 0 more (fresh mode skip)) (reply 0 (refused refusal.no_such_mode mode) (fresh 0 skip)) (lt-ltb mode 2 near) refl))
