-- The loops by their definitions: a call less with each turn.
use Rattle.std.proofs.Common.{◌≡◌, ℕ, suc, ◌-◌, ◌<◌, ◌≤◌, Bool, true, false, List, length, ap, ◌∙◌, arith, le-leb}
use borrow.Author.Tests.{lt-leb}
use Rattle.pieces_cuttings.specs.declared.Cutting.{Cutting}
use Rattle.pieces.specs.declared.Opened.{Opened}
use Rattle.pieces.specs.Calls.{Reply, open_of}
use Rattle.pieces_calls.specs.Answers.{opened}
use Rattle.pieces_cuttings.specs.declared.Reading.{Reading}
use Rattle.pieces_cuttings.specs.Notes.{most, notes, unread, Standing, is_over, taken_by, piece_noted, end_noted, hand_over, piece_end, next_size, hand_all, hand_end, read_of}

one_less : (n : ℕ) → 0 < n → n ≡ suc (n - 1)
one_less n h = omega arith

-- ---- the bytes up to a place

module _ (source : List ℕ) (to calls : ℕ) (s : Standing) where
  pub no_calls : calls ≡ 0 → hand_over source to calls s ≡ s
  unfolding hand_over
  no_calls e = rw e

  module _ {after : Standing} (pos : 0 < calls) (e : after ≡ piece_noted source to s) where
    pub piece_over : is_over after ≡ true → hand_over source to calls s ≡ after
    unfolding hand_over
    piece_over h = rw (one_less calls pos, ← e, h)

    pub piece_taken : is_over after ≡ false → to ≤ taken_by after → hand_over source to calls s ≡ after
    unfolding hand_over
    piece_taken h l = rw (one_less calls pos, ← e, h, le-leb to (taken_by after) l)

    pub piece_on : (rest : ℕ) → rest ≡ calls - 1 → is_over after ≡ false → taken_by after < to → hand_over source to calls s ≡ hand_over source to rest after
    unfolding hand_over
    piece_on rest r h l = rw r (ap (λ (k : ℕ). hand_over source to k s) (one_less calls pos) ∙ rw (← e, h, lt-leb to (taken_by after) l))

-- ---- the whole text

module _ (source : List ℕ) (cut : Cutting) (pieces size : ℕ) (s : Standing) where
  pub no_pieces : pieces ≡ 0 → hand_all source cut pieces size s ≡ s
  unfolding hand_all
  no_pieces e = rw e

  module _ (pos : 0 < pieces) where
    pub all_over : is_over s ≡ true → hand_all source cut pieces size s ≡ s
    unfolding hand_all
    all_over h = rw (one_less pieces pos, h)

    pub all_taken : is_over s ≡ false → length source ≤ taken_by s → hand_all source cut pieces size s ≡ s
    unfolding hand_all
    all_taken h l = rw (one_less pieces pos, h, le-leb (length source) (taken_by s) l)

    pub all_on : (rest : ℕ) → rest ≡ pieces - 1 → {to next : ℕ} {after : Standing} → is_over s ≡ false → taken_by s < length source → to ≡ piece_end (length source) (taken_by s) size
        → after ≡ hand_over source to most s → next ≡ next_size cut size → hand_all source cut pieces size s ≡ hand_all source cut rest next after
    unfolding hand_all
    all_on rest r h l t e n = rw (r, n, e, t) (ap (λ (k : ℕ). hand_all source cut k size s) (one_less pieces pos) ∙ rw (h, lt-leb (length source) (taken_by s) l))

-- ---- the end

module _ (calls : ℕ) (s : Standing) where
  pub no_ends : calls ≡ 0 → hand_end calls s ≡ s
  unfolding hand_end
  no_ends e = rw e

  module _ (pos : 0 < calls) where
    pub end_over : is_over s ≡ true → hand_end calls s ≡ s
    unfolding hand_end
    end_over h = rw (one_less calls pos, h)

    pub end_on : (rest : ℕ) → rest ≡ calls - 1 → is_over s ≡ false → hand_end calls s ≡ hand_end rest (end_noted s)
    unfolding hand_end
    end_on rest r h = rw r (ap (λ (k : ℕ). hand_end k s) (one_less calls pos) ∙ rw h)

-- ---- a text, whole

pub whole_read : (source : List ℕ) (cut : Cutting) (mode : ℕ) (skip : Bool) (records counts texts : List ℕ) (o : Opened) {r : Reading} {handed last : Standing}
    → opened o ≡ open_of mode skip → r ≡ unread
    → handed ≡ hand_all source cut most cut.first (record { state = o.state; notes = notes r records counts texts })
    → last ≡ hand_end most handed → last.notes ≡ read_of source cut mode skip records counts texts
unfolding read_of
whole_read source cut mode skip records counts texts o e u h l = rw (l, h, u, ap (λ (x : Reply). x.state) e)
