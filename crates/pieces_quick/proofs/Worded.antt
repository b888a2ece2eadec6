-- What words that are ready stand for, and that a call on the words of a spot feeds on from there.
use Prim.Native.Nat.{ℕ, zero, suc, ◌+◌, ◌^◌, ◌≤◌, ◌<◌}
use mathlib.Core.Path.{◌≡◌, refl, sym, ap, ◌∙◌}
use mathlib.Core.Bool.{true, false}
use mathlib.Core.List.{List, [], ◌∷◌}
use lib.ListN.{length}
use lib.Dec.{eqb, ltb}
use native.Mathlib.Omega.{arith}
use borrow.Author.Tests.{eq-eqb, le-leb, lt-ltb, le-ltb}
use Rattle.items.specs.Whole.{limit}
use Rattle.pieces.specs.declared.Stage.{Stage}
use Rattle.pieces.specs.declared.Stage.TheVariants.{Opening, Pound, FirstLine, Idle, Busy, Waiting, Stopped}
use Rattle.pieces.specs.declared.Marks.{Marks}
use Rattle.pieces.specs.declared.State.{State}
use Rattle.pieces.specs.Expected.{longest}
use Rattle.pieces.specs.Bounds.{is_in_bounds}
use Rattle.pieces.specs.Calls.{Turn, on, off, Reply, reply, with_depth, turn_of, after, feed_of, piece_stage, piece_of}
use Rattle.pieces.proofs.Kept.{both}
use Rattle.std.specs.Prelude.{if◌then◌else◌}
use Rattle.laws.proofs.Choice.{no_yes, if_all}
use Rattle.pieces_giving.specs.Answers.{state_of}
use Rattle.pieces_turns.specs.Inner.{reads_on, Sound}
use Rattle.pieces_lent.specs.declared.Words.{Words}
use Rattle.pieces_lent.specs.declared.LentState.{LentState}
use Rattle.pieces_lent.specs.Coding.{stage_of, stage_row, coded, bit, narrow, is_code, standing}
use Rattle.pieces_lent.specs.Calls.{Said, lent, worded, piece_for}
use Rattle.pieces_lent.proofs.Back.{standing-coded, coded_is_code}
use Rattle.pieces_spots.specs.declared.PieceSpot.{PieceSpot}
use Rattle.pieces_spots.specs.Spots.{row_at, marks_at, Fits}
use Rattle.pieces_quick.specs.Words.{Ready, base, spot_of, stood}
use Rattle.pieces_quick.specs.Gives.{later}

-- ---- the words of a spot

pub bit_back : (n : ℕ) → n ≤ 1 → bit (eqb n 1) ≡ n
bit_back zero h = refl
bit_back (suc zero) h = refl
bit_back (suc (suc n)) h = absurd (omega arith)

pub words_are : (w : Words) {skip ended one two count need low high code : ℕ} → skip ≡ w.skip → ended ≡ w.ended → one ≡ w.one → two ≡ w.two → count ≡ w.count
    → need ≡ w.need → low ≡ w.low → high ≡ w.high → code ≡ w.code
    → ◌≡◌ {A = Words} (record {
      mode = w.mode;
      skip = skip;
      ended = ended;
      stage = w.stage;
      start = w.start;
      which = w.which;
      detail = w.detail;
      one = one;
      two = two;
      at = w.at;
      count = count;
      need = need;
      low = low;
      high = high;
      code = code;
      from = w.from;
      to = w.to;
      len = w.len;
      depth = w.depth;
    }) w
words_are w e f g h i j k l m = rw (e, f, g, h, i, j, k, l, m)

module _ (w : Words) (left : ℕ) (R : Ready w left) where
  pub stood-coded : (s : PieceSpot) (d : ℕ) → stage_row (stage_of (row_at s)) ≡ row_at s → coded (with_depth d (marks_at (base w) s)) ≡ stood w s d
  unfolding coded
  stood-coded s d rows = rw (rows, bit_back w.skip R.skip)

  pub first_words : stood w (spot_of w) w.depth ≡ w
  first_words =
      words_are w refl (sym R.ended) (sym R.one) (sym R.two) (sym R.count) (sym R.need) (sym R.low) (sym R.high) (sym R.code)

  -- the words that are ready are within their bounds
  module _ (buf text : List ℕ) (full : length buf ≡ longest) (room : longest ≤ length text) where
    pub first_sound : Sound (marks_at (base w) (spot_of w)) buf text
    unfolding is_in_bounds
    first_sound = record {
      bounded =
          both (both (both (both (both (both (both (lt-ltb w.mode 2 R.mode) (le-leb (w.at + 0) limit (omega (arith, R.far))))
          (le-leb w.len longest R.small)) (le-leb w.from limit R.from)) (le-leb w.to limit R.to))
          (le-leb (w.depth + w.len) w.at R.deep)) refl) (R.known.bounds (marks_at (base w) (spot_of w)) refl refl);
      calm = R.known.calm;
      full = full;
      room = room;
    }

    pub first_fits : (piece : List ℕ) → left ≡ length piece → Fits (spot_of w) buf piece
    first_fits piece e = record {
      full = full;
      inside = omega arith;
      far = omega (arith, R.far, e);
      small = R.small;
      held = R.known.held;
      rows = R.known.rows;
      which = R.known.narrow;
      detail = R.known.slim;
    }

  -- the marks of a spot are words
  module _ (s : PieceSpot) (rows : stage_row (stage_of (row_at s)) ≡ row_at s) (which : s.which < 2 ^ 32) (detail : s.detail < 2 ^ 32) where
    pub spot_narrow : narrow (coded (marks_at (base w) s)) ≡ true
    unfolding narrow coded
    spot_narrow =
        rw rows
        (both (both (both (both (both (both (both (lt-ltb w.mode (2 ^ 32) (omega (arith, R.mode))) (lt-ltb s.which (2 ^ 32) which))
        (lt-ltb s.detail (2 ^ 32) detail)) refl) refl) refl) refl) (lt-ltb w.depth (2 ^ 32) (omega (arith, R.deep, R.far))))

    pub spot_code : is_code (coded (marks_at (base w) s)) ≡ true
    spot_code = coded_is_code (marks_at (base w) s) spot_narrow

-- ---- a call on the words of a state that reads on feeds it

stage_feeds : (s : State) (g : Stage) (bs : List ℕ) → reads_on g ≡ true → s.marks.ended ≡ false → piece_stage s g bs ≡ feed_of s bs 0
stage_feeds s Opening bs c e = rw e
stage_feeds s Pound bs c e = rw e
stage_feeds s FirstLine bs c e = rw e
stage_feeds s Idle bs c e = rw e
stage_feeds s (Busy st p) bs c e = rw e
stage_feeds s (Waiting st b) bs c e = no_yes c
stage_feeds s (Stopped n p) bs c e = no_yes c

module _ (m : Marks) (buf text : List ℕ) (h : Sound m buf text) (going : m.ended ≡ false) (code : is_code (coded m) ≡ true) where
  pub call_feeds : (bs : List ℕ) → piece_for (lent (coded m) buf) bs (length text) ≡ worded (feed_of (state_of m buf) bs 0)
  unfolding piece_for piece_of
  call_feeds bs =
      rw (code, standing-coded m, eq-eqb (length buf) longest h.full, h.bounded, le-ltb (length text) longest h.room)
      (ap worded (stage_feeds (state_of m buf) m.stage bs h.calm going))

-- ---- so many bytes taken before

pub feed_later : (bs : List ℕ) (s : State) (k n : ℕ) → later n (worded (feed_of s bs k)) ≡ worded (feed_of s bs (k + n))
unfolding feed_of
feed_later [] s k n = refl
feed_later (b ∷ bs) s k n = go (λ u j. feed_later bs u j n) (turn_of s b)
  where
    go : ((u : State) (j : ℕ) → later n (worded (feed_of u bs j)) ≡ worded (feed_of u bs (j + n))) → (t : Turn)
        → later n (worded (after t (λ u. feed_of u bs (k + 1)) (k + 1))) ≡ worded (after t (λ u. feed_of u bs (k + n + 1)) (k + n + 1))
    go more (on u) = let e : k + 1 + n ≡ k + n + 1 = omega arith in more u (k + 1) ∙ ap (λ (x : ℕ). worded (feed_of u bs x)) e
    go more (off u w) = let e : k + 1 + n ≡ k + n + 1 = omega arith in ap (λ (x : ℕ). worded (reply x w u)) e

-- no more bytes are taken than there are
pub feed_most : (bs : List ℕ) (s : State) (n : ℕ) → (feed_of s bs n).taken ≤ n + length bs
unfolding feed_of
feed_most [] s n = omega arith
feed_most (b ∷ bs) s n = go (λ u. feed_most bs u (n + 1)) (turn_of s b)
  where
    go : ((u : State) → (feed_of u bs (n + 1)).taken ≤ n + 1 + length bs) → (t : Turn) → (after t (λ u. feed_of u bs (n + 1)) (n + 1)).taken ≤ n + length (b ∷ bs)
    go more (on u) = omega (arith, more u)
    go more (off u w) = omega arith

stage_most : (s : State) (g : Stage) (bs : List ℕ) → (piece_stage s g bs).taken ≤ length bs
stage_most s g bs = go g
  where
    most : (feed_of s bs 0).taken ≤ length bs
    most = omega (arith, feed_most bs s 0)

    unless : (r : Reply) → r.taken ≡ 0 → (if s.marks.ended then r else feed_of s bs 0).taken ≤ length bs
    unless r e = if_all (λ (x : Reply). x.taken ≤ length bs) s.marks.ended (omega (arith, e)) most

    go : (h : Stage) → (piece_stage s h bs).taken ≤ length bs
    go Opening = unless _ refl
    go Pound = unless _ refl
    go FirstLine = unless _ refl
    go Idle = unless _ refl
    go (Busy st p) = unless _ refl
    go (Waiting st b) = if_all (λ (x : Reply). x.taken ≤ length bs) s.marks.ended (omega arith) (omega arith)
    go (Stopped n p) = omega arith

call_most : (s : State) (bs : List ℕ) (room : ℕ) → (piece_of s bs room).taken ≤ length bs
unfolding piece_of
call_most s bs room =
    if_all (λ (x : Reply). x.taken ≤ length bs) (is_in_bounds s)
    (if_all (λ (x : Reply). x.taken ≤ length bs) (ltb room longest) (omega arith) (stage_most s s.marks.stage bs))
    (omega arith)

-- nor by a call
pub piece_most : (s : LentState) (bs : List ℕ) (room : ℕ) → (piece_for s bs room).taken ≤ length bs
unfolding piece_for
piece_most s bs room =
    if_all (λ (x : Said). x.taken ≤ length bs) (is_code s.words)
    (if_all (λ (x : Reply). x.taken ≤ length bs) (eqb (length s.buf) longest) (call_most (state_of (standing s.words) s.buf) bs room) (omega arith))
    (omega arith)
