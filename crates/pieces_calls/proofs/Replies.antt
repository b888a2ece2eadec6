-- What the calls' proofs share: how a reply follows from a turn, and which reply the tests choose.
use Prim.Native.Nat.{ℕ, ◌+◌, ◌≤◌, ◌<◌, ◌^◌}
use mathlib.Core.Path.{◌≡◌, refl, sym, ap, ◌∙◌, subst}
use mathlib.Core.Bool.{Bool, true, false, ◌&&◌}
use mathlib.Core.List.{List, []}
use mathlib.Core.Logic.{⊎_elim}
use lib.ListN.{length, get_or, drop, drop_of_length-le}
use lib.Seq.{drop-cons}
use lib.Dec.{eqb}
use native.Mathlib.Numerals.{add-one}
use native.Mathlib.Omega.{arith}
use borrow.Author.Tests.{leb-true}
use Rattle.std.specs.Prelude.{if◌then◌else◌, None, Option, Some}
use Rattle.laws.proofs.Choice.{if_all, and_true, no_yes, yes_no}
use Rattle.chars.specs.Encode.{width, is_scalar}
use Rattle.chars.proofs.Scalar.{scalar_true}
use Rattle.items.specs.Whole.{limit}
use Rattle.pieces.specs.declared.Stage.{Stage}
use Rattle.pieces.specs.declared.Stage.TheVariants.{Idle, Waiting}
use Rattle.pieces.specs.declared.Marks.{Marks}
use Rattle.pieces.specs.declared.State.{State}
use Rattle.pieces.specs.declared.Got.{Got}
use Rattle.pieces.specs.declared.Got.TheVariants.{Item, More, Finished, Refused}
use Rattle.pieces.specs.Expected.{longest}
use Rattle.pieces.specs.Bounds.{is_place, beyond_bounds, held_bounds, stage_bounds, is_in_bounds}
use Rattle.pieces.specs.Calls.{What, Reply, reply, Turn, on, off, text_after, turn_of, after, feed_of, piece_stage, replied, end_stage, end_unless_stopped}
use Rattle.pieces_giving.specs.Answers.{what_of, state_of, turn_by, text_turned}
use Rattle.pieces_calls.specs.Answers.{is_more, end_declared}
use Rattle.pieces_giving.specs.Inner.{HoldsItem, BeyondFits}
use Rattle.pieces_bounds.proofs.Bounded.{numbers}
use Rattle.pieces_turns.proofs.Told.{told_numbers, told_held}

-- ---- one byte of a piece

fed : (s : State) (bs : List ℕ) (i : ℕ) → i < length bs
    → feed_of s (drop i bs) i ≡ after (turn_of s (get_or bs i 0)) (λ t. feed_of t (drop (i + 1) bs) (i + 1)) (i + 1)
unfolding feed_of
fed s bs i h = rw (drop-cons bs i 0 h, add-one i)

module _ (s : State) (bs : List ℕ) (i : ℕ) (h : i < length bs) (n : Marks) (buf now old : List ℕ) where
  pub fed_on : (got : Got) → is_more got ≡ true → turn_by got (state_of n buf) now ≡ turn_of s (get_or bs i 0) → now ≡ text_turned (turn_of s (get_or bs i 0)) old
      → (on (state_of n buf) ≡ turn_of s (get_or bs i 0)) × (feed_of (state_of n buf) (drop (i + 1) bs) (i + 1) ≡ feed_of s (drop i bs) i) × (now ≡ old)
  fed_on (Item r) m e t = no_yes m
  fed_on More m e t =
      (e, ap (λ (x : Turn). after x (λ u. feed_of u (drop (i + 1) bs) (i + 1)) (i + 1)) e ∙ sym (fed s bs i h), t ∙ ap (λ (x : Turn). text_turned x old) (sym e))
  fed_on Finished m e t = no_yes m
  fed_on (Refused k p) m e t = no_yes m

  fed_gives : (w : What) → off (state_of n buf) w ≡ turn_of s (get_or bs i 0) → now ≡ text_turned (turn_of s (get_or bs i 0)) old
      → (reply (i + 1) w (state_of n buf) ≡ feed_of s (drop i bs) i) × (now ≡ text_after w old)
  fed_gives w e t =
      (ap (λ (x : Turn). after x (λ u. feed_of u (drop (i + 1) bs) (i + 1)) (i + 1)) e ∙ sym (fed s bs i h), t ∙ ap (λ (x : Turn). text_turned x old) (sym e))

  pub fed_off : (got : Got) → is_more got ≡ false → turn_by got (state_of n buf) now ≡ turn_of s (get_or bs i 0) → now ≡ text_turned (turn_of s (get_or bs i 0)) old
      → (reply (i + 1) (what_of got now) (state_of n buf) ≡ feed_of s (drop i bs) i) × (now ≡ text_after (what_of got now) old)
  fed_off (Item r) m e t = fed_gives (what_of (Item r) now) e t
  fed_off More m e t = yes_no m
  fed_off Finished m e t = fed_gives (what_of Finished now) e t
  fed_off (Refused k p) m e t = fed_gives (what_of (Refused k p) now) e t

pub fed-all : (s : State) (bs : List ℕ) (i : ℕ) → length bs ≤ i → reply i (what_of More []) s ≡ feed_of s (drop i bs) i
unfolding feed_of
fed-all s bs i h = rw (drop_of_length-le bs h)

-- what is given is what the whole call gives, from the same text memory
pub answers : (r q : Reply) (now old first : List ℕ) → r ≡ q → now ≡ text_after r.what old → old ≡ first → (r ≡ q) × (now ≡ text_after q.what first)
answers r q now old first e t f = (e, t ∙ ap (text_after r.what) f ∙ ap (λ (x : Reply). text_after x.what first) e)

-- ---- the reply that a test chooses

module _ (old : List ℕ) (b : Bool) (x y : Reply) where
  pub reply_yes : b ≡ true → {r : Reply} {now : List ℕ} → (r ≡ x) × (now ≡ text_after x.what old)
      → (r ≡ (if b then x else y)) × (now ≡ text_after (if b then x else y).what old)
  reply_yes e k = rw e k

  pub reply_no : b ≡ false → {r : Reply} {now : List ℕ} → (r ≡ y) × (now ≡ text_after y.what old)
      → (r ≡ (if b then x else y)) × (now ≡ text_after (if b then x else y).what old)
  reply_no e k = rw e k

pub piece_stage_lem : (s : State) (bs old : List ℕ) (g h : Stage) → g ≡ h → {r : Reply} {now : List ℕ}
    → (r ≡ piece_stage s h bs) × (now ≡ text_after (piece_stage s h bs).what old) → (r ≡ piece_stage s g bs) × (now ≡ text_after (piece_stage s g bs).what old)
piece_stage_lem s bs old g h e {r} {now} k = subst (λ (x : Stage). (r ≡ piece_stage s x bs) × (now ≡ text_after (piece_stage s x bs).what old)) (sym e) k

pub end_stage_lem : (s : State) (old : List ℕ) (g h : Stage) → g ≡ h → {r : Reply} {now : List ℕ}
    → (r ≡ end_unless_stopped s h) × (now ≡ text_after (end_unless_stopped s h).what old) → (r ≡ end_unless_stopped s g) × (now ≡ text_after (end_unless_stopped s g).what old)
end_stage_lem s old g h e {r} {now} k = subst (λ (x : Stage). (r ≡ end_unless_stopped s x) × (now ≡ text_after (end_unless_stopped s x).what old)) (sym e) k

pub reply_both : (n : ℕ) {w v : What} {s t : State} → w ≡ v → s ≡ t → reply n w s ≡ reply n v t
reply_both n e f = cc

-- ---- the end

module _ (n : Marks) (buf now old : List ℕ) where
  pub end_turn : (got : Got) (t : Turn) → turn_by got (state_of n buf) now ≡ t → now ≡ text_turned t old
      → (reply 0 (what_of (if is_more got then Finished else got) now) (state_of n buf) ≡ replied t) × (now ≡ text_after (replied t).what old)
  end_turn (Item r) t e h = (ap replied e, h ∙ ap (λ (x : Turn). text_turned x old) (sym e) ∙ ap (λ (x : Turn). text_after (replied x).what old) e)
  end_turn More t e h = (ap replied e, h ∙ ap (λ (x : Turn). text_turned x old) (sym e) ∙ ap (λ (x : Turn). text_after (replied x).what old) e)
  end_turn Finished t e h = (ap replied e, h ∙ ap (λ (x : Turn). text_turned x old) (sym e) ∙ ap (λ (x : Turn). text_after (replied x).what old) e)
  end_turn (Refused k p) t e h = (ap replied e, h ∙ ap (λ (x : Turn). text_turned x old) (sym e) ∙ ap (λ (x : Turn). text_after (replied x).what old) e)

pub idle_quiet : (s : State) (old : List ℕ) → old ≡ text_after (end_stage s Idle).what old
idle_quiet s old = if_all (λ (r : Reply). old ≡ text_after r.what old) (eqb s.marks.part.count 0) refl refl

pub held_declared : (m : Marks) (buf text : List ℕ) (start : ℕ) → HoldsItem m buf text start → HoldsItem (end_declared m) buf text start
held_declared m buf text start h = record {
  full = h.full;
  room = h.room;
  some = h.some;
  small = h.small;
  ends = h.ends;
  far = h.far;
  from = h.from;
  to = h.to;
}

-- ---- a pair whose second item waits

scalar_small : (c : ℕ) → is_scalar c ≡ true → c < 2 ^ 21
scalar_small c e = ⊎_elim (λ h. omega arith) (λ h. omega arith) (scalar_true c e)

beyond_bounded : (b : Option ℕ) (at : ℕ) → beyond_bounds b at ≡ true → BeyondFits b at
beyond_bounded None at h = tt
beyond_bounded (Some c) at h =
    let f = and_true (is_scalar c) (is_place (at + width c)) h in
    record { far = leb-true (at + width c) limit f.1; small = scalar_small c f.0 }

pub held_waiting : (s : State) (text : List ℕ) → is_in_bounds s ≡ true → length s.buf ≡ longest → longest ≤ length text
    → (st : ℕ) (b : Option ℕ) → s.marks.stage ≡ Waiting st b → HoldsItem s.marks s.buf text st × BeyondFits b s.marks.at
held_waiting s text bounded full room st b e =
    let t = told_numbers s bounded in
    let n = numbers s.marks t.0 in
    let g = subst (λ (x : Stage). stage_bounds x s.marks ≡ true) e t.2 in
    let h = and_true (held_bounds st s.marks 2 && eqb s.marks.part.count 0) (beyond_bounds b s.marks.at) g in
    let k = and_true (held_bounds st s.marks 2) (eqb s.marks.part.count 0) h.0 in
    let w = told_held st s.marks 2 k.0 in (
      record {
        full = full;
        room = room;
        some = omega (arith, w.1);
        small = n.small;
        ends = w.0;
        far = omega (arith, n.far);
        from = n.from;
        to = n.to;
      },
      beyond_bounded b s.marks.at h.1,
    )
