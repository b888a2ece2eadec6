-- A caller over slices and numbers hears what a caller over a state by value hears: what a call gives can be told by numbers (proofs/Told), each
-- call is made on the state that the memory holds (crate `exports`), and a lent call does what the call by value does (crate `pieces_lent`). So demand 3
-- holds of the memories.
use Prim.Native.Nat.{ℕ, zero, suc, ◌+◌, ◌*◌, ◌-◌, ◌≤◌, ◌<◌}
use mathlib.Core.Path.{◌≡◌, refl, sym, ap, subst, ◌∙◌}
use mathlib.Core.Bool.{Bool, true, false}
use mathlib.Core.List.{List, [], ◌∷◌}
use lib.ListN.{length, take, drop, get_or, length-drop, get_or-append}
use lib.Seq.{take_at}
use lib.Dec.{eqb, leb, ltb}
use native.Mathlib.Omega.{arith}
use borrow.Author.Tests.{leb-true, le-ltb, eqb-true, ne_eqb}
use Rattle.laws.specs.Lent.{written}
use Rattle.laws.proofs.Choice.{and_true}
use Rattle.laws.proofs.Lent.{length-written}
use Rattle.refusal.specs.Refusals as refusal
use Rattle.chars.specs.Encode.{lay}
use Rattle.items.specs.Items.{record_words}
use Rattle.items.specs.Whole.{in_report}
use Rattle.pieces.specs.declared.State.{State}
use Rattle.pieces.specs.Calls.{What, item, more, finished, refused, Reply, text_after, open_of, piece_of, end_of}
use Rattle.pieces.specs.Drive.{heed, unless_taken, piece_calls, end_calls, hand_over, drive, joined}
use Rattle.pieces.specs.Expected.{Expected, expected, longest}
use Rattle.pieces.specs.Given.{Given}
use Rattle.pieces.specs.Produced as by
use Rattle.pieces.proofs.Demand.{demand_3}
use Rattle.pieces.proofs.Fits.{text_fits_lem, end_text_fits}
use Rattle.pieces_lent.specs.declared.LentState.{LentState}
use Rattle.pieces_lent.specs.Calls.{Said, lend, worded, piece_for, end_for}
use Rattle.pieces_lent.proofs.Same.{same_open, same_piece, same_end, is_full, unless_same}
use Rattle.exports.specs.Held.{Holds}
use Rattle.exports.specs.Piece.{listed, is_a_state, state_words, open_left, Memory, memory, Left, left, what_number, what_place, record_after, gives, is_room, called, piece_left, end_left}
use Rattle.exports.proofs.Held.{open_held, call_held, next_held}
use Rattle.exports.proofs.Left.{room_record}
use Rattle.exports_theorems.specs.Flat.{past_word, heard_in, taken_in, piece_calls_in, end_calls_in, hand_over_in, opened_in, drive_in}
use Rattle.exports_theorems.proofs.Told.{Tells, call_tells, end_call_tells}

-- ---- memory read out

laid_two : (a b : ℕ) (old : List ℕ) → 2 ≤ length old → lay (a ∷ b ∷ []) old ≡ a ∷ b ∷ drop 2 old
unfolding lay
laid_two a b old h = let e : ltb (length old) (length (a ∷ b ∷ [])) ≡ false = le-ltb (length old) 2 h in rw e

room_values : (i v : ℕ) → is_room i v ≡ true → 2 ≤ v
room_values i v h = leb-true 2 v (and_true (leb record_words i) (leb 2 v) h).1

-- an item is read out of the memory that it was laid into
item_read : (g : Given) (text i : List ℕ) → length g.words ≡ record_words → get_or g.words past_word 0 ≡ length g.text
    → item (record { words = take record_words (written g.words i); text = take (get_or (written g.words i) past_word 0) (written g.text text) }) ≡ item g
item_read g text i ten last =
    let a : take record_words (written g.words i) ≡ g.words = take_at g.words (drop (length g.words) i) record_words ten in
    let b : get_or (written g.words i) past_word 0 ≡ length g.text =
    get_or-append g.words (drop (length g.words) i) 0 past_word (omega (arith, ten)) ∙ last in
    let c : take (get_or (written g.words i) past_word 0) (written g.text text) ≡ g.text =
    ap (λ (k : ℕ). take k (written g.text text)) b ∙ take_at g.text (drop (length g.text) text) (length g.text) refl in
    ap (λ (w : List ℕ). item (record { words = w; text = take (get_or (written g.words i) past_word 0) (written g.text text) })) a
    ∙ ap (λ (t : List ℕ). item (record { words = g.words; text = t })) c

-- what was given is heard
heard_what : (w : What) (n : ℕ) (buf words text i values : List ℕ) → Tells w → 2 ≤ length values
    → heard_in (left (what_number w) (memory buf words (text_after w text) (record_after w i) (lay (what_place w ∷ n ∷ []) values))) ≡ w
heard_what (item g) n buf words text i values h two = item_read g text i h.0 h.1
heard_what more n buf words text i values h two = refl
heard_what finished n buf words text i values h two = refl
heard_what (refused m p) n buf words text i values h two =
    rw (ne_eqb m refusal.item (λ e. omega arith), ne_eqb m refusal.more (λ e. omega arith), ne_eqb m refusal.finished (λ e. omega arith))
    (ap (λ (l : List ℕ). refused m (get_or l 0 0)) (laid_two p n values two))

-- ---- memory keeps its lengths

text-length : (w : What) (old : List ℕ) → ((g : Given) → w ≡ item g → length g.text ≤ longest) → longest ≤ length old
    → length (text_after w old) ≡ length old
text-length (item g) old fits wide = length-written g.text old (omega (arith, fits g refl, wide))
text-length more old fits wide = refl
text-length finished old fits wide = refl
text-length (refused n p) old fits wide = refl

record_length : (w : What) (old : List ℕ) → Tells w → record_words ≤ length old → length (record_after w old) ≡ length old
record_length (item g) old h room = length-written g.words old (omega (arith, h.0, room))
record_length more old h room = refl
record_length finished old h room = refl
record_length (refused n p) old h room = refl

values_length : (a b : ℕ) (old : List ℕ) → 2 ≤ length old → length (lay (a ∷ b ∷ []) old) ≡ length old
values_length a b old h = ap length (laid_two a b old h) ∙ omega (arith, h, length-drop 2 old)

-- ---- one call

-- a memory with room that holds a state, which the calls by value produced; `room` is the length of its text memory
record Ready (room : ℕ) (t : State) (m : Memory) : Type 0 where
  produced : by.Produced t
  holds : Holds m (lend t)
  roomy : is_room (length m.item) (length m.values) ≡ true
  text : length m.text ≡ room

-- a call that answers u by value
module _ (room : ℕ) (t : State) (m : Memory) (r : Ready room t m) (wide : longest ≤ room) (call : LentState → Said) (u : Reply) (same : call (lend t) ≡ worded u)
    (made : by.Produced u.state) (tells : Tells u.what) (fits : (g : Given) → u.what ≡ item g → length g.text ≤ longest) where
  two : 2 ≤ length m.values
  two = room_values (length m.item) (length m.values) r.roomy

  so : called m call ≡ gives m (worded u)
  so = call_held m (lend t) call r.holds r.roomy ∙ ap (gives m) same

  heard_so : heard_in (called m call) ≡ u.what
  heard_so = ap heard_in so ∙ heard_what u.what u.taken u.state.buf (written (listed (lend u.state).words) m.words) m.text m.item m.values tells two

  taken_so : taken_in (called m call) ≡ u.taken
  taken_so = ap taken_in so ∙ ap (λ (l : List ℕ). get_or l 1 0) (laid_two (what_place u.what) u.taken m.values two)

  ready_so : Ready room u.state (called m call).memory
  ready_so =
      record {
        produced = made;
        holds =
            subst (Holds (called m call).memory) (ap (λ (s : Said). s.state) same)
            (next_held m (lend t) call r.holds r.roomy (ap (λ (s : Said). length s.state.buf) same ∙ is_full made));
        roomy =
            ap (λ (l : Left). is_room (length l.memory.item) (length l.memory.values)) so
            ∙ ap (λ (n : ℕ). is_room n (length (lay (what_place u.what ∷ u.taken ∷ []) m.values)))
            (record_length u.what m.item tells (room_record (length m.item) (length m.values) r.roomy))
            ∙ ap (is_room (length m.item)) (values_length (what_place u.what) u.taken m.values two)
            ∙ r.roomy;
        text =
            ap (λ (l : Left). length l.memory.text) so
            ∙ text-length u.what m.text fits (subst (λ (n : ℕ). longest ≤ n) (sym r.text) wide)
            ∙ r.text;
      }

-- ---- a caller

module _ (room : ℕ) (wide : longest ≤ room) where
  module _ {t : State} {m : Memory} (r : Ready room t m) where
    piece_same : (bs : List ℕ) → piece_for (lend t) bs (length m.text) ≡ worded (piece_of t bs room)
    piece_same bs = same_piece r.produced bs (length m.text) ∙ ap (λ (n : ℕ). worded (piece_of t bs n)) r.text

    end_same : end_for (lend t) (length m.text) ≡ worded (end_of t room)
    end_same = same_end r.produced (length m.text) ∙ ap (λ (n : ℕ). worded (end_of t n)) r.text

  piece_calls_in_lem : (calls : ℕ) {t : State} {m : Memory} → Ready room t m → (bs : List ℕ) (next_in : Memory → Expected) (next : State → Expected)
      → ((u : State) (n : Memory) → Ready room u n → next_in n ≡ next u) → piece_calls_in calls m bs next_in ≡ piece_calls room calls t bs next
  unfolding piece_calls_in piece_calls
  piece_calls_in_lem zero r bs next_in next h = refl
  piece_calls_in_lem (suc calls) {t} {m} r bs next_in next h =
      let l : Left = piece_left m bs in
      let u : Reply = piece_of t bs room in
      let call : LentState → Said = λ s. piece_for s bs (length m.text) in
      let ready : Ready room u.state l.memory
      = ready_so room t m r wide call u (piece_same r bs) (by.pieced r.produced bs room) (call_tells t bs room) (text_fits_lem t bs room) in
      ap (λ (w : What). heed w (unless_taken (drop (taken_in l) bs) (next_in l.memory) (λ rest. piece_calls_in calls l.memory rest next_in)))
      (heard_so room t m r wide call u (piece_same r bs) (by.pieced r.produced bs room) (call_tells t bs room) (text_fits_lem t bs room))
      ∙ ap (λ (k : ℕ). heed u.what (unless_taken (drop k bs) (next_in l.memory) (λ rest. piece_calls_in calls l.memory rest next_in)))
      (taken_so room t m r wide call u (piece_same r bs) (by.pieced r.produced bs room) (call_tells t bs room) (text_fits_lem t bs room))
      ∙ ap (heed u.what)
      (unless_same (drop u.taken bs) (h u.state l.memory ready) (λ rest. piece_calls_in_lem calls ready rest next_in next h))

  end_calls_in_lem : (calls : ℕ) {t : State} {m : Memory} → Ready room t m → end_calls_in calls m ≡ end_calls room calls t
  unfolding end_calls_in end_calls
  end_calls_in_lem zero r = refl
  end_calls_in_lem (suc calls) {t} {m} r =
      let l : Left = end_left m in
      let u : Reply = end_of t room in
      let call : LentState → Said = λ s. end_for s (length m.text) in
      ap (λ (w : What). heed w (end_calls_in calls l.memory))
      (heard_so room t m r wide call u (end_same r) (by.ended r.produced room) (end_call_tells t room) (end_text_fits t room))
      ∙ ap (heed u.what)
      (end_calls_in_lem calls (ready_so room t m r wide call u (end_same r) (by.ended r.produced room) (end_call_tells t room) (end_text_fits t room)))

  hand_over_in_lem : (ps : List (List ℕ)) {t : State} {m : Memory} → Ready room t m → hand_over_in m ps ≡ hand_over room t ps
  unfolding hand_over_in hand_over
  hand_over_in_lem [] r = end_calls_in_lem 4 r
  hand_over_in_lem (p ∷ ps) r =
      piece_calls_in_lem (2 * length p + 2) r p (λ n. hand_over_in n ps) (λ u. hand_over room u ps) (λ u n ready. hand_over_in_lem ps ready)

module _ (mode : ℕ) (skip : Bool) (m : Memory) (sized : is_a_state (length m.buf) (length m.words) ≡ true)
    (roomy : is_room (length m.item) (length m.values) ≡ true) where
  full : length m.buf ≡ longest
  full = eqb-true (length m.buf) longest (and_true (eqb (length m.buf) longest) (eqb (length m.words) state_words) sized).0

  opened_ready : Ready (length m.text) (open_of mode skip).state (opened_in (open_left mode skip m.buf m.words) m)
  opened_ready =
      record {
        produced = by.opened mode skip;
        holds =
            subst (Holds (opened_in (open_left mode skip m.buf m.words) m)) (ap (λ (s : Said). s.state) (same_open mode skip m.buf full))
            (open_held mode skip m.buf m.words sized m.text m.item m.values);
        roomy = roomy;
        text = refl;
      }

  -- DEMAND 3 of the calls over slices, and so of those from C: however a text is cut into pieces, the numbers and memories that they leave say exactly
  -- what the definition of items says of the text
  pub demand_3_flat : (pieces : List (List ℕ)) → mode < 2 → longest ≤ length m.text
      → drive_in mode skip m pieces ≡ expected (in_report mode) skip (joined pieces)
  unfolding drive_in drive
  demand_3_flat pieces is wide =
      hand_over_in_lem (length m.text) wide pieces opened_ready ∙ demand_3 mode skip (length m.text) pieces is wide
