-- A lent state is a state by value kept as numbers, and a lent call does what the call by value does. So what is proved of the calls by
-- value holds of the lent ones: number 27 never meets a state that they produced, and however a text is cut they give its items.
use Rattle.refusal.specs.Refusals as refusal
use Rattle.std.specs.Prelude.{if◌then◌else◌}
use Rattle.items.specs.Whole.{in_report}
use Rattle.pieces.specs.declared.Marks.{Marks}
use Rattle.pieces.specs.declared.State.{State}
use Rattle.pieces.specs.Bounds.{is_in_bounds}
use Rattle.pieces.specs.Calls.{refused, Reply, open_of, piece_of, end_of}
use Rattle.pieces.specs.Drive.{heed, unless_taken, piece_calls, end_calls, hand_over, drive, joined}
use Rattle.pieces.specs.Expected.{Expected, expected, longest}
use Rattle.pieces.specs.Produced as by
use Rattle.pieces.proofs.Turns.{Safe, goes, waits, halted, safe, never_27}
use Rattle.pieces.proofs.Demand.{demand_3}
use Rattle.pieces_calls.specs.Answers.{state_of, piece_in, end_in}
use Rattle.pieces_lent.specs.declared.LentState.{LentState}
use Rattle.pieces_lent.specs.Coding.{standing, coded, is_code}
use Rattle.pieces_lent.specs.Calls.{Said, lend, worded, piece_for, end_for, open_for}
use Rattle.pieces_lent.specs.Drive.{Made, opened, pieced, ended, piece_calls_for, end_calls_for, hand_over_for, drive_for}
use Rattle.pieces_lent.proofs.Back.{standing-coded}
use Rattle.pieces_lent.proofs.Narrowness.{lean}
use Rattle.pieces_lent.proofs.Rows.{lean_is_code}
use Prim.Native.Nat.{ℕ, zero, suc, ◌+◌, ◌*◌, ◌≤◌, ◌<◌}
use mathlib.Core.Path.{◌≡◌, refl, sym, ap, subst, ◌∙◌}
use mathlib.Core.Bool.{Bool, true}
use mathlib.Core.List.{List, [], ◌∷◌}
use lib.ListN.{length, drop}
use borrow.Author.Tests.{eq-eqb}

safe_full : {s : State} → Safe s → length s.buf ≡ longest
safe_full (goes e h) = h.kept.full
safe_full (waits e h) = h.kept.full
safe_full (halted n p h) = h.kept.full

-- ---- a state by value, lent

pub same_open : (mode : ℕ) (skip : Bool) (buf : List ℕ) → length buf ≡ longest → open_for mode skip buf ≡ worded (open_of mode skip)
unfolding open_for
same_open mode skip buf h = rw (eq-eqb (length buf) longest h)

module _ {t : State} (p : by.Produced t) where
  pub is_code_lem : is_code (coded t.marks) ≡ true
  is_code_lem = lean_is_code t (lean p)

  pub is_full : length t.buf ≡ longest
  is_full = safe_full (safe p)

  pub same_piece : (bs : List ℕ) (room : ℕ) → piece_for (lend t) bs room ≡ worded (piece_of t bs room)
  unfolding piece_for
  same_piece bs room =
      rw is_code_lem
      (ap (λ (m : Marks). worded (piece_in m t.buf bs room)) (standing-coded t.marks)
      ∙ ap (λ (b : Bool). worded (if b then piece_of t bs room else record { taken = 0; what = refused refusal.out_of_bounds 0; state = t })) (eq-eqb (length t.buf) longest is_full))

  pub same_end : (room : ℕ) → end_for (lend t) room ≡ worded (end_of t room)
  unfolding end_for
  same_end room =
      rw is_code_lem
      (ap (λ (m : Marks). worded (end_in m t.buf room)) (standing-coded t.marks)
      ∙ ap (λ (b : Bool). worded (if b then end_of t room else record { taken = 0; what = refused refusal.out_of_bounds 0; state = t })) (eq-eqb (length t.buf) longest is_full))

-- ---- states that the lent calls produced

-- a state by value that was produced, lent
pub record Stood (s : LentState) : Type 0 where
  pub state : State
  pub produced : by.Produced state
  pub is : s ≡ lend state

pub stood : {s : LentState} → Made s → Stood s
stood (opened mode skip buf h) =
    record { state = (open_of mode skip).state; produced = by.opened mode skip; is = ap (λ (u : Said). u.state) (same_open mode skip buf h) }
stood (pieced m bs room) =
    let z = stood m in
    record {
      state = (piece_of z.state bs room).state;
      produced = by.pieced z.produced bs room;
      is = ap (λ (u : LentState). (piece_for u bs room).state) z.is ∙ ap (λ (u : Said). u.state) (same_piece z.produced bs room);
    }
stood (ended m room) =
    let z = stood m in
    record {
      state = (end_of z.state room).state;
      produced = by.ended z.produced room;
      is = ap (λ (u : LentState). (end_for u room).state) z.is ∙ ap (λ (u : Said). u.state) (same_end z.produced room);
    }

-- what 27 is given without
pub record Within (s : LentState) : Type 0 where
  pub full : length s.buf ≡ longest
  pub code : is_code s.words ≡ true
  pub bounded : is_in_bounds (state_of (standing s.words) s.buf) ≡ true

-- 01: "Number 27 never meets a state that the opening call and later calls produced."
pub never_27_lent : {s : LentState} → Made s → Within s
never_27_lent m =
    let z = stood m in
    subst Within (sym z.is)
    (record {
      full = is_full z.produced;
      code = is_code_lem z.produced;
      bounded = ap (λ (n : Marks). is_in_bounds (state_of n z.state.buf)) (standing-coded z.state.marks) ∙ never_27 z.produced;
    })

-- ---- a caller

pub unless_same : (l : List ℕ) {a b : Expected} {f g : List ℕ → Expected} → a ≡ b → ((left : List ℕ) → f left ≡ g left) → unless_taken l a f ≡ unless_taken l b g
unless_same [] e h = e
unless_same (x ∷ left) e h = h (x ∷ left)

module _ (room : ℕ) where
  piece_calls_same : (calls : ℕ) {t : State} → by.Produced t → (bs : List ℕ) (lent_next : LentState → Expected) (next : State → Expected)
      → ((u : State) → by.Produced u → lent_next (lend u) ≡ next u) → piece_calls_for room calls (lend t) bs lent_next ≡ piece_calls room calls t bs next
  unfolding piece_calls_for piece_calls
  piece_calls_same zero p bs lent_next next h = refl
  piece_calls_same (suc calls) {t} p bs lent_next next h =
      let r : Reply = piece_of t bs room in
      let made : by.Produced r.state = by.pieced p bs room in
      ap (λ (u : Said). heed u.what (unless_taken (drop u.taken bs) (lent_next u.state) (λ left. piece_calls_for room calls u.state left lent_next)))
      (same_piece p bs room)
      ∙ ap (heed r.what)
      (unless_same (drop r.taken bs) (h r.state made) (λ left. piece_calls_same calls made left lent_next next h))

  end_calls_same : (calls : ℕ) {t : State} → by.Produced t → end_calls_for room calls (lend t) ≡ end_calls room calls t
  unfolding end_calls_for end_calls
  end_calls_same zero p = refl
  end_calls_same (suc calls) {t} p =
      let r : Reply = end_of t room in
      ap (λ (u : Said). heed u.what (end_calls_for room calls u.state)) (same_end p room) ∙ ap (heed r.what) (end_calls_same calls (by.ended p room))

  hand_over_same : (ps : List (List ℕ)) {t : State} → by.Produced t → hand_over_for room (lend t) ps ≡ hand_over room t ps
  unfolding hand_over_for hand_over
  hand_over_same [] p = end_calls_same 4 p
  hand_over_same (q ∷ ps) p =
      piece_calls_same (2 * length q + 2) p q (λ t. hand_over_for room t ps) (λ t. hand_over room t ps) (λ u made. hand_over_same ps made)

  pub drive_same : (mode : ℕ) (skip : Bool) (buf : List ℕ) (pieces : List (List ℕ)) → length buf ≡ longest
      → drive_for mode skip buf room pieces ≡ drive mode skip room pieces
  unfolding drive_for drive
  drive_same mode skip buf pieces h =
      ap (λ (u : Said). hand_over_for room u.state pieces) (same_open mode skip buf h) ∙ hand_over_same pieces (by.opened mode skip)

  -- DEMAND 3 of the lent calls: however a text is cut into pieces, they give exactly what the definition of items says of the text
  pub demand_3_lent : (mode : ℕ) (skip : Bool) (buf : List ℕ) (pieces : List (List ℕ)) → length buf ≡ longest → mode < 2 → longest ≤ room
      → drive_for mode skip buf room pieces ≡ expected (in_report mode) skip (joined pieces)
  demand_3_lent mode skip buf pieces full h wide = drive_same mode skip buf pieces full ∙ demand_3 mode skip room pieces h wide
