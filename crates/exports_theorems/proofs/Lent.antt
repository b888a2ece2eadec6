-- A text that is read by calls on a lent state is read by the calls by value, and its state is theirs, lent: `same_open`, `same_piece` and `same_end`
-- of crate `pieces_lent`. So what crate `pieces` says of one call, on the definition of items alone, holds of a lent one.
use Prim.Native.Nat.{ℕ, ◌≤◌, ◌<◌}
use mathlib.Core.Path.{◌≡◌, refl, sym, ap, subst, ◌∙◌}
use mathlib.Core.Bool.{Bool, true}
use mathlib.Core.List.{List, ◌++◌}
use lib.ListN.{length, take}
use borrow.Author.Tests.{lt-ltb}
use Rattle.items.specs.Whole.{in_report}
use Rattle.pieces.specs.declared.State.{State}
use Rattle.pieces.specs.Calls.{more, finished, refused, fresh, open_of, piece_of, end_of}
use Rattle.pieces.specs.Due.{piece_answer, end_answer, late_answer}
use Rattle.pieces.specs.Expected.{longest}
use Rattle.pieces.specs.Given.{Given}
use Rattle.pieces.specs.Produced.{given_by}
use Rattle.pieces.specs.Produced as by
use Rattle.pieces.proofs.Closes as closing
use Rattle.pieces.proofs.Fewest as fewer
use Rattle.pieces.specs.Bounds.{Stops}
use Rattle.pieces.proofs.Means as means
use Rattle.pieces.proofs.Stands as stands
use Rattle.pieces_lent.specs.declared.LentState.{LentState}
use Rattle.pieces_lent.specs.Calls.{Said, lend, worded, piece_for, end_for}
use Rattle.pieces_lent.specs.Drive.{Made}
use Rattle.pieces_lent.proofs.Same.{same_open, same_piece, same_end, stood}
use Rattle.exports_theorems.specs.Lent.{Reading, begins, reads, Closing, read, closes, answered}

-- ---- readings

-- a reading by the calls by value, its state lent
record Read (mode : ℕ) (skip : Bool) (taken : List ℕ) (gs : List Given) (s : LentState) : Type 0 where
  state : State
  produced : by.Produced state
  reading : by.Reading mode skip taken gs state
  is : s ≡ lend state

record Closed (mode : ℕ) (skip : Bool) (taken : List ℕ) (e : Bool) (gs : List Given) (s : LentState) : Type 0 where
  state : State
  produced : by.Produced state
  closing : by.Closing mode skip taken e gs state
  is : s ≡ lend state

piece_said : {s : LentState} {t : State} → by.Produced t → s ≡ lend t → (bs : List ℕ) (room : ℕ) → piece_for s bs room ≡ worded (piece_of t bs room)
piece_said p e bs room = ap (λ (u : LentState). piece_for u bs room) e ∙ same_piece p bs room

end_said : {s : LentState} {t : State} → by.Produced t → s ≡ lend t → (room : ℕ) → end_for s room ≡ worded (end_of t room)
end_said p e room = ap (λ (u : LentState). end_for u room) e ∙ same_end p room

fresh_is : (mode : ℕ) (skip : Bool) → mode < 2 → (open_of mode skip).state ≡ fresh mode skip
unfolding open_of
fresh_is mode skip is = rw (lt-ltb mode 2 is)

module _ (mode : ℕ) (skip : Bool) (is : mode < 2) where
  by_value : {taken : List ℕ} {gs : List Given} {s : LentState} → Reading mode skip taken gs s → Read mode skip taken gs s
  by_value (begins buf full) =
      record {
        state = fresh mode skip;
        produced = subst by.Produced (fresh_is mode skip is) (by.opened mode skip);
        reading = by.begins;
        is = ap (λ (u : Said). u.state) (same_open mode skip buf full) ∙ ap lend (fresh_is mode skip is);
      }
  by_value (reads {taken} {gs} {s} h bs room wide) =
      let z = by_value h in
      subst (λ (u : Said). Read mode skip (taken ++ take u.taken bs) (gs ++ given_by u.what) u.state) (sym (piece_said z.produced z.is bs room))
      (record {
        state = (piece_of z.state bs room).state;
        produced = by.pieced z.produced bs room;
        reading = by.reads z.reading bs room wide;
        is = refl;
      })

  closed_by_value : {taken : List ℕ} {e : Bool} {gs : List Given} {s : LentState} → Closing mode skip taken e gs s → Closed mode skip taken e gs s
  closed_by_value (read h) =
      let z = by_value h in record { state = z.state; produced = z.produced; closing = by.read z.reading; is = z.is }
  closed_by_value {taken} (closes {e} {gs} {s} c room wide) =
      let z = closed_by_value c in
      subst (λ (u : Said). Closed mode skip taken true (gs ++ given_by u.what) u.state) (sym (end_said z.produced z.is room))
      (record {
        state = (end_of z.state room).state;
        produced = by.ended z.produced room;
        closing = by.closes z.closing room wide;
        is = refl;
      })

  -- WHAT A CALL WITH A PIECE ANSWERS, whatever calls with pieces were made before
  pub call_means_lent : {taken : List ℕ} {gs : List Given} {s : LentState} → Reading mode skip taken gs s → (bs : List ℕ) (room : ℕ) → longest ≤ room
      → answered (piece_for s bs room) ≡ piece_answer (in_report mode) skip (length gs) taken bs 0
  call_means_lent h bs room wide =
      let z = by_value h in ap answered (piece_said z.produced z.is bs room) ∙ means.call_means mode skip is z.reading bs room wide

  -- WHAT AN END CALL ANSWERS, whatever calls were made before
  pub end_means_lent : {taken : List ℕ} {e : Bool} {gs : List Given} {s : LentState} → Closing mode skip taken e gs s → (room : ℕ) → longest ≤ room
      → answered (end_for s room) ≡ end_answer (in_report mode) skip (length gs) taken
  end_means_lent c room wide =
      let z = closed_by_value c in ap answered (end_said z.produced z.is room) ∙ closing.end_means mode skip is z.closing room wide

  -- what a piece after the declared end is answered
  pub late_means_lent : {taken : List ℕ} {gs : List Given} {s : LentState} → Closing mode skip taken true gs s → (bs : List ℕ) (room : ℕ) → longest ≤ room
      → answered (piece_for s bs room) ≡ late_answer (in_report mode) skip taken
  late_means_lent c bs room wide =
      let z = closed_by_value c in ap answered (piece_said z.produced z.is bs room) ∙ closing.late_means mode skip is z.closing bs room wide

-- ---- the parts of it, for every state that the lent calls produced

-- in the state t every call repeats the stop, takes nothing and leaves each byte and word
abbrev pub RepeatsLent : ℕ → ℕ → LentState → Type 0
RepeatsLent n p t =
    (bs : List ℕ) (room : ℕ) → longest ≤ room
    → (piece_for t bs room ≡ record { taken = 0; what = refused n p; state = t }) × (end_for t room ≡ record { taken = 0; what = refused n p; state = t })

repeats_lent : (n p : ℕ) {t : State} → by.Produced t → stands.Repeats n p t → RepeatsLent n p (lend t)
repeats_lent n p made h bs room wide =
    (same_piece made bs room ∙ ap worded (h bs room wide).0, same_end made room ∙ ap worded (h bs room wide).1)

module _ {s : LentState} (m : Made s) where
  by_piece : (bs : List ℕ) (room : ℕ) → piece_for s bs room ≡ worded (piece_of (stood m).state bs room)
  by_piece = piece_said (stood m).produced (stood m).is

  by_end : (room : ℕ) → end_for s room ≡ worded (end_of (stood m).state room)
  by_end = end_said (stood m).produced (stood m).is

  -- with fewer bytes than it takes, a call asks for more and takes them all
  pub fewest_lent : (bs : List ℕ) (room k : ℕ) → k < (piece_for s bs room).taken
      → ((piece_for s (take k bs) room).what ≡ more) × ((piece_for s (take k bs) room).taken ≡ k)
  fewest_lent bs room k h =
      let r = fewer.fewest (stood m).state bs room k (subst (λ (u : Said). k < u.taken) (by_piece bs room) h) in
      (ap (λ (u : Said). u.what) (by_piece (take k bs) room) ∙ r.0, ap (λ (u : Said). u.taken) (by_piece (take k bs) room) ∙ r.1)

  -- a stop stands from then on, given by a piece call and given by an end call
  pub stop_stands_lent : (bs : List ℕ) (room n p : ℕ) → (piece_for s bs room).what ≡ refused n p → Stops n → RepeatsLent n p (piece_for s bs room).state
  stop_stands_lent bs room n p e z =
      subst (λ (u : Said). RepeatsLent n p u.state) (sym (by_piece bs room))
      (repeats_lent n p (by.pieced (stood m).produced bs room)
      (stands.stop_stands (stood m).produced bs room n p (sym (ap (λ (u : Said). u.what) (by_piece bs room)) ∙ e) z))

  pub end_stop_stands_lent : (room n p : ℕ) → (end_for s room).what ≡ refused n p → Stops n → RepeatsLent n p (end_for s room).state
  end_stop_stands_lent room n p e z =
      subst (λ (u : Said). RepeatsLent n p u.state) (sym (by_end room))
      (repeats_lent n p (by.ended (stood m).produced room)
      (stands.end_stop_stands (stood m).produced room n p (sym (ap (λ (u : Said). u.what) (by_end room)) ∙ e) z))

  -- after "finished" every further end call is "finished", and leaves each byte and word
  pub finished_stays_lent : (room again : ℕ) → (end_for s room).what ≡ finished → longest ≤ again
      → end_for (end_for s room).state again ≡ record { taken = 0; what = finished; state = (end_for s room).state }
  finished_stays_lent room again e wide =
      subst (λ (u : Said). end_for u.state again ≡ record { taken = 0; what = finished; state = u.state }) (sym (by_end room))
      (same_end (by.ended (stood m).produced room) again
      ∙ ap worded (stands.finished_stays (stood m).produced room again (sym (ap (λ (u : Said). u.what) (by_end room)) ∙ e) wide))
