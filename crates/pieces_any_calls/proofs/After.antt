-- Whatever calls were made: what they gave is a beginning of what is expected of the bytes that they took, and all of it, with its last word,
-- once a call says "finished" or a stop. By `end_means` an end call would give the first item that is missing, so none is left out or given twice.
use Rattle.refusal.specs.Refusals as refusal
use Rattle.laws.proofs.Choice.{by_bool, impossible}
use Rattle.items.specs.Whole.{in_report}
use Rattle.pieces.specs.declared.State.{State}
use Rattle.pieces.specs.Calls.{What, item, more, finished, refused, Reply, piece_of, feed_of, end_unless_stopped, end_of}
use Rattle.pieces.specs.Drive.{heed, prepend, unless_taken, piece_calls, end_calls, hand_over, joined}
use Rattle.pieces.specs.Due.{last_of, end_answer}
use Rattle.pieces.specs.Due as due
use Rattle.pieces.specs.Expected.{LastWord, Expected, expected, longest}
use Rattle.pieces.specs.Expected as word
use Rattle.pieces.specs.Given.{Given}
use Rattle.pieces.specs.Produced.{given_by, Reading, reads, Closing, read, closes}
use Rattle.pieces.proofs.Closes.{end_means}
use Rattle.pieces.proofs.Cuts.{Live, end_works, piece_going, piece_waits}
use Rattle.pieces.proofs.Fewest.{unfinished}
use Rattle.pieces.proofs.Resume.{Stuck, on_the_way, resumes}
use Rattle.pieces.proofs.Stands.{Repeats, repeats, stop_stands}
use Rattle.pieces.proofs.Turns.{StandsAfter, Safe, goes, waits, halted, safe, fed, end_going, end_waits, never_27}
use Rattle.pieces.specs.Bounds.{is_in_bounds, Stops}
use Rattle.pieces_any_calls.specs.After.{Call, piece, end, memory, reply_to, Sum, with, sum_of, MayFollow, Begins, Refusal, short, late, stops}
use Rattle.pieces_any_calls.proofs.Closing.{short_piece, short_end, halted_stop, closing_made, same_piece, same_end, Closed, closed}
use Rattle.pieces_any_calls.proofs.Closing as closing
use Prim.Native.Nat.{ℕ, suc, ◌+◌, ◌*◌, ◌≤◌, ◌<◌}
use mathlib.Core.Path.{◌≡◌, refl, sym, ap, subst, ◌∙◌}
use mathlib.Core.Bool.{Bool, true, false}
use mathlib.Core.List.{List, [], ◌∷◌, ◌++◌, append-nil, append_assoc}
use mathlib.Core.Logic.{◌⊎◌, inl, inr, ⊎_elim}
use lib.ListN.{length, take, drop}
use lib.Seq.{drop_at}
use lib.Dec.{leb}
use native.Mathlib.Nat.{le_refl}
use native.Mathlib.Omega.{arith}
use borrow.Author.Tests.{leb-true, leb-false}

-- ---- words

none_last : (w : LastWord) → given_by (last_of [] w) ≡ []
none_last word.finished = refl
none_last (word.refused n p) = refl

-- a last word is said only where no item is left
no_more : (l : List Given) (v w : LastWord) → last_of [] w ≡ last_of l v → (l ≡ []) × (v ≡ w)
no_more (g ∷ l) v word.finished e = impossible cc
no_more (g ∷ l) v (word.refused n p) e = impossible cc
no_more [] word.finished word.finished e = (refl, refl)
no_more [] word.finished (word.refused n p) e = impossible cc
no_more [] (word.refused m o) word.finished e = impossible cc
no_more [] (word.refused m o) (word.refused n p) e = (refl, cc)

same_number : {m o n p : ℕ} → refused m o ≡ refused n p → m ≡ n
same_number e = cc

no_stop : {n : ℕ} → n ≡ refusal.little_text → Stops n → ⊥
no_stop e z = ⊎_elim (λ x. omega arith) (λ y. ⊎_elim (λ x. omega arith) (λ x. omega arith) y) z

-- a reply that left a stop
left_stop : (e : Bool) (w : What) (s : State) → StandsAfter e w s → (n p : ℕ) → w ≡ refused n p → Stops n
left_stop e (item g) s h n p f = impossible cc
left_stop e more s h n p f = impossible cc
left_stop e finished s h n p f = impossible cc
left_stop e (refused m o) s h n p f = subst Stops (same_number f) (halted_stop h)

-- where a stop stands it is all that a caller is told
pub stays : {n p : ℕ} {s : State} → Repeats n p s → (ps : List (List ℕ)) → hand_over longest s ps ≡ record { items = []; last = word.refused n p }
unfolding hand_over piece_calls end_calls
stays h [] = ap (λ (r : Reply). heed r.what (end_calls longest 3 r.state)) (h [] longest (le_refl longest)).1
stays {n} {p} {s} h (bs ∷ ps) =
    ap (λ (k : ℕ). piece_calls longest k s bs (λ t. hand_over longest t ps)) (let z : 2 * length bs + 2 ≡ suc (2 * length bs + 1) = omega arith in z)
    ∙ ap (λ (r : Reply). heed r.what (unless_taken (drop r.taken bs) (hand_over longest r.state ps)
    (λ left. piece_calls longest (2 * length bs + 1) r.state left (λ t. hand_over longest t ps)))) (h bs longest (le_refl longest)).0

module _ (mode : ℕ) (skip : Bool) (is : mode < 2) where
  abbrev pub told : List ℕ → Expected
  told bytes = expected (in_report mode) skip bytes

  -- ---- what is still to come

  pub record Rest (taken : List ℕ) (gs : List Given) (s : State) : Type 0 where
    pub later : List Given
    pub is_all : gs ++ later ≡ (told taken).items
    pub next : (room : ℕ) → longest ≤ room → (end_of s room).what ≡ last_of later (told taken).last

  begins_on : {taken : List ℕ} {gs : List Given} {s : State} → Reading mode skip taken gs s → (behind : List ℕ) → Begins gs (told (taken ++ behind)).items
  unfolding joined
  begins_on {taken} {gs} {s} h behind = (
    (hand_over longest s (behind ∷ [])).items,
    ap (λ (x : Expected). x.items) (resumes mode skip is longest (le_refl longest) h (behind ∷ []))
        ∙ ap (λ (l : List ℕ). (told (taken ++ l)).items) (append-nil behind),
  )

  -- an end call says the first item that is missing, or the last word
  pub next_said : {taken : List ℕ} {e : Bool} {gs : List Given} {s : State} → Closing mode skip taken e gs s → (l : List Given) → gs ++ l ≡ (told taken).items
      → (room : ℕ) → longest ≤ room
      → (end_of s room).what ≡ last_of l (told taken).last
  unfolding end_answer
  next_said {taken} {e} {gs} {s} c l q room wide =
      ap (λ (a : due.Answer). a.what) (end_means mode skip is c room wide)
      ∙ ap (λ (x : List Given). last_of x (told taken).last) (ap (drop (length gs)) (sym q) ∙ drop_at gs l (length gs) refl)

  begun : {taken : List ℕ} {e : Bool} {gs : List Given} {s : State} → Closing mode skip taken e gs s → Begins gs (told taken).items → Rest taken gs s
  begun c b = record { later = b.0; is_all = b.1; next = next_said c b.0 b.1 }

  pub rest : {taken : List ℕ} {e : Bool} {gs : List Given} {s : State} → Closing mode skip taken e gs s → Rest taken gs s
  rest {taken} (read {gs} {s} h) = begun (read h) (subst (λ (l : List ℕ). Begins gs (told l).items) (append-nil taken) (begins_on h []))
  rest {taken} (closes {e} {gs} {s} c room wide) = begun (closes c room wide) (go (rest c).later (rest c).is_all ((rest c).next room wide))
    where
      go : (l : List Given) → gs ++ l ≡ (told taken).items → (end_of s room).what ≡ last_of l (told taken).last
          → Begins (gs ++ given_by (end_of s room).what) (told taken).items
      go [] q e = (
        [],
        append-nil (gs ++ given_by (end_of s room).what)
            ∙ ap (λ (w : What). gs ++ given_by w) e
            ∙ ap (λ (l : List Given). gs ++ l) (none_last (told taken).last)
            ∙ q,
      )
      go (g ∷ l) q e = (l, ap (λ (w : What). (gs ++ given_by w) ++ l) e ∙ append_assoc gs (g ∷ []) l ∙ q)

  -- ---- the items

  begins_follow : {taken : List ℕ} {e : Bool} {gs : List Given} {s : State} → Closing mode skip taken e gs s → (behind : List ℕ) → (e ≡ true → behind ≡ [])
      → Begins gs (told (taken ++ behind)).items
  begins_follow (read h) behind f = begins_on h behind
  begins_follow {taken} {e} {gs} {s} (closes c room wide) behind f =
      let z : Rest taken gs s = rest (closes c room wide) in
      subst (λ (l : List ℕ). Begins gs (told l).items) (sym (ap (λ (l : List ℕ). taken ++ l) (f refl) ∙ append-nil taken)) (z.later, z.is_all)

  -- WHATEVER CALLS WERE MADE, the items that they gave are a beginning of those of the text: of the bytes taken, and whatever may still follow them.
  pub items_begin : (calls : List Call) (behind : List ℕ) → let h : Sum = sum_of mode skip calls in
      MayFollow h behind → Begins h.items (expected (in_report mode) skip (h.taken ++ behind)).items
  items_begin calls behind f = begins_follow (closed mode skip is calls) behind f

  -- ---- the last word

  pub all_given : {taken : List ℕ} {e : Bool} {gs : List Given} {s : State} → Closing mode skip taken e gs s → (room : ℕ) → longest ≤ room
      → (w : LastWord) → (end_of s room).what ≡ last_of [] w
      → told taken ≡ record { items = gs; last = w }
  all_given {taken} {e} {gs} {s} c room wide w f =
      let z : Rest taken gs s = rest c in
      let k = no_more z.later (told taken).last w (sym f ∙ z.next room wide) in
      ap (λ (l : List Given). record { items = l; last = (told taken).last }) (sym z.is_all ∙ ap (λ (l : List Given). gs ++ l) k.0 ∙ append-nil gs)
      ∙ ap (λ (v : LastWord). record { items = gs; last = v }) k.1

  finished_closed : (h : Sum) → Closed mode skip is h → (c : Call) → (reply_to h.state c).what ≡ finished
      → told h.taken ≡ record { items = h.items; last = word.finished }
  finished_closed h z (piece bs room) e = absurd (unfinished h.state bs room e)
  finished_closed h z (end room) e = by_bool (leb longest room)
      (λ f. all_given z room (leb-true longest room f) word.finished e)
      (λ f. absurd
      (let no : refused refusal.little_text 0 ≡ finished = sym (ap (λ (r : Reply). r.what) (short_end (closing_made mode skip is z) room (leb-false longest room f))) ∙ e in
      impossible cc))

  -- WHATEVER CALLS WERE MADE, when one says "finished" all items of the bytes taken were given, and the text has no stop.
  pub finished_all : (calls : List Call) (c : Call) → let h : Sum = sum_of mode skip calls in
      (reply_to h.state c).what ≡ finished → expected (in_report mode) skip h.taken ≡ record { items = h.items; last = word.finished }
  finished_all calls c e = finished_closed (sum_of mode skip calls) (closed mode skip is calls) c e

  -- a stop that a piece call shows
  shown : {taken : List ℕ} {gs : List Given} {s : State} → Reading mode skip taken gs s → (bs : List ℕ) (room : ℕ) → longest ≤ room → (n p : ℕ)
      → (piece_of s bs room).what ≡ refused n p → Stops n → (behind : List ℕ)
      → told ((taken ++ take (piece_of s bs room).taken bs) ++ behind) ≡ record { items = gs; last = word.refused n p }
  unfolding joined
  shown {taken} {gs} {s} h bs room wide n p e z behind =
      let t : State = (piece_of s bs room).state in
      let now : List ℕ = taken ++ take (piece_of s bs room).taken bs in
      ap (λ (l : List ℕ). told (now ++ l)) (sym (append-nil behind))
      ∙ sym (resumes mode skip is longest (le_refl longest) (reads h bs room wide) (behind ∷ []))
      ∙ ap (prepend (gs ++ given_by (piece_of s bs room).what)) (stays (stop_stands (closing_made mode skip is (read h)) bs room n p e z) (behind ∷ []))
      ∙ ap (λ (w : What). record { items = (gs ++ given_by w) ++ []; last = word.refused n p }) e
      ∙ ap (λ (l : List Given). record { items = l; last = word.refused n p }) (append-nil (gs ++ []) ∙ append-nil gs)

  stop_piece : {taken : List ℕ} {e : Bool} {gs : List Given} {s : State} → Closing mode skip taken e gs s → (bs : List ℕ) (room : ℕ) → longest ≤ room → (n p : ℕ)
      → (piece_of s bs room).what ≡ refused n p → Stops n → (behind : List ℕ) → (e ≡ true → behind ≡ [])
      → told ((taken ++ take (piece_of s bs room).taken bs) ++ behind) ≡ record { items = gs; last = word.refused n p }
  stop_piece (read h) bs room wide n p e z behind f = shown h bs room wide n p e z behind
  stop_piece {taken} {e} {gs} {s} (closes c lent fits) bs room wide n p q z behind f =
      let all : Closing mode skip taken true gs s = closes c lent fits in
      let y = closing.late mode skip is all bs room wide in
      let same : (piece_of s bs room).state ≡ s = ap (λ (r : Reply). r.state) y.is in
      let stands : Repeats n p s = subst (Repeats n p) same (stop_stands (closing_made mode skip is all) bs room n p q z) in
      ap (λ (r : Reply). told ((taken ++ take r.taken bs) ++ behind)) y.is
      ∙ ap (λ (l : List ℕ). told (l ++ behind)) (append-nil taken)
      ∙ ap (λ (l : List ℕ). told (taken ++ l)) (f refl)
      ∙ ap told (append-nil taken)
      ∙ all_given all longest (le_refl longest) (word.refused n p) (ap (λ (r : Reply). r.what) (stands [] longest (le_refl longest)).1)

  stop_closed : (h : Sum) → Closed mode skip is h → (c : Call) (n p : ℕ) → (reply_to h.state c).what ≡ refused n p → Stops n
      → (behind : List ℕ) → MayFollow (with h c) behind
      → told ((with h c).taken ++ behind) ≡ record { items = h.items; last = word.refused n p }
  stop_closed h z (piece bs room) n p e y behind f = by_bool (leb longest room)
      (λ g. stop_piece z bs room (leb-true longest room g) n p e y behind f)
      (λ g. absurd (no_stop (sym (same_number
      (sym (ap (λ (r : Reply). r.what) (short_piece (closing_made mode skip is z) room (leb-false longest room g) bs)) ∙ e))) y))
  stop_closed h z (end room) n p e y behind f = by_bool (leb longest room)
      (λ g. ap (λ (l : List ℕ). told (h.taken ++ l)) (f (rw g)) ∙ ap told (append-nil h.taken) ∙ all_given z room (leb-true longest room g) (word.refused n p) e)
      (λ g. absurd (no_stop (sym (same_number
      (sym (ap (λ (r : Reply). r.what) (short_end (closing_made mode skip is z) room (leb-false longest room g))) ∙ e))) y))

  -- WHATEVER CALLS WERE MADE, when one says a stop all items before it were given: of the bytes taken, that call's too, and whatever may
  -- still follow them.
  pub stop_all : (calls : List Call) (c : Call) (n p : ℕ) (behind : List ℕ) → let h : Sum = sum_of mode skip calls in
      (reply_to h.state c).what ≡ refused n p → Stops n → MayFollow (with h c) behind
      → expected (in_report mode) skip ((with h c).taken ++ behind) ≡ record { items = h.items; last = word.refused n p }
  stop_all calls c n p behind e z f = stop_closed (sum_of mode skip calls) (closed mode skip is calls) c n p e z behind f

  -- ---- refusals

  refused-piece : {taken : List ℕ} {e : Bool} {gs : List Given} {s : State} → Closing mode skip taken e gs s
      → (bs : List ℕ) (room : ℕ) → longest ≤ room → (n p : ℕ)
      → (piece_of s bs room).what ≡ refused n p → Refusal (record { taken = taken; items = gs; ended = e; state = s }) (piece bs room) n
  refused-piece {s = s} (read z) bs room wide n p f = stops (go (on_the_way mode skip is z))
    where
      go : Live s ⊎ Stuck s → Stops n
      go (inl (inl g)) =
          left_stop false (feed_of s bs 0).what (feed_of s bs 0).state (fed bs 0 g) n p (sym (ap (λ (r : Reply). r.what) (piece_going room wide g bs)) ∙ f)
      go (inl (inr w)) =
          left_stop false (item _) s (inr w) n p (sym (ap (λ (r : Reply). r.what) (piece_waits room wide w bs)) ∙ f)
      go (inr k) = subst Stops (same_number (sym (ap (λ (r : Reply). r.what) (repeats k.stuck bs room wide).0) ∙ f)) (halted_stop k.stuck)
  refused-piece {taken} {e} {gs} {s} (closes c lent fits) bs room wide n p f =
      let y = closing.late mode skip is (closes c lent fits) bs room wide in
      let number : y.number ≡ n = same_number (sym (ap (λ (r : Reply). r.what) y.is) ∙ f) in
      ⊎_elim (λ a. late refl (sym number ∙ a) (same_piece mode skip is (record { taken = taken; items = gs; ended = true; state = s }) bs room y.is))
      (λ a. stops (subst Stops number a)) y.why

  refused_end : {s : State} → Safe s → (room : ℕ) → longest ≤ room → (n p : ℕ) → is_in_bounds s ≡ true → (end_of s room).what ≡ refused n p → Stops n
  refused_end {s} z room wide n p b f = go z
    where
      worked : (end_unless_stopped s s.marks.stage).what ≡ refused n p
      worked = sym (ap (λ (r : Reply). r.what) (end_works room wide s b)) ∙ f

      left : StandsAfter true (end_unless_stopped s s.marks.stage).what (end_unless_stopped s s.marks.stage).state → Stops n
      left y = left_stop true (end_unless_stopped s s.marks.stage).what (end_unless_stopped s s.marks.stage).state y n p worked

      go : Safe s → Stops n
      go (goes e h) = left (end_going h)
      go (waits e w) = left (end_waits w)
      go (halted m o h) = subst Stops (same_number (sym (ap (λ (r : Reply). r.what) (repeats h [] room wide).1) ∙ f)) (halted_stop h)

  why_refused : (h : Sum) → Closed mode skip is h → (c : Call) (n p : ℕ) → (reply_to h.state c).what ≡ refused n p → Refusal h c n
  why_refused h z (piece bs room) n p e = by_bool (leb longest room)
      (λ g. refused-piece z bs room (leb-true longest room g) n p e)
      (λ g. let narrow : room < longest = leb-false longest room g in
      let r = short_piece (closing_made mode skip is z) room narrow bs in
      short narrow (sym (same_number (sym (ap (λ (r : Reply). r.what) r) ∙ e))) (same_piece mode skip is h bs room r))
  why_refused h z (end room) n p e = by_bool (leb longest room)
      (λ g. let made = closing_made mode skip is z in stops (refused_end (safe made) room (leb-true longest room g) n p (never_27 made) e))
      (λ g. let narrow : room < longest = leb-false longest room g in
      let r = short_end (closing_made mode skip is z) room narrow in
      short narrow (sym (same_number (sym (ap (λ (r : Reply). r.what) r) ∙ e))) (same_end mode skip is h room narrow r))

  -- WHATEVER CALLS WERE MADE, a call is refused with 24, by its memory, or with 26, after the end, and then nothing changes; or by a stop.
  pub refusals : (calls : List Call) (c : Call) (n p : ℕ) → let h : Sum = sum_of mode skip calls in (reply_to h.state c).what ≡ refused n p → Refusal h c n
  refusals calls c n p e = why_refused (sum_of mode skip calls) (closed mode skip is calls) c n p e

  -- a call without memory enough is refused with 24, whatever else would be said
  pub short_refused : (calls : List Call) (c : Call) → memory c < longest → (reply_to (sum_of mode skip calls).state c).what ≡ refused refusal.little_text 0
  short_refused calls (piece bs room) narrow = ap (λ (r : Reply). r.what) (short_piece (closing_made mode skip is (closed mode skip is calls)) room narrow bs)
  short_refused calls (end room) narrow = ap (λ (r : Reply). r.what) (short_end (closing_made mode skip is (closed mode skip is calls)) room narrow)
