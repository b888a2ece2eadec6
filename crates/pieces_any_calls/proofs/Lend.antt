-- A caller that lends another text memory at every call is given what the caller of crate `pieces` is given with one: a memory too short
-- costs a call and changes nothing, and of those that are long enough every one serves alike. So `resumes` carries over, from whatever calls.
use Rattle.refusal.specs.Refusals as refusal
use Rattle.std.specs.Prelude.{if◌then◌else◌}
use Rattle.laws.proofs.Choice.{by_bool}
use Rattle.items.specs.Whole.{in_report}
use Rattle.pieces.specs.declared.State.{State}
use Rattle.pieces.specs.Calls.{What, item, more, finished, refused, Reply, reply, second, last_of, beyond, turn_of, Turn, on, off, after, feed_of, piece_of, end_unless_stopped, end_of}
use Rattle.pieces.specs.Drive.{heed, prepend, unless_taken, joined}
use Rattle.pieces.specs.Drive as one
use Rattle.pieces.specs.Due as due
use Rattle.pieces.specs.Expected.{LastWord, Expected, expected, longest}
use Rattle.pieces.specs.Expected as word
use Rattle.pieces.specs.Given.{Given}
use Rattle.pieces.specs.Produced.{Produced, pieced, ended, given_by, Reading, Closing, read, closes}
use Rattle.pieces.proofs.Cuts.{Live, Enough, enough, final, settled, ending, end_works, piece_works, piece_going, piece_waits}
use Rattle.pieces.proofs.Fewest.{feed_least}
use Rattle.pieces.proofs.Resume.{Stuck, on_the_way, resumes}
use Rattle.pieces.proofs.Stands.{Repeats, repeats}
use Rattle.pieces.proofs.Turns.{Going, Waits, StandsAfter, Safe, goes, waits, halted, safe, fed, going_on, end_going, end_waits, never_27}
use Rattle.pieces.specs.Bounds.{Stops}
use Rattle.pieces_any_calls.specs.After.{Call, Sum, sum_of}
use Rattle.pieces_any_calls.specs.After as sum
use Rattle.pieces_any_calls.specs.Lend.{too_short, piece_calls, end_calls, hand_over, drive, wide, calls_for}
use Rattle.pieces_any_calls.proofs.Closing.{short_piece, short_end, halted_stop, closing_made, closed}
use Rattle.pieces_any_calls.proofs.After.{stays, told, Rest, next_said, rest, all_given}
use Prim.Native.Nat.{ℕ, zero, suc, ◌+◌, ◌*◌, ◌-◌, ◌≤◌, ◌<◌}
use mathlib.Core.Path.{◌≡◌, refl, sym, ap, subst, ◌∙◌}
use mathlib.Core.Bool.{Bool, true, false, true≢false}
use mathlib.Core.List.{List, [], ◌∷◌, ◌++◌, append-nil, append_assoc}
use mathlib.Core.Logic.{◌⊎◌, inl, inr, ⊎_elim}
use lib.ListN.{length, drop, length-drop}
use lib.Seq.{drop-nil}
use lib.Dec.{eqb, leb}
use native.Mathlib.Nat.{le_refl}
use native.Mathlib.Omega.{arith}
use borrow.Author.Tests.{ne_eqb, leb-true, leb-false}

-- ---- a call with memory enough

not_24 : {n : ℕ} → Stops n → eqb n refusal.little_text ≡ false
not_24 {n} z = ne_eqb n refusal.little_text (λ e. ⊎_elim (λ x. omega arith) (λ y. ⊎_elim (λ x. omega arith) (λ x. omega arith) y) z)

-- it is not refused with 24
served : (e : Bool) (w : What) (s : State) → StandsAfter e w s → too_short w ≡ false
served e (item g) s h = refl
served e more s h = refl
served e finished s h = refl
served e (refused n p) s h = not_24 (halted_stop h)

-- each such memory serves alike
module _ {s : State} (made : Produced s) (room : ℕ) (fits : longest ≤ room) where
  alike_piece : (bs : List ℕ) → piece_of s bs room ≡ piece_of s bs longest
  alike_piece bs = piece_works room fits s bs (never_27 made) ∙ sym (piece_works longest (le_refl longest) s bs (never_27 made))

  alike_end : end_of s room ≡ end_of s longest
  alike_end = end_works room fits s (never_27 made) ∙ sym (end_works longest (le_refl longest) s (never_27 made))

served_end : {s : State} → Produced s → too_short (end_of s longest).what ≡ false
served_end {s} made = go (safe made)
  where
    worked : end_of s longest ≡ end_unless_stopped s s.marks.stage
    worked = end_works longest (le_refl longest) s (never_27 made)

    go : Safe s → too_short (end_of s longest).what ≡ false
    go (goes e h) = ap (λ (r : Reply). too_short r.what) worked ∙ served true (end_unless_stopped s s.marks.stage).what (end_unless_stopped s s.marks.stage).state (end_going h)
    go (waits e w) = ap (λ (r : Reply). too_short r.what) worked ∙ served true (end_unless_stopped s s.marks.stage).what (end_unless_stopped s s.marks.stage).state (end_waits w)
    go (halted n p h) = ap (λ (r : Reply). too_short r.what) (repeats h [] longest (le_refl longest)).1 ∙ not_24 (halted_stop h)

-- ---- the end

end_calls_same : (rooms : List ℕ) {s : State} → Produced s → end_calls rooms s ≡ one.end_calls longest (wide rooms) s
unfolding end_calls one.end_calls wide
end_calls_same [] made = refl
end_calls_same (room ∷ rooms) {s} made = by_bool (leb longest room)
    (λ f. rw f
    (ap (λ (r : Reply). if too_short r.what then end_calls rooms r.state else heed r.what (end_calls rooms r.state)) (alike_end made room (leb-true longest room f))
    ∙ ap (λ (b : Bool). if b then end_calls rooms (end_of s longest).state else heed (end_of s longest).what (end_calls rooms (end_of s longest).state)) (served_end made)
    ∙ ap (heed (end_of s longest).what) (end_calls_same rooms (ended made longest))))
    (λ f. rw f
    (ap (λ (r : Reply). if too_short r.what then end_calls rooms r.state else heed r.what (end_calls rooms r.state)) (short_end made room (leb-false longest room f))
    ∙ end_calls_same rooms made))

-- ---- a piece

unless_same : (l : List ℕ) {a b : Expected} (f g : List ℕ → Expected) → a ≡ b → ((x : ℕ) (left : List ℕ) → x ∷ left ≡ l → f (x ∷ left) ≡ g (x ∷ left))
    → unless_taken l a f ≡ unless_taken l b g
unless_same [] f g e h = e
unless_same (x ∷ left) f g e h = h x left refl

heed_same : (w : What) (t : State) {a b : Expected} → StandsAfter false w t → (Live t → a ≡ b) → heed w a ≡ heed w b
heed_same (item g) t h f = ap (heed (item g)) (f h)
heed_same more t h f = f (inl h)
heed_same finished t h f = refl
heed_same (refused n p) t h f = refl

-- a call takes a byte of a piece that has one
takes_one : (s : State) (b : ℕ) (bs : List ℕ) → 1 ≤ (feed_of s (b ∷ bs) 0).taken
unfolding feed_of
takes_one s b bs = go (turn_of s b)
  where
    go : (t : Turn) → 1 ≤ (after t (λ u. feed_of u bs 1) 1).taken
    go (on u) = feed_least bs u 1
    go (off u w) = le_refl 1

fewer_left : (s : State) (bs : List ℕ) (x : ℕ) (left : List ℕ) → x ∷ left ≡ drop (feed_of s bs 0).taken bs → length (x ∷ left) < length bs
fewer_left s [] x left e =
    absurd (let z : length (x ∷ left) ≡ 0 = ap length (e ∙ drop-nil (feed_of s [] 0).taken) in omega arith)
fewer_left s (b ∷ bs) x left e =
    let a = takes_one s b bs in
    let c : length (x ∷ left) ≡ length (b ∷ bs) - (feed_of s (b ∷ bs) 0).taken = ap length e ∙ length-drop (feed_of s (b ∷ bs) 0).taken (b ∷ bs) in
    omega arith

-- what a reply comes to
abbrev heeded : (List ℕ → State → Expected) → List ℕ → List ℕ → Reply → Expected
heeded next rooms bs r =
    if too_short r.what
    then piece_calls rooms r.state bs next
    else heed r.what (unless_taken (drop r.taken bs) (next rooms r.state) (λ left. piece_calls rooms r.state left next))

-- n of the memories are needed for what follows the piece
module _ (n : ℕ) (next : List ℕ → State → Expected) (follow : State → Expected)
    (nexts : (rooms : List ℕ) (t : State) → Produced t → Live t → n ≤ wide rooms → next rooms t ≡ follow t) where
  abbrev heeded_one : ℕ → List ℕ → Reply → Expected
  heeded_one f bs r = heed r.what (unless_taken (drop r.taken bs) (follow r.state) (λ left. one.piece_calls longest f r.state left follow))

  -- a call that is served
  serves : (rooms : List ℕ) (f : ℕ) (bs : List ℕ) (r : Reply) → Produced r.state → StandsAfter false r.what r.state → n ≤ wide rooms
      → ((x : ℕ) (left : List ℕ) → x ∷ left ≡ drop r.taken bs → Live r.state
      → piece_calls rooms r.state (x ∷ left) next ≡ one.piece_calls longest f r.state (x ∷ left) follow)
      → heeded next rooms bs r ≡ heeded_one f bs r
  serves rooms f bs r made h l again =
      ap (λ (b : Bool). if b then piece_calls rooms r.state bs next
      else heed r.what (unless_taken (drop r.taken bs) (next rooms r.state) (λ left. piece_calls rooms r.state left next))) (served false r.what r.state h)
      ∙ heed_same r.what r.state h
      (λ z. unless_same (drop r.taken bs) (λ left. piece_calls rooms r.state left next) (λ left. one.piece_calls longest f r.state left follow)
      (nexts rooms r.state made z l) (λ x left e. again x left e z))

  piece_calls_same : (rooms : List ℕ) (f : ℕ) {s : State} → Produced s → (bs : List ℕ) → Enough f s (length bs) → f + n ≤ wide rooms
      → piece_calls rooms s bs next ≡ one.piece_calls longest f s bs follow
  unfolding piece_calls one.piece_calls wide
  piece_calls_same [] f made bs (inl h) l = absurd (omega arith)
  piece_calls_same [] f made bs (inr h) l = absurd (omega arith)
  piece_calls_same (room ∷ rooms) zero made bs (inl h) l = absurd (omega arith)
  piece_calls_same (room ∷ rooms) zero made bs (inr h) l = absurd (omega arith)
  piece_calls_same (room ∷ rooms) (suc f) {s} made bs h l = by_bool (leb longest room)
      (λ e. ap (heeded next rooms bs) (alike_piece made room (leb-true longest room e) bs) ∙ served_by h (rw e at l) (λ t cs z k m. piece_calls_same rooms f z cs k m))
      (λ e. ap (heeded next rooms bs) (short_piece made room (leb-false longest room e) bs) ∙ piece_calls_same rooms (suc f) made bs h (rw e at l))
    where
      served_by : Enough (suc f) s (length bs) → suc f + n ≤ suc (wide rooms)
          → ((t : State) (cs : List ℕ) → Produced t → Enough f t (length cs) → f + n ≤ wide rooms → piece_calls rooms t cs next ≡ one.piece_calls longest f t cs follow)
          → heeded next rooms bs (piece_of s bs longest) ≡ heeded_one f bs (piece_of s bs longest)
      served_by (inl g) k again =
          let r : Reply = feed_of s bs 0 in
          let is : piece_of s bs longest ≡ r = piece_going longest (le_refl longest) g.0 bs in
          ap (heeded next rooms bs) is
          ∙ serves rooms f bs r (subst (λ (x : Reply). Produced x.state) is (pieced made bs longest)) (fed bs 0 g.0) (omega arith)
          (λ x left e z. again r.state (x ∷ left) (subst (λ (y : Reply). Produced y.state) is (pieced made bs longest))
          (enough f r.state (length (x ∷ left)) z (omega (arith, fewer_left s bs x left e, g.1))) (omega arith))
          ∙ ap (heeded_one f bs) (sym is)
      served_by (inr w) k again =
          let u : State = beyond s (last_of s) w.0.beyond in
          let r : Reply = reply 0 (item (second s w.0.start)) u in
          let is : piece_of s bs longest ≡ r = piece_waits longest (le_refl longest) w.0 bs in
          let made_so : Produced u = subst (λ (y : Reply). Produced y.state) is (pieced made bs longest) in
          ap (heeded next rooms bs) is
          ∙ serves rooms f bs r made_so (inl (going_on w.0)) (omega arith)
          (λ x left e z. again u (x ∷ left) made_so
          (inl (going_on w.0, let c : length (x ∷ left) ≡ length bs = ap length e in omega (arith, w.1))) (omega arith))
          ∙ ap (heeded_one f bs) (sym is)

-- ---- all pieces, and the end

four : (n : ℕ) → 4 ≤ n → (k : ℕ) × (n ≡ suc (suc (suc (suc k))))
four (suc (suc (suc (suc k)))) l = (k, refl)
four zero l = absurd (omega arith)
four (suc zero) l = absurd (omega arith)
four (suc (suc zero)) l = absurd (omega arith)
four (suc (suc (suc zero))) l = absurd (omega arith)

-- four calls say what any more of them say
four_enough : {e : Bool} {s : State} → Going e s ⊎ Waits e s → (n : ℕ) → 4 ≤ n → one.end_calls longest n s ≡ settled s final
four_enough {e} {s} h n l =
    let k = four n l in ap (λ (m : ℕ). one.end_calls longest m s) k.1 ∙ ending longest (le_refl longest) k.0 h

hand_over_same : (ps : List (List ℕ)) (rooms : List ℕ) (s : State) → Produced s → Live s → calls_for ps ≤ wide rooms → hand_over rooms s ps ≡ one.hand_over longest s ps
unfolding hand_over one.hand_over calls_for
hand_over_same [] rooms s made h l =
    end_calls_same rooms made ∙ four_enough h (wide rooms) l ∙ sym (four_enough h 4 (le_refl 4))
hand_over_same (p ∷ ps) rooms s made h l =
    piece_calls_same (calls_for ps) (λ later t. hand_over later t ps) (λ t. one.hand_over longest t ps)
    (λ later t z live k. hand_over_same ps later t z live k) rooms (2 * length p + 2) made p (enough (2 * length p + 2) s (length p) h (le_refl (2 * length p + 2))) l

-- where a stop stands, the first memory that is long enough tells it
module _ {n p : ℕ} {s : State} (made : Produced s) (h : Repeats n p s) (z : Stops n) where
  stays_end : (rooms : List ℕ) → 1 ≤ wide rooms → end_calls rooms s ≡ record { items = []; last = word.refused n p }
  unfolding end_calls wide
  stays_end [] l = absurd (omega arith)
  stays_end (room ∷ rooms) l = by_bool (leb longest room)
      (λ e. ap (λ (r : Reply). if too_short r.what then end_calls rooms r.state else heed r.what (end_calls rooms r.state)) (h [] room (leb-true longest room e)).1
      ∙ rw (not_24 z))
      (λ e. ap (λ (r : Reply). if too_short r.what then end_calls rooms r.state else heed r.what (end_calls rooms r.state)) (short_end made room (leb-false longest room e))
      ∙ stays_end rooms (rw e at l))

  stays_piece : (rooms : List ℕ) (bs : List ℕ) (next : List ℕ → State → Expected) → 1 ≤ wide rooms
      → piece_calls rooms s bs next ≡ record { items = []; last = word.refused n p }
  unfolding piece_calls wide
  stays_piece [] bs next l = absurd (omega arith)
  stays_piece (room ∷ rooms) bs next l = by_bool (leb longest room)
      (λ e. ap (heeded next rooms bs) (h bs room (leb-true longest room e)).0 ∙ rw (not_24 z))
      (λ e. ap (heeded next rooms bs) (short_piece made room (leb-false longest room e) bs) ∙ stays_piece rooms bs next (rw e at l))

  pub stays_lent : (rooms : List ℕ) (ps : List (List ℕ)) → calls_for ps ≤ wide rooms → hand_over rooms s ps ≡ record { items = []; last = word.refused n p }
  unfolding hand_over calls_for
  stays_lent rooms [] l = stays_end rooms (omega arith)
  stays_lent rooms (bs ∷ ps) l = stays_piece rooms bs (λ later t. hand_over later t ps) (omega arith)

-- ---- from whatever calls

abbrev Tell : What → LastWord → Type 0
Tell w v = (later : Expected) → heed w later ≡ record { items = []; last = v }

tells : (v : LastWord) → Tell (due.last_of [] v) v
tells word.finished later = refl
tells (word.refused n p) later = refl

module _ (mode : ℕ) (skip : Bool) (is : mode < 2) where
  reading : {taken : List ℕ} {e : Bool} {gs : List Given} {s : State} → Closing mode skip taken e gs s → e ≡ false → Reading mode skip taken gs s
  reading (read h) f = h
  reading (closes c room fits) f = absurd (true≢false f)

  handed : {taken : List ℕ} {gs : List Given} {s : State} → Reading mode skip taken gs s → (rooms : List ℕ) (ps : List (List ℕ)) → calls_for ps ≤ wide rooms
      → prepend gs (hand_over rooms s ps) ≡ told mode skip is (taken ++ joined ps)
  handed {taken} {gs} {s} h rooms ps l = ap (prepend gs) (go (on_the_way mode skip is h)) ∙ resumes mode skip is longest (le_refl longest) h ps
    where
      made : Produced s
      made = closing_made mode skip is (read h)

      go : Live s ⊎ Stuck s → hand_over rooms s ps ≡ one.hand_over longest s ps
      go (inl z) = hand_over_same ps rooms s made z l
      go (inr k) = stays_lent made (repeats k.stuck) (halted_stop k.stuck) rooms ps l ∙ sym (stays (repeats k.stuck) ps)

  -- WHATEVER CALLS WERE MADE AND WHATEVER MEMORY IS LENT TO EACH CALL FROM THEN ON, if so many of them are long enough: a caller that hands
  -- over what is left of its text, in whatever pieces, and then the end, is given what is missing, and the last word.
  pub resumes_lending : (calls : List Call) (rooms : List ℕ) (ps : List (List ℕ)) → let h : Sum = sum_of mode skip calls in
      h.ended ≡ false → calls_for ps ≤ wide rooms → prepend h.items (hand_over rooms h.state ps) ≡ expected (in_report mode) skip (h.taken ++ joined ps)
  resumes_lending calls rooms ps e l = handed (reading (closed mode skip is calls) e) rooms ps l

  -- the same from the opening call on: DEMAND 3 with another memory at every call
  pub demand_3_lending : (rooms : List ℕ) (pieces : List (List ℕ)) → calls_for pieces ≤ wide rooms
      → drive mode skip rooms pieces ≡ expected (in_report mode) skip (joined pieces)
  unfolding drive sum.after
  demand_3_lending rooms pieces l = resumes_lending [] rooms pieces refl l

  -- ---- after the declared end

  -- one call for each item that is missing, and one for the last word
  ends_all : (l : List Given) {taken : List ℕ} {e : Bool} {gs : List Given} {s : State} (c : Closing mode skip taken e gs s)
      → gs ++ l ≡ (told mode skip is taken).items → (n : ℕ) → length l < n
      → prepend gs (one.end_calls longest n s) ≡ told mode skip is taken
  unfolding one.end_calls
  ends_all l c q zero h = absurd (omega arith)
  ends_all [] {taken} {e} {gs} {s} c q (suc n) h =
      let v : LastWord = (told mode skip is taken).last in
      let said : (end_of s longest).what ≡ due.last_of [] v = next_said mode skip is c [] q longest (le_refl longest) in
      ap (λ (w : What). prepend gs (heed w (one.end_calls longest n (end_of s longest).state))) said
      ∙ ap (prepend gs) (tells v (one.end_calls longest n (end_of s longest).state))
      ∙ ap (λ (x : List Given). record { items = x; last = v }) q
  ends_all (g ∷ l) {taken} {e} {gs} {s} c q (suc n) h =
      let v : LastWord = (told mode skip is taken).last in
      let said : (end_of s longest).what ≡ item g = next_said mode skip is c (g ∷ l) q longest (le_refl longest) in
      let y : Expected = one.end_calls longest n (end_of s longest).state in
      ap (λ (w : What). prepend gs (heed w y)) said
      ∙ ap (λ (x : List Given). record { items = x; last = y.last }) (sym (append_assoc gs (g ∷ []) y.items))
      ∙ ap (λ (w : What). prepend (gs ++ given_by w) y) (sym said)
      ∙ ends_all l (closes c longest (le_refl longest)) (ap (λ (w : What). (gs ++ given_by w) ++ l) said ∙ append_assoc gs (g ∷ []) l ∙ q) n (omega arith)

  ended_lending : {taken : List ℕ} {e : Bool} {gs : List Given} {s : State} → Closing mode skip taken e gs s → (rooms : List ℕ) → 4 ≤ wide rooms
      → prepend gs (end_calls rooms s) ≡ told mode skip is taken
  ended_lending {taken} {e} {gs} {s} c rooms l = go (safe made)
    where
      made : Produced s
      made = closing_made mode skip is c

      z : Rest mode skip is taken gs s
      z = rest mode skip is c

      many : ℕ
      many = 4 + length z.later

      live : {f : Bool} → Going f s ⊎ Waits f s → prepend gs (end_calls rooms s) ≡ told mode skip is taken
      live h =
          ap (prepend gs) (end_calls_same rooms made ∙ four_enough h (wide rooms) l ∙ sym (four_enough h many (omega arith)))
          ∙ ends_all z.later c z.is_all many (omega arith)

      go : Safe s → prepend gs (end_calls rooms s) ≡ told mode skip is taken
      go (goes f h) = live (inl h)
      go (waits f w) = live (inr w)
      go (halted n p h) =
          ap (prepend gs) (stays_end made (repeats h) (halted_stop h) rooms (omega arith))
          ∙ ap (λ (x : List Given). record { items = x; last = word.refused n p }) (append-nil gs)
          ∙ sym (all_given mode skip is c longest (le_refl longest) (word.refused n p) (ap (λ (r : Reply). r.what) (repeats h [] longest (le_refl longest)).1))

  -- the end calls alone, after the end was declared or before
  pub ends_lending : (calls : List Call) (rooms : List ℕ) → let h : Sum = sum_of mode skip calls in
      4 ≤ wide rooms → prepend h.items (end_calls rooms h.state) ≡ expected (in_report mode) skip h.taken
  ends_lending calls rooms l = ended_lending (closed mode skip is calls) rooms l
