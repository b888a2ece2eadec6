-- From spot to spot: what the code writes is what the bytes' turns leave.
use Prim.Native.Nat.{ℕ, zero, suc, ◌+◌, ◌-◌, ◌/◌, ◌%◌, ◌^◌, ◌≤◌, ◌<◌}
use mathlib.Core.Path.{◌≡◌, refl, sym, ap, ◌∙◌}
use mathlib.Core.List.{List, [], ◌∷◌}
use lib.ListN.{length, get_or, take, drop, set, length-set, length-take, length-drop}
use lib.Seq.{drop-cons, length-take-le, length-sets}
use native.Mathlib.Omega.{arith}
use native.Mathlib.Numerals.{add-one}
use Rattle.laws.specs.Texts.{span}
use Rattle.byte_runs.specs.Runs.{blank}
use Rattle.items.specs.Items.{range}
use Rattle.items.specs.Classes.{first_of}
use Rattle.items.specs.Machine.{on_first}
use Rattle.pieces.specs.declared.Stage.{Stage}
use Rattle.pieces.specs.declared.Stage.TheVariants.{Idle, Busy}
use Rattle.pieces.specs.declared.Marks.{Marks}
use Rattle.pieces.specs.Expected.{longest}
use Rattle.pieces.specs.Calls.{Turn, on, marks, laid_at, turn_of, after, feed_of}
use Rattle.pieces_giving.specs.Answers.{state_of}
use Rattle.pieces_giving.proofs.Laid.{laid_sets}
use Rattle.pieces_turns.specs.Inner.{Sound}
use Rattle.pieces_turns.specs.Passed.{kept, passed}
use Rattle.pieces_turns.proofs.Passes.{passed_none, passed_some, run_part, run_within, passes}
use Rattle.pieces_turns.proofs.Sounds.{turn_sound}
use Rattle.pieces_lent.specs.Coding.{stage_of, stage_row}
use Rattle.pieces_spots.specs.declared.PieceSpot.{PieceSpot}
use Rattle.pieces_spots.specs.Spots.{row_at, marks_at, state_at, Fits, Goes, Onward, Solid, Keeps, Closes}
use Rattle.pieces_spots.proofs.Turning.{turned_begun, turned_eaten}

-- a spot feeds on as itself
pub stay : (s : PieceSpot) (buf piece : List ℕ) → Onward s buf s buf piece
stay s buf piece m text h = record { sound = h; feeds = refl }

-- one spot after the other
pub along : (piece : List ℕ) (s : PieceSpot) (buf : List ℕ) (r : PieceSpot) (now : List ℕ) (q : PieceSpot) (then : List ℕ)
    → Onward s buf r now piece → Onward r now q then piece → Onward s buf q then piece
along piece s buf r now q then f g m text h =
    let a = f m text h in
    let b = g m text a.sound in record { sound = b.sound; feeds = b.feeds ∙ a.feeds }

-- ---- a byte by its turn

module _ (m : Marks) (text piece : List ℕ) (s : PieceSpot) (buf : List ℕ) (r : PieceSpot) (now : List ℕ) (h : Sound (marks_at m s) buf text)
    (inside : s.i < length piece) (on_one : r.i ≡ s.i + 1) (turned : turn_of (state_at m s buf) (get_or piece s.i 0) ≡ on (state_at m r now)) where
  pub turn_goes : Goes m text piece s buf r now
  unfolding feed_of
  turn_goes =
      let c = get_or piece s.i 0 in
      let i = s.i in
      let front : drop i piece ≡ c ∷ drop (suc i) piece = drop-cons piece i 0 inside in
      let next : r.i ≡ suc i = on_one ∙ add-one i in
      record {
        sound = turn_sound (marks_at m s) buf text h c (marks_at m r) now (sym turned);
        feeds =
            ap (λ (k : ℕ). feed_of (state_at m r now) (drop k piece) k) next
            ∙ ap (λ (k : ℕ). feed_of (state_at m r now) (drop (suc i) piece) k) (sym (add-one i))
            ∙ ap (λ (x : Turn). after x (λ u. feed_of u (drop (suc i) piece) (i + 1)) (i + 1)) (sym turned)
            ∙ ap (λ (l : List ℕ). feed_of (state_at m s buf) l i) (sym front);
      }

-- ---- past blanks

pub idle_stage : (s : PieceSpot) → s.stage ≡ 3 → stage_of (row_at s) ≡ Idle
unfolding stage_of
idle_stage s e = rw e

module _ (s : PieceSpot) (buf piece : List ℕ) (fits : Fits s buf piece) (idle : s.stage ≡ 3) (none : s.len ≡ 0) (n : ℕ) (short : n ≤ longest)
    (blanks : n ≤ span blank (drop s.i piece)) where
  abbrev past : PieceSpot
  past = record { stage = 3; start = 0; which = 0; detail = 0; at = s.at + n; len = 0; i = s.i + n }

  pub past_inside : s.i + n ≤ length piece
  past_inside = run_within blank piece s.i n fits.inside blanks

  pub past_fits : Fits past buf piece
  unfolding stage_of
  past_fits = record {
    full = fits.full;
    inside = past_inside;
    far = omega (arith, fits.far);
    small = omega arith;
    held = λ h. absurd (omega arith);
    rows = refl;
    which = omega arith;
    detail = omega arith;
  }

  pub past_on : Onward s buf past buf piece
  unfolding stage_of
  past_on m text h =
      let here : (marks_at m s).stage ≡ Idle = idle_stage s idle in
      let all : n ≤ span (kept (marks_at m s).stage) (drop s.i piece) = rw here blanks in
      let k : s.i + n - s.i ≡ n = omega arith in
      let size : length (take n (drop s.i piece)) ≡ n = length-take-le n (drop s.i piece) (omega (arith, length-drop s.i piece, past_inside)) in
      let reached : state_at m past buf ≡ passed (state_at m s buf) (take n (drop s.i piece)) = go n refl size in
      let p = passes (marks_at m s) buf text piece s.i n h (all, omega (arith, none), omega (arith, fits.far, past_inside), λ z. refl)
      (marks_at m past) buf (reached ∙ ap (λ (j : ℕ). passed (state_at m s buf) (take j (drop s.i piece))) (sym k)) in
      record { sound = p.0; feeds = p.1 }
    where
      go : (j : ℕ) → j ≡ n → length (take j (drop s.i piece)) ≡ j
          → state_of (marks m Idle (s.at + n) 0 (range m.from m.to)) buf ≡ passed (state_at m s buf) (take j (drop s.i piece))
      go zero e z =
          let far : s.at + n ≡ s.at = omega arith in
          ap (λ (x : ℕ). state_of (marks m Idle x 0 (range m.from m.to)) buf) far
          ∙ ap (λ (x : ℕ). state_of (marks m Idle s.at x (range m.from m.to)) buf) (sym none)
          ∙ ap (λ (g : Stage). state_of (marks m g s.at s.len (range m.from m.to)) buf) (sym (idle_stage s idle))
          ∙ passed_none (state_at m s buf) (take 0 (drop s.i piece)) z
      go (suc j) e z =
          let w = take (suc j) (drop s.i piece) in
          let sum : s.at + n ≡ s.at + length w = omega (arith, z, e) in
          ap (λ (x : ℕ). state_of (marks m Idle x 0 (range m.from m.to)) buf) sum
          ∙ passed_some (state_at m s buf) w (omega (arith, z)) Idle (idle_stage s idle)

-- ---- into an item

module _ (s : PieceSpot) (buf piece : List ℕ) (fits : Fits s buf piece) (idle : s.stage ≡ 3) (f : ℕ) (inside : s.i < length piece)
    (told : Solid (get_or piece s.i 0) f) (few : f < 2 ^ 16) where
  abbrev begun : PieceSpot
  begun = record { stage = f % 64; start = s.at; which = f / 64 % 32; detail = f / 2048; at = s.at + 1; len = 1; i = s.i + 1 }

  abbrev c : ℕ
  c = get_or piece s.i 0

  pub begun_fits : Fits begun (set buf 0 c) piece
  begun_fits = record {
    full = length-set buf 0 c ∙ fits.full;
    inside = omega arith;
    far = omega (arith, fits.far);
    small = omega arith;
    held = λ h. (refl, omega arith);
    rows = ap stage_row (told.stands s.at) ∙ told.rows s.at;
    which = omega arith;
    detail = omega arith;
  }

  pub begun_on : Onward s buf begun (set buf 0 c) piece
  begun_on m text h =
      let laid : laid_at 0 (c ∷ []) buf ≡ set buf 0 c = sym (laid_sets 0 (c ∷ []) buf (omega (arith, fits.full))) in
      turn_goes m text piece s buf begun (set buf 0 c) h inside refl
      (turned_begun (state_at m s buf) (record { count = refl; need = refl; far = omega (arith, fits.far) }) (idle_stage s idle) c told.small told.solid
      (on_first (first_of c)) refl
      ∙ ap (λ (l : List ℕ). on (state_of (marks m (Busy s.at (on_first (first_of c))) (s.at + 1) 1 (range m.from m.to)) l)) laid
      ∙ ap (λ (g : Stage). on (state_of (marks m g (s.at + 1) 1 (range m.from m.to)) (set buf 0 c))) (sym (told.stands s.at)))

-- ---- past the bytes that leave an item in its phase

module _ (s : PieceSpot) (buf piece : List ℕ) (fits : Fits s buf piece) (n k : ℕ) (some : 0 < n) (room : s.len + k ≤ longest)
    (kept_run : Keeps s.stage s.which n (take k (drop s.i piece))) where
  abbrev ran : PieceSpot
  ran = record { stage = s.stage; start = s.start; which = s.which; detail = s.detail; at = s.at + n; len = s.len + n; i = s.i + n }

  pub ran_all : (n ≤ span (kept (stage_of (row_at s))) (drop s.i piece)) × (n ≤ k)
  ran_all =
      let p = run_part (kept (Busy s.start kept_run.phase)) piece s.i k n kept_run.run in
      (rw (kept_run.stands s.start s.detail) p.0, p.1)

  pub ran_inside : s.i + n ≤ length piece
  ran_inside = run_within (kept (stage_of (row_at s))) piece s.i n fits.inside ran_all.0

  pub ran_fits : (now : List ℕ) → now ≡ laid_at s.len (take n (drop s.i piece)) buf → Fits ran now piece
  ran_fits now laid = record {
    full =
        let w = take n (drop s.i piece) in
        let size : length w ≤ n = omega (arith, length-take n (drop s.i piece)) in
        ap length (laid ∙ sym (laid_sets s.len w buf (omega (arith, size, ran_all.1, fits.full)))) ∙ length-sets buf s.len w ∙ fits.full;
    inside = ran_inside;
    far = omega (arith, fits.far);
    small = omega (arith, ran_all.1);
    held = λ h. let k = fits.held h in (omega (arith, k.0), omega (arith, k.1));
    rows = fits.rows;
    which = fits.which;
    detail = fits.detail;
  }

  pub ran_on : (now : List ℕ) → now ≡ laid_at s.len (take n (drop s.i piece)) buf → Onward s buf ran now piece
  ran_on now laid m text h =
      let w = take n (drop s.i piece) in
      let j : s.i + n - s.i ≡ n = omega arith in
      let here : stage_of (row_at s) ≡ Busy s.start kept_run.phase = kept_run.stands s.start s.detail in
      let size : length w ≡ n = length-take-le n (drop s.i piece) (omega (arith, length-drop s.i piece, ran_inside)) in
      let reached : state_at m ran now ≡ passed (state_at m s buf) w =
      rw (laid, here)
      (ap (λ (x : ℕ). state_of (marks m (Busy s.start kept_run.phase) (s.at + x) (s.len + x) (range m.from m.to)) (laid_at s.len w buf)) (sym size)
      ∙ passed_some (state_of (marks m (Busy s.start kept_run.phase) s.at s.len (range m.from m.to)) buf) w (omega (arith, size)) (Busy s.start kept_run.phase) refl) in
      let p = passes (marks_at m s) buf text piece s.i n h
      (ran_all.0, omega (arith, ran_all.1), omega (arith, fits.far, ran_inside), λ z. refl)
      (marks_at m ran) now (reached ∙ ap (λ (x : ℕ). passed (state_at m s buf) (take x (drop s.i piece))) (sym j)) in
      record { sound = p.0; feeds = p.1 }

-- ---- past a byte that closes an item

module _ (s : PieceSpot) (buf piece : List ℕ) (fits : Fits s buf piece) (f : ℕ) (inside : s.i < length piece) (room : s.len < longest)
    (told : Closes s.stage s.which (get_or piece s.i 0) f (take s.len buf)) where
  abbrev closed : PieceSpot
  closed = record { stage = f % 64; start = s.start; which = f / 64 % 32; detail = f / 2048; at = s.at + 1; len = s.len + 1; i = s.i + 1 }

  abbrev d : ℕ
  d = get_or piece s.i 0

  pub closed_fits : Fits closed (set buf s.len d) piece
  closed_fits = record {
    full = length-set buf s.len d ∙ fits.full;
    inside = omega arith;
    far = omega (arith, fits.far);
    small = omega arith;
    held = λ h. let k = fits.held told.item in (omega (arith, k.0), omega arith);
    rows = ap stage_row (told.then s.start) ∙ told.rows s.start;
    which = omega arith;
    detail = omega (arith, told.few);
  }

  pub closed_on : Onward s buf closed (set buf s.len d) piece
  closed_on m text h =
      let laid : laid_at s.len (d ∷ []) buf ≡ set buf s.len d = sym (laid_sets s.len (d ∷ []) buf (omega (arith, fits.full))) in
      turn_goes m text piece s buf closed (set buf s.len d) h inside refl
      (turned_eaten (state_at m s buf) (record { count = refl; need = refl; far = omega (arith, fits.far) }) s.start told.phase told.next
      (told.stands s.start s.detail) d told.small (omega arith) (told.eats _ _ refl)
      ∙ ap (λ (l : List ℕ). on (state_of (marks m (Busy s.start told.next) (s.at + 1) (s.len + 1) (range m.from m.to)) l)) laid
      ∙ ap (λ (g : Stage). on (state_of (marks m g (s.at + 1) (s.len + 1) (range m.from m.to)) (set buf s.len d))) (sym (told.then s.start)))
