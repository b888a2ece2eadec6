-- What a turn leaves: a reader that reads on, a pair's second item that waits, or a stop that stands; and so what a call leaves. 27 never
-- meets a state that the calls produced.
use Rattle.refusal.specs.Refusals as refusal
use Rattle.chars.specs.declared.Step.{Step}
use Rattle.chars.specs.declared.Step.TheVariants as steps
use Rattle.chars.specs.Blank.{is_blank}
use Rattle.chars.specs.Encode.{is_scalar, utf8, width, bytes_of}
use Rattle.chars.specs.Machine.{step, told}
use Rattle.items.specs.declared.Next.{Next}
use Rattle.items.specs.declared.Next.TheVariants.{Eat, Stop}
use Rattle.items.specs.declared.Outcome.{Outcome}
use Rattle.items.specs.declared.Phase.{Phase}
use Rattle.items.specs.declared.Phase.TheVariants.{AfterHash}
use Rattle.items.specs.Classes.{first_of}
use Rattle.items.specs.Items.{Place, items_of, range_after, standing, extent_items, byte_count}
use Rattle.items.specs.Kinds as kind
use Rattle.items.specs.Machine.{step_of, finish_of, on_first}
use Rattle.items.specs.Meaning.{Meaning, meaning_of}
use Rattle.items.specs.Whole.{limit, is_mode}
use Rattle.items.proofs.Depth.{depth_slow}
use Rattle.std.specs.Prelude.{if◌then◌else◌, None, Option, Some}
use Rattle.laws.specs.Quoted.{code}
use Rattle.laws.proofs.Choice.{if_all, if_is}
use Rattle.pieces.specs.declared.Stage.{Stage}
use Rattle.pieces.specs.declared.Stage.TheVariants.{Opening, Pound, FirstLine, Idle, Busy, Waiting, Stopped}
use Rattle.pieces.specs.declared.State.{State}
use Rattle.pieces.specs.Bounds.{Stops, is_in_bounds}
use Rattle.pieces.specs.Calls.{What, item, more, finished, refused, Reply, reply, last_of, item_so_far, laid_at, becomes, deeper, Turn, on, off, begin, beyond}
use Rattle.pieces.specs.Calls.{gives, report, ends, on_next, on_stage, partly, stopped, turn_of, after, feed_of, piece_stage, piece_of, declared, replied, unless_cut}
use Rattle.pieces.specs.Calls.{end_stage, end_unless_stopped, end_of, fresh, open_of}
use Rattle.pieces.specs.Expected.{longest}
use Rattle.pieces.specs.Produced.{Produced, opened, pieced, ended}
use Rattle.pieces.proofs.Kept.{Kept, Deep, HeldIn, Held, Staged, Beyonds, Calm, Within, kept_bounded, bytes_fit}
use Rattle.pieces.proofs.Becomes.{kept_pass, laid_in, kept_laid, first_in, kept_first, kept_stopped, kept_end, kept_partly}
use Rattle.pieces.proofs.Becomes.{kept_depth, kept_declared, kept_waiting, kept_range, none_begun}
use Rattle.pieces.proofs.Pairs.{Shape, alone, pair, shape}
use Rattle.pieces.proofs.Parts.{Stepped, stepped}
use Rattle.pieces.proofs.Phases.{Ranges, Sized, Goes, goes_on, first_sized, finish_ranges}
use Prim.Native.Nat.{ℕ, ◌+◌, ◌≤◌, ◌<◌}
use mathlib.Core.Path.{◌≡◌, refl, sym, ap, subst, ◌∙◌}
use mathlib.Core.Bool.{Bool, true, false, ◌&&◌}
use mathlib.Core.List.{List, [], ◌∷◌, ◌++◌}
use mathlib.Core.Logic.{◌⊎◌, inl, inr, ⊎_elim}
use lib.ListN.{length, take, length-append, length-replicate}
use lib.Seq.{length-take-le}
use lib.Dec.{eqb, leb, ltb}
use native.Mathlib.Omega.{arith}
use borrow.Author.Tests.{ltb-true, ltb-false, leb-false, eqb-true}

-- ---- what a turn leaves. e says whether the end was declared

pub record Going (e : Bool) (s : State) : Type 0 where
  pub read : List ℕ
  pub begun : List ℕ
  pub kept : Kept read begun s
  pub calm : Calm s.marks.stage
  pub deep : Deep s
  pub ended : s.marks.ended ≡ e

pub record Waits (e : Bool) (s : State) : Type 0 where
  pub read : List ℕ
  pub start : ℕ
  pub beyond : Option ℕ
  pub kept : Kept read [] s
  pub stage : s.marks.stage ≡ Waiting start beyond
  pub deep : Deep s
  pub ended : s.marks.ended ≡ e

pub record Halted (n p : ℕ) (s : State) : Type 0 where
  pub read : List ℕ
  pub kept : Kept read [] s
  pub stage : s.marks.stage ≡ Stopped n p
  pub deep : Deep s

-- how a state stands after something was given
abbrev pub StandsAfter : Bool → What → State → Type 0
StandsAfter e (item g) s = Going e s ⊎ Waits e s
StandsAfter e more s = Going e s
StandsAfter e finished s = Going e s
StandsAfter e (refused n p) s = Halted n p s

abbrev pub Turned : Bool → Turn → Type 0
Turned e (on s) = Going e s
Turned e (off s w) = StandsAfter e w s

-- the bytes that are held are as many as it says
pub held_length : {q g : List ℕ} {s : State} → Kept q g s → length (take s.marks.len s.buf) ≡ s.marks.len
held_length {q} {g} {s} k = length-take-le s.marks.len s.buf (omega (arith, k.full, k.small))

module _ {q g : List ℕ} {s : State} (k : Kept q g s) where
  -- no more brackets are open than bytes were read
  abbrev Low : Type 0
  Low = s.marks.depth ≤ s.marks.at

  pub going_begin : Low → (c : ℕ) → is_scalar c ≡ true → s.marks.at + width c ≤ limit → (last : Place) → Within last → Going s.marks.ended (begin s last c)
  going_begin low c scalar room last w =
      let b : Stage = Busy s.marks.at (on_first (first_of c)) in
      if_all (Going s.marks.ended) (is_blank c)
      (record { read = q ++ (c ∷ []); begun = []; kept = kept_pass k c scalar room Idle last w tt; calm = tt; deep = omega arith; ended = refl })
      (record {
        read = q ++ (c ∷ []);
        begun = [];
        calm = tt;
        deep = omega arith;
        ended = refl;
        kept = kept_first k c scalar room b last w (first_in k c scalar room b last, first_sized (width c) c);
      })

  pub going_beyond : Low → (b : Option ℕ) → Beyonds b s.marks.at → (last : Place) → Within last → Going s.marks.ended (beyond s last b)
  going_beyond low (Some c) h last w = going_begin low c h.0 h.1 last w
  going_beyond low None h last w = record { read = q; begun = []; kept = kept_end k last w; calm = tt; deep = omega arith; ended = refl }

  halts : Low → (n p : ℕ) → Stops n → p ≤ limit → Halted n p (becomes s s.buf (Stopped n p) s.marks.at 0 (last_of s))
  halts low n p h l = record { read = q; kept = kept_stopped k n p h l; stage = refl; deep = omega arith }

-- a character in an item, and a pound sign at the start of the text
module _ {q g : List ℕ} {s : State} (k : Kept q g s) (c : ℕ) (scalar : is_scalar c ≡ true) (room : s.marks.at + width c ≤ limit) where
  pub step_goes : (st : ℕ) → Held q s st → (p : Phase) → Sized s.marks.len p → Goes (item_so_far s) c (step_of (report s) p (item_so_far s) c)
  step_goes st h p z =
      goes_on (item_so_far s) c (omega (arith, held_length k, h.some)) (omega (arith, held_length k, h.ends)) room (report s) p (rw (← held_length k) at z)

  pub kept_pound : q ≡ [] → c ≡ code "#" → Kept (q ++ (c ∷ [])) [] (becomes s (laid_at 0 (utf8 c) s.buf) Pound (s.marks.at + width c) (width c) (last_of s))
  unfolding bytes_of utf8 width
  kept_pound e f =
      let none : s.marks.at ≡ 0 = k.place ∙ ap byte_count e in
      let one : width c ≡ 1 = ap width f in
      let h : HeldIn (q ++ (c ∷ [])) (laid_at 0 (utf8 c) s.buf) (width c) (s.marks.at + width c) 0
      = subst (HeldIn (q ++ (c ∷ [])) (laid_at 0 (utf8 c) s.buf) (width c) (s.marks.at + width c)) none (first_in k c scalar room Pound (last_of s)) in
      let bytes : bytes_of (q ++ (c ∷ [])) ≡ code "#" ∷ [] = rw (e, f) in
      kept_first k c scalar room Pound (last_of s) k.last (h, (one, sym h.bytes ∙ bytes))

-- an item of a kind was given
pub counted_low : {q : List ℕ} (s : State) {st : ℕ} → Held q s st → Deep s → (n : ℕ) → (deeper n s).marks.depth ≤ s.marks.at
counted_low {q} s h deep n = omega (arith, depth_slow n s.marks.depth, h.some)

module _ {q g : List ℕ} {s : State} (k : Kept q g s) (deep : Deep s) where
  -- the items of an extent
  module _ (st : ℕ) (h : Held q s st) (b : Option ℕ) (ok : Beyonds b s.marks.at) where
    turned_gives : (last : Place) → Within last → (r : Bool) (set : Place) (ms : List Meaning) → Shape st s.marks.at (take s.marks.len s.buf) ms
        → Turned s.marks.ended (gives s st last b (items_of r set st s.marks.at ms))
    turned_gives last w r set ms (alone m) =
        if_all (Turned s.marks.ended) (s.marks.skip && eqb m.kind kind.Comment) (going_beyond k (omega arith) b ok last w)
        (inl (going_beyond (kept_depth k _) (counted_low s h deep m.kind) b ok last w))
    turned_gives last w r set ms (pair two) =
        inr (record { read = q; start = st; beyond = b; kept = kept_waiting k st b last w h (omega (arith, held_length k)) ok; stage = refl; deep = deep; ended = refl })

    turned_ends : (o : Outcome) → Ranges o → Turned s.marks.ended (ends s st o b)
    unfolding extent_items
    turned_ends o r =
        turned_gives (range_after (report s) (last_of s) st o (item_so_far s))
        (kept_range k st o (item_so_far s) r (omega (arith, h.ends, k.far)) (omega (arith, k.far)) (omega (arith, h.ends, k.far, bytes_fit s)))
        (report s) (range_after (report s) (standing (report s) (last_of s)) st o (item_so_far s)) (meaning_of (report s) o st s.marks.at (take s.marks.len s.buf))
        (shape st s.marks.at (take s.marks.len s.buf) (report s) o)

  -- a character in an item
  module _ (c : ℕ) (scalar : is_scalar c ≡ true) (room : s.marks.at + width c ≤ limit) where
    turned_next : (st : ℕ) → Held q s st → (n : Next) → Goes (item_so_far s) c n → Turned s.marks.ended (on_next s st c n)
    turned_next st h (Eat p) z =
        if_is (Turned s.marks.ended) (ltb longest (s.marks.len + width c))
        (λ _. halts k (omega arith) refusal.long_item st (inr (inr refl)) (omega (arith, h.ends, k.far)))
        (λ e. record {
          read = q ++ (c ∷ []);
          begun = [];
          calm = tt;
          deep = omega arith;
          ended = refl;
          kept = kept_laid k c scalar room (Busy st p) s.marks.len (s.marks.len + width c) (last_of s) k.last refl (ltb-false _ _ e) (
            laid_in k c scalar room (Busy st p) st s.marks.len (s.marks.len + width c) (last_of s) refl (ltb-false _ _ e) h.ends h.bytes,
            rw (held_length k) at z,
          );
        })
    turned_next st h (Stop o) z = turned_ends st h (Some c) (scalar, room) o z

    staged : {b : Stage} → s.marks.stage ≡ b → Staged q s b
    staged e = subst (Staged q s) e k.staged

    turned_stage : (b : Stage) → s.marks.stage ≡ b → Calm b → Turned s.marks.ended (on_stage s b c)
    turned_stage Opening e z =
        if_is (Going s.marks.ended) (eqb c (code "#"))
        (λ f. record { read = q ++ (c ∷ []); begun = []; kept = kept_pound k c scalar room (staged e) (eqb-true c (code "#") f); calm = tt; deep = omega arith; ended = refl })
        (λ _. going_begin k (omega arith) c scalar room (last_of s) k.last)
    turned_stage Pound e z =
        if_all (Turned s.marks.ended) (eqb c (code "!"))
        (record { read = q ++ (c ∷ []); begun = []; kept = kept_pass k c scalar room FirstLine (last_of s) k.last tt; calm = tt; deep = omega arith; ended = refl })
        (turned_next 0 (staged e).0 (step_of (report s) AfterHash (item_so_far s) c) (step_goes k c scalar room 0 (staged e).0 AfterHash tt))
    turned_stage FirstLine e z =
        if_all (Going s.marks.ended) (eqb c (code "\n")) (going_begin k (omega arith) c scalar room (last_of s) k.last)
        (record { read = q ++ (c ∷ []); begun = []; kept = kept_pass k c scalar room FirstLine (last_of s) k.last tt; calm = tt; deep = omega arith; ended = refl })
    turned_stage Idle e z = going_begin k (omega arith) c scalar room (last_of s) k.last
    turned_stage (Busy st p) e z =
        turned_next st (staged e).0 (step_of (report s) p (item_so_far s) c) (step_goes k c scalar room st (staged e).0 p (staged e).1)
    turned_stage (Waiting st b) e z = absurd z
    turned_stage (Stopped n p) e z = absurd z

-- ---- one byte

pub turned : {e : Bool} {s : State} → Going e s → (b : ℕ) → Turned e (turn_of s b)
unfolding turn_of
turned {e} {s} h b =
    if_is (Turned e) (leb limit (s.marks.at + s.marks.part.count))
    (λ _. halts k (omega (arith, h.deep)) refusal.over_long limit (inl refl) (omega arith))
    (λ f. go (leb-false limit (s.marks.at + s.marks.part.count) f) (step s.marks.part.state b) (stepped h.begun s.marks.part b k.begun))
  where
    k : Kept h.read h.begun s
    k = h.kept

    go : s.marks.at + s.marks.part.count < limit → (o : Step) → Stepped h.begun s.marks.part b o
        → Turned e (told o (λ u. on (partly s (record { count = s.marks.part.count + 1; state = u }))) (λ c. on_stage s s.marks.stage c) (stopped s refusal.not_utf8 s.marks.at))
    go far (steps.More u) z = record {
      read = h.read;
      begun = h.begun ++ (b ∷ []);
      kept = kept_partly k (h.begun ++ (b ∷ [])) _ z (omega arith) h.calm;
      calm = h.calm;
      deep = h.deep;
      ended = h.ended;
    }
    go far (steps.Char c) z =
        let room : s.marks.at + width c ≤ limit = omega (arith, z.count, length-append h.begun (b ∷ []), k.begun.count) in
        rw (← h.ended) (turned_stage k h.deep c z.scalar room s.marks.stage refl h.calm)
    go far steps.Bad z = halts k (omega (arith, h.deep)) refusal.not_utf8 s.marks.at (inr (inl refl)) (omega arith)

-- ---- a call

-- the second item of a pair was given
pub going_on : {e : Bool} {s : State} (w : Waits e s) → Going e (beyond s (last_of s) w.beyond)
going_on {e} {s} w =
    let k : Kept w.read [] s = w.kept in
    rw (← w.ended) (going_beyond k (omega (arith, w.deep)) w.beyond (subst (Staged w.read s) w.stage k.staged).1.1.1 (last_of s) k.last)

abbrev pub Leaves : Bool → Reply → Type 0
Leaves e r = StandsAfter e r.what r.state

pub fed : (bs : List ℕ) {e : Bool} {s : State} (n : ℕ) → Going e s → Leaves e (feed_of s bs n)
unfolding feed_of
fed [] n h = h
fed (b ∷ bs) {e} {s} n h = go (turn_of s b) (turned h b) (λ u z. fed bs (n + 1) z)
  where
    go : (t : Turn) → Turned e t → ((u : State) → Going e u → Leaves e (feed_of u bs (n + 1))) → Leaves e (after t (λ u. feed_of u bs (n + 1)) (n + 1))
    go (on u) z ih = ih u z
    go (off u w) z ih = z

-- ---- an end call

pub going_declared : {e : Bool} {s : State} → Going e s → Going true (declared s)
going_declared h = record { read = h.read; begun = h.begun; kept = kept_declared h.kept; calm = h.calm; deep = h.deep; ended = refl }

abbrev pub waits_declared : {e : Bool} {s : State} → Waits e s → Waits true (declared s)
waits_declared w = record { read = w.read; start = w.start; beyond = w.beyond; kept = kept_declared w.kept; stage = w.stage; deep = w.deep; ended = refl }

replies : (e : Bool) (t : Turn) → Turned e t → Leaves e (replied t)
replies e (on s) h = h
replies e (off s w) h = h

module _ {s : State} (h : Going true s) where
  kept_now : Kept h.read h.begun s
  kept_now = h.kept

  uncut : (r : Reply) → Leaves true r → Leaves true (unless_cut s r)
  uncut r z =
      if_all (Leaves true) (eqb s.marks.part.count 0) z
      (halts kept_now (omega (arith, h.deep)) refusal.not_utf8 s.marks.at (inr (inl refl)) (omega (arith, kept_now.far)))

  ended_item : (st : ℕ) → Held h.read s st → (p : Phase) → Sized s.marks.len p
      → Leaves true (unless_cut s (replied (ends s st (finish_of p (item_so_far s).bytes) None)))
  ended_item st held p z =
      uncut (replied (ends s st (finish_of p (item_so_far s).bytes) None))
      (replies true (ends s st (finish_of p (item_so_far s).bytes) None)
      (rw (← h.ended) (turned_ends kept_now h.deep st held None tt (finish_of p (item_so_far s).bytes) (finish_ranges s.marks.len p (item_so_far s).bytes z))))

  ended_stage : (b : Stage) → s.marks.stage ≡ b → Calm b → Leaves true (end_stage s b)
  ended_stage Opening e z = uncut (reply 0 finished s) h
  ended_stage Pound e z = ended_item 0 (subst (Staged h.read s) e kept_now.staged).0 AfterHash tt
  ended_stage FirstLine e z = uncut (reply 0 finished s) h
  ended_stage Idle e z = uncut (reply 0 finished s) h
  ended_stage (Busy st p) e z =
      let staged : Staged h.read s (Busy st p) = subst (Staged h.read s) e kept_now.staged in ended_item st staged.0 p staged.1
  ended_stage (Waiting st b) e z = absurd z
  ended_stage (Stopped n p) e z = absurd z

pub end_going : {e : Bool} {s : State} → Going e s → Leaves true (end_unless_stopped s s.marks.stage)
end_going {e} {s} h = go s.marks.stage refl h.calm
  where
    go : (b : Stage) → s.marks.stage ≡ b → Calm b → Leaves true (end_unless_stopped s b)
    go Opening e z = ended_stage (going_declared h) Opening e tt
    go Pound e z = ended_stage (going_declared h) Pound e tt
    go FirstLine e z = ended_stage (going_declared h) FirstLine e tt
    go Idle e z = ended_stage (going_declared h) Idle e tt
    go (Busy st p) e z = ended_stage (going_declared h) (Busy st p) e tt
    go (Waiting st b) e z = absurd z
    go (Stopped n p) e z = absurd z

pub end_waits : {e : Bool} {s : State} → Waits e s → Leaves true (end_unless_stopped s s.marks.stage)
end_waits {e} {s} w = subst (λ (b : Stage). Leaves true (end_unless_stopped s b)) (sym w.stage) (inl (going_on (waits_declared w)))

-- ---- 01: "Number 27 never meets a state that the opening call and later calls produced."

pub data Safe (s : State) : Type 0 where
  goes : (e : Bool) → Going e s → Safe s
  waits : (e : Bool) → Waits e s → Safe s
  halted : (n p : ℕ) → Halted n p s → Safe s

left_safe : (e : Bool) (w : What) (s : State) → StandsAfter e w s → Safe s
left_safe e (item g) s z = ⊎_elim (λ h. goes e h) (λ h. waits e h) z
left_safe e more s z = goes e z
left_safe e finished s z = goes e z
left_safe e (refused n p) s z = halted n p z

safe_bounded : {s : State} → Safe s → is_in_bounds s ≡ true
safe_bounded (goes e h) = kept_bounded h.kept h.deep
safe_bounded (waits e h) = kept_bounded h.kept h.deep
safe_bounded (halted n p h) = kept_bounded h.kept h.deep

abbrev SafeReply : Reply → Type 0
SafeReply r = Safe r.state

safe_piece : {s : State} → Safe s → (bs : List ℕ) → SafeReply (piece_stage s s.marks.stage bs)
safe_piece {s} (goes e h) bs = go s.marks.stage h.calm
  where
    fits : SafeReply (if s.marks.ended then reply 0 (refused refusal.after_end 0) s else feed_of s bs 0)
    fits = if_all SafeReply s.marks.ended (goes e h) (left_safe e (feed_of s bs 0).what (feed_of s bs 0).state (fed bs 0 h))

    go : (b : Stage) → Calm b → SafeReply (piece_stage s b bs)
    go Opening z = fits
    go Pound z = fits
    go FirstLine z = fits
    go Idle z = fits
    go (Busy st p) z = fits
    go (Waiting st b) z = absurd z
    go (Stopped n p) z = absurd z
safe_piece {s} (waits e w) bs =
    subst (λ (b : Stage). SafeReply (piece_stage s b bs)) (sym w.stage) (if_all SafeReply s.marks.ended (waits e w) (goes e (going_on w)))
safe_piece {s} (halted n p h) bs = subst (λ (b : Stage). SafeReply (piece_stage s b bs)) (sym h.stage) (halted n p h)

safe_end : {s : State} → Safe s → SafeReply (end_unless_stopped s s.marks.stage)
safe_end {s} (goes e h) = let r : Reply = end_unless_stopped s s.marks.stage in left_safe true r.what r.state (end_going h)
safe_end {s} (waits e w) = let r : Reply = end_unless_stopped s s.marks.stage in left_safe true r.what r.state (end_waits w)
safe_end {s} (halted n p h) = subst (λ (b : Stage). SafeReply (end_unless_stopped s b)) (sym h.stage) (halted n p h)

pub fresh_kept : (mode : ℕ) (skip : Bool) → mode < 2 → Kept [] [] (fresh mode skip)
fresh_kept mode skip h = record {
  mode = h;
  full = length-replicate {A = ℕ} longest 0;
  small = omega arith;
  place = refl;
  far = omega arith;
  last = (omega arith, omega arith);
  scalars = tt;
  begun = none_begun;
  staged = refl;
}

pub going_fresh : (mode : ℕ) (skip : Bool) → mode < 2 → Going false (fresh mode skip)
going_fresh mode skip h = record { read = []; begun = []; kept = fresh_kept mode skip h; calm = tt; deep = omega arith; ended = refl }

pub safe : {s : State} → Produced s → Safe s
unfolding open_of piece_of end_of
safe (opened mode skip) =
    if_is SafeReply (is_mode mode) (λ e. goes false (going_fresh mode skip (ltb-true mode 2 e))) (λ _. goes false (going_fresh 0 skip (omega arith)))
safe (pieced {s} p bs room) =
    let h : Safe s = safe p in if_all SafeReply (is_in_bounds s) (if_all SafeReply (ltb room longest) h (safe_piece h bs)) h
safe (ended {s} p room) =
    let h : Safe s = safe p in if_all SafeReply (is_in_bounds s) (if_all SafeReply (ltb room longest) h (safe_end h)) h

pub never_27 : {s : State} → Produced s → is_in_bounds s ≡ true
never_27 p = safe_bounded (safe p)
