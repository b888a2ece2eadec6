-- A byte that leaves the reader where it stands: its turn does what passing it does. So a run of them passed at once leaves what their
-- turns leave one by one.
use Prim.Native.Nat.{ℕ, zero, suc, ◌+◌, ◌-◌, ◌≤◌, ◌<◌}
use mathlib.Core.Path.{◌≡◌, refl, sym, ap, ◌∙◌, subst}
use mathlib.Core.Bool.{Bool, true, false, not}
use mathlib.Core.List.{List, [], ◌∷◌}
use lib.Dec.{eqb, ltb}
use lib.ListN.{length, take, drop, set, length-set, length-take, length-drop}
use lib.Seq.{sets, drop-drop}
use native.Mathlib.Nat.{add-zero}
use native.Mathlib.Numerals.{add-one}
use native.Mathlib.Omega.{arith}
use borrow.Author.Tests.{eq-eqb, ltb-true, lt-ltb, le-ltb, lt-leb, not-true}
use Rattle.std.specs.Prelude.{if◌then◌else◌}
use Rattle.laws.specs.Texts.{span}
use Rattle.laws.specs.Quoted.{code}
use Rattle.laws.proofs.Choice.{by_bool, no_yes, and_true}
use Rattle.laws.proofs.Runs.{span_le}
use Rattle.chars.specs.Encode.{width}
use Rattle.chars.specs.Machine.{step}
use Rattle.chars.proofs.Table.{first_ascii}
use Rattle.chars.proofs.Width.{utf8-one}
use Rattle.items.specs.Whole.{limit}
use Rattle.steps.proofs.Kept.{kept_ascii, kept_stays, blank_ascii}
use Rattle.pieces.specs.declared.Stage.{Stage}
use Rattle.pieces.specs.declared.Stage.TheVariants.{Opening, Pound, FirstLine, Idle, Busy, Waiting, Stopped}
use Rattle.pieces.specs.declared.Marks.{Marks}
use Rattle.pieces.specs.declared.State.{State}
use Rattle.pieces.specs.Expected.{longest}
use Rattle.pieces.specs.Calls.{Turn, on, becomes, last_of, item_so_far, laid_at, report, on_stage, turn_of, after, feed_of}
use Rattle.pieces_giving.specs.Answers.{state_of}
use Rattle.pieces_turns.specs.Inner.{Sound}
use Rattle.pieces_turns.specs.Passed.{kept, passed_at, passed}
use Rattle.pieces_giving.proofs.Laid.{laid_sets}
use Rattle.pieces_turns.proofs.Sounds.{turn_sound}
use Rattle.pieces_turns.proofs.Told.{sane}

-- ---- what is passed

pub passed_none : (s : State) (w : List ℕ) → length w ≡ 0 → s ≡ passed s w
passed_none s [] h = refl
passed_none s (c ∷ w) h = absurd (omega arith)

pub passed_some : (s : State) (w : List ℕ) → 0 < length w → (g : Stage) → s.marks.stage ≡ g → passed_at s g w ≡ passed s w
passed_some s [] h g e = absurd (omega arith)
passed_some s (c ∷ w) h g e = ap (λ (x : Stage). passed_at s x (c ∷ w)) (sym e)

-- ---- a byte that is kept is a character of ASCII

kept_small : (g : Stage) (c : ℕ) → kept g c ≡ true → c < 0x80
kept_small Opening c e = no_yes e
kept_small Pound c e = no_yes e
kept_small FirstLine c e = ltb-true c 0x80 (and_true (ltb c 0x80) _ e).0
kept_small Idle c e = (blank_ascii c e).0
kept_small (Busy st p) c e = ltb-true c 0x80 (kept_ascii p c e)
kept_small (Waiting st b) c e = no_yes e
kept_small (Stopped n p) c e = no_yes e

width_ascii : (c : ℕ) → c < 0x80 → width c ≡ 1
unfolding width
width_ascii c h = rw (lt-ltb c 0x80 h)

-- ---- its turn

stage_kept : (s : State) (g : Stage) (c : ℕ) → kept g c ≡ true → s.marks.len + 1 ≤ longest → on_stage s g c ≡ on (passed_at s g (c ∷ []))
stage_kept s Opening c e room = no_yes e
stage_kept s Pound c e room = no_yes e
stage_kept s FirstLine c e room =
    let other = not-true (eqb c (code "\n")) (and_true (not (eqb c (code "\n"))) _ (and_true (ltb c 0x80) _ e).1).0 in rw (other, width_ascii c (kept_small FirstLine c e))
stage_kept s Idle c e room = let f = blank_ascii c e in rw (f.1, width_ascii c f.0)
stage_kept s (Busy st p) c e room =
    let small = kept_small (Busy st p) c e in
    rw (kept_stays (report s) p (item_so_far s) c e, width_ascii c small, utf8-one c small, le-ltb longest (s.marks.len + 1) room)
stage_kept s (Waiting st b) c e room = no_yes e
stage_kept s (Stopped n p) c e room = no_yes e

module _ (s : State) (none_begun : s.marks.part.count ≡ 0) (none-wanted : s.marks.part.state.need ≡ 0) where
  turn_kept : (c : ℕ) → kept s.marks.stage c ≡ true → s.marks.len + 1 ≤ longest → s.marks.at + 1 ≤ limit
      → turn_of s c ≡ on (passed_at s s.marks.stage (c ∷ []))
  unfolding turn_of step
  turn_kept c e room far =
      rw (
        lt-leb limit (s.marks.at + s.marks.part.count) (omega arith),
        eq-eqb s.marks.part.state.need 0 none-wanted,
        first_ascii c (kept_small s.marks.stage c e),
      ) (stage_kept s s.marks.stage c e room)

-- ---- a run of them

laid_more : (n c : ℕ) (w buf : List ℕ) → n + 1 + length w ≤ length buf → laid_at (n + 1) w (laid_at n (c ∷ []) buf) ≡ laid_at n (c ∷ w) buf
laid_more n c w buf h =
    ap (laid_at (n + 1) w) (sym (laid_sets n (c ∷ []) buf (omega arith)))
    ∙ sym (laid_sets (n + 1) w (set buf n c) (omega (arith, length-set buf n c)))
    ∙ ap (λ (k : ℕ). sets (set buf n c) k w) (add-one n)
    ∙ laid_sets n (c ∷ w) buf (omega arith)

module _ (s : State) (c : ℕ) where
  passed_on : (g : Stage) → kept g c ≡ true → (w : List ℕ) → s.marks.len + 1 + length w ≤ length s.buf
      → passed (passed_at s g (c ∷ [])) w ≡ passed_at s g (c ∷ w)
  passed_on Opening e w h = no_yes e
  passed_on Pound e w h = no_yes e
  passed_on FirstLine e [] h = refl
  passed_on FirstLine e (d ∷ w) h =
      let sum : s.marks.at + 1 + length (d ∷ w) ≡ s.marks.at + length (c ∷ d ∷ w) = omega arith in
      ap (λ (n : ℕ). becomes s s.buf FirstLine n 0 (last_of s)) sum
  passed_on Idle e [] h = refl
  passed_on Idle e (d ∷ w) h =
      let sum : s.marks.at + 1 + length (d ∷ w) ≡ s.marks.at + length (c ∷ d ∷ w) = omega arith in
      ap (λ (n : ℕ). becomes s s.buf Idle n 0 (last_of s)) sum
  passed_on (Busy st p) e [] h = refl
  passed_on (Busy st p) e (d ∷ w) h =
      let sum : s.marks.at + 1 + length (d ∷ w) ≡ s.marks.at + length (c ∷ d ∷ w) = omega arith in
      let all : s.marks.len + 1 + length (d ∷ w) ≡ s.marks.len + length (c ∷ d ∷ w) = omega arith in
      ap (λ (n : ℕ). becomes s (laid_at (s.marks.len + 1) (d ∷ w) (laid_at s.marks.len (c ∷ []) s.buf)) (Busy st p) n (s.marks.len + 1 + length (d ∷ w)) (last_of s)) sum
      ∙ ap (λ (n : ℕ). becomes s (laid_at (s.marks.len + 1) (d ∷ w) (laid_at s.marks.len (c ∷ []) s.buf)) (Busy st p) (s.marks.at + length (c ∷ d ∷ w)) n (last_of s)) all
      ∙ ap (λ (l : List ℕ). becomes s l (Busy st p) (s.marks.at + length (c ∷ d ∷ w)) (s.marks.len + length (c ∷ d ∷ w)) (last_of s)) (laid_more s.marks.len c (d ∷ w) s.buf h)
  passed_on (Waiting st b) e w h = no_yes e
  passed_on (Stopped n p) e w h = no_yes e

  -- the reader stands where it stood, one byte further
  same_stage : (g : Stage) → kept g c ≡ true → (passed_at s g (c ∷ [])).marks.stage ≡ g
  same_stage Opening e = no_yes e
  same_stage Pound e = no_yes e
  same_stage FirstLine e = refl
  same_stage Idle e = refl
  same_stage (Busy st p) e = refl
  same_stage (Waiting st b) e = no_yes e
  same_stage (Stopped n p) e = no_yes e

  further : (g : Stage) → kept g c ≡ true
      → ((passed_at s g (c ∷ [])).marks.len ≤ s.marks.len + 1) × ((passed_at s g (c ∷ [])).marks.at ≡ s.marks.at + 1) × ((passed_at s g (c ∷ [])).marks.part.count ≡ 0)
  further Opening e = no_yes e
  further Pound e = no_yes e
  further FirstLine e = (omega arith, refl, refl)
  further Idle e = (omega arith, refl, refl)
  further (Busy st p) e = (omega arith, refl, refl)
  further (Waiting st b) e = no_yes e
  further (Stopped n p) e = no_yes e

-- what the bytes bs give from the state s on, at the place i, is what the rest of them gives from the state x on, which reads on too
abbrev Onward : List ℕ → State → List ℕ → ℕ → ℕ → State → Type 0
Onward text s bs i n x = Sound x.marks x.buf text × (feed_of x (drop n bs) (i + n) ≡ feed_of s bs i)

run_fed : (n : ℕ) (s : State) (text : List ℕ) → Sound s.marks s.buf text → (bs : List ℕ) (i : ℕ) → n ≤ span (kept s.marks.stage) bs
    → s.marks.len + n ≤ longest → s.marks.at + n ≤ limit → (0 < n → s.marks.part.count ≡ 0) → Onward text s bs i n (passed s (take n bs))
unfolding span feed_of
run_fed zero s text h bs i k room far begun = (h, rw (add-zero i))
run_fed (suc n) s text h [] i k room far begun = absurd (omega arith)
run_fed (suc n) s text h (c ∷ bs) i k room far begun =
    by_bool (kept s.marks.stage c)
    (λ e.
    let g = s.marks.stage in
    let count : s.marks.part.count ≡ 0 = begun (omega arith) in
    let need : s.marks.part.state.need ≡ 0 = rw count at (sane s h.bounded h.calm).wants in
    let t : State = passed_at s g (c ∷ []) in
    let turned : turn_of s c ≡ on t = turn_kept s count need c e (omega arith) (omega arith) in
    let past = further s c g e in
    let more : n ≤ span (kept t.marks.stage) bs = rw (same_stage s c g e) (let z : suc n ≤ suc (span (kept g) bs) = rw e at k in omega arith) in
    let rest = run_fed n t text (turn_sound s.marks s.buf text h c t.marks t.buf (sym turned)) bs (i + 1) more (omega (arith, past.0)) (omega (arith, past.1)) (λ z. past.2) in
    let one : feed_of t bs (i + 1) ≡ feed_of s (c ∷ bs) i = ap (λ (x : Turn). after x (λ u. feed_of u bs (i + 1)) (i + 1)) (sym turned) in
    let sum : i + 1 + n ≡ i + suc n = omega arith in
    subst (Onward text s (c ∷ bs) i (suc n)) (passed_on s c g e (take n bs) (omega (arith, length-take n bs, h.full)))
    (rest.0, ap (feed_of (passed t (take n bs)) (drop n bs)) (sym sum) ∙ rest.1 ∙ one))
    (λ e. absurd (let z : suc n ≤ 0 = rw e at k in omega arith))

-- a run of the first bytes is one of all
span-take : (f : ℕ → Bool) (n : ℕ) (t : List ℕ) → span f (take n t) ≤ span f t
unfolding span
span-take f zero t = omega arith
span-take f (suc n) [] = omega arith
span-take f (suc n) (c ∷ t) = go (f c) (span-take f n t)
  where
    go : (x : Bool) → span f (take n t) ≤ span f t → (if x then suc (span f (take n t)) else 0) ≤ (if x then suc (span f t) else 0)
    go true h = omega arith
    go false h = omega arith

-- a run within some bytes of a piece: it is a run of the piece, and as short as they are
pub run_part : (f : ℕ → Bool) (piece : List ℕ) (i n r : ℕ) → r ≤ span f (take n (drop i piece)) → (r ≤ span f (drop i piece)) × (r ≤ n)
run_part f piece i n r h =
    (omega (arith, span-take f n (drop i piece)), omega (arith, span_le f (take n (drop i piece)), length-take n (drop i piece)))

-- it lies within the piece
pub run_within : (f : ℕ → Bool) (piece : List ℕ) (i n : ℕ) → i ≤ length piece → n ≤ span f (drop i piece) → i + n ≤ length piece
run_within f piece i n h k = omega (arith, span_le f (drop i piece), length-drop i piece)

-- a run of a piece, passed at once
pub passes : (m : Marks) (buf text piece : List ℕ) (i n : ℕ) → Sound m buf text
    → (n ≤ span (kept m.stage) (drop i piece)) × (m.len + n ≤ longest) × (m.at + n ≤ limit) × (0 < n → m.part.count ≡ 0)
    → (here : Marks) (now : List ℕ) → state_of here now ≡ passed (state_of m buf) (take (i + n - i) (drop i piece))
    → Sound here now text × (feed_of (state_of here now) (drop (i + n) piece) (i + n) ≡ feed_of (state_of m buf) (drop i piece) i)
passes m buf text piece i n h may here now e =
    let k : i + n - i ≡ n = omega arith in
    let run = run_fed n (state_of m buf) text h (drop i piece) i may.0 may.1 may.2 may.3 in
    let at : state_of here now ≡ passed (state_of m buf) (take n (drop i piece)) = e ∙ ap (λ (j : ℕ). passed (state_of m buf) (take j (drop i piece))) k in
    let there = subst (Onward text (state_of m buf) (drop i piece) i n) (sym at) run in
    (there.0, ap (λ (l : List ℕ). feed_of (state_of here now) l (i + n)) (sym (drop-drop n i piece)) ∙ there.1)
