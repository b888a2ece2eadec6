-- What the bounds tell of a state that reads on, forged or not: its numbers, its character begun and its item; and that what they tell is
-- all that they ask.
use Prim.Native.Nat.{ℕ, zero, suc, ◌+◌, ◌-◌, ◌*◌, ◌^◌, ◌≤◌, ◌<◌}
use mathlib.Core.Path.{◌≡◌, refl}
use mathlib.Core.Bool.{true, ◌&&◌}
use lib.Dec.{eqb, leb, ltb}
use native.Mathlib.Omega.{arith}
use borrow.Author.Tests.{eqb-true, leb-true, ltb-true, eq-eqb, ne_eqb, le-leb, lt-ltb}
use Rattle.std.specs.Prelude.{if◌then◌else◌}
use Rattle.laws.proofs.Choice.{and_true, no_yes}
use Rattle.items.specs.Kinds as kind
use Rattle.items.specs.declared.Outcome.{Outcome}
use Rattle.items.specs.declared.Outcome.TheVariants.{Token, Str, HereStr, Word, Run, Lined, Keyword, Character, Error, ErrorAt}
use Rattle.items.specs.declared.Phase.{Phase}
use Rattle.items.specs.declared.Phase.TheVariants as ph
use Rattle.items.specs.Machine.{depth_of}
use Rattle.items.specs.Whole.{limit}
use Rattle.pieces.specs.declared.Stage.{Stage}
use Rattle.pieces.specs.declared.Stage.TheVariants.{Opening, Pound, FirstLine, Idle, Busy, Waiting, Stopped}
use Rattle.pieces.specs.declared.Part.{Part}
use Rattle.pieces.specs.declared.Marks.{Marks}
use Rattle.pieces.specs.declared.State.{State}
use Rattle.pieces.specs.Bounds.{is_place, part_bounds, done_bounds, phase_bounds, held_bounds, stage_bounds, number_bounds, is_in_bounds}
use Rattle.pieces_turns.specs.Inner.{reads_on}
use Rattle.pieces.proofs.Parts.{Wants, part_bounded}
use Rattle.pieces.proofs.Phases.{Settled, Sized}
use Rattle.pieces.proofs.Kept.{both, phase_bounded}
use Rattle.pieces_bounds.proofs.Bounded.{Numbers, numbers}

-- ---- what the tests tell

told_part : (p : Part) → part_bounds p ≡ true → Wants p.count p.state.need p.state.code
told_part p h = go p.count p.state.need p.state.code h
  where
    sum : (k need code : ℕ) → (leb 1 need && leb (k + need) 4 && ltb code (2 ^ (1 + 6 * k - (k + need)))) ≡ true
        → (1 ≤ need) × (k + need ≤ 4) × (code < 2 ^ (1 + 6 * k - (k + need)))
    sum k need code h =
        let a = and_true (leb 1 need && leb (k + need) 4) (ltb code (2 ^ (1 + 6 * k - (k + need)))) h in
        let b = and_true (leb 1 need) (leb (k + need) 4) a.0 in
        (leb-true 1 need b.0, leb-true (k + need) 4 b.1, ltb-true code (2 ^ (1 + 6 * k - (k + need))) a.1)

    go : (k need code : ℕ) → (if eqb k 0 then eqb need 0 else leb 1 need && leb (k + need) 4 && ltb code (2 ^ (1 + 6 * k - (k + need)))) ≡ true
        → Wants k need code
    go zero need code h = eqb-true need 0 h
    go (suc zero) need code h = one need (sum 1 need code h)
      where
        one : (need : ℕ) → (1 ≤ need) × (1 + need ≤ 4) × (code < 2 ^ (1 + 6 * 1 - (1 + need))) → Wants 1 need code
        one need f = let e : 1 + 6 * 1 - (1 + need) ≡ 6 - need = omega arith in (f.0, (omega arith, rw e at f.2))
    go (suc (suc zero)) need code h = two need (sum 2 need code h)
      where
        two : (need : ℕ) → (1 ≤ need) × (2 + need ≤ 4) × (code < 2 ^ (1 + 6 * 2 - (2 + need))) → Wants 2 need code
        two need f = let e : 1 + 6 * 2 - (2 + need) ≡ 11 - need = omega arith in (f.0, (omega arith, rw e at f.2))
    go (suc (suc (suc zero))) need code h = three need (sum 3 need code h)
      where
        three : (need : ℕ) → (1 ≤ need) × (3 + need ≤ 4) × (code < 2 ^ (1 + 6 * 3 - (3 + need))) → Wants 3 need code
        three need f = let e : need ≡ 1 = omega arith in (e, rw e at f.2)
    go (suc (suc (suc (suc n)))) need code h =
        let f = sum (suc (suc (suc (suc n)))) need code (rw (ne_eqb (suc (suc (suc (suc n)))) 0 (λ e. omega arith)) at h) in absurd (omega arith)

told_done : (o : Outcome) → done_bounds o ≡ true → Settled o
told_done (Token k d) h = tt
told_done Str h = no_yes h
told_done HereStr h = no_yes h
told_done Word h = no_yes h
told_done Run h = no_yes h
told_done Lined h = no_yes h
told_done Keyword h = no_yes h
told_done Character h = no_yes h
told_done (Error n d) h = leb-true n kind.last_error h
told_done (ErrorAt n d a b) h =
    let f = and_true (leb n kind.last_error && is_place a) (is_place b) h in
    let g = and_true (leb n kind.last_error) (is_place a) f.0 in
    (leb-true n kind.last_error g.0, (leb-true a limit g.1, leb-true b limit f.1))

pub told_phase : (p : Phase) (n : ℕ) → phase_bounds p n ≡ true → Sized n p
told_phase ph.InLine n h = tt
told_phase ph.AfterComma n h = tt
told_phase ph.AfterHash n h = tt
told_phase ph.AfterAngle n h = tt
told_phase ph.HereDelim n h = tt
told_phase ph.HereStart n h = tt
told_phase ph.HereBody n h = tt
told_phase ph.InWord n h = tt
told_phase ph.WordEscape n h = tt
told_phase ph.InRun n h = tt
told_phase ph.InHash n h = tt
told_phase ph.HashEscape n h = tt
told_phase ph.HashTick n h = tt
told_phase ph.HashComma n h = tt
told_phase (ph.Nest d) n h = leb-true d n h
told_phase (ph.NestBar d) n h = leb-true d n h
told_phase (ph.NestSharp d) n h = leb-true d n h
told_phase (ph.Quoted k) n h = tt
told_phase (ph.Closed k) n h = leb-true 2 n h
told_phase (ph.TrimBefore k) n h = tt
told_phase (ph.TrimAfter k) n h = tt
told_phase (ph.Escape k from) n h = leb-true from limit h
told_phase (ph.Brace k from) n h = leb-true from limit h
told_phase (ph.Hex k closer from m) n h = let f = and_true (is_place from) (leb m n) h in (leb-true from limit f.0, leb-true m n f.1)
told_phase (ph.Done o) n h = told_done o h

-- a comment is at most as deep as the item is long
pub deep : (p : Phase) (n : ℕ) → Sized n p → depth_of p ≤ n
deep ph.InLine n h = omega arith
deep ph.AfterComma n h = omega arith
deep ph.AfterHash n h = omega arith
deep ph.AfterAngle n h = omega arith
deep ph.HereDelim n h = omega arith
deep ph.HereStart n h = omega arith
deep ph.HereBody n h = omega arith
deep ph.InWord n h = omega arith
deep ph.WordEscape n h = omega arith
deep ph.InRun n h = omega arith
deep ph.InHash n h = omega arith
deep ph.HashEscape n h = omega arith
deep ph.HashTick n h = omega arith
deep ph.HashComma n h = omega arith
deep (ph.Nest d) n h = h
deep (ph.NestBar d) n h = h
deep (ph.NestSharp d) n h = h
deep (ph.Quoted k) n h = omega arith
deep (ph.Closed k) n h = omega arith
deep (ph.TrimBefore k) n h = omega arith
deep (ph.TrimAfter k) n h = omega arith
deep (ph.Escape k from) n h = omega arith
deep (ph.Brace k from) n h = omega arith
deep (ph.Hex k closer from m) n h = omega arith
deep (ph.Done o) n h = omega arith

pub told_held : (st : ℕ) (m : Marks) (least : ℕ) → held_bounds st m least ≡ true → (st + m.len ≡ m.at) × (least ≤ m.len)
told_held st m least h =
    let f = and_true (eqb (st + m.len) m.at) (leb least m.len) h in
    (eqb-true (st + m.len) m.at f.0, leb-true least m.len f.1)

-- ---- a state that reads on

abbrev pub Stood : Marks → Stage → Type 0
Stood m Opening = m.at ≡ 0
Stood m Pound = (m.len ≡ 1) × (m.at ≡ 1)
Stood m FirstLine = Unit {0}
Stood m Idle = Unit {0}
Stood m (Busy st p) = ((st + m.len ≡ m.at) × (1 ≤ m.len)) × Sized m.len p
Stood m (Waiting st b) = ⊥
Stood m (Stopped n p) = ⊥

pub record Sane (s : State) : Type 0 where
  pub numbers : Numbers s.marks
  pub wants : Wants s.marks.part.count s.marks.part.state.need s.marks.part.state.code
  pub stood : Stood s.marks s.marks.stage

told_stage : (g : Stage) (m : Marks) → reads_on g ≡ true → stage_bounds g m ≡ true → Stood m g
told_stage Opening m c h = eqb-true m.at 0 h
told_stage Pound m c h = let f = and_true (eqb m.len 1) (eqb m.at 1) h in (eqb-true m.len 1 f.0, eqb-true m.at 1 f.1)
told_stage FirstLine m c h = tt
told_stage Idle m c h = tt
told_stage (Busy st p) m c h =
    let f = and_true (held_bounds st m 1) (phase_bounds p m.len) h in (told_held st m 1 f.0, told_phase p m.len f.1)
told_stage (Waiting st b) m c h = no_yes c
told_stage (Stopped n p) m c h = no_yes c

module _ (s : State) (bounded : is_in_bounds s ≡ true) where
  pub told_numbers : (number_bounds s.marks ≡ true) × (part_bounds s.marks.part ≡ true) × (stage_bounds s.marks.stage s.marks ≡ true)
  unfolding is_in_bounds
  told_numbers =
      let a = and_true (number_bounds s.marks && part_bounds s.marks.part) (stage_bounds s.marks.stage s.marks) bounded in
      let b = and_true (number_bounds s.marks) (part_bounds s.marks.part) a.0 in
      (b.0, b.1, a.1)

  pub sane : reads_on s.marks.stage ≡ true → Sane s
  sane calm = record {
    numbers = numbers s.marks told_numbers.0;
    wants = told_part s.marks.part told_numbers.1;
    stood = told_stage s.marks.stage s.marks calm told_numbers.2;
  }

-- and back
stood_bounded : (g : Stage) (m : Marks) → Stood m g → (reads_on g ≡ true) × (stage_bounds g m ≡ true)
stood_bounded Opening m h = (refl, eq-eqb _ _ h)
stood_bounded Pound m h = (refl, both (eq-eqb _ _ h.0) (eq-eqb _ _ h.1))
stood_bounded FirstLine m h = (refl, refl)
stood_bounded Idle m h = (refl, refl)
stood_bounded (Busy st p) m h = (refl, both (both (eq-eqb _ _ h.0.0) (le-leb _ _ h.0.1)) (phase_bounded m.len p h.1))
stood_bounded (Waiting st b) m h = absurd h
stood_bounded (Stopped n p) m h = absurd h

pub sane_bounded : (s : State) → Sane s → (is_in_bounds s ≡ true) × (reads_on s.marks.stage ≡ true)
unfolding is_in_bounds
sane_bounded s k =
    let f = stood_bounded s.marks.stage s.marks k.stood in
    let n = k.numbers in (
      both (both (both (both (both (both (both (lt-ltb _ _ n.mode) (le-leb _ _ n.far)) (le-leb _ _ n.small)) (le-leb _ _ n.from)) (le-leb _ _ n.to)) (le-leb _ _ n.deep))
          (part_bounded s.marks.part k.wants)) f.1,
      f.0,
    )
