-- What a state that reads on gives to the inner functions that ask for something, and that a byte that gives nothing leaves such a state.
use Rattle.std.proofs.Common.{Some}
use Prim.Native.Nat.{ℕ, zero, suc, ◌+◌, ◌*◌, ◌^◌, ◌%◌, ◌≤◌, ◌<◌}
use mathlib.Core.Path.{◌≡◌, refl, sym, ◌∙◌, subst}
use mathlib.Core.Bool.{Bool, true, ◌&&◌}
use mathlib.Core.List.{List}
use lib.ListN.{length, take, drop, length-append, length-drop}
use lib.Seq.{length-take-le}
use lib.Dec.{eqb, leb, ltb}
use native.Mathlib.Omega.{arith}
use borrow.Author.Tests.{eqb-true, leb-false, ltb-false, lt-ltb}
use Rattle.refusal.specs.Refusals as refusal
use Rattle.laws.specs.Quoted as quoted
use Rattle.laws.proofs.Choice.{if_all, if_is, within_is}
use Rattle.laws.specs.Lent.{written}
use Rattle.laws.proofs.Lent.{length-written}
use Rattle.chars.specs.declared.Begun as chars
use Rattle.chars.specs.declared.Step.{Step}
use Rattle.chars.specs.declared.Step.TheVariants as steps
use Rattle.laws.specs.Quoted.{within}
use Rattle.chars.specs.Utf8.{ascii, first}
use Rattle.chars.specs.Encode.{width, utf8}
use Rattle.chars.specs.Blank.{is_blank}
use Rattle.chars.specs.Machine.{step, told}
use Rattle.chars.proofs.Width.{wide, width_le, width-utf8}
use Rattle.items.specs.Kinds as kind
use Rattle.items.specs.declared.Outcome.{Outcome}
use Rattle.items.specs.declared.Outcome.TheVariants.{Token, Str, HereStr, Word, Run, Lined, Keyword, Character, Error, ErrorAt}
use Rattle.items.specs.declared.Phase.{Phase}
use Rattle.items.specs.declared.Phase.TheVariants as ph
use Rattle.items.specs.declared.Next.{Next}
use Rattle.items.specs.declared.Next.TheVariants.{Eat, Stop}
use Rattle.items.specs.Classes.{first_of}
use Rattle.items.specs.Meaning.{Meaning, meaning_of}
use Rattle.items.specs.Items.{Place, range_after, standing, items_of, extent_items}
use Rattle.items.specs.Machine.{step_of, finish_of, on_first}
use Rattle.items.specs.Whole.{limit}
use Rattle.pieces.specs.declared.Stage.{Stage}
use Rattle.pieces.specs.declared.Stage.TheVariants.{Opening, Pound, FirstLine, Idle, Busy, Waiting, Stopped}
use Rattle.pieces.specs.declared.Marks.{Marks}
use Rattle.pieces.specs.declared.State.{State}
use Rattle.pieces.specs.Expected.{longest}
use Rattle.pieces.specs.Bounds.{phase_bounds}
use Rattle.pieces.specs.Calls.{Turn, on, off, marks, becomes, last_of, item_so_far, laid_at, stopped, begin, gives, report, ends, on_next, on_stage, partly, turn_of}
use Rattle.pieces_giving.specs.Answers.{state_of}
use Rattle.pieces_giving.specs.Inner.{HoldsItem, OutcomeFits, CharFits}
use Rattle.pieces_turns.specs.Inner.{Sound}
use Rattle.pieces.proofs.Parts.{Wants, Wanted, wants_on}
use Rattle.pieces.proofs.Phases.{Ranges, Goes, goes_on, first_sized, finish_ranges}
use Rattle.pieces.proofs.Kept.{Within, range_within, bytes_fit, phase_bounded}
use Rattle.pieces.proofs.Pairs.{Shape, alone, pair, shape}
use Rattle.pieces_turns.proofs.Told.{told_phase, Stood, Sane, sane, sane_bounded}

-- ---- what the inner functions ask

pub outcome_fits : (o : Outcome) → Ranges o → OutcomeFits o
outcome_fits (Token k d) h = record { number = omega arith; from = omega arith; to = omega arith }
outcome_fits Str h = record { number = omega arith; from = omega arith; to = omega arith }
outcome_fits HereStr h = record { number = omega arith; from = omega arith; to = omega arith }
outcome_fits Word h = record { number = omega arith; from = omega arith; to = omega arith }
outcome_fits Run h = record { number = omega arith; from = omega arith; to = omega arith }
outcome_fits Lined h = record { number = omega arith; from = omega arith; to = omega arith }
outcome_fits Keyword h = record { number = omega arith; from = omega arith; to = omega arith }
outcome_fits Character h = record { number = omega arith; from = omega arith; to = omega arith }
outcome_fits (Error n d) h = record { number = h; from = omega arith; to = omega arith }
outcome_fits (ErrorAt n d a b) h = record { number = h.0; from = h.1.0; to = h.1.1 }

-- a character that becomes whole has no more bytes than were taken
abbrev Whole : ℕ → Step → Type 0
Whole k (steps.More u) = Unit {0}
Whole k (steps.Char c) = (width c ≤ k + 1) × (c < 2 ^ 21)
Whole k steps.Bad = Unit {0}

width_one : (c : ℕ) → c < 0x80 → width c ≤ 1
unfolding width
width_one c h = rw (lt-ltb c 0x80 h) (omega arith)

width_up : (c : ℕ) → c < 0x800 → width c ≤ 2
unfolding width
width_up c h = if_all (λ (n : ℕ). n ≤ 2) (ltb c 0x80) (omega arith) (rw (lt-ltb c 0x800 h) (omega arith))

width_three : (c : ℕ) → c < 0x10000 → width c ≤ 3
unfolding width
width_three c h =
    if_all (λ (n : ℕ). n ≤ 3) (ltb c 0x80) (omega arith) (if_all (λ (n : ℕ). n ≤ 3) (ltb c 0x800) (omega arith) (rw (lt-ltb c 0x10000 h) (omega arith)))

width_hash : (c : ℕ) → c ≡ quoted.code "#" → width c ≡ 1
unfolding width
width_hash c h = rw h

first_whole : (b : ℕ) → Whole 0 (first b)
unfolding first
first_whole b =
    let P : Step → Type 0 = Whole 0 in
    if_is P (ascii b) (λ e. let h = within_is 0x00 0x7F b e in (width_one b (omega arith), omega arith)) (λ _.
    if_all P (within 0xC2 0xDF b) tt (if_all P (within 0xE0 0xE0 b) tt (if_all P (within 0xE1 0xEC b) tt (if_all P (within 0xED 0xED b) tt
    (if_all P (within 0xEE 0xEF b) tt (if_all P (within 0xF0 0xF0 b) tt (if_all P (within 0xF1 0xF3 b) tt (if_all P (within 0xF4 0xF4 b) tt tt))))))))

within_whole : (k : ℕ) (t : chars.Begun) (b : ℕ) → (t.need ≡ 0 → ⊥) → (t.need ≡ 1 → Whole k (steps.Char (t.code * 64 + b % 64))) → Whole k (step t b)
unfolding step
within_whole k t b some is =
    let P : Step → Type 0 = Whole k in
    if_is P (eqb t.need 0) (λ e. absurd (some (eqb-true t.need 0 e))) (λ _.
    if_all P (within t.low t.high b && leb t.code 0x7FFF)
    (if_is P (eqb t.need 1) (λ e. is (eqb-true t.need 1 e)) (λ _. tt))
    tt)

whole : (k : ℕ) (t : chars.Begun) (b : ℕ) → Wants k t.need t.code → Whole k (step t b)
unfolding step
whole zero t b h = rw h (first_whole b)
whole (suc zero) t b h =
    within_whole 1 t b (λ e. omega arith)
    (λ e. let f : t.code < 2 ^ 5 = rw e at h.1.1 in (width_up (t.code * 64 + b % 64) (omega arith), omega arith))
whole (suc (suc zero)) t b h =
    within_whole 2 t b (λ e. omega arith)
    (λ e. let f : t.code < 2 ^ 10 = rw e at h.1.1 in (width_three (t.code * 64 + b % 64) (omega arith), omega arith))
whole (suc (suc (suc zero))) t b h = within_whole 3 t b (λ e. omega arith) (λ e. (width_le (t.code * 64 + b % 64), omega (arith, h.1)))
whole (suc (suc (suc (suc n)))) t b h = absurd h

pub char_fits : (s : State) → Sane s → (b c : ℕ) → s.marks.at + s.marks.part.count < limit → step s.marks.part.state b ≡ steps.Char c
    → CharFits c s.marks.at
char_fits s k b c far e =
    let h = subst (Whole s.marks.part.count) e (whole s.marks.part.count s.marks.part.state b k.wants) in
    record { far = omega (arith, h.0); small = h.1 }

-- ---- the item that is held

module _ (s : State) (text : List ℕ) (full : length s.buf ≡ longest) (room : longest ≤ length text) (k : Sane s) where
  pub held_busy : (st : ℕ) (p : Phase) → s.marks.stage ≡ Busy st p
      → HoldsItem s.marks s.buf text st × (phase_bounds p s.marks.len ≡ true)
  held_busy st p e =
      let h = subst (Stood s.marks) e k.stood in (
        record {
          full = full;
          room = room;
          some = h.0.1;
          small = k.numbers.small;
          ends = h.0.0;
          far = omega (arith, k.numbers.far);
          from = k.numbers.from;
          to = k.numbers.to;
        },
        phase_bounded s.marks.len p h.1,
      )

  pub held_pound : s.marks.stage ≡ Pound → HoldsItem s.marks s.buf text 0
  held_pound e =
      let h = subst (Stood s.marks) e k.stood in
      record {
        full = full;
        room = room;
        some = omega arith;
        small = k.numbers.small;
        ends = omega arith;
        far = omega arith;
        from = k.numbers.from;
        to = k.numbers.to;
      }

-- ---- one character

held_all : (s : State) → length s.buf ≡ longest → s.marks.len ≤ longest → length (take s.marks.len s.buf) ≡ s.marks.len
held_all s full small = length-take-le s.marks.len s.buf (omega arith)

module _ (s : State) (full : length s.buf ≡ longest) (small : s.marks.len ≤ longest) (some : 1 ≤ s.marks.len)
    (p : Phase) (z : phase_bounds p s.marks.len ≡ true) where
  goes : (c : ℕ) → s.marks.len ≤ s.marks.at → s.marks.at + width c ≤ limit → Goes (item_so_far s) c (step_of (report s) p (item_so_far s) c)
  goes c back far =
      goes_on (item_so_far s) c (omega (arith, held_all s full small)) (omega (arith, held_all s full small)) far (report s) p (rw (← held_all s full small) at (told_phase p s.marks.len z))

  pub stop_fits : (c : ℕ) → s.marks.len ≤ s.marks.at → s.marks.at + width c ≤ limit → (o : Outcome) → step_of (report s) p (item_so_far s) c ≡ Stop o → OutcomeFits o
  stop_fits c back far o e = outcome_fits o (subst (Goes (item_so_far s) c) e (goes c back far))

  pub finish_fits : OutcomeFits (finish_of p (item_so_far s).bytes)
  finish_fits = outcome_fits _ (finish_ranges s.marks.len p (item_so_far s).bytes (told_phase p s.marks.len z))

-- ---- what a turn that goes on leaves

abbrev OnSane : Turn → Type 0
OnSane (on t) = Sane t × (length t.buf ≡ longest)
OnSane (off t w) = Unit {0}

length-laid : (n : ℕ) (w buf : List ℕ) → n + length w ≤ length buf → length (laid_at n w buf) ≡ length buf
length-laid n w buf h =
    omega (
      arith,
      length-append (take n buf) (written w (drop n buf)),
      length-take-le n buf (omega arith),
      length-drop n buf,
      length-written w (drop n buf) (omega (arith, length-drop n buf)),
    )

module _ (s : State) (full : length s.buf ≡ longest) (k : Sane s) where
  become : (g : Stage) (at n : ℕ) (last : Place) → at ≤ limit → n ≤ longest → s.marks.depth + n ≤ at → Within last → Stood (marks s.marks g at n last) g
      → (b : List ℕ) → Sane (becomes s b g at n last)
  become g at n last far small deep w h b = record {
    numbers = record { mode = k.numbers.mode; far = omega arith; small = small; from = w.0; to = w.1; deep = deep };
    wants = refl;
    stood = h;
  }

  within_last : Within (last_of s)
  within_last = (k.numbers.from, k.numbers.to)

  module _ (c : ℕ) (far : s.marks.at + width c ≤ limit) where
    laid : (n : ℕ) → n + width c ≤ longest → length (laid_at n (utf8 c) s.buf) ≡ longest
    laid n h = length-laid n (utf8 c) s.buf (omega (arith, width-utf8 c, full)) ∙ full

    sane_begin : (last : Place) → Within last → OnSane (on (begin s last c))
    sane_begin last w =
        if_all (λ (t : State). OnSane (on t)) (is_blank c)
        (become Idle (s.marks.at + width c) 0 last far (omega arith) (omega (arith, k.numbers.deep)) w tt s.buf, full) (
          become (Busy s.marks.at (on_first (first_of c))) (s.marks.at + width c) (width c) last far (omega (arith, width_le c)) (omega (arith, k.numbers.deep)) w
              ((refl, omega (arith, wide c)), first_sized (width c) c) (laid_at 0 (utf8 c) s.buf),
          laid 0 (omega (arith, width_le c)),
        )

    -- the items of an extent: where nothing is given, a comment is skipped
    sane_gives : (st : ℕ) (last set : Place) → Within last → (r : Bool) (ms : List Meaning) → Shape st s.marks.at (take s.marks.len s.buf) ms
        → OnSane (gives s st last (Some c) (items_of r set st s.marks.at ms))
    sane_gives st last set w r ms (alone m) = if_all OnSane (s.marks.skip && eqb m.kind kind.Comment) (sane_begin last w) tt
    sane_gives st last set w r ms (pair two) = tt

    sane_next : (st : ℕ) → st + s.marks.len ≡ s.marks.at → 1 ≤ s.marks.len → (n : Next) → Goes (item_so_far s) c n → OnSane (on_next s st c n)
    unfolding extent_items
    sane_next st ends some (Eat q) z =
        if_is OnSane (ltb longest (s.marks.len + width c)) (λ _. tt)
        (λ e. let h : s.marks.len + width c ≤ longest = ltb-false _ _ e in (
          become (Busy st q) (s.marks.at + width c) (s.marks.len + width c) (last_of s) far h (omega (arith, k.numbers.deep)) within_last
              ((omega arith, omega arith), rw (held_all s full k.numbers.small) at z) (laid_at s.marks.len (utf8 c) s.buf),
          laid s.marks.len h,
        ))
    sane_next st ends some (Stop o) z =
        sane_gives st (range_after (report s) (last_of s) st o (item_so_far s)) (range_after (report s) (standing (report s) (last_of s)) st o (item_so_far s))
        (range_within (report s) (last_of s) within_last st o (item_so_far s) z (omega arith) (omega arith) (omega (arith, bytes_fit s))) (report s)
        (meaning_of (report s) o st s.marks.at (take s.marks.len s.buf)) (shape st s.marks.at (take s.marks.len s.buf) (report s) o)

    sane_stage : (g : Stage) → s.marks.stage ≡ g → Stood s.marks g → OnSane (on_stage s g c)
    sane_stage Opening e h =
        if_is (λ (t : State). OnSane (on t)) (eqb c (quoted.code "#"))
        (λ f. let one : width c ≡ 1 = width_hash c (eqb-true c (quoted.code "#") f) in (
          become Pound (s.marks.at + width c)
              (width c) (last_of s) far (omega arith) (omega (arith, k.numbers.deep)) within_last (one, omega arith) (laid_at 0 (utf8 c) s.buf),
          laid 0 (omega arith),
        ))
        (λ _. sane_begin (last_of s) within_last)
    sane_stage Pound e h =
        if_all OnSane (eqb c (quoted.code "!"))
        (become FirstLine (s.marks.at + width c) 0 (last_of s) far (omega arith) (omega (arith, k.numbers.deep)) within_last tt s.buf, full)
        (sane_next 0 (omega arith) (omega arith) (step_of (report s) ph.AfterHash (item_so_far s) c)
        (goes s full k.numbers.small (omega arith) ph.AfterHash refl c (omega arith) far))
    sane_stage FirstLine e h =
        if_all (λ (t : State). OnSane (on t)) (eqb c (quoted.code "\n")) (sane_begin (last_of s) within_last)
        (become FirstLine (s.marks.at + width c) 0 (last_of s) far (omega arith) (omega (arith, k.numbers.deep)) within_last tt s.buf, full)
    sane_stage Idle e h = sane_begin (last_of s) within_last
    sane_stage (Busy st p) e h =
        sane_next st h.0.0 h.0.1 (step_of (report s) p (item_so_far s) c)
        (goes s full k.numbers.small h.0.1 p (phase_bounded s.marks.len p h.1) c (omega (arith, h.0.0)) far)
    sane_stage (Waiting st b) e h = absurd h
    sane_stage (Stopped n p) e h = absurd h

  sane_turn : (b : ℕ) → OnSane (turn_of s b)
  unfolding turn_of
  sane_turn b =
      if_is OnSane (leb limit (s.marks.at + s.marks.part.count)) (λ _. tt)
      (λ f. go (leb-false limit (s.marks.at + s.marks.part.count) f) (step s.marks.part.state b) refl
      (wants_on s.marks.part.count s.marks.part.state b k.wants))
    where
      go : s.marks.at + s.marks.part.count < limit → (o : Step) → step s.marks.part.state b ≡ o → Wanted s.marks.part.count o
          → OnSane (told o (λ u. on (partly s (record { count = s.marks.part.count + 1; state = u }))) (λ c. on_stage s s.marks.stage c) (stopped s refusal.not_utf8 s.marks.at))
      go far (steps.More u) e w = (
        record {
          numbers = record {
            mode = k.numbers.mode;
            far = omega arith;
            small = k.numbers.small;
            from = k.numbers.from;
            to = k.numbers.to;
            deep = k.numbers.deep;
          };
          wants = w.0;
          stood = still s.marks.stage k.stood;
        },
        full,
      )
        where
          still : (g : Stage) → Stood s.marks g → Stood (partly s (record { count = s.marks.part.count + 1; state = u })).marks g
          still Opening h = h
          still Pound h = h
          still FirstLine h = tt
          still Idle h = tt
          still (Busy st p) h = h
          still (Waiting st b) h = absurd h
          still (Stopped n p) h = absurd h
      go far (steps.Char c) e w = sane_stage c (char_fits s k b c far e).far s.marks.stage refl k.stood
      go far steps.Bad e w = tt

-- a byte that gives nothing leaves a state within its bounds that reads on
pub turn_sound : (m : Marks) (buf text : List ℕ) → Sound m buf text → (b : ℕ) (n : Marks) (c : List ℕ) → on (state_of n c) ≡ turn_of (state_of m buf) b → Sound n c text
turn_sound m buf text h b n c e =
    let k = subst OnSane (sym e) (sane_turn (state_of m buf) h.full (sane (state_of m buf) h.bounded h.calm) b) in
    let f = sane_bounded (state_of n c) k.0 in
    record { bounded = f.0; calm = f.1; full = k.1; room = h.room }
