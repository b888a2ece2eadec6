-- What holds of every state that the calls produce, with the characters q that were read and the bytes g of the character begun: the
-- buffer holds the item's bytes, which lie right before the place, and every number is within its bounds. How a state becomes another
-- stands in `Becomes`.
use Rattle.refusal.specs.Refusals as refusal
use Rattle.chars.specs.Encode.{is_scalar, width, bytes_of}
use Rattle.chars.proofs.Good.{Scalars}
use Rattle.items.specs.declared.CharError.{CharError}
use Rattle.items.specs.declared.CharError.TheVariants.{Wrong, WrongAt}
use Rattle.items.specs.declared.Outcome.{Outcome}
use Rattle.items.specs.declared.Outcome.TheVariants.{Token, Str, HereStr, Word, Run, Lined, Keyword, Character, Error, ErrorAt}
use Rattle.items.specs.declared.Phase.{Phase}
use Rattle.items.specs.declared.Phase.TheVariants as ph
use Rattle.items.specs.Items.{Place, character_sets, range_after, byte_count}
use Rattle.items.proofs.Failing.{past_within, Named, character_inside}
use Rattle.items.specs.Meaning.{character_of, char_inside}
use Rattle.items.specs.Readers.{SoFar, past_failing}
use Rattle.items.specs.Whole.{limit}
use Rattle.std.specs.Prelude.{if◌then◌else◌, None, Option, Some, Err, Ok, Result}
use Rattle.laws.specs.Quoted.{code}
use Rattle.laws.specs.Lent.{written}
use Rattle.laws.proofs.Lent.{length-written}
use Rattle.laws.proofs.Choice.{if_all}
use Rattle.pieces.specs.declared.Stage.{Stage}
use Rattle.pieces.specs.declared.Stage.TheVariants.{Opening, Pound, FirstLine, Idle, Busy, Waiting, Stopped}
use Rattle.pieces.specs.declared.State.{State}
use Rattle.pieces.specs.Bounds.{Stops, done_bounds, phase_bounds, beyond_bounds, stage_bounds, is_in_bounds}
use Rattle.pieces.specs.Calls.{report, last_of, item_so_far, laid_at}
use Rattle.pieces.specs.Expected.{longest}
use Rattle.pieces.proofs.Parts.{BytesTaken, part_bounded}
use Rattle.pieces.proofs.Phases.{Ranges, Settled, Sized}
use Prim.Native.Nat.{ℕ, ◌+◌, ◌≤◌, ◌<◌}
use mathlib.Core.Path.{◌≡◌, refl, sym, ap, ◌∙◌}
use mathlib.Core.Bool.{Bool, true, ◌&&◌}
use mathlib.Core.List.{List, [], ◌∷◌, ◌++◌, append_assoc}
use mathlib.Core.Logic.{⊎_elim}
use lib.ListN.{length, take, drop, length-append, length-take, length-drop}
use native.Mathlib.Nat.{min-le_left}
use lib.Seq.{take_at, length-take-le}
use lib.Dec.{eqb}
use native.Mathlib.Omega.{arith}
use borrow.Author.Tests.{lt-ltb, le-leb, eq-eqb}

-- ---- a buffer with some bytes laid into it

module _ (n : ℕ) (w buf : List ℕ) where
  pub laid_held : n ≤ length buf → take (n + length w) (laid_at n w buf) ≡ take n buf ++ w
  laid_held h =
      ap (take (n + length w)) (sym (append_assoc (take n buf) w (drop (length w) (drop n buf))))
      ∙ take_at (take n buf ++ w) _ (n + length w) (length-append (take n buf) w ∙ ap (λ (k : ℕ). k + length w) (length-take-le n buf h))

  pub laid_long : n + length w ≤ length buf → length (laid_at n w buf) ≡ length buf
  laid_long h =
      omega (
        arith,
        length-append (take n buf) (written w (drop n buf)),
        length-take-le n buf (omega arith),
        length-drop n buf,
        length-written w (drop n buf) (omega (arith, length-drop n buf)),
      )

-- ---- characters, one more

pub count_snoc : (q : List ℕ) (c : ℕ) → byte_count (q ++ (c ∷ [])) ≡ byte_count q + width c
count_snoc [] c = omega arith
count_snoc (x ∷ q) c = omega (arith, count_snoc q c)

pub scalars_snoc : (q : List ℕ) (c : ℕ) → Scalars q → is_scalar c ≡ true → Scalars (q ++ (c ∷ []))
scalars_snoc [] c h e = (e, tt)
scalars_snoc (x ∷ q) c h e = (h.0, scalars_snoc q c h.1 e)

-- ---- the invariant

-- the item that starts at st: its n bytes lie right before the place `at`, and are held
pub record HeldIn (q buf : List ℕ) (n at st : ℕ) : Type 0 where
  pub ends : st + n ≡ at
  pub bytes : drop st (bytes_of q) ≡ take n buf
  pub some : 1 ≤ n

abbrev pub Held : List ℕ → State → ℕ → Type 0
Held q s st = HeldIn q s.buf s.marks.len s.marks.at st

abbrev pub Beyonds : Option ℕ → ℕ → Type 0
Beyonds None at = Unit {0}
Beyonds (Some c) at = (is_scalar c ≡ true) × (at + width c ≤ limit)

abbrev pub Staged : List ℕ → State → Stage → Type 0
Staged q s Opening = q ≡ []
Staged q s Pound = Held q s 0 × ((s.marks.len ≡ 1) × (take s.marks.len s.buf ≡ code "#" ∷ []))
Staged q s FirstLine = Unit {0}
Staged q s Idle = Unit {0}
Staged q s (Busy st p) = Held q s st × Sized s.marks.len p
Staged q s (Waiting st b) = Held q s st × ((2 ≤ s.marks.len) × ((s.marks.part.count ≡ 0) × Beyonds b s.marks.at))
Staged q s (Stopped n p) = Stops n × (p ≤ limit)

-- the reader reads on: no item waits, and no stop stands
abbrev pub Calm : Stage → Type 0
Calm Opening = Unit {0}
Calm Pound = Unit {0}
Calm FirstLine = Unit {0}
Calm Idle = Unit {0}
Calm (Busy st p) = Unit {0}
Calm (Waiting st b) = ⊥
Calm (Stopped n p) = ⊥

abbrev pub Within : Place → Type 0
Within p = (p.from ≤ limit) × (p.to ≤ limit)

-- the last range after an item that starts at st
pub range_within : (report : Bool) (last : Place) → Within last → (st : ℕ) (o : Outcome) (i : SoFar) → Ranges o → st ≤ limit → i.at ≤ limit
    → st + length i.bytes ≤ limit
    → Within (range_after report last st o i)
range_within report last w st (Token n d) i h l r f = w
range_within report last w st Str i h l r f = w
range_within report last w st HereStr i h l r f = w
range_within report last w st Word i h l r f = w
range_within report last w st Run i h l r f = w
range_within report last w st Lined i h l r f = w
range_within report last w st Keyword i h l r f = w
range_within report last w st Character i h l r f =
    sets (character_of report (char_inside i.bytes)) (character_inside report (char_inside i.bytes))
  where
    sets : (v : Result ℕ CharError) → Named (length (char_inside i.bytes)) v → Within (character_sets report v last st i)
    sets (Ok c) g = w
    sets (Err (Wrong e d)) g = (l, r)
    sets (Err (WrongAt e d p)) g =
        let t : List ℕ = char_inside i.bytes in
        let past = past_within d (st + 2 + p) (drop p t) in
        let ends : past_failing d (st + 2 + p) (drop p t) ≤ limit = omega (arith, g.0, g.1, past.1, length-drop p t, length-drop 2 i.bytes) in
        if_all Within report (omega (arith, past.0), ends) (l, r)
range_within report last w st (Error n d) i h l r f = w
range_within report last w st (ErrorAt n d a b) i h l r f = h.1

-- the bytes of the item that is held are no more than the marks say
pub bytes_fit : (s : State) → length (item_so_far s).bytes ≤ s.marks.len
bytes_fit s = omega (arith, length-take s.marks.len s.buf, min-le_left s.marks.len (length s.buf))

pub record Kept (q g : List ℕ) (s : State) : Type 0 where
  pub mode : s.marks.mode < 2
  pub full : length s.buf ≡ longest
  pub small : s.marks.len ≤ longest
  pub place : s.marks.at ≡ byte_count q
  pub far : s.marks.at + s.marks.part.count ≤ limit
  pub last : Within (last_of s)
  pub scalars : Scalars q
  pub begun : BytesTaken g s.marks.part
  pub staged : Staged q s s.marks.stage

-- ---- a state that is kept is in bounds

pub both : {a b : Bool} → a ≡ true → b ≡ true → (a && b) ≡ true
both e f = rw (e, f)

done_bounded : (o : Outcome) → Settled o → done_bounds o ≡ true
done_bounded (Token k d) h = refl
done_bounded Str h = absurd h
done_bounded HereStr h = absurd h
done_bounded Word h = absurd h
done_bounded Run h = absurd h
done_bounded Lined h = absurd h
done_bounded Keyword h = absurd h
done_bounded Character h = absurd h
done_bounded (Error n d) h = le-leb _ _ h
done_bounded (ErrorAt n d a b) h = both (both (le-leb _ _ h.0) (le-leb _ _ h.1.0)) (le-leb _ _ h.1.1)

pub phase_bounded : (n : ℕ) (p : Phase) → Sized n p → phase_bounds p n ≡ true
phase_bounded n ph.InLine h = refl
phase_bounded n ph.AfterComma h = refl
phase_bounded n ph.AfterHash h = refl
phase_bounded n ph.AfterAngle h = refl
phase_bounded n ph.HereDelim h = refl
phase_bounded n ph.HereStart h = refl
phase_bounded n ph.HereBody h = refl
phase_bounded n ph.InWord h = refl
phase_bounded n ph.WordEscape h = refl
phase_bounded n ph.InRun h = refl
phase_bounded n ph.InHash h = refl
phase_bounded n ph.HashEscape h = refl
phase_bounded n ph.HashTick h = refl
phase_bounded n ph.HashComma h = refl
phase_bounded n (ph.Nest d) h = le-leb _ _ h
phase_bounded n (ph.NestBar d) h = le-leb _ _ h
phase_bounded n (ph.NestSharp d) h = le-leb _ _ h
phase_bounded n (ph.Quoted k) h = refl
phase_bounded n (ph.Closed k) h = le-leb _ _ h
phase_bounded n (ph.TrimBefore k) h = refl
phase_bounded n (ph.TrimAfter k) h = refl
phase_bounded n (ph.Escape k from) h = le-leb _ _ h
phase_bounded n (ph.Brace k from) h = le-leb _ _ h
phase_bounded n (ph.Hex k closer from m) h = both (le-leb _ _ h.0) (le-leb _ _ h.1)
phase_bounded n (ph.Done o) h = done_bounded o h

beyond_bounded : (b : Option ℕ) (at : ℕ) → Beyonds b at → beyond_bounds b at ≡ true
beyond_bounded None at h = refl
beyond_bounded (Some c) at h = both h.0 (le-leb _ _ h.1)

stop_bounded : (n : ℕ) → Stops n → (if eqb n refusal.over_long then true else if eqb n refusal.not_utf8 then true else eqb n refusal.long_item) ≡ true
stop_bounded n h = ⊎_elim (λ e. rw e) (λ k. ⊎_elim (λ e. rw e) (λ e. rw e) k) h

stage_bounded : (q : List ℕ) (s : State) (g : Stage) → s.marks.at ≡ byte_count q → Staged q s g → stage_bounds g s.marks ≡ true
stage_bounded q s Opening e h = eq-eqb _ _ (e ∙ ap byte_count h)
stage_bounded q s Pound e h = both (eq-eqb _ _ h.1.0) (eq-eqb s.marks.at 1 (omega (arith, h.0.ends)))
stage_bounded q s FirstLine e h = refl
stage_bounded q s Idle e h = refl
stage_bounded q s (Busy st p) e h = both (both (eq-eqb _ _ h.0.ends) (le-leb _ _ h.0.some)) (phase_bounded s.marks.len p h.1)
stage_bounded q s (Waiting st b) e h =
    both (both (both (eq-eqb _ _ h.0.ends) (le-leb _ _ h.1.0)) (eq-eqb _ _ h.1.1.0)) (beyond_bounded b s.marks.at h.1.1.1)
stage_bounded q s (Stopped n p) e h = both (stop_bounded n h.0) (le-leb _ _ h.1)

-- no more brackets are open than bytes lie before the item
abbrev pub Deep : State → Type 0
Deep s = s.marks.depth + s.marks.len ≤ s.marks.at

pub kept_bounded : {q g : List ℕ} {s : State} → Kept q g s → Deep s → is_in_bounds s ≡ true
unfolding is_in_bounds
kept_bounded {q} {g} {s} k deep =
    both (both (both (both (both (both (both (lt-ltb _ _ k.mode) (le-leb _ _ k.far)) (le-leb _ _ k.small)) (le-leb _ _ k.last.0)) (le-leb _ _ k.last.1)) (le-leb _ _ deep))
    (part_bounded s.marks.part k.begun.wants)) (stage_bounded q s s.marks.stage k.place k.staged)
