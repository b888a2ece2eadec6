-- The text of an item that a call gives has at most 4,096 bytes, so it fits the text memory. Of every state, produced or not: no item
-- that is held is longer, and decoded text is never longer than what it was decoded from.
use Rattle.std.proofs.Common.{None, Option, Some, Ok, Err, Result}
use Rattle.refusal.specs.Refusals as refusal
use Rattle.chars.specs.declared.Step.{Step}
use Rattle.chars.specs.declared.Step.TheVariants as steps
use Rattle.chars.specs.Blank.{is_blank}
use Rattle.chars.specs.Encode.{width}
use Rattle.chars.specs.Machine.{step, told}
use Rattle.items.specs.declared.CharError.{CharError}
use Rattle.items.specs.declared.CharError.TheVariants.{Wrong, WrongAt}
use Rattle.items.specs.declared.Next.{Next}
use Rattle.items.specs.declared.Next.TheVariants.{Eat, Stop}
use Rattle.items.specs.declared.Outcome.{Outcome}
use Rattle.items.specs.declared.Outcome.TheVariants.{Token, Str, HereStr, Word, Run, Lined, Keyword, Character, Error, ErrorAt}
use Rattle.items.specs.declared.Phase.TheVariants.{AfterHash}
use Rattle.items.specs.declared.Quotes.TheVariants.{Double, Lines}
use Rattle.items.specs.Items.{Place, Item, items_of, range_after, standing, extent_items}
use Rattle.items.specs.Kinds as kind
use Rattle.items.specs.Machine.{step_of, finish_of}
use Rattle.items.specs.Meaning.{Text, none, source, decoded, Meaning, word_kind, word_means, run_means, escaped, unescape, string_text, lined_text}
use Rattle.items.specs.Meaning.{here_text, character_of, char_inside, character_means, meaning_of}
use Rattle.items.specs.Readers.{first_is}
use Rattle.items.specs.Whole.{limit, is_mode}
use Rattle.items.proofs.Every.{Every}
use Rattle.items.proofs.Shorter.{shorter}
use Rattle.chars.proofs.Width.{width_le}
use Rattle.numbers.specs.declared.ParseError.TheVariants as parsed
use Rattle.numbers.specs.Grammar.{parse_number, Parsed}
use Rattle.laws.specs.Quoted.{code}
use Rattle.laws.proofs.Choice.{if_all, if_is}
use Rattle.pieces.specs.declared.Stage.{Stage}
use Rattle.pieces.specs.declared.Stage.TheVariants.{Opening, Pound, FirstLine, Idle, Busy, Waiting, Stopped}
use Rattle.pieces.specs.declared.State.{State}
use Rattle.pieces.specs.Bounds.{is_place, part_bounds, stage_bounds, is_in_bounds}
use Rattle.pieces.specs.Calls.{What, item, more, finished, refused, Reply, last_of, item_so_far, Turn, on, off, stopped, begin, beyond, gives, report}
use Rattle.pieces.specs.Calls.{ends, on_next, on_stage, partly, turn_of, after, feed_of, second, piece_stage, piece_of, declared, replied}
use Rattle.pieces.specs.Calls.{end_unless_stopped, end_of}
use Rattle.pieces.specs.Expected.{longest}
use Rattle.pieces.specs.Given.{Given, copied, given}
use Prim.Native.Nat.{ℕ, ◌+◌, ◌-◌, ◌≤◌}
use mathlib.Core.Path.{◌≡◌, refl, subst}
use mathlib.Core.Bool.{Bool, true, false, ◌&&◌}
use mathlib.Core.List.{List, [], ◌∷◌}
use lib.ListN.{length, take, drop, length-take, length-drop}
use lib.Dec.{eqb, leb, ltb}
use native.Mathlib.Nat.{le_refl, min-le_left, min-le_right}
use native.Mathlib.Omega.{arith}
use borrow.Author.Tests.{ltb-false, leb-true}

-- ---- of one extent, whose bytes are raw

abbrev Little : List ℕ → Text → Type 0
Little raw none = Unit {0}
Little raw (source a b) = Unit {0}
Little raw (decoded bs) = length bs ≤ length raw

abbrev LittleMeaning : List ℕ → Meaning → Type 0
LittleMeaning raw m = Little raw m.text

module _ (s e : ℕ) (raw : List ℕ) where
  inner_short : (l : List ℕ) → length l ≤ length (drop 1 raw) → length l ≤ length raw
  inner_short l h = omega (arith, length-drop 1 raw)

  string_little : Little raw (string_text s e raw)
  unfolding string_text
  string_little = if_all (Little raw) (escaped raw) (inner_short (unescape Double (drop 1 raw)) (shorter Double (drop 1 raw))) tt

  lined_little : Little raw (lined_text s e raw)
  unfolding lined_text
  lined_little =
      if_all (Little raw) (escaped raw && ltb 0 (length (unescape Lines (drop 1 raw)))) (inner_short (unescape Lines (drop 1 raw)) (shorter Lines (drop 1 raw))) tt

  here_little : Little raw (here_text s e raw)
  unfolding here_text
  here_little = tt

  word_little : Every (LittleMeaning raw) (word_means s e raw)
  unfolding word_means
  word_little =
      let P : List Meaning → Type 0 = Every (LittleMeaning raw) in
      if_all P (eqb (word_kind raw) kind.Identifier) (if_all P (first_is (code "+") raw && ltb 1 (length raw)) (tt, (tt, tt)) (tt, tt)) (tt, tt)

  run_little : (p : Parsed) → Every (LittleMeaning raw) (run_means p s e raw)
  unfolding run_means
  run_little (Ok p) = (tt, tt)
  run_little (Err parsed.NoNumber) = word_little
  run_little (Err parsed.ZeroDenominator) = (tt, tt)

  character_little : (v : Result ℕ CharError) → Every (LittleMeaning raw) (character_means v)
  character_little (Ok c) = (tt, tt)
  character_little (Err (Wrong n d)) = (tt, tt)
  character_little (Err (WrongAt n d p)) = (tt, tt)

  meant_little : (report : Bool) (o : Outcome) → Every (LittleMeaning raw) (meaning_of report o s e raw)
  meant_little report (Token k d) = (tt, tt)
  meant_little report Str = (string_little, tt)
  meant_little report HereStr = (here_little, tt)
  meant_little report Word = word_little
  meant_little report Run = run_little (parse_number raw)
  meant_little report Lined = (lined_little, tt)
  meant_little report Keyword = (tt, tt)
  meant_little report Character = character_little (character_of report (char_inside raw))
  meant_little report (Error n d) = (tt, tt)
  meant_little report (ErrorAt n d a b) = (tt, tt)

  items_little : (r : Bool) (set : Place) (ms : List Meaning) → Every (LittleMeaning raw) ms → Every (λ (i : Item). Little raw i.text) (items_of r set s e ms)
  items_little r set [] h = tt
  items_little r set (m ∷ ms) h = (h.0, items_little r set ms h.1)

part_short : (n m : ℕ) (raw : List ℕ) → length (take n (drop m raw)) ≤ length raw
part_short n m raw = omega (arith, length-take n (drop m raw), min-le_right n (length (drop m raw)), length-drop m raw)

copied_short : (k s : ℕ) (raw : List ℕ) (t : Text) → Little raw t → length (copied k s raw t) ≤ length raw
copied_short k s raw none h = if_all (λ (l : List ℕ). length l ≤ length raw) (eqb k kind.Number) (le_refl (length raw)) (omega arith)
copied_short k s raw (source a b) h = part_short (b - a) (a - s) raw
copied_short k s raw (decoded bs) h = h

-- ---- a turn

-- no item that is held is too long
abbrev Short : State → Type 0
Short s = s.marks.len ≤ longest

abbrev Fits : What → Type 0
Fits (item g) = length g.text ≤ longest
Fits more = Unit {0}
Fits finished = Unit {0}
Fits (refused n p) = Unit {0}

abbrev FitsTurn : Turn → Type 0
FitsTurn (on s) = Short s
FitsTurn (off s w) = Fits w

held_short : (s : State) → Short s → length (item_so_far s).bytes ≤ longest
held_short s h = omega (arith, length-take s.marks.len s.buf, min-le_left s.marks.len (length s.buf))

given_fits : (s : State) → Short s → (i : Item) → Little (item_so_far s).bytes i.text → length (given s.marks.depth (item_so_far s).bytes i).text ≤ longest
given_fits s h i l = omega (arith, held_short s h, copied_short i.kind i.start (item_so_far s).bytes i.text l)

begin_short : (s : State) (last : Place) (c : ℕ) → Short (begin s last c)
begin_short s last c = if_all Short (is_blank c) (omega arith) (omega (arith, width_le c))

beyond_short : (s : State) (last : Place) (b : Option ℕ) → Short (beyond s last b)
beyond_short s last None = omega arith
beyond_short s last (Some c) = begin_short s last c

module _ (s : State) (h : Short s) where
  fits_gives : (st : ℕ) (last : Place) (b : Option ℕ) (is : List Item) → Every (λ (i : Item). Little (item_so_far s).bytes i.text) is → FitsTurn (gives s st last b is)
  fits_gives st last b [] l = beyond_short s last b
  fits_gives st last b (i ∷ []) l =
      if_all FitsTurn (s.marks.skip && eqb i.kind kind.Comment) (beyond_short s last b) (given_fits s h i l.0)
  fits_gives st last b (i ∷ j ∷ is) l = given_fits s h i l.0

  fits_ends : (st : ℕ) (o : Outcome) (b : Option ℕ) → FitsTurn (ends s st o b)
  unfolding extent_items
  fits_ends st o b =
      fits_gives st (range_after (report s) (last_of s) st o (item_so_far s)) b (extent_items (report s) (last_of s) st o (item_so_far s))
      (items_little st s.marks.at (item_so_far s).bytes (report s) (range_after (report s) (standing (report s) (last_of s)) st o (item_so_far s))
      (meaning_of (report s) o st s.marks.at (item_so_far s).bytes) (meant_little st s.marks.at (item_so_far s).bytes (report s) o))

  fits_next : (st c : ℕ) (n : Next) → FitsTurn (on_next s st c n)
  fits_next st c (Eat p) = if_is FitsTurn (ltb longest (s.marks.len + width c)) (λ _. tt) (λ e. ltb-false longest (s.marks.len + width c) e)
  fits_next st c (Stop o) = fits_ends st o (Some c)

  fits_stage : (b : Stage) (c : ℕ) → FitsTurn (on_stage s b c)
  fits_stage Opening c = if_all Short (eqb c (code "#")) (omega (arith, width_le c)) (begin_short s (last_of s) c)
  fits_stage Pound c = if_all FitsTurn (eqb c (code "!")) (omega arith) (fits_next 0 c (step_of (report s) AfterHash (item_so_far s) c))
  fits_stage FirstLine c = if_all Short (eqb c (code "\n")) (begin_short s (last_of s) c) (omega arith)
  fits_stage Idle c = begin_short s (last_of s) c
  fits_stage (Busy st p) c = fits_next st c (step_of (report s) p (item_so_far s) c)
  fits_stage (Waiting st b) c = h
  fits_stage (Stopped n p) c = h

  fits_turn : (b : ℕ) → FitsTurn (turn_of s b)
  unfolding turn_of
  fits_turn b = if_all FitsTurn (leb limit (s.marks.at + s.marks.part.count)) tt (go (step s.marks.part.state b))
    where
      go : (o : Step) → FitsTurn (told o (λ u. on (partly s (record { count = s.marks.part.count + 1; state = u }))) (λ c. on_stage s s.marks.stage c) (stopped s refusal.not_utf8 s.marks.at))
      go (steps.More u) = h
      go (steps.Char c) = fits_stage s.marks.stage c
      go steps.Bad = tt

-- ---- a call

abbrev FitsReply : Reply → Type 0
FitsReply r = Fits r.what

fits_feed : (bs : List ℕ) (s : State) (n : ℕ) → Short s → FitsReply (feed_of s bs n)
unfolding feed_of
fits_feed [] s n h = tt
fits_feed (b ∷ bs) s n h = go (turn_of s b) (fits_turn s h b) (λ u z. fits_feed bs u (n + 1) z)
  where
    go : (t : Turn) → FitsTurn t → ((u : State) → Short u → FitsReply (feed_of u bs (n + 1))) → FitsReply (after t (λ u. feed_of u bs (n + 1)) (n + 1))
    go (on u) z ih = ih u z
    go (off u w) z ih = z

second_fits : (s : State) → Short s → (st : ℕ) → length (second s st).text ≤ longest
second_fits s h st = omega (arith, held_short s h, part_short (s.marks.at - (st + 1)) (st + 1 - st) (item_so_far s).bytes)

fits_piece : (s : State) → Short s → (b : Stage) (bs : List ℕ) → FitsReply (piece_stage s b bs)
fits_piece s h Opening bs = if_all FitsReply s.marks.ended tt (fits_feed bs s 0 h)
fits_piece s h Pound bs = if_all FitsReply s.marks.ended tt (fits_feed bs s 0 h)
fits_piece s h FirstLine bs = if_all FitsReply s.marks.ended tt (fits_feed bs s 0 h)
fits_piece s h Idle bs = if_all FitsReply s.marks.ended tt (fits_feed bs s 0 h)
fits_piece s h (Busy st p) bs = if_all FitsReply s.marks.ended tt (fits_feed bs s 0 h)
fits_piece s h (Waiting st b) bs = if_all FitsReply s.marks.ended tt (second_fits s h st)
fits_piece s h (Stopped n p) bs = tt

fits_replied : (t : Turn) → FitsTurn t → FitsReply (replied t)
fits_replied (on s) h = tt
fits_replied (off s w) h = h

fits_end : (s : State) → Short s → (b : Stage) → FitsReply (end_unless_stopped s b)
fits_end s h Opening = if_all FitsReply (eqb s.marks.part.count 0) tt tt
fits_end s h Pound =
    if_all FitsReply (eqb s.marks.part.count 0)
    (fits_replied (ends (declared s) 0 (finish_of AfterHash (item_so_far s).bytes) None) (fits_ends (declared s) h 0 (finish_of AfterHash (item_so_far s).bytes) None))
    tt
fits_end s h FirstLine = if_all FitsReply (eqb s.marks.part.count 0) tt tt
fits_end s h Idle = if_all FitsReply (eqb s.marks.part.count 0) tt tt
fits_end s h (Busy st p) =
    if_all FitsReply (eqb s.marks.part.count 0)
    (fits_replied (ends (declared s) st (finish_of p (item_so_far s).bytes) None) (fits_ends (declared s) h st (finish_of p (item_so_far s).bytes) None))
    tt
fits_end s h (Waiting st b) = second_fits s h st
fits_end s h (Stopped n p) = tt

-- a state in bounds holds no more
third : (a b c d e f g h : Bool) → (a && b && c && d && e && f && g && h) ≡ true → c ≡ true
third a b true d e f g h t = refl
third true true false d e f g h t = t
third true false false d e f g h t = t
third false b false d e f g h t = t

in_bounds_short : (s : State) → is_in_bounds s ≡ true → Short s
unfolding is_in_bounds
in_bounds_short s e =
    leb-true s.marks.len longest
    (third (is_mode s.marks.mode) (is_place (s.marks.at + s.marks.part.count)) (leb s.marks.len longest) (is_place s.marks.from)
    (is_place s.marks.to) (leb (s.marks.depth + s.marks.len) s.marks.at) (part_bounds s.marks.part) (stage_bounds s.marks.stage s.marks) e)

-- the text of what a piece call gives, and of what an end call gives, fits
pub text_fits_lem : (s : State) (bs : List ℕ) (room : ℕ) (g : Given) → (piece_of s bs room).what ≡ item g → length g.text ≤ longest
unfolding piece_of
text_fits_lem s bs room g e =
    subst Fits e
    (if_is FitsReply (is_in_bounds s)
    (λ h. if_all FitsReply (ltb room longest) tt (fits_piece s (in_bounds_short s h) s.marks.stage bs))
    (λ _. tt))

pub end_text_fits : (s : State) (room : ℕ) (g : Given) → (end_of s room).what ≡ item g → length g.text ≤ longest
unfolding end_of
end_text_fits s room g e =
    subst Fits e
    (if_is FitsReply (is_in_bounds s) (λ h. if_all FitsReply (ltb room longest) tt (fits_end s (in_bounds_short s h) s.marks.stage)) (λ _. tt))
