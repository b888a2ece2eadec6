-- What is refused, and the memory: `items_writing::write` ensures `call (answered r) out' ≡ write_of records source text out`.
use Rattle.std.specs.Prelude.{ℕ, ◌<◌, ◌≤◌, ◌≡◌, refl, true, List, [], ◌∷◌, ◌++◌, length, eqb, if◌then◌else◌, Result, Ok, Err}
use Rattle.std.proofs.Common.{sym, ap, ◌∙◌}
use borrow.Author.Tests.{lt-ltb, le-ltb}
use Rattle.laws.specs.Quoted.{within}
use Rattle.laws.specs.Lent as lent
use Rattle.refusal.specs.Refusals as refusal
use Rattle.chars.specs.Encode.{utf8, width, encode, bytes_of, spelled}
use Rattle.chars.specs.Utf8.{first, rest, front, sequences, first_bad}
use Rattle.items.specs.Kinds as kind
use Rattle.items_writing.specs.declared.WriteError.{WriteError}
use Rattle.items_writing.specs.declared.WriteError.TheVariants as error
use Rattle.items_writing.specs.Written.{word_of, twins, joined, written}
use Rattle.items_writing.specs.Records.{records_in, records_from, is_whole, is_kind, has_text, text_right, is_right, is_left, fine, judge, text_of, entries_of}
use Rattle.items_writing.specs.Call.{Answer, served, refused, Call, call, deliver, write_within, write_of, answered}
use Rattle.items_writing_promises.specs.Shapes.{room, record_of, bare, name, writing, refuses}

-- two answers that the contract permits coincide, and so do the memories
answered_one : (a b : Result ℕ WriteError) → answered a ≡ answered b → a ≡ b
answered_one a b e = sym (back-answered a) ∙ ap back e ∙ back-answered b
  where
    back : Answer → Result ℕ WriteError
    back (served n) = Ok n
    back (refused n p) =
        Err
        (if eqb n refusal.alien then error.Alien p
        else if eqb n refusal.unwritten then error.Unwritten p
        else if eqb n refusal.too_few then error.NoRoom p
        else error.TooLong)

    back-answered : (a : Result ℕ WriteError) → back (answered a) ≡ a
    back-answered (Ok n) = refl
    back-answered (Err (error.Alien p)) = refl
    back-answered (Err (error.Unwritten p)) = refl
    back-answered (Err error.TooLong) = refl
    back-answered (Err (error.NoRoom n)) = refl

pub one_answer : (records source text out : List ℕ) (a b : Result ℕ WriteError) (m n : List ℕ) → call (answered a) m ≡ write_of records source text out
    → call (answered b) n ≡ write_of records source text out → (a ≡ b) × (m ≡ n)
one_answer records source text out a b m n e f =
    (answered_one a b (ap (λ (c : Call). c.answer) (e ∙ sym f)), ap (λ (c : Call). c.out) (e ∙ sym f))

-- the records of ()
abbrev pub brackets : List ℕ
brackets = bare kind.OpenParen 0 1 ++ bare kind.CloseParen 1 2

pub record Rows : Type 0 where
  -- one space between two items, none before the first nor behind the last; the bytes past them stay; just enough room is enough
  pub apart : write_of brackets (spelled "()") [] (room 5) ≡ call (served 3) (spelled "( )" ++ room 2)
  pub just_room : write_of brackets (spelled "()") [] (room 3) ≡ call (served 3) (spelled "( )")
  -- 22 with the bytes needed, and no byte is written
  pub no_room : write_of brackets (spelled "()") [] (room 2) ≡ call (refused refusal.too_few 3) (room 2)
  -- no records: an empty text, also where words are left over
  pub nothing : write_of (7 ∷ []) [] [] (room 1) ≡ call (served 0) (room 1)
  -- 47: a comment, an error; the last error there is
  pub comment : writing (brackets ++ bare kind.Comment 0 2) "()" "" ≡ refuses refusal.unwritten 2
  pub last_error_holds : writing (bare 113 0 2) "()" "" ≡ refuses refusal.unwritten 0
  pub past_errors_holds : writing (bare 114 0 2) "()" "" ≡ refuses refusal.alien 0
  pub no_error_holds : writing (bare 100 0 2) "()" "" ≡ refuses refusal.alien 0
  pub past_kinds : writing (bare 32 0 2) "()" "" ≡ refuses refusal.alien 0
  -- 48: an extent or a text that goes back, passes what is lent or cuts a character; no text where the kind has one
  pub goes_back : writing (bare kind.If 2 1) "if" "" ≡ refuses refusal.alien 0
  pub passes : writing (bare kind.If 0 3) "if" "" ≡ refuses refusal.alien 0
  pub cut_extent : writing (bare kind.Dot 0 1) "é" "" ≡ refuses refusal.alien 0
  pub cut_text : writing (name 0 2 1 2) "é" "" ≡ refuses refusal.alien 0
  pub other_memory : writing (record_of kind.Identifier 0 2 2 0 2) "é" "" ≡ refuses refusal.alien 0
  pub no_text : writing (bare kind.Identifier 0 1) "a" "" ≡ refuses refusal.alien 0
  -- the first record concerned; at one record 48 before 47
  pub first_concerned : writing (bare kind.Comment 0 2 ++ bare 32 0 2) "()" "" ≡ refuses refusal.unwritten 0
  pub alien_comment : writing (bare kind.Comment 0 3) "()" "" ≡ refuses refusal.alien 0

pub rows : Rows
-- the list only permits the computing
unfolding first_bad sequences utf8 width encode bytes_of within first rest front word_of twins joined written records_from is_whole is_kind has_text
    text_right is_right is_left judge text_of deliver write_within
rows = record {
  apart = refl;
  just_room = refl;
  no_room = refl;
  nothing = refl;
  comment = refl;
  last_error_holds = refl;
  past_errors_holds = refl;
  no_error_holds = refl;
  past_kinds = refl;
  goes_back = refl;
  passes = refl;
  cut_extent = refl;
  cut_text = refl;
  other_memory = refl;
  no_text = refl;
  first_concerned = refl;
  alien_comment = refl;
}

-- texts that no row could hold: past the limit 20, also where the memory is too small; a text of just the limit is written
module _ (records source text out : List ℕ) (right : judge source text 0 (records_in records) ≡ fine) where
  abbrev result : List ℕ
  result = written true (entries_of source text (records_in records))

  too_long_first : 4294967295 < length result → write_of records source text out ≡ call (refused 20 4294967295) out
  unfolding write_within deliver
  too_long_first h = simp (right, lt-ltb refusal.limit (length result) h)

  longest_written : length result ≡ 4294967295 → 4294967295 ≤ length out
      → write_of records source text out ≡ call (served 4294967295) (lent.written result out)
  unfolding write_within deliver
  longest_written e h = simp (right, e, le-ltb (length out) 4294967295 h)
