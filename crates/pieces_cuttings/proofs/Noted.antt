-- What one call gave, written down: the code's tests are those of the definition, and what a call leaves of the text memory past its text
-- is as it was.
use Rattle.std.proofs.Common.{◌≡◌, ℕ, ◌+◌, ◌-◌, ◌*◌, ◌/◌, ◌%◌, ◌^◌, ◌<◌, ◌≤◌, Bool, true, List, length, take, drop, set, sym, ap, ◌∙◌, arith, length-take, length-take-le, take_all, drop_at, le-ltb, lt-ltb, le-leb, None}
use native.Mathlib.Nat.{min-le_right}
use borrow.Author.Tests.{lt-leb}
use borrow.Rule.Slice.PartMut.{put_mid}
use Rattle.laws.specs.Lent.{written}
use Rattle.laws.proofs.Lent.{length_part}
use Rattle.items.specs.declared.Record.{Record}
use Rattle.items.specs.Items.{record_words, words_of}
use Rattle.pieces.specs.declared.Answer.{Answer}
use Rattle.pieces.specs.declared.Got.TheVariants.{Item}
use Rattle.pieces.specs.Calls.{Reply, laid_at, text_after}
use Rattle.pieces_giving.proofs.Laid.{part_laid}
use Rattle.pieces_calls.specs.Answers.{what_of, answered}
use Rattle.pieces_cuttings.specs.Inner.{unwritten, is_unwritten, Sized, Gives}
use Rattle.pieces_cuttings.specs.Notes.{room, Notes, notes, breaks, note, Standing, replied}
use Rattle.pieces_cuttings.proofs.Unwritten.{all_marks, past_marks}

-- ---- an item

module _ {r : Record} {text : List ℕ} (g : Gives (Item r) text) where
  pub text_long : r.nine.past ≤ length text
  text_long = omega (arith, g.sized, length-take r.nine.past text, min-le_right r.nine.past (length text))

  -- past the item's text nothing is written
  pub left_alone : is_unwritten (drop r.nine.past text) ≡ true
  left_alone =
      let w : List ℕ = take r.nine.past text in
      ap (λ (l : List ℕ). is_unwritten (drop r.nine.past l)) g.written
      ∙ ap is_unwritten (drop_at w (drop (length w) unwritten) r.nine.past (sym g.sized))
      ∙ past_marks (length w) unwritten (all_marks room)

  module _ (b : Notes) (taken : ℕ) where
    pub no_record : length b.records / record_words ≤ b.reading.items → breaks b ≡ note b (what_of (Item r) text) taken
    no_record h = rw (le-leb _ _ h)

    module _ (few : b.reading.items < length b.records / record_words) where
      pub no_count : length b.counts ≤ b.reading.items → breaks b ≡ note b (what_of (Item r) text) taken
      no_count h = rw (lt-leb _ _ few, le-leb _ _ h)

      module _ (counted : b.reading.items < length b.counts) where
        pub no_text : length b.texts < b.reading.bytes + r.nine.past → breaks b ≡ note b (what_of (Item r) text) taken
        no_text h = rw (lt-leb _ _ few, lt-leb _ _ counted, ← g.sized, lt-ltb _ _ h)

        pub noted : {kept : Bool} {records counts texts : List ℕ} → b.reading.bytes + r.nine.past ≤ length b.texts → kept ≡ b.reading.kept
            → records ≡ laid_at (b.reading.items * record_words) (words_of r) b.records → counts ≡ set b.counts b.reading.items taken
            → texts ≡ laid_at b.reading.bytes (take r.nine.past text) b.texts
            → notes
            (record {
              items = b.reading.items + 1;
              bytes = b.reading.bytes + r.nine.past;
              taken = taken;
              ending = None;
              kept = kept;
            })
            records counts texts
            ≡ note b (what_of (Item r) text) taken
        noted h k e f t = rw (k, e, f, t, lt-leb _ _ few, lt-leb _ _ counted, ← g.sized, le-ltb _ _ h)

-- `&mut old[from..]`, lent to `copy`
pub copied_in : (from : ℕ) (w old : List ℕ) {last : List ℕ}
    → last ≡ written (take (length (take (length old - from) (drop from old))) w) (take (length old - from) (drop from old))
    → put_mid from (length old - from) old last ≡ laid_at from (take (length old - from) w) old
copied_in from w old e =
    part_laid from (take (length old - from) w) old
    (e ∙ ap (λ (k : ℕ). written (take k w) (take (length old - from) (drop from old))) (length_part old from))

-- a text that fits, copied behind those before it
pub text_laid : (n from : ℕ) (text texts : List ℕ) {last : List ℕ} → n ≤ length text → from + n ≤ length texts
    → last ≡ written (take (length (take (length texts - from) (drop from texts))) (take n text)) (take (length texts - from) (drop from texts))
    → put_mid from (length texts - from) texts last ≡ laid_at from (take n text) texts
text_laid n from text texts fits h e =
    copied_in from (take n text) texts e
    ∙ ap (λ (w : List ℕ). laid_at from w texts) (take_all (length texts - from) (take n text) (omega (arith, length-take-le n text fits)))

-- ---- a call

module _ (a : Answer) (text : List ℕ) {r : Reply} (e : answered a text ≡ r) where
  same_what : what_of a.got text ≡ r.what
  same_what = ap (λ (x : Reply). x.what) e

  pub call_gives : Sized r.what → text ≡ text_after r.what unwritten → Gives a.got text
  call_gives s w = record { sized = rw same_what s; written = rw same_what w }

  pub call_noted : (s : Standing) {n : Notes} → n ≡ note s.notes (what_of a.got text) ((s.notes.reading.taken + a.taken) % 2 ^ 64)
      → record { state = a.state; notes = n } ≡ replied s r
  call_noted s f = rw f (ap (replied s) e)
