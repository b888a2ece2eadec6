-- What the end call of `pieces_lent` says of words that are known here: that all were given, or the item that ends with the text.
use Rattle.std.proofs.Common.{None, Some}
use Prim.Native.Nat.{ℕ, ◌+◌, ◌≤◌}
use mathlib.Core.Path.{◌≡◌, refl, sym, ap, ◌∙◌}
use mathlib.Core.Bool.{Bool, true, false, ◌&&◌}
use mathlib.Core.List.{List}
use lib.ListN.{length, take}
use lib.Seq.{length-take-le}
use lib.Dec.{eqb}
use native.Mathlib.Omega.{arith}
use borrow.Author.Tests.{eq-eqb, le-ltb}
use Rattle.laws.proofs.Choice.{no_yes, and_true}
use Rattle.items.specs.Kinds as kind
use Rattle.items.specs.Whole.{in_report}
use Rattle.items.specs.Items.{standing, depth_after}
use Rattle.items.specs.Meaning.{meaning_of}
use Rattle.items.specs.declared.Outcome.{Outcome}
use Rattle.items.specs.declared.Record.{Record}
use Rattle.meaning.specs.Meant.{sized_all}
use Rattle.meaning.specs.declared.Means.{Means}
use Rattle.pieces.specs.declared.Stage.{Stage}
use Rattle.pieces.specs.declared.Stage.TheVariants.{Opening, Pound, FirstLine, Idle, Busy, Waiting, Stopped}
use Rattle.pieces.specs.declared.Marks.{Marks}
use Rattle.pieces.specs.declared.State.{State}
use Rattle.pieces.specs.declared.Got.TheVariants as got
use Rattle.pieces.specs.Expected.{longest}
use Rattle.pieces.specs.Bounds.{number_bounds, part_bounds, stage_bounds, is_in_bounds}
use Rattle.pieces.specs.Calls.{item, off, finished, reply, text_after, whole, last_of, item_so_far, beyond, deeper, ends, declared, replied, end_stage, end_unless_stopped, end_of}
use Rattle.pieces.proofs.Kept.{both}
use Rattle.pieces_giving.specs.Answers.{state_of}
use Rattle.pieces_giving.specs.Copied.{given_by}
use Rattle.pieces_giving.proofs.Shown.{ends_one}
use Rattle.pieces_turns.specs.Inner.{reads_on, Sound}
use Rattle.pieces_lent.specs.declared.Words.{Words}
use Rattle.pieces_lent.specs.Coding.{stage_of, coded, narrow, is_code}
use Rattle.pieces_lent.specs.Calls.{Said, lent, said, worded, end_for}
use Rattle.pieces_lent.proofs.Back.{standing-coded, coded_is_code}
use Rattle.pieces_spots.specs.Spots.{row_at, marks_at}
use Rattle.pieces_quick.specs.Words.{Ready, base, spot_of}
use Rattle.pieces_quick.specs.Gives.{Copied}
use Rattle.pieces_quick.proofs.Worded.{bit_back, words_are, first_sound, spot_narrow}
use Rattle.pieces_quick.proofs.Giving.{said_are}
use Rattle.pieces_last.specs.Lasts.{Lasts}
use Rattle.pieces_last.specs.Ends.{with_end, Closing, last_words, told_last, Says}

-- ---- the end call on the words of a state that reads on

stage_ends : (s : State) (g : Stage) → reads_on g ≡ true → end_unless_stopped s g ≡ end_stage (declared s) g
stage_ends s Opening c = refl
stage_ends s Pound c = refl
stage_ends s FirstLine c = refl
stage_ends s Idle c = refl
stage_ends s (Busy st p) c = refl
stage_ends s (Waiting st b) c = refl
stage_ends s (Stopped n p) c = no_yes c

module _ (m : Marks) (buf text : List ℕ) (h : Sound m buf text) (code : is_code (coded m) ≡ true) where
  call_ends : end_for (lent (coded m) buf) (length text) ≡ worded (end_stage (declared (state_of m buf)) m.stage)
  unfolding end_for end_of
  call_ends =
      rw (code, standing-coded m, eq-eqb (length buf) longest h.full, h.bounded, le-ltb (length text) longest h.room)
      (ap worded (stage_ends (state_of m buf) m.stage h.calm))

-- ---- the words that are known here

-- the marks of words, whether the end was declared or not
abbrev marks_by : Words → Bool → Marks
marks_by w b =
    record {
      mode = w.mode;
      skip = eqb w.skip 1;
      ended = b;
      stage = stage_of (row_at (spot_of w));
      at = w.at;
      part = whole;
      from = w.from;
      to = w.to;
      len = w.len;
      depth = w.depth;
    }

abbrev within : Marks → Bool
within m = number_bounds m && part_bounds m.part

module _ (w : Words) (C : Closing w) where
  R : Ready (with_end w 0) 0
  R = C.ready

  first_words : coded (marks_by w (eqb w.ended 1)) ≡ w
  unfolding coded
  first_words =
      rw R.known.rows
      (words_are w (bit_back w.skip R.skip) (bit_back w.ended C.ended) (sym R.one) (sym R.two) (sym R.count) (sym R.need)
      (sym R.low) (sym R.high) (sym R.code))

  last_words_lem : coded (marks_by w true) ≡ with_end w 1
  unfolding coded
  last_words_lem =
      rw R.known.rows
      (words_are (with_end w 1) (bit_back w.skip R.skip) refl (sym R.one) (sym R.two) (sym R.count) (sym R.need) (sym R.low) (sym R.high)
      (sym R.code))

  is_code_lem : (b : Bool) → is_code (coded (marks_by w b)) ≡ true
  unfolding narrow coded
  is_code_lem b = coded_is_code (marks_by w b) (spot_narrow (with_end w 0) 0 R (spot_of w) R.known.rows R.known.narrow R.known.slim)

  module _ (buf text : List ℕ) (full : length buf ≡ longest) (room : longest ≤ length text) where
    abbrev unended : Marks
    unended = marks_at (base (with_end w 0)) (spot_of w)

    sound : (b : Bool) → Sound (marks_by w b) buf text
    unfolding is_in_bounds
    sound b = record {
      bounded =
          both {a = within (marks_by w b)} {b = stage_bounds (stage_of (row_at (spot_of w))) (marks_by w b)}
          (and_true (within unended) (stage_bounds (stage_of (row_at (spot_of w))) unended) (first_sound (with_end w 0) 0 R buf text full room).bounded).0
          (R.known.bounds (marks_by w b) refl refl);
      calm = R.known.calm;
      full = full;
      room = room;
    }

    abbrev D : State
    D = state_of (marks_by w true) buf

    -- the end is declared in the state that the words stand for
    call : end_for (lent w buf) (length text) ≡ worded (end_stage D (stage_of (row_at (spot_of w))))
    call =
        ap (λ (x : Words). end_for (lent x buf) (length text)) (sym first_words)
        ∙ call_ends (marks_by w (eqb w.ended 1)) buf text (sound (eqb w.ended 1)) (is_code_lem (eqb w.ended 1))

    -- nothing more is given
    pub all_given : w.stage ≤ 3 → Says w buf text text (told_last (with_end w 1) got.Finished)
    all_given h =
        let so : end_for (lent w buf) (length text) ≡ worded (reply 0 finished D) = call ∙ ap worded (C.rests h D) in (
          ap (λ (x : Words). said (told_last x got.Finished) buf text) (sym last_words_lem) ∙ sym so,
          sym (ap (λ (x : Said). text_after x.what text) so),
        )

    -- the item that ends with the text
    module _ (m : Means) (L : Lasts w.stage w.which w.detail w.start (take w.len buf) m) (held : w.start + w.len ≡ w.at)
        (kept : (eqb w.skip 1 && eqb m.kind kind.Comment) ≡ false) where
      abbrev report : Bool
      report = in_report w.mode

      abbrev raw : List ℕ
      raw = take w.len buf

      size : w.start + length raw ≡ w.at
      size = omega (arith, held, length-take-le w.len buf (omega (arith, full, R.small)))

      given : ends D w.start L.what None ≡ off (beyond (deeper m.kind D) (last_of D) None) (item (given_by w.depth report m (standing report (last_of D)) w.start w.at raw))
      given =
          sym (ends_one D w.start L.what None w.at refl m
          (L.means report ∙ ap (λ (x : ℕ). sized_all (meaning_of report L.what w.start x raw)) size))
          ∙ rw (L.quiet report (standing report (last_of D)) (item_so_far D), L.quiet report (last_of D) (item_so_far D), kept)

      ended : end_stage D (stage_of (row_at (spot_of w)))
          ≡ reply 0 (item (given_by w.depth report m (standing report (last_of D)) w.start w.at raw)) (beyond (deeper m.kind D) (last_of D) None)
      ended = ap (end_stage D) (L.stands w.start) ∙ ap (λ (o : Outcome). replied (ends D w.start o None)) L.ends ∙ ap replied given

      pub item_given_lem : (d : ℕ) → d ≡ depth_after m.kind w.depth → (r : Record) (then : List ℕ) → Copied (spot_of w) m w.depth raw text then (Some r)
          → Says w buf text then (told_last (last_words w d) (got.Item r))
      unfolding coded
      item_given_lem d deep r then copied =
          let gave = copied report (standing report (last_of D)) in
          let so = call ∙ ap worded ended in (
            said_are refl gave.0 (rw (bit_back w.skip R.skip, deep)) ∙ sym so,
            gave.1 ∙ sym (ap (λ (x : Said). text_after x.what text) so),
          )
