-- The item that is given here is the one that its byte's turn gives, and the words after it are those of the state after that turn.
use Rattle.std.proofs.Common.{Some}
use Prim.Native.Nat.{ℕ, ◌+◌, ◌-◌, ◌/◌, ◌%◌, ◌≤◌, ◌<◌}
use mathlib.Core.Path.{◌≡◌, refl, sym, ap, ◌∙◌}
use mathlib.Core.Bool.{Bool, true, false, ◌&&◌}
use mathlib.Core.List.{List, [], ◌∷◌}
use lib.ListN.{length, take, drop, set, length-drop}
use lib.Seq.{length-take-le}
use lib.Dec.{eqb}
use native.Mathlib.Omega.{arith}
use borrow.Author.Tests.{lt-leb, eqb-true, eqb-false}
use Rattle.laws.proofs.Choice.{by_bool}
use Rattle.laws.specs.Lent.{written}
use Rattle.chars.specs.Blank.{is_blank}
use Rattle.chars.proofs.Width.{utf8-one}
use Rattle.items.specs.Kinds as kind
use Rattle.items.specs.Whole.{in_report}
use Rattle.items.specs.Items.{Place, range, place_of, standing, depth_after}
use Rattle.meaning.specs.declared.Means.{Means}
use Rattle.meaning.specs.declared.Text.TheVariants.{Nowhere, Source}
use Rattle.meaning.specs.Meant.{sized_all}
use Rattle.items.specs.Meaning.{escaped, string_text, meaning_of}
use Rattle.items.specs.declared.Quotes.TheVariants.{Double}
use Rattle.items.specs.declared.Outcome.TheVariants.{Str}
use Rattle.items.specs.declared.Phase.TheVariants as ph
use Rattle.pieces.specs.declared.Stage.{Stage}
use Rattle.pieces.specs.declared.State.{State}
use Rattle.pieces.specs.declared.Got.TheVariants as got
use Rattle.items.specs.declared.Record.{Record}
use Rattle.pieces.specs.Expected.{longest}
use Rattle.pieces.specs.Calls.{item, What, Reply, reply, text_after, marks, with_depth, last_of, item_so_far, laid_at, begin, deeper, report, feed_of}
use Rattle.pieces_giving.specs.Answers.{what_of}
use Rattle.pieces_giving.specs.Copied.{copied_by, has_text, given_by}
use Rattle.pieces_giving.proofs.Gives.{no_text, given_with, given_without}
use Rattle.meaning.specs.declared.Range.{Range}
use Rattle.meaning.specs.Places.{range_of}
use Rattle.pieces_giving.proofs.Laid.{laid_sets}
use Rattle.pieces_lent.specs.declared.LentState.{LentState}
use Rattle.pieces_lent.specs.declared.Words.{Words}
use Rattle.pieces.specs.Given.{Given as Gave}
use Rattle.pieces_lent.specs.Coding.{stage_of, stage_row, coded}
use Rattle.pieces_lent.specs.Calls.{Said, lent, lend, worded}
use Rattle.pieces_spots.specs.declared.PieceSpot.{PieceSpot}
use Rattle.pieces_spots.specs.Spots.{state_at, Solid, Ended}
use Rattle.pieces_quick.specs.Words.{Ready, base, stood}
use Rattle.std.proofs.Common.{Some}
use Rattle.pieces_quick.specs.Gives.{recorded, decoded_means, Copied, Held, Next, Finishes, Finished}
use Rattle.pieces_spots.proofs.Turning.{width_ascii, fed_ended}
use Rattle.pieces_quick.proofs.Worded.{stood-coded}

-- an item that is no error, by its record: without text, and with text
module _ (depth : ℕ) (m : Means) (s : PieceSpot) (raw old then : List ℕ) (r : Record) (fine : m.kind < kind.first_error) where
  abbrev place : Range
  place = range_of (range s.start s.at)

  put : (report : Bool) (last : Place) → place ≡ range_of (place_of report m.kind last (range s.start s.at))
  put report last = sym (rw (lt-leb kind.first_error m.kind fine))

  pub bare_copied : has_text m.kind m.text ≡ false → then ≡ old → r ≡ recorded m.kind m.detail s.start s.at 0 0 depth
      → Copied s m depth raw old then (Some r)
  bare_copied h same is report last =
      let none : copied_by m.kind s.start raw m.text ≡ [] = no_text m.kind s.start raw m.text h in
      let laid : then ≡ written (copied_by m.kind s.start raw m.text) old = same ∙ sym (ap (λ (l : List ℕ). written l old) none) in
      (given_without depth report m last s.start s.at raw old then place r (put report last) laid h is, laid)

  pub text_copied : (n : ℕ) → has_text m.kind m.text ≡ true → n ≡ length (copied_by m.kind s.start raw m.text)
      → then ≡ written (copied_by m.kind s.start raw m.text) old → r ≡ recorded m.kind m.detail s.start s.at 2 n depth
      → Copied s m depth raw old then (Some r)
  text_copied n h size laid is report last =
      (given_with depth report m last s.start s.at raw old then place r (put report last) laid n h size is, laid)

  -- a number, any other item without text of its own, and a part of the extent
  pub number_copied : m.text ≡ Nowhere → eqb m.kind kind.Number ≡ true → then ≡ written raw old
      → r ≡ recorded m.kind m.detail s.start s.at 2 (length raw) depth → Copied s m depth raw old then (Some r)
  number_copied none e laid is = text_copied (length raw) (rw none e) (rw (none, e)) (rw (none, e) laid) is

  pub nothing_copied : m.text ≡ Nowhere → eqb m.kind kind.Number ≡ false → then ≡ old
      → r ≡ recorded m.kind m.detail s.start s.at 0 0 depth → Copied s m depth raw old then (Some r)
  nothing_copied none e same is = bare_copied (rw none e) same is

  pub part_copied : (a b : ℕ) → m.text ≡ Source a b → s.start ≤ a → a ≤ b → b ≤ s.start + length raw
      → then ≡ written (take (b - s.start - (a - s.start)) (drop (a - s.start) raw)) old
      → r ≡ recorded m.kind m.detail s.start s.at 2 (b - a) depth → Copied s m depth raw old then (Some r)
  part_copied a b is-part h k l laid is =
      let n : b - s.start - (a - s.start) ≡ b - a = omega arith in
      let size : b - a ≡ length (take (b - a) (drop (a - s.start) raw)) =
      sym (length-take-le (b - a) (drop (a - s.start) raw) (omega (arith, length-drop (a - s.start) raw))) in
      text_copied (b - a) (rw is-part) (rw is-part size)
      (rw is-part (laid ∙ ap (λ (x : ℕ). written (take x (drop (a - s.start) raw)) old) n)) is

-- a string with an escape that is closed ends before any byte, and its text is decoded
pub decoded_ends : (stage which detail c at : ℕ) (raw : List ℕ) → stage ≡ 25 → which ≡ 0 → escaped raw ≡ true → Ended stage which detail c at raw (decoded_means raw)
unfolding stage_of string_text
decoded_ends stage which detail c at raw k w is = record {
  phase = ph.Closed Double;
  what = Str;
  stands = λ start. rw (k, w);
  stops = λ report i h. refl;
  quiet = λ report last i. refl;
  means = λ report. rw is;
  fine = omega arith;
}

-- the place of an item that is no error is its extent, whatever range stands
place_free : (depth : ℕ) (r : Bool) (m : Means) (a b : Place) (s e : ℕ) (raw : List ℕ) → m.kind < kind.first_error
    → given_by depth r m a s e raw ≡ given_by depth r m b s e raw
place_free depth r m a b s e raw fine = rw (lt-leb kind.first_error m.kind fine)

pub said_are : {a b : ℕ} {x y : What} {p q : LentState} → a ≡ b → x ≡ y → p ≡ q
    → ◌≡◌ {A = Said} (record { taken = a; what = x; state = p }) (record { taken = b; what = y; state = q })
said_are e f g = cc

module _ (w : Words) (left : ℕ) (R : Ready w left) (s : PieceSpot) (buf : List ℕ) (full : length buf ≡ longest) (c k d : ℕ) (deep : d ≡ depth_after k w.depth) where
  abbrev idle : PieceSpot
  idle = record { stage = 3; start = 0; which = 0; detail = 0; at = s.at + 1; len = 0; i = 0 }

  pub after_blank : c < 0x80 → is_blank c ≡ true → (r : Words) → r ≡ stood w idle d → Next w s c k buf r buf
  unfolding stage_of
  after_blank small blank r e =
      rw (blank, width_ascii c small, ← deep) (ap (λ (x : Words). lent x buf) (e ∙ sym (stood-coded w left R idle d refl)))

  module _ (f : ℕ) where
    abbrev begun : PieceSpot
    begun = record { stage = f % 64; start = s.at; which = f / 64 % 32; detail = f / 2048; at = s.at + 1; len = 1; i = 0 }

    pub after_solid : Solid c f → (r : Words) → r ≡ stood w begun d → Next w s c k buf r (set buf 0 c)
    after_solid told r e =
        let laid : set buf 0 c ≡ laid_at 0 (c ∷ []) buf = laid_sets 0 (c ∷ []) buf (omega (arith, full)) in
        rw (told.solid, width_ascii c told.small, utf8-one c told.small, ← deep)
        (ap (λ (l : List ℕ). lent r l) laid
        ∙ ap (λ (x : Words). lent x (laid_at 0 (c ∷ []) buf))
        (e ∙ sym (stood-coded w left R begun d (ap stage_row (told.stands s.at) ∙ told.rows s.at))
        ∙ ap (λ (g : Stage). coded (with_depth d (marks (base w) g (s.at + 1) 1 (range w.from w.to)))) (told.stands s.at)))

module _ (w : Words) (s : PieceSpot) (buf text : List ℕ) (H : Held w s buf text) (c f : ℕ) (m : Means) (F : Finishes s c f buf m) where
  abbrev S : State
  S = state_at (base w) s buf

  abbrev next : State
  next = begin (deeper m.kind S) (last_of S) c

  pub small_byte : c < 0x80
  small_byte =
      by_bool (eqb f 3)
      (λ e. (F.firsts.blank (eqb-true f 3 e)).0)
      (λ e. (F.firsts.begins (omega (arith, F.told, eqb-false f 3 e))).small)

  module _ (kept : (eqb w.skip 1 && eqb m.kind kind.Comment) ≡ false) (last : Place) (r : Record) (then : List ℕ)
      (gave : what_of (got.Item r) then ≡ item (given_by w.depth (in_report w.mode) m last s.start s.at (take s.len buf)))
      (wrote : then ≡ written (given_by w.depth (in_report w.mode) m last s.start s.at (take s.len buf)).text text) where
    fed : (rest : List ℕ) → feed_of S (c ∷ rest) s.i
        ≡ reply (s.i + 1) (item (given_by w.depth (in_report w.mode) m (standing (in_report w.mode) (last_of S)) s.start s.at (take s.len buf))) next
    fed rest =
        let E = F.ended in
        let l : s.start + length (take s.len buf) ≡ s.at = omega (arith, F.held, length-take-le s.len buf (omega (arith, H.sound.full, H.small))) in
        fed_ended S (record { count = refl; need = refl; far = H.far }) s.start E.phase E.what (E.stands s.start) c small_byte
        (E.stops (in_report w.mode) (item_so_far S) refl) (λ p. E.quiet (in_report w.mode) p (item_so_far S)) m
        (E.means (in_report w.mode) ∙ ap (λ (x : ℕ). sized_all (meaning_of (in_report w.mode) E.what s.start x (take s.len buf))) l) kept rest s.i

    pub gives_item : (p : PieceSpot) (d : ℕ) (now : List ℕ) → p.i ≡ s.i + 1 → lent (stood w p d) now ≡ lend next
        → Finished w s c buf now text then (Some (record { spot = p; depth = d; item = r }))
    gives_item p d now taken state rest =
        let g = place_free w.depth (in_report w.mode) m last (standing (in_report w.mode) (last_of S)) s.start s.at (take s.len buf) F.ended.fine in
        let what = gave ∙ ap item g in (
          said_are taken what state ∙ ap worded (sym (fed rest)),
          wrote ∙ ap (λ (x : Gave). written x.text text) g ∙ ap (λ (x : Reply). text_after x.what text) (sym (fed rest)),
        )
