-- An item that one look tells is the next item: the scan is the definition's reader there, and its one meaning gives its nine words.
use Rattle.std.proofs.Common.{Option}
use Rattle.chars.specs.Utf8.{front, placed, chars}
use Rattle.chars.specs.declared.Decoded.TheVariants as decoded
use Rattle.chars.specs.Blank.{is_blank}
use Rattle.chars.specs.Wide.{PastAscii, Solid}
use Rattle.items.specs.Kinds as kind
use Rattle.items.specs.Classes.{first_of}
use Rattle.items.specs.Machine.{on_first, scan_of}
use Rattle.items.specs.Readers.{so_far}
use Rattle.items.specs.Meaning.{meaning_of}
use Rattle.items.specs.Items.{Place, range, range_after, standing, place_of}
use Rattle.items.specs.Whole.{limit}
use Rattle.items.specs.declared.Phase.{Phase}
use Rattle.items.specs.declared.Phase.TheVariants as ph
use Rattle.items.specs.declared.Nine.{Nine}
use Rattle.steps.specs.Scan.{part, scanned, answer}
use Rattle.steps.specs.declared.Scanned.{Scanned}
use Rattle.steps.proofs.Kept.{ascii_found}
use Rattle.meaning.specs.declared.Means.{Means}
use Rattle.meaning.specs.declared.Range.{Range}
use Rattle.meaning.specs.Meant.{means}
use Rattle.meaning.specs.declared.Text.{Text}
use Rattle.meaning.specs.declared.Text.TheVariants.{Nowhere, Source, Decoded}
use Rattle.meaning.specs.Places.{place_in, range_of}
use Rattle.meaning.specs.Records.{nine_for, TextFits}
use Rattle.lexer.specs.Inner as inner
use Rattle.lexer.specs.Inner.{bytes_for, free_after}
use Rattle.lexer.specs.Reading.{moved, turn, turn_at, next_at, start_from, found_of, first_at, one_found}
use Rattle.lexer.specs.Glance.{Begins, Glanced}
use Rattle.items_telling.specs.Tells.{Undecoded}
use Rattle.items_telling.proofs.Firsts.{past_first}
use Rattle.lexer.specs.declared.Spot.{Spot}
use Rattle.lexer.specs.declared.Found.{Found}
use Rattle.lexer.proofs.CharacterAt.{char_found}
use Rattle.lexer.proofs.Turns.{Started, started, turn_started}
use Rattle.lexer.proofs.Scans.{end_inside, scan_fits, found_is}
use Rattle.lexer.proofs.Gives.{fits_one, found_one}
use Rattle.lexer.proofs.Nexts.{found_gives, next_at_gives}
use Prim.Native.Nat.{ℕ, ◌+◌, ◌-◌, ◌≤◌, ◌<◌}
use mathlib.Core.Path.{◌≡◌, refl, sym, ap, ◌∙◌, subst}
use mathlib.Core.Bool.{Bool, false, ◌&&◌}
use mathlib.Core.List.{List, []}
use lib.Dec.{eqb}
use lib.ListN.{length, get_or, drop, length-take, length-drop}
use native.Mathlib.Omega.{arith}
use borrow.Author.Tests.{lt-leb}

-- a byte of ASCII that is no blank begins an item
pub begins : (s : List ℕ) (at c : ℕ) (p : Phase) → at < length s → get_or s at 0 ≡ c → c < 0x80 → is_blank c ≡ false → on_first (first_of c) ≡ p → Begins s at (at + 1) p
begins s at c p h e k b f =
    let here = char_found s at c (at + 1) (subst (λ (x : ℕ). decoded.Char x (at + 1) ≡ placed at (front (drop at s))) e (ascii_found s at h (omega arith))) in
    record { c = c; first = record { first = here.first; on = here.on; solid = b }; stands = f }

-- so does a character past ASCII that is no blank
pub begins_past : (s : List ℕ) (at n : ℕ) (w : PastAscii (drop at s) n) → Solid (drop at s) n → Begins s at (at + n) ph.InWord
begins_past s at n w solid =
    let here = char_found s at w.letter (at + n) (rw w.reads) in
    record {
      c = w.letter;
      first = record { first = here.first; on = here.on; solid = solid w.letter w.reads };
      stands = past_first w.letter w.past;
    }

-- and reading on there starts with it
pub start_first : (s : List ℕ) (a c n : ℕ) → inner.First s a c n → start_from a (chars (drop a s)) ≡ first_at c a n
unfolding start_from
start_first s a c n F = ap (start_from a) F.first ∙ rw F.solid (ap (first_at c a) (sym F.on))

-- an item with the next item's place and its meaning
pub next_found : (s : List ℕ) (free : ℕ) (p : Spot) (r : Nine) (q : Spot) → one_found r q ≡ found_of free (turn s p)
    → (p.skip && eqb r.kind kind.Comment) ≡ false → one_found r q ≡ found_of free (next_at s p)
next_found s free p r q e b =
    let g = found_gives free (turn s p) r q e in
    e ∙ ap (found_of free) (g.1.0 ∙ sym (next_at_gives s p q g.0 g.1.0 (ap (λ (x : Nine). p.skip && eqb x.kind kind.Comment) (sym g.1.1) ∙ b)))

module _ (s : List ℕ) (report skip : Bool) (a e : ℕ) (m : Means) (G : Glanced s report skip a e m) where
  abbrev x : Scanned
  x = record { what = G.what; end = e }

  abbrev F : inner.First s a G.begins.c G.next
  F = G.begins.first

  scan_first : x ≡ scanned (scan_of report (on_first (first_of G.begins.c)) (so_far (part s a G.next) G.next) (chars (drop G.next s)))
  scan_first = G.scan ∙ ap (λ (p : Phase). answer s report a p G.next) (sym G.begins.stands)

  pub glance_inside : (a ≤ e) × (e ≤ length s)
  glance_inside = end_inside s report a G.begins.c G.next F x scan_first

  ends_there : a + length (part s a e) ≡ e
  ends_there = let i = glance_inside in omega (arith, length-take (e - a) (drop a s), length-drop a s)

  abbrev extent : Range
  extent = range_of (range a e)

  pub glance_fits : (free : ℕ) → length s ≤ limit → free ≤ a → TextFits free m.text
  glance_fits free h k =
      fits_one free (meaning_of report G.what a (a + length (part s a e)) (part s a e)) m (G.alone.means report)
      (scan_fits s report a G.begins.c G.next F x scan_first free (omega arith) k).texts

  -- the place of the item
  abbrev pub told_place : Spot → Range
  told_place p = range_of (place_of p.report m.kind (standing p.report (place_in p.last)) (range a e))

  abbrev made : ℕ → Spot → Option Found
  made free p = one_found (nine_for free m extent (told_place p)) (moved p e (place_in p.last) false)

  -- the item sets no range
  quiet_in : (p : Spot) → p.report ≡ report → (last : Place) (end : ℕ) → range_after p.report last a G.what (so_far (part s a e) end) ≡ last
  quiet_in p u last end = rw u (G.quiet last end)

  turn_told : (free : ℕ) (p : Spot) → p.report ≡ report
      → made free p ≡ found_of free (turn_at p a G.begins.c (chars (drop G.next s)))
  turn_told free p u =
      found_is s report a G.begins.c G.next F x scan_first free p (made free p) u
      (found_one free p a G.what (part s a e) (range_of (standing p.report (place_in p.last))) p.last
      (sym (ap range_of (quiet_in p u (standing p.report (place_in p.last)) _)))
      (sym (ap range_of (quiet_in p u (place_in p.last) _)))
      (made free p) (moved p e (place_in p.last) false) m (G.alone.means p.report)
      (rw ends_there)
      (rw ends_there))

  pub next_told : (free : ℕ) (p : Spot) → p.report ≡ report → p.skip ≡ skip
      → start_from a (chars (drop a s)) ≡ start_from p.at (chars (drop p.at s))
      → made free p ≡ found_of free (next_at s p)
  next_told free p u v w =
      let c = G.begins.c in
      let S : Started s p.at (chars (drop p.at s)) c a G.next = started s (chars (drop p.at s)) p.at refl c a G.next (sym w ∙ start_first s a c G.next F) in
      next_found s free p (nine_for free m extent (told_place p)) (moved p e (place_in p.last) false)
      (turn_told free p u ∙ sym (ap (found_of free) (turn_started s p c a G.next S)))
      (ap (λ (b : Bool). b && eqb m.kind kind.Comment) v ∙ G.kept)

  -- the place of an item that is no error is its extent
  pub place_fine : m.kind < kind.first_error → (p : Spot) → told_place p ≡ extent
  place_fine fine p = rw (lt-leb kind.first_error m.kind fine)

-- an item without a decoded text takes nothing of the text memory
pub bare_nine : (s : List ℕ) (free : ℕ) (extent place : Range) (m : Means) → Undecoded m.text
    → (free_after free (nine_for free m extent place) ≡ free) × (bytes_for s (nine_for free m extent place) ≡ [])
bare_nine s free extent place m h = go m.text h
  where
    go : (t : Text) → Undecoded t → (free_after free (nine_for free (means m.kind m.detail t) extent place) ≡ free) × (bytes_for s (nine_for free (means m.kind m.detail t) extent place) ≡ [])
    go Nowhere k = (refl, refl)
    go (Source a b) k = (refl, refl)
    go (Decoded n) k = absurd k
