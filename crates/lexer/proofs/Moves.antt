-- A turn goes forward: the spot after it is smaller, lies in the source, and is as far past the one before as the item's decoded text
-- is long. A turn's item has its extent in the source.
use Rattle.std.proofs.Common.{None, Option, Some}
use Rattle.chars.specs.Utf8.{chars}
use Rattle.items.specs.Readers.{Read, SoFar, read_item}
use Rattle.items.specs.Meaning.{Text, none, source, decoded, Meaning, meaning_of}
use Rattle.items.specs.Items.{Place, Item, items_of, range_after, standing, extent_items, memory_of}
use Rattle.items.specs.declared.Outcome.{Outcome}
use Rattle.items.proofs.Every.{Every}
use Rattle.items.proofs.Meanings.{Inside, Meant}
use Rattle.items.proofs.Splits.{read_forward}
use Rattle.meaning.specs.Places.{place_in}
use Rattle.std.specs.Prelude.{if◌then◌else◌}
use Rattle.laws.proofs.Choice.{impossible}
use Rattle.lexer.specs.Reading.{gives, ends, turn_of, turn, start_from, size_of}
use Rattle.lexer.specs.declared.Spot.{Spot}
use Rattle.lexer.specs.declared.FirstChar.{FirstChar}
use Rattle.lexer.proofs.Left.{ReadTo, left_here, part}
use Rattle.lexer.proofs.Turns.{Started, started, none_started}
use Rattle.lexer.proofs.Extents.{Any, extent_made}
use Rattle.lexer.proofs.Cases.{past, halfway, both, by_turn}
use Rattle.lexer.proofs.Spelled.{SpelledText, Spelled, spelled, front_bare}
use Prim.Native.Nat.{ℕ, ◌+◌, ◌≤◌, ◌<◌}
use mathlib.Core.Path.{◌≡◌, refl, sym, ap, ◌∙◌, subst}
use mathlib.Core.Bool.{Bool, false}
use mathlib.Core.List.{List, [], ◌∷◌}
use lib.ListN.{length, drop}
use native.Mathlib.Omega.{arith}

-- an item of a source: its extent, and its text
pub record Whole (s : List ℕ) (i : Item) : Type 0 where
  pub some : i.start < i.end
  pub ends : i.end ≤ length s
  pub inside : Inside i.start i.end i.text
  pub text : SpelledText (part s i.start i.end) i.kind i.text

pub record Moved (s : List ℕ) (p : Spot) (i : Item) (q : Spot) : Type 0 where
  pub smaller : size_of s q < size_of s p
  pub report : q.report ≡ p.report
  pub skip : q.skip ≡ p.skip
  pub memory : p.at + length (memory_of i.text) ≤ q.at
  pub inside : q.at ≤ length s
  pub whole : Whole s i

-- the decoded bytes of a text are fewer than its extent's
held_le : (s e : ℕ) (t : Text) → Inside s e t → s < e → s + length (memory_of t) ≤ e
held_le s e none h l = omega arith
held_le s e (source a b) h l = omega arith
held_le s e (decoded bs) h l = omega arith

module _ (s : List ℕ) (report : Bool) (last : Place) (at c : ℕ) (cs : List ℕ) (here : chars (drop at s) ≡ c ∷ cs) where
  abbrev r : Read
  r = read_item report at c cs

  abbrev after : Place
  after = range_after report (standing report last) at r.what r.item

  wholes : (ms : List Meaning) → Every (Meant Any at r.item.at) ms → Every (Spelled r.item.bytes) ms
      → Every (Whole s) (items_of report after at r.item.at ms)
  wholes [] h k = tt
  wholes (m ∷ ms) h k =
      let l : ReadTo s at r = left_here s report at c cs here in (
        record {
          some = read_forward report at c cs;
          ends = l.inside;
          inside = h.0.1.1;
          text = subst (λ (x : List ℕ). SpelledText x m.kind m.text) l.bytes k.0;
        },
        wholes ms h.1 k.1,
      )

  pub extent_whole : Every (Whole s) (extent_items report last at r.what r.item)
  unfolding extent_items
  extent_whole =
      wholes (meaning_of report r.what at r.item.at r.item.bytes) (extent_made s report at c cs here).meant
      (spelled at r.item.at r.item.bytes report r.what)

-- every item of an extent has its end, and only a lone one has decoded text
module _ (report : Bool) (last : Place) (s : ℕ) (what : Outcome) (i : SoFar) where
  same_ends : (ms : List Meaning) (a : Place) → Every (λ (x : Item). (x.start ≡ s) × (x.end ≡ i.at)) (items_of report a s i.at ms)
  same_ends [] a = tt
  same_ends (m ∷ ms) a = ((refl, refl), same_ends ms a)

  pub extent_ends : Every (λ (x : Item). (x.start ≡ s) × (x.end ≡ i.at)) (extent_items report last s what i)
  unfolding extent_items
  extent_ends = same_ends (meaning_of report what s i.at i.bytes) (range_after report (standing report last) s what i)

-- ---- a turn

module _ (s : List ℕ) (p : Spot) (c a n : ℕ) (S : Started s p.at (chars (drop p.at s)) c a n) where
  abbrev it : Read
  it = read_item p.report a c (chars (drop n s))

  lies : ReadTo s a it
  lies = left_here s p.report a c (chars (drop n s)) S.first

  all_whole : Every (Whole s) (both p a it.what it.item)
  all_whole = extent_whole s p.report (place_in p.last) a c (chars (drop n s)) S.first

  all_end : Every (λ (x : Item). (x.start ≡ a) × (x.end ≡ it.item.at)) (both p a it.what it.item)
  all_end = extent_ends p.report (place_in p.last) a it.what it.item

  -- past the extent, with an item of it
  moved_past : (x : Item) → Whole s x → (x.start ≡ a) × (x.end ≡ it.item.at) → Moved s p x (past p a it.what it.item)
  moved_past x w e = record {
    smaller = omega (arith, S.ahead, read_forward p.report a c (chars (drop n s)), lies.inside);
    report = refl;
    skip = refl;
    memory = omega (arith, S.ahead, held_le x.start x.end x.text w.inside w.some);
    inside = lies.inside;
    whole = w;
  }

  moved_half : (x : Item) → Whole s x → memory_of x.text ≡ [] → p.second ≡ false → Moved s p x (halfway p a it.what it.item)
  moved_half x w e b =
      let z : ◌≡◌ {A = ℕ} (if p.second then 0 else 1) 1 = rw b in
      record {
        smaller = omega (arith, S.ahead, read_forward p.report a c (chars (drop n s)), lies.inside);
        report = refl;
        skip = refl;
        memory = omega (arith, S.ahead, ap length e);
        inside = omega (arith, read_forward p.report a c (chars (drop n s)), lies.inside);
        whole = w;
      }

  given : (i : Item) (q : Spot) → turn_of p a it.what it.item ≡ gives i q → Moved s p i q
  given i q e = by_turn p a it.what it.item
      (λ x f g. let z : gives x (past p a it.what it.item) ≡ gives i q = sym g ∙ e in
      same x (past p a it.what it.item) z (moved_past x (subst (Every (Whole s)) f all_whole).0 (subst (Every (λ (x : Item). (x.start ≡ a) × (x.end ≡ it.item.at))) f all_end).0))
      (λ x y f b g. let z : gives x (halfway p a it.what it.item) ≡ gives i q = sym g ∙ e in
      same x (halfway p a it.what it.item) z (moved_half x (subst (Every (Whole s)) f all_whole).0 (front_bare p.report (place_in p.last) a it.what it.item f) b))
      (λ x y f b g. let z : gives y (past p a it.what it.item) ≡ gives i q = sym g ∙ e in
      same y (past p a it.what it.item) z (moved_past y (subst (Every (Whole s)) f all_whole).1.0 (subst (Every (λ (x : Item). (x.start ≡ a) × (x.end ≡ it.item.at))) f all_end).1.0))
    where
      same : (x : Item) (t : Spot) → gives x t ≡ gives i q → Moved s p x t → Moved s p i q
      same x t z m =
          let o : x ≡ i = cc in
          let u : t ≡ q = cc in
          subst (λ (y : Spot). Moved s p i y) u (subst (λ (y : Item). Moved s p y t) o m)

pub turn_moved : (s : List ℕ) (p : Spot) (i : Item) (q : Spot) → turn s p ≡ gives i q → Moved s p i q
unfolding turn
turn_moved s p i q e = go (start_from p.at (chars (drop p.at s))) refl
  where
    go : (x : Option FirstChar) → start_from p.at (chars (drop p.at s)) ≡ x → Moved s p i q
    go (Some x) f =
        let S : Started s p.at (chars (drop p.at s)) x.code x.at x.past = started s (chars (drop p.at s)) p.at refl x.code x.at x.past f in
        given s p x.code x.at x.past S i q (sym (S.turn p) ∙ e)
    go None f =
        let z : gives i q ≡ ends = sym e ∙ (none_started (chars (drop p.at s)) p.at f).0 p in
        impossible cc
