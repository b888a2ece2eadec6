-- `places_within`: both places of every finding lie in the text, since the rows of the mended reading do and so does what they point at.
use Rattle.std.proofs.Common.{None, Option, Some}
use Prim.Native.Nat.{ℕ, zero, suc, ◌+◌, ◌-◌, ◌≤◌, ◌<◌}
use mathlib.Core.Path.{◌≡◌, ap, ◌∙◌}
use mathlib.Core.Bool.{Bool, true, ◌&&◌}
use mathlib.Core.List.{List, [], ◌∷◌}
use lib.ListN.{length, get_or, drop, length-take}
use lib.Dec.{eqb, leb, ltb}
use native.Mathlib.Omega.{arith}
use borrow.Author.Tests.{eqb-true, leb-false}
use Rattle.laws.proofs.Choice.{by_bool, if_all, and_true}
use Rattle.chars.specs.Utf8.{Sequence, read, broken, short, Front, char, bad, cut, none, front, onward, sequences, verdict, first_bad}
use Rattle.chars.proofs.Spells.{Spells, spells}
use Rattle.items.specs.Kinds as kind
use Rattle.items.specs.Items.{Item}
use Rattle.items.specs.Whole.{limit}
use Rattle.items.proofs.Every.{Every, every_then}
use Rattle.nested.specs.Items.{count_of}
use Rattle.findings_rows.specs.Rows.{row_of}
use Rattle.findings.specs.Rows.{byte_at, part, row_at, bytes_on}
use Rattle.findings.specs.Slips.{is_a_digit, comma_follows}
use Rattle.findings.specs.Find.{told_if, find_of}
use Rattle.findings.specs.declared.Finding.{Finding}
use Rattle.findings.specs.declared.Row.{Row}
use Rattle.findings_theorems.proofs.Words.{Stands, stands}
use Rattle.findings_theorems.proofs.Clean.{count_is, row_is, word_is, error_is}
use Rattle.findings_theorems.proofs.Placed.{Placed, mended_placed}
use Rattle.findings_theorems.proofs.InOrder.{row_start, row_end, row_from, is, rows, w, start_is, end_is, from_is}
use Rattle.findings_theorems.proofs.Places.{any_row, BothPlaces, OfChar, FromRows, places}

-- from a to b, in a text of n bytes
abbrev pub Inside : ℕ → ℕ → ℕ → Type 0
Inside n a b = (a ≤ b) × (b ≤ n)

-- both places of a finding lie in a text of n bytes; of no second place, from 0 to 0, that says nothing
abbrev pub Lies : ℕ → Finding → Type 0
Lies n = BothPlaces (Inside n)

module _ (n : ℕ) where
  -- ---- characters

  abbrev SequenceIn : Sequence → Type 0
  SequenceIn (read c f t) = Inside n f t
  SequenceIn (broken f t) = f ≤ n
  SequenceIn (short f) = f ≤ n

  onward_in : (at : ℕ) (s : List ℕ) (f : Front) (more : ℕ → List Sequence) → Spells s f → at + length s ≤ n → ((k : ℕ) → Every SequenceIn (more k))
      → Every SequenceIn (onward at f more)
  onward_in at s (char c k) more h l r = ((omega arith, omega (arith, h.2)), r (k - 1))
  onward_in at s (bad k) more h l r = (omega arith, tt)
  onward_in at s cut more h l r = (omega arith, tt)
  onward_in at s none more h l r = tt

  sequences_in : (s : List ℕ) (k at : ℕ) → at + length s ≤ n → Every SequenceIn (sequences k at s)
  unfolding sequences
  sequences_in [] k at l = tt
  sequences_in (b ∷ s) (suc k) at l = sequences_in s k (at + 1) (omega arith)
  sequences_in (b ∷ s) zero at l =
      onward_in at (b ∷ s) (front (b ∷ s)) (λ k. sequences k (at + 1) s) (spells (b ∷ s)) l (λ k. sequences_in s k (at + 1) (omega arith))

  of_char : (x : Sequence) → SequenceIn x → OfChar (Inside n) x
  of_char (read c f t) h = h
  of_char (broken f t) h = tt
  of_char (short f) h = tt

  abbrev VerdictIn : Option ℕ → Type 0
  VerdictIn None = Unit {0}
  VerdictIn (Some b) = b ≤ n

  verdict_in : (l : List Sequence) → Every SequenceIn l → VerdictIn (verdict l)
  verdict_in [] h = tt
  verdict_in (read c f t ∷ l) h = verdict_in l h.1
  verdict_in (broken f t ∷ l) h = h.0
  verdict_in (short f ∷ l) h = h.0

  on_lies : (k a : ℕ) → a + k ≤ n → Inside n a (bytes_on k a)
  on_lies k a h = if_all (Inside n a) (leb (a + k) limit) (omega arith, h) (omega arith, omega arith)

-- the name, the comma and the rest follow each other
comma_follows_lem : (source rows : List ℕ) (p : ℕ) → comma_follows source rows p ≡ true → ((row_at rows (p + 1)).start ≡ (row_at rows p).end) × ((row_at rows (p + 2)).start ≡ (row_at rows (p + 1)).end)
unfolding comma_follows
comma_follows_lem source rows p h =
    let r : Row = row_at rows p in
    let comma : Row = row_at rows (p + 1) in
    let rest : Row = row_at rows (p + 2) in
    let near : Bool = eqb comma.kind kind.Unquote && eqb comma.start r.end in
    let behind : Bool = eqb rest.start comma.end in
    let c = and_true near behind (and_true (near && behind) (is_a_digit (byte_at source rest.start)) h).0 in
    let b = and_true (eqb comma.kind kind.Unquote) (eqb comma.start r.end) c.0 in
    (eqb-true comma.start r.end b.1, eqb-true rest.start comma.end c.1)

-- ---- the rows of the mended reading

row_to : (d : ℕ) (i : Item) → get_or (row_of d i) 5 0 ≡ i.place.to
row_to d i = by_bool (leb kind.first_error i.kind) (λ b. rw b) (λ b. rw b)

row_error : (d : ℕ) (i : Item) → get_or (row_of d i) 6 0 ≡ i.kind - kind.first_error
row_error d i = by_bool (leb kind.first_error i.kind) (λ b. rw b) (λ b. rw b (omega (arith, leb-false kind.first_error i.kind b)))

-- a row has the extent, the place and the error of one of the items
pub record OfItem (is : List Item) (r : Row) : Type 1 where
  pub item : Item
  pub among : (P : Item → Type 0) → Every P is → P item
  pub start : r.start ≡ item.start
  pub end : r.end ≡ item.end
  pub from : r.from ≡ item.place.from
  pub to : r.to ≡ item.place.to
  pub error : r.error ≡ item.kind - kind.first_error

module _ (s : List ℕ) where
  pub row_item : (p : ℕ) → p < count_of (rows s) → OfItem (is s) (row_at (rows s) p)
  row_item p there =
      let h : p < length (is s) = omega (arith, count_is (is s)) in
      let t : Stands (is s) (w s p h) = stands 0 (is s) p h in
      let word : (m : ℕ) → get_or (w s p h) m 0 ≡ get_or (row_of t.depth t.item) m 0 = λ m. ap (λ (l : List ℕ). get_or l m 0) t.words in
      record {
        item = t.item;
        among = t.among;
        start = start_is s p h ∙ word 2 ∙ row_start t.depth t.item;
        end = end_is s p h ∙ word 3 ∙ row_end t.depth t.item;
        from = from_is s p h ∙ word 4 ∙ row_from t.depth t.item;
        to = ap (λ (r : Row). r.to) (row_is (is s) p h) ∙ word_is (is s) p 5 h (omega arith) ∙ word 5 ∙ row_to t.depth t.item;
        error = error_is (is s) p h ∙ word 6 ∙ row_error t.depth t.item;
      }

  abbrev I : ℕ → ℕ → Type 0
  I = Inside (length s)

  module _ (p : ℕ) (there : p < count_of (rows s)) where
    abbrev r : Row
    r = row_at (rows s) p

    abbrev t : OfItem (is s) r
    t = row_item p there

    abbrev k : Placed s t.item
    k = t.among (Placed s) (mended_placed s)

    extent : I r.start r.end
    extent = (omega (arith, t.start, t.end, k.some), omega (arith, t.end, k.ends))

    chars : Every (OfChar I) (sequences 0 r.start (part s r.start r.end))
    chars = every_then (SequenceIn (length s)) (OfChar I) (of_char (length s)) (sequences 0 r.start (part s r.start r.end))
        (sequences_in (length s) (part s r.start r.end) 0 r.start
        (omega (arith, extent, length-take (r.end - r.start) (drop r.start s))))

    place : I r.from r.to
    place = (omega (arith, t.from, t.to, k.span.0), omega (arith, t.to, k.span.1))

    quote : I r.start (bytes_on 1 r.start)
    quote = on_lies (length s) 1 r.start (omega (arith, t.start, k.some, k.ends))

    opener : kind.IncompleteString ≤ r.error → r.error ≤ kind.IncompleteIdentifier → I r.from (bytes_on 1 r.from)
    opener l m = on_lies (length s) 1 r.from (omega (arith, t.from, k.some, k.ends, k.span.2 (omega (arith, t.error))))

    nest : r.error ≡ kind.IncompleteComment → I r.from (bytes_on 2 r.from)
    nest e = on_lies (length s) 2 r.from (omega (arith, t.from, k.span.2 (omega (arith, t.error)), k.span.3 (omega (arith, t.error))))

  extents : (p : ℕ) → I (row_at (rows s) p).start (row_at (rows s) p).end
  extents = any_row (rows s) (λ (r : Row). I r.start r.end) (omega arith, omega arith) extent

  comma : (p : ℕ) → comma_follows s (rows s) p ≡ true → I (row_at (rows s) p).start (row_at (rows s) (p + 2)).end
  comma p b =
      let c = comma_follows_lem s (rows s) p b in
      (omega (arith, c.0, c.1, (extents p).0, (extents (p + 1)).0, (extents (p + 2)).0), (extents (p + 2)).1)

  from_rows : FromRows I s (rows s)
  from_rows = record {
    nowhere = (omega arith, omega arith);
    extent = extents;
    comma = comma;
    chars = chars;
    place = place;
    opener = opener;
    nest = nest;
    quote = λ p h _. quote p h;
  }

  if_lie : (u : Option ℕ) → VerdictIn (length s) u → Every (Lies (length s)) (told_if u s)
  if_lie None h = places I s (rows s) from_rows
  if_lie (Some b) h = (((omega arith, h), (omega arith, omega arith)), tt)

  bad_in : VerdictIn (length s) (first_bad s)
  unfolding first_bad
  bad_in = verdict_in (length s) (sequences 0 0 s) (sequences_in (length s) s 0 0 (omega arith))

  -- of every source, each place of each finding starts no later than it ends, and ends in the text
  pub places_within : Every (Lies (length s)) (find_of s)
  unfolding find_of
  places_within = if_all (Every (Lies (length s))) (ltb limit (length s)) (((omega arith, omega arith), (omega arith, omega arith)), tt) (if_lie (first_bad s) bad_in)
