-- `places_between`: both places of every finding of any source start and end between two characters. Of a text that is not UTF-8 that is the end
-- of its good part; of one over the limit the start.
use Rattle.std.proofs.Common.{None, Option, Some}
use Prim.Native.Nat.{ℕ, ◌+◌, ◌-◌, ◌≤◌, ◌<◌}
use mathlib.Core.Path.{◌≡◌, refl, sym, subst, ◌∙◌}
use mathlib.Core.List.{List}
use lib.ListN.{length, drop, take-append-drop}
use lib.Dec.{leb, ltb}
use native.Mathlib.Omega.{arith}
use native.Mathlib.Numerals.{add-one}
use Rattle.laws.specs.Quoted.{code}
use Rattle.laws.proofs.Choice.{if_all}
use Rattle.chars.specs.Utf8.{sequences, first_bad}
use Rattle.items.specs.Kinds as kind
use Rattle.items.specs.Whole.{limit}
use Rattle.items.proofs.Every.{Every}
use Rattle.nested.specs.Items.{count_of}
use Rattle.lines.proofs.Between.{Between}
use Rattle.findings.specs.Rows.{byte_at, part, row_at, bytes_on}
use Rattle.findings.specs.Find.{told_if, find_of}
use Rattle.findings.specs.declared.Row.{Row}
use Rattle.findings_theorems.proofs.Placed.{Placed, mended_placed}
use Rattle.findings_theorems.proofs.InOrder.{is, rows}
use Rattle.findings_theorems.proofs.Places.{any_row, BothPlaces, OfChar, FromRows, places}
use Rattle.findings_theorems.proofs.InText.{OfItem, row_item}
use Rattle.findings_theorems.proofs.Characters.{BetweenBoth, bad_between, start_between, byte_between, sequences_between}
use Rattle.findings_theorems.proofs.Between.{BetweenItem, mended_between}

module _ (s : List ℕ) where
  abbrev B : ℕ → Type 0
  B = Between s

  abbrev R : ℕ → ℕ → Type 0
  R = BetweenBoth s

  nowhere : R 0 0
  nowhere = (start_between s, start_between s)

  on_between : (k a : ℕ) → B a → B (a + k) → R a (bytes_on k a)
  on_between k a h g = (h, if_all B (leb (a + k) limit) g h)

  module _ (good : first_bad s ≡ None) where
    module _ (p : ℕ) (there : p < count_of (rows s)) where
      abbrev r : Row
      r = row_at (rows s) p

      abbrev t : OfItem (is s) r
      t = row_item s p there

      abbrev k : BetweenItem s good t.item
      k = t.among (BetweenItem s good) (mended_between s good)

      abbrev l : Placed s t.item
      l = t.among (Placed s) (mended_placed s)

      extent : R r.start r.end
      extent = (subst B (sym t.start) k.marked.start, subst B (sym t.end) k.marked.end)

      chars : Every (OfChar R) (sequences 0 r.start (part s r.start r.end))
      chars =
          sequences_between s good (part s r.start r.end) (drop (r.end - r.start) (drop r.start s)) 0 r.start
          (sym (take-append-drop (r.end - r.start) (drop r.start s)))

      place : R r.from r.to
      place = (subst B (sym t.from) k.marked.from, subst B (sym t.to) k.marked.to)

      -- the place of an error of 1 to 4 starts where its extent does
      opened : r.error ≤ kind.IncompleteComment → r.from ≡ t.item.start
      opened h = t.from ∙ l.span.2 (omega (arith, t.error))

      opener : kind.IncompleteString ≤ r.error → r.error ≤ kind.IncompleteIdentifier → R r.from (bytes_on 1 r.from)
      opener a b =
          on_between 1 r.from place.0
          (subst (λ (x : ℕ). B (x + 1)) (sym (opened (omega arith))) (k.opens (omega (arith, t.error))))

      nest : r.error ≡ kind.IncompleteComment → R r.from (bytes_on 2 r.from)
      nest a =
          on_between 2 r.from place.0
          (subst (λ (x : ℕ). B (x + 2)) (sym (opened (omega arith))) (k.nests (omega (arith, t.error))))

      quote : byte_at s r.start ≡ code "\"" → R r.start (bytes_on 1 r.start)
      quote a =
          let m = byte_between s good r.start (omega (arith, t.start, l.some, l.ends)) (omega arith) in
          on_between 1 r.start m.0 (subst B (sym (add-one r.start)) m.1)

    extents : (p : ℕ) → R (row_at (rows s) p).start (row_at (rows s) p).end
    extents = any_row (rows s) (λ (r : Row). R r.start r.end) nowhere extent

    from_rows : FromRows R s (rows s)
    from_rows = record {
      nowhere = nowhere;
      extent = extents;
      comma = λ p _. ((extents p).0, (extents (p + 2)).1);
      chars = chars;
      place = place;
      opener = opener;
      nest = nest;
      quote = quote;
    }

  if_between : (u : Option ℕ) → first_bad s ≡ u → Every (BothPlaces R) (told_if u s)
  if_between None e = places R s (rows s) (from_rows e)
  if_between (Some b) e = let m : B b = bad_between s b e in (((m, m), nowhere), tt)

  pub places_between : Every (BothPlaces R) (find_of s)
  unfolding find_of
  places_between = if_all (Every (BothPlaces R)) (ltb limit (length s)) ((nowhere, nowhere), tt) (if_between (first_bad s) refl)
