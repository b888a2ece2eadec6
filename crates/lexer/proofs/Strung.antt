-- A string that its bytes tell: where it stands, and the item of one that fails, an error at its own range in both modes.
use Rattle.std.proofs.Common.{Option}
use Rattle.chars.specs.Utf8.{chars}
use Rattle.items.specs.Kinds as kind
use Rattle.items.specs.Classes.{first_of}
use Rattle.items.specs.Machine.{on_first, scan_of}
use Rattle.items.specs.Readers.{so_far}
use Rattle.items.specs.Items.{range, is_set}
use Rattle.items.specs.declared.Outcome.TheVariants.{Str}
use Rattle.items.specs.declared.Phase.{Phase}
use Rattle.items.specs.declared.Phase.TheVariants as ph
use Rattle.items.specs.declared.Quotes.TheVariants.{Double}
use Rattle.steps.specs.Scan.{part, scanned, answer}
use Rattle.steps.specs.declared.Scanned.{Scanned}
use Rattle.steps.proofs.Kept.{done_scan}
use Rattle.meaning.specs.declared.Means.{Means}
use Rattle.meaning.specs.declared.Range.{Range}
use Rattle.meaning.specs.Meant.{means}
use Rattle.meaning.specs.declared.Text.TheVariants.{Nowhere}
use Rattle.meaning.specs.Places.{place_in, range_of}
use Rattle.meaning.specs.Records.{nine_for}
use Rattle.items_telling.specs.Strings.{failure, StrungAs}
use Rattle.items_telling.specs.declared.Strung.TheVariants as strung
use Rattle.lexer.specs.Inner as inner
use Rattle.lexer.specs.Reading.{moved, turn, turn_at, found_of, one_found}
use Rattle.lexer.specs.Glance.{Begins}
use Rattle.lexer.specs.Begun.{Stands, WrongAt}
use Rattle.lexer.specs.declared.Spot.{Spot}
use Rattle.lexer.specs.declared.Found.{Found}
use Rattle.lexer.proofs.Cases.{turn_here}
use Rattle.lexer.proofs.Scans.{found_is}
use Rattle.lexer.proofs.Gives.{found_one}
use Rattle.lexer.proofs.Glances.{start_first}
use Prim.Native.Nat.{ℕ, ◌+◌, ◌-◌}
use mathlib.Core.Path.{◌≡◌, refl, sym, ap, ◌∙◌}
use mathlib.Core.Bool.{Bool, true, false}
use mathlib.Core.List.{List}
use lib.ListN.{length, get_or, drop, length-take, length-drop}
use native.Mathlib.Omega.{arith}
use borrow.Author.Tests.{lt-ltb}

-- ---- where a string stands that is no error

module _ (s : List ℕ) (at : ℕ) (B : Begins s at (at + 1) (ph.Quoted Double)) where
  first_is_lem : (report : Bool) → answer s report at (ph.Quoted Double) (at + 1) ≡ answer s report at (on_first (first_of B.c)) (at + 1)
  first_is_lem report = ap (λ (f : Phase). answer s report at f (at + 1)) (sym B.stands)

  pub whole_stands : (e : ℕ) → StrungAs s (at + 1) (strung.Whole e) → Stands s at at e (ph.Done Str)
  whole_stands e S = record {
    c = B.c;
    next = at + 1;
    starts = start_first s at B.c (at + 1) B.first;
    ahead = omega (arith, S.0);
    inside = S.1;
    deep = omega arith;
    same = λ report. sym (done_scan report Str (so_far (part s at e) e) (chars (drop e s))) ∙ S.2 report at (omega arith) ∙ first_is_lem report;
  }

  pub on_stands : (from : ℕ) → StrungAs s (at + 1) (strung.On from) → Stands s at at from (ph.Quoted Double)
  on_stands from S = record {
    c = B.c;
    next = at + 1;
    starts = start_first s at B.c (at + 1) B.first;
    ahead = omega (arith, S.0);
    inside = S.1;
    deep = omega arith;
    same = λ report. sym (S.2 report at (omega arith)) ∙ first_is_lem report;
  }

-- ---- one that is an error

-- the range of an escape is set in both modes
escape_set : (report : Bool) (e : ℕ) → is_set report (range (e - 1) (e + 1)) ≡ true
escape_set true e = lt-ltb 0 (e + 1) (omega arith)
escape_set false e = lt-ltb (e - 1) (e + 1) (omega arith)

module _ (s : List ℕ) (p : Spot) (e : ℕ) (W : WrongAt s p.at e) where
  abbrev at : ℕ
  at = p.at

  abbrev c : ℕ
  c = W.0.c

  abbrev F : inner.First s at c (at + 1)
  F = W.0.first

  abbrev x : Scanned
  x = record { what = failure s e; end = e }

  scan_first : x ≡ scanned (scan_of p.report (on_first (first_of c)) (so_far (part s at (at + 1)) (at + 1)) (chars (drop (at + 1) s)))
  scan_first = W.1.2 p.report at (omega arith) ∙ ap (λ (f : Phase). answer s p.report at f (at + 1)) (sym W.0.stands)

  ends_there : at + length (part s at e) ≡ e
  ends_there = omega (arith, W.1.0, W.1.1, length-take (e - at) (drop at s), length-drop at s)

  abbrev m : Means
  m = means (kind.first_error + kind.InvalidStringEscape) (get_or s e 0) Nowhere

  abbrev own : Range
  own = range_of (range (e - 1) (e + 1))

  abbrev after : Spot
  after = moved p e (place_in own) false

  abbrev made : ℕ → Option Found
  made free = one_found (nine_for free m (range_of (range at e)) own) after

  turn_wrong : (free : ℕ) → made free ≡ found_of free (turn_at p at c (chars (drop (at + 1) s)))
  turn_wrong free =
      found_is s p.report at c (at + 1) F x scan_first free p (made free) refl
      (found_one free p at (failure s e) (part s at e) own own refl refl (made free) after m refl (rw (ends_there, escape_set p.report e)) (rw ends_there))

  pub wrong_turn : (free : ℕ) → made free ≡ found_of free (turn s p)
  wrong_turn free = turn_wrong free ∙ sym (ap (found_of free) (turn_here s p c (chars (drop (at + 1) s)) F.first F.solid))
