-- The scan of an item that starts at a place is the definition's reader there.
use Rattle.std.proofs.Common.{Option}
use Rattle.chars.specs.Utf8.{chars}
use Rattle.chars.specs.Encode.{utf8}
use Rattle.items.specs.Classes.{First, semicolon, quote, comma, hash, number, single, vertical, backslash, wordy, first_of}
use Rattle.items.specs.Readers.{SoFar, so_far, eat, Read, read_item}
use Rattle.items.specs.Machine.{on_first, scan_of, depth_of}
use Rattle.items.specs.declared.Outcome.{Outcome}
use Rattle.items.proofs.Same.{item_same}
use Rattle.items.proofs.Splits.{read_at, read_forward}
use Rattle.steps.specs.Scan.{scanned}
use Rattle.steps.specs.declared.Scanned.{Scanned}
use Rattle.lexer.specs.Inner as inner
use Rattle.lexer.specs.Inner.{ExtentFits}
use Rattle.lexer.specs.Reading.{turn_of, turn_at, found_of}
use Rattle.lexer.specs.declared.Spot.{Spot}
use Rattle.lexer.specs.declared.Found.{Found}
use Rattle.lexer.proofs.CharacterAt.{Here, char_here}
use Rattle.lexer.proofs.Left.{ReadTo, left_here, part}
use Rattle.lexer.proofs.Extents.{extent_fits}
use Prim.Native.Nat.{ℕ, ◌+◌, ◌^◌, ◌≤◌, ◌<◌}
use mathlib.Core.Path.{◌≡◌, refl, sym, ap, ◌∙◌, subst}
use mathlib.Core.Bool.{Bool}
use mathlib.Core.List.{List, []}
use lib.ListN.{length, drop}
use native.Mathlib.Omega.{arith}

-- an item starts in no nested comment
pub first_depth : (f : First) → depth_of (on_first f) ≡ 0
first_depth semicolon = refl
first_depth quote = refl
first_depth comma = refl
first_depth hash = refl
first_depth number = refl
first_depth (single k d) = refl
first_depth vertical = refl
first_depth backslash = refl
first_depth wordy = refl

module _ (s : List ℕ) (report : Bool) (at c next : ℕ) (F : inner.First s at c next) where
  abbrev it : Read
  it = read_item report at c (chars (drop next s))

  pub inside : (at ≤ next) × (next ≤ length s)
  inside =
      let k : Here s at c (chars (drop next s)) = char_here s at c (chars (drop next s)) F.first in
      (omega (arith, F.on), omega (arith, F.on, k.char.inside))

  scan_item : scan_of report (on_first (first_of c)) (so_far (part s at next) next) (chars (drop next s)) ≡ it
  scan_item =
      let k : Here s at c (chars (drop next s)) = char_here s at c (chars (drop next s)) F.first in
      let b : part s at next ≡ utf8 c = ap (λ (x : ℕ). part s at x) F.on ∙ k.char.bytes in
      let i : so_far (part s at next) next ≡ eat (so_far [] at) c = ap (λ (l : List ℕ). so_far l next) b ∙ ap (so_far (utf8 c)) F.on in
      ap (λ (x : SoFar). scan_of report (on_first (first_of c)) x (chars (drop next s))) i ∙ item_same report at c (chars (drop next s))

  module _ (x : Scanned) (e : x ≡ scanned (scan_of report (on_first (first_of c)) (so_far (part s at next) next) (chars (drop next s)))) where
    scan_is : x ≡ scanned it
    scan_is = e ∙ ap scanned scan_item

    pub end_inside : (at ≤ x.end) × (x.end ≤ length s)
    end_inside =
        let l : ReadTo s at it = left_here s report at c (chars (drop next s)) F.first in
        let z : x.end ≡ it.item.at = ap (λ (y : Scanned). y.end) scan_is in
        (omega (arith, read_forward report at c (chars (drop next s))), omega (arith, l.inside))

    bytes_are : part s at x.end ≡ it.item.bytes
    bytes_are =
        ap (part s at) (ap (λ (y : Scanned). y.end) scan_is) ∙ sym (left_here s report at c (chars (drop next s)) F.first).bytes

    pub scan_fits : (free : ℕ) → length s < 2 ^ 32 → free ≤ at → ExtentFits report free at (part s at x.end) x.what
    scan_fits free h k =
        subst (λ (l : List ℕ). ExtentFits report free at l x.what) (sym bytes_are)
        (subst (λ (o : Outcome). ExtentFits report free at it.item.bytes o) (sym (ap (λ (y : Scanned). y.what) scan_is))
        (extent_fits s report at c (chars (drop next s)) F.first free h k))

    item_is : (p : Spot) → p.report ≡ report
        → turn_of p at x.what (so_far (part s at x.end) (at + length (part s at x.end))) ≡ turn_at p at c (chars (drop next s))
    item_is p u =
        let n : at + length it.item.bytes ≡ it.item.at = sym (read_at report at c (chars (drop next s))) in
        ap (λ (l : List ℕ). turn_of p at x.what (so_far l (at + length l))) bytes_are
        ∙ ap (λ (o : Outcome). turn_of p at o (so_far it.item.bytes (at + length it.item.bytes))) (ap (λ (y : Scanned). y.what) scan_is)
        ∙ ap (λ (y : ℕ). turn_of p at it.what (so_far it.item.bytes y)) n
        ∙ ap (λ (b : Bool). turn_of p at (read_item b at c (chars (drop next s))).what (read_item b at c (chars (drop next s))).item) (sym u)

    pub found_is : (free : ℕ) (p : Spot) (r : Option Found) → p.report ≡ report
        → r ≡ found_of free (turn_of p at x.what (so_far (part s at x.end) (at + length (part s at x.end))))
        → r ≡ found_of free (turn_at p at c (chars (drop next s)))
    found_is free p r u h = h ∙ ap (found_of free) (item_is p u)
