-- The characters of a line up to a place: what a loop over `decode_at` from the line's start on needs at each turn.
use mathlib.Core.Path.{◌≡◌, refl, sym, ap, ◌∙◌}
use mathlib.Core.List.{List}
use Prim.Native.Nat.{ℕ, ◌+◌, ◌≤◌, ◌<◌}
use lib.ListN.{length, get_or, drop}
use lib.Seq.{drop-drop}
use lib.Dec.{ltb}
use borrow.Author.Tests.{le-leb, lt-leb, lt-ltb, le-ltb}
use Rattle.std.specs.Prelude.{if◌then◌else◌, None, Option, Some}
use Rattle.laws.proofs.Choice.{impossible}
use Rattle.laws.proofs.Places.{here}
use Rattle.chars.specs.declared.Decoded.{Decoded}
use Rattle.chars.specs.declared.Decoded.TheVariants as decoded
use Rattle.chars.specs.Utf8.{Front, char, bad, cut, none, front, placed, sequences}
use Rattle.chars.proofs.Sequences.{not_none, sequences-char, sequences-bad, sequences-cut, sequences-none}
use Rattle.lines.specs.Place.{column}

-- the column, by what stands at the place `at` before p
abbrev pub said : List ℕ → ℕ → ℕ → Decoded → Option ℕ
said s p n (decoded.Char c next) = if ltb p next then None else column p (n + 1) (sequences 0 next (drop next s))
said s p n decoded.Bad = None
said s p n decoded.Cut = None
said s p n decoded.End = Some n

-- at the place or past it
pub column_done : (p n at : ℕ) (l : List ℕ) → p ≤ at → column p n (sequences 0 at l) ≡ Some n
unfolding column
column_done p n at l h = go (front l) refl
  where
    go : (F : Front) → front l ≡ F → column p n (sequences 0 at l) ≡ Some n
    go (char d k) f = rw (sequences-char at l d k f, le-leb p at h)
    go (bad k) f = rw (sequences-bad at l k f, le-leb p at h)
    go cut f = rw (sequences-cut at l f, le-leb p at h)
    go none f = rw (sequences-none at l f)

module _ (s : List ℕ) (p n at : ℕ) where
  pub column_step : {o : Decoded} → at < p → o ≡ placed at (front (drop at s)) → column p n (sequences 0 at (drop at s)) ≡ said s p n o
  unfolding column
  column_step h e = rw e (go (front (drop at s)) refl)
    where
      go : (F : Front) → front (drop at s) ≡ F → column p n (sequences 0 at (drop at s)) ≡ said s p n (placed at F)
      go (char d k) f = rw (sequences-char at (drop at s) d k f, lt-leb p at h, drop-drop k at s)
      go (bad k) f = rw (sequences-bad at (drop at s) k f, lt-leb p at h)
      go cut f = rw (sequences-cut at (drop at s) f, lt-leb p at h)
      go none f = rw (sequences-none at (drop at s) f)

  -- a character that goes past the place; and one that does not
  pub column_in : {d next : ℕ} → at < p → decoded.Char d next ≡ placed at (front (drop at s)) → p < next → column p n (sequences 0 at (drop at s)) ≡ None
  column_in {d} {next} h e l = column_step h e ∙ rw (lt-ltb p next l)

  pub column_on : {d next : ℕ} → at < p → decoded.Char d next ≡ placed at (front (drop at s)) → next ≤ p
      → column p n (sequences 0 at (drop at s)) ≡ column p (n + 1) (sequences 0 next (drop next s))
  column_on {d} {next} h e l = column_step h e ∙ rw (le-ltb p next l)

-- before the end something stands
pub not_end : (s : List ℕ) (at : ℕ) → at < length s → decoded.End ≡ placed at (front (drop at s)) → ⊥
not_end s at h e = go (front (drop at s)) refl e
  where
    go : (F : Front) → front (drop at s) ≡ F → decoded.End ≡ placed at F → ⊥
    go (char d k) f x = impossible cc
    go (bad k) f x = impossible cc
    go cut f x = impossible cc
    go none f x = not_none (get_or s at 0) (drop (at + 1) s) (sym (ap front (here s at h)) ∙ f)
