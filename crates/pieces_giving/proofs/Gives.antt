-- What an item's text is, copied into the text memory, and the record that says so.
use Prim.Native.Nat.{ℕ, ◌-◌, ◌≤◌}
use mathlib.Core.Path.{◌≡◌, sym, ap}
use mathlib.Core.Bool.{Bool, true, false}
use mathlib.Core.List.{List, [], ◌∷◌}
use lib.ListN.{length, drop, length-take, length-drop}
use lib.Seq.{take-append_seam}
use lib.Dec.{eqb}
use native.Mathlib.Omega.{arith}
use Rattle.laws.specs.Lent.{written}
use Rattle.laws.proofs.Choice.{if_all, impossible}
use Rattle.items.specs.Kinds as kind
use Rattle.items.specs.Items.{Place, range, place_of}
use Rattle.items.specs.declared.Record.{Record}
use Rattle.items.proofs.Shorter.{shorter}
use Rattle.meaning.specs.declared.Text.{Text}
use Rattle.meaning.specs.declared.Text.TheVariants.{Nowhere, Source, Decoded}
use Rattle.meaning.specs.declared.Means.{Means}
use Rattle.meaning.specs.declared.Range.{Range}
use Rattle.meaning.specs.Places.{range_of}
use Rattle.meaning.specs.Records.{nine_with}
use Rattle.pieces.specs.declared.Got.TheVariants.{Item}
use Rattle.pieces.specs.Calls.{item}
use Rattle.pieces_giving.specs.Answers.{what_of}
use Rattle.pieces_giving.specs.Copied.{quotes_of, copied_by, has_text, given_by}

-- ---- an item's text

pub no_text : (k s : ℕ) (raw : List ℕ) (x : Text) → has_text k x ≡ false → copied_by k s raw x ≡ []
no_text k s raw Nowhere h = rw h
no_text k s raw (Source a b) h = impossible cc
no_text k s raw (Decoded n) h = impossible cc

pub copied_short : (k s : ℕ) (raw : List ℕ) (x : Text) → length (copied_by k s raw x) ≤ length raw
copied_short k s raw Nowhere = if_all (λ (l : List ℕ). length l ≤ length raw) (eqb k kind.Number) (omega arith) (omega arith)
copied_short k s raw (Source a b) = omega (arith, length-take (b - a) (drop (a - s) raw), length-drop (a - s) raw)
copied_short k s raw (Decoded n) = omega (arith, shorter (quotes_of k) (drop 1 raw), length-drop 1 raw)

module _ (depth : ℕ) (report : Bool) (m : Means) (last : Place) (s e : ℕ) (raw old now : List ℕ) (place : Range) (r : Record)
    (put : place ≡ range_of (place_of report m.kind last (range s e)))
    (laid : now ≡ written (copied_by m.kind s raw m.text) old) where
  pub given_with : (n : ℕ) → has_text m.kind m.text ≡ true → n ≡ length (copied_by m.kind s raw m.text)
      → r ≡ record { nine = nine_with (m.kind ∷ m.detail ∷ s ∷ e ∷ place.from ∷ place.to ∷ 2 ∷ 0 ∷ n ∷ []); depth = depth }
      → what_of (Item r) now ≡ item (given_by depth report m last s e raw)
  given_with n h size is =
      let t : List ℕ = copied_by m.kind s raw m.text in
      rw (is, put, laid, size, h)
      (ap (λ (l : List ℕ). item (record {
        words = m.kind ∷ m.detail ∷ s ∷ e ∷ (place_of report m.kind last (range s e)).from ∷ (place_of report m.kind last (range s e)).to ∷ 2 ∷ 0 ∷ length t ∷ depth ∷ [];
        text = l;
      })) (take-append_seam t (drop (length t) old)))

  pub given_without : has_text m.kind m.text ≡ false
      → r ≡ record { nine = nine_with (m.kind ∷ m.detail ∷ s ∷ e ∷ place.from ∷ place.to ∷ 0 ∷ 0 ∷ 0 ∷ []); depth = depth }
      → what_of (Item r) now ≡ item (given_by depth report m last s e raw)
  given_without h is =
      rw (is, put, h)
      (ap (λ (l : List ℕ). item (record {
        words = m.kind ∷ m.detail ∷ s ∷ e ∷ (place_of report m.kind last (range s e)).from ∷ (place_of report m.kind last (range s e)).to ∷ 0 ∷ 0 ∷ 0 ∷ depth ∷ [];
        text = l;
      })) (sym (no_text m.kind s raw m.text h)))
