-- An item's bytes and what is left of the text are the text: an item takes its characters from the front of the text, at least the
-- first one, and says where it stands. Each is one induction over the machine's scan, whatever its phases are.
use Rattle.items.specs.declared.Phase.{Phase}
use Rattle.items.specs.Classes.{first_of}
use Rattle.items.specs.Items.{byte_count}
use Rattle.items.specs.Machine.{step_of, on_first, scan_of}
use Rattle.items.specs.Readers.{so_far, eat, read_item, SoFar, Read}
use Rattle.items.proofs.Cases.{by_next}
use Rattle.items.proofs.Every.{Every}
use Rattle.items.proofs.Same.{item_same}
use Rattle.chars.proofs.Width.{wide, width-utf8}
use Rattle.chars.specs.Encode.{utf8, width, bytes_of}
use Prim.Native.Nat.{ℕ, ◌+◌, ◌≤◌, ◌<◌}
use mathlib.Core.Path.{◌≡◌, refl, sym, ap, ◌∙◌}
use mathlib.Core.Bool.{Bool}
use mathlib.Core.List.{List, [], ◌∷◌, ◌++◌, append_assoc}
use lib.ListN.{length, length-append}
use native.Mathlib.Omega.{arith}
use native.Mathlib.Nat.{le_refl}

-- the bytes that characters have
pub length_bytes : (cs : List ℕ) → length (bytes_of cs) ≡ byte_count cs
unfolding bytes_of
length_bytes [] = refl
length_bytes (c ∷ cs) = length-append (utf8 c) (bytes_of cs) ∙ (rw (width-utf8 c, length_bytes cs))

module _ (report : Bool) where
  scan_splits : (p : Phase) (i : SoFar) (cs : List ℕ)
      → (scan_of report p i cs).item.bytes ++ bytes_of (scan_of report p i cs).rest ≡ i.bytes ++ bytes_of cs
  unfolding scan_of bytes_of
  scan_splits p i [] = refl
  scan_splits p i (c ∷ cs) = by_next (step_of report p i c)
      (λ q e. rw (e, scan_of) (scan_splits q (eat i c) cs ∙ append_assoc i.bytes (utf8 c) (bytes_of cs)))
      (λ o e. rw (e, scan_of))

  scan_at : (p : Phase) (i : SoFar) (cs : List ℕ) (s : ℕ) → i.at ≡ s + length i.bytes
      → (scan_of report p i cs).item.at ≡ s + length (scan_of report p i cs).item.bytes
  unfolding scan_of
  scan_at p i [] s h = h
  scan_at p i (c ∷ cs) s h = by_next (step_of report p i c)
      (λ q e. rw (e, scan_of) (scan_at q (eat i c) cs s (omega (arith, length-append i.bytes (utf8 c), width-utf8 c))))
      (λ o e. rw (e, scan_of) h)

  scan_longer : (p : Phase) (i : SoFar) (cs : List ℕ) → length i.bytes ≤ length (scan_of report p i cs).item.bytes
  unfolding scan_of
  scan_longer p i [] = le_refl _
  scan_longer p i (c ∷ cs) = by_next (step_of report p i c)
      (λ q e. rw (e, scan_of) (omega (arith, scan_longer q (eat i c) cs, length-append i.bytes (utf8 c))))
      (λ o e. rw (e, scan_of) (le_refl _))

  -- what is left is an end of what there was
  scan_every : (P : ℕ → Type 0) (p : Phase) (i : SoFar) (cs : List ℕ) → Every P cs → Every P (scan_of report p i cs).rest
  unfolding scan_of
  scan_every P p i [] h = tt
  scan_every P p i (c ∷ cs) h = by_next (step_of report p i c)
      (λ q e. rw (e, scan_of) (scan_every P q (eat i c) cs h.1))
      (λ o e. rw (e, scan_of) h)

  pub read_every : (P : ℕ → Type 0) (at c : ℕ) (cs : List ℕ) → Every P cs → Every P (read_item report at c cs).rest
  read_every P at c cs h = rw (item_same report at c cs) at (scan_every P (on_first (first_of c)) (eat (so_far [] at) c) cs h)

  module _ (at c : ℕ) (cs : List ℕ) where
    -- the item's bytes and what is left are what there was
    pub read_splits : (read_item report at c cs).item.bytes ++ bytes_of (read_item report at c cs).rest ≡ bytes_of (c ∷ cs)
    unfolding bytes_of
    read_splits = rw (item_same report at c cs) at (scan_splits (on_first (first_of c)) (eat (so_far [] at) c) cs)

    -- it ends as many bytes after its start as it has
    pub read_at : (read_item report at c cs).item.at ≡ at + length (read_item report at c cs).item.bytes
    read_at = rw (item_same report at c cs) at (scan_at (on_first (first_of c)) (eat (so_far [] at) c) cs at (omega (arith, width-utf8 c)))

    -- it has its first character
    pub read_longer : width c ≤ length (read_item report at c cs).item.bytes
    read_longer = rw (item_same report at c cs) at (rw (width-utf8 c) at (scan_longer (on_first (first_of c)) (eat (so_far [] at) c) cs))

    -- in places: its end is past its start, and what is left takes the rest
    pub read_forward : at < (read_item report at c cs).item.at
    read_forward = omega (arith, read_at, read_longer, wide c)

    pub read_end : (read_item report at c cs).item.at + byte_count (read_item report at c cs).rest ≡ at + byte_count (c ∷ cs)
    read_end =
        let r : Read = read_item report at c cs in
        let both : length r.item.bytes + length (bytes_of r.rest) ≡ length (bytes_of (c ∷ cs))
        = sym (length-append r.item.bytes (bytes_of r.rest)) ∙ ap length read_splits in
        omega (arith, read_at, length_bytes (c ∷ cs), length_bytes r.rest)
