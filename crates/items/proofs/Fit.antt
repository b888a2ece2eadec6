-- Every word of a record fits 32 bits where the text's length does: places and texts lie in the text, and the decoded texts together are
-- no longer than it.
use Rattle.items.specs.Items.{items, kept, most_open, depth_after, record_words, text_words, nine_of, record_of, memory_of, records, texts, byte_count, Item}
use Rattle.items.specs.Meaning.{Text, none, source, decoded}
use Rattle.items.proofs.Depth.{depth_within}
use Rattle.items.proofs.Every.{Every, every_append}
use Rattle.items.proofs.Meanings.{Inside}
use Rattle.items.proofs.Order.{items_placed, items_memory, items_details, Placed}
use Rattle.items.proofs.Skipped.{kept_every, kept_memory}
use Prim.Native.Nat.{ℕ, ◌+◌, ◌*◌, ◌^◌, ◌≤◌, ◌<◌}
use mathlib.Core.Path.{◌≡◌, refl}
use mathlib.Core.Bool.{Bool}
use mathlib.Core.List.{List, [], ◌∷◌}
use lib.ListN.{length, length-append}
use native.Mathlib.Omega.{arith}

abbrev pub Fits : ℕ → Type 0
Fits w = w < 2 ^ 32

-- a record has ten words
pub records-length : (free depth : ℕ) (is : List Item) → length (records free depth is) ≡ record_words * length is
unfolding records
records-length free depth [] = refl
records-length free depth (i ∷ is) =
    let t : length (text_words free i.text) ≡ 3 = three i.text in
    let later : List ℕ = records (free + length (memory_of i.text)) (depth_after i.kind depth) is in
    omega (
      arith,
      length-append (record_of free depth i) later,
      length-append (nine_of free i) (depth ∷ []),
      records-length (free + length (memory_of i.text)) (depth_after i.kind depth) is,
    )
  where
    three : (t : Text) → length (text_words free t) ≡ 3
    three none = refl
    three (source a b) = refl
    three (decoded bs) = refl

module _ (n : ℕ) (long : n < 2 ^ 32) where
  text_fits_lem : (free s e : ℕ) (t : Text) → Inside s e t → e ≤ n → free + length (memory_of t) ≤ n → Every Fits (text_words free t)
  text_fits_lem free s e none h g m = (omega arith, (omega arith, (omega arith, tt)))
  text_fits_lem free s e (source a b) h g m = (omega arith, (omega arith, (omega arith, tt)))
  text_fits_lem free s e (decoded bs) h g m = (omega arith, (omega arith, (omega arith, tt)))

  record_fits_lem : (free depth : ℕ) (i : Item) → Placed n i → Fits i.detail → free + length (memory_of i.text) ≤ n → depth ≤ most_open
      → Every Fits (record_of free depth i)
  record_fits_lem free depth i p d m h =
      every_append Fits (nine_of free i) (depth ∷ [])
      (omega arith, (d, (omega arith, (omega arith, (omega arith, (omega arith, text_fits_lem free i.start i.end i.text p.text p.ends m))))))
      (omega arith, tt)

  pub words_fit : (free depth : ℕ) (is : List Item) → Every (Placed n) is → Every (λ (i : Item). Fits i.detail) is → free + length (texts is) ≤ n
      → depth ≤ most_open → Every Fits (records free depth is)
  unfolding records texts
  words_fit free depth [] p d m h = tt
  words_fit free depth (i ∷ is) p d m h =
      let t : length (texts (i ∷ is)) ≡ length (memory_of i.text) + length (texts is) = length-append (memory_of i.text) (texts is) in
      every_append Fits (record_of free depth i) (records (free + length (memory_of i.text)) (depth_after i.kind depth) is)
      (record_fits_lem free depth i p.0 d.0 (omega arith) h)
      (words_fit (free + length (memory_of i.text)) (depth_after i.kind depth) is p.1 d.1 (omega arith) (depth_within i.kind depth h))

-- the characters of a text are Unicode's, or any that fit 32 bits
pub records_fit_lem : (report skip : Bool) (cs : List ℕ) → Every Fits cs → byte_count cs < 2 ^ 32 → Every Fits (records 0 0 (kept skip (items report cs)))
records_fit_lem report skip cs h long =
    let is : List Item = items report cs in
    words_fit (byte_count cs) long 0 0 (kept skip is)
    (kept_every (Placed (byte_count cs)) skip is (items_placed report cs))
    (kept_every (λ (i : Item). Fits i.detail) skip is (items_details report cs h))
    (omega (arith, kept_memory skip is, items_memory report cs))
    (omega arith)
