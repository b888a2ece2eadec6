-- What is written of the items that are done: their records' words, and their decoded texts. An item's nine words say both what its decoded
-- text is and where the text memory is free after it.
use Rattle.items.specs.Meaning.{Text, none, source, decoded}
use Rattle.items.specs.Items.{Item, depth_after, depth_past, nine_of, record_of, nine_words, words_of, memory_of, records, texts}
use Rattle.items.proofs.Depth.{past_append}
use Rattle.meaning.specs.Records.{packed}
use Rattle.lexer.specs.Inner.{bytes_for, free_after, deep_at}
use Rattle.lexer.proofs.Left.{part}
use Rattle.lexer.proofs.Spelled.{SpelledText}
use Rattle.lexer.proofs.Moves.{Whole}
use Prim.Native.Nat.{ℕ, ◌+◌}
use native.Mathlib.Nat.{add-zero}
use native.Mathlib.Omega.{arith}
use mathlib.Core.Path.{◌≡◌, refl, sym, ap, ◌∙◌}
use mathlib.Core.List.{List, [], ◌∷◌, ◌++◌, append_assoc, append-nil}
use lib.ListN.{length, length-append}

-- ---- one item

pub words_packed : (free : ℕ) (i : Item) → nine_words (packed free i) ≡ nine_of free i
words_packed free i = go i.text refl
  where
    go : (t : Text) → i.text ≡ t → nine_words (packed free i) ≡ nine_of free i
    go none e = rw e
    go (source a b) e = rw e
    go (decoded bs) e = rw e

pub record_packed : (free depth : ℕ) (i : Item) → words_of (deep_at depth (packed free i)) ≡ record_of free depth i
record_packed free depth i = ap (λ (l : List ℕ). l ++ (depth ∷ [])) (words_packed free i)

pub free_packed : (free : ℕ) (i : Item) → free_after free (packed free i) ≡ free + length (memory_of i.text)
free_packed free i = go i.text refl
  where
    go : (t : Text) → i.text ≡ t → free_after free (packed free i) ≡ free + length (memory_of i.text)
    go none e = rw e (sym (add-zero free))
    go (source a b) e = rw e (sym (add-zero free))
    go (decoded bs) e = rw e

pub bytes_packed : (s : List ℕ) (free : ℕ) (i : Item) → Whole s i → bytes_for s (packed free i) ≡ memory_of i.text
bytes_packed s free i w = go i.text refl w.text
  where
    go : (t : Text) → i.text ≡ t → SpelledText (part s i.start i.end) i.kind t → bytes_for s (packed free i) ≡ memory_of i.text
    go none e h = rw e
    go (source a b) e h = rw e
    go (decoded bs) e h = rw e (sym h)

-- ---- one item more

pub texts_join : (xs ys : List Item) → texts (xs ++ ys) ≡ texts xs ++ texts ys
unfolding texts
texts_join [] ys = refl
texts_join (i ∷ is) ys = ap (λ (l : List ℕ). memory_of i.text ++ l) (texts_join is ys) ∙ sym (append_assoc (memory_of i.text) (texts is) (texts ys))

pub records_join : (free depth : ℕ) (xs ys : List Item)
    → records free depth (xs ++ ys) ≡ records free depth xs ++ records (free + length (texts xs)) (depth_past depth xs) ys
unfolding records texts depth_past
records_join free depth [] ys = ap (λ (n : ℕ). records n depth ys) (sym (add-zero free))
records_join free depth (i ∷ is) ys =
    let after : ℕ = free + length (memory_of i.text) in
    let deep : ℕ = depth_after i.kind depth in
    let n : after + length (texts is) ≡ free + length (memory_of i.text ++ texts is) = omega (arith, length-append (memory_of i.text) (texts is)) in
    ap (λ (l : List ℕ). record_of free depth i ++ l)
    (records_join after deep is ys ∙ ap (λ (k : ℕ). records after deep is ++ records k (depth_past deep is) ys) n)
    ∙ sym (append_assoc (record_of free depth i) (records after deep is) (records (free + length (memory_of i.text ++ texts is)) (depth_past deep is) ys))

pub texts_more : (xs : List Item) (i : Item) → texts (xs ++ (i ∷ [])) ≡ texts xs ++ memory_of i.text
unfolding texts
texts_more xs i = texts_join xs (i ∷ []) ∙ ap (λ (l : List ℕ). texts xs ++ l) (append-nil (memory_of i.text))

pub records_more : (xs : List Item) (i : Item) (free depth : ℕ) → length (texts xs) ≡ free → depth_past 0 xs ≡ depth
    → records 0 0 (xs ++ (i ∷ [])) ≡ records 0 0 xs ++ record_of free depth i
unfolding records
records_more xs i free depth e d =
    let z : 0 + length (texts xs) ≡ free = omega arith in
    records_join 0 0 xs (i ∷ [])
    ∙ ap (λ (l : List ℕ). records 0 0 xs ++ l)
    (ap (λ (n : ℕ). records n (depth_past 0 xs) (i ∷ [])) z ∙ ap (λ (n : ℕ). records free n (i ∷ [])) d ∙ append-nil (record_of free depth i))

pub past_more : (xs : List Item) (i : Item) (depth : ℕ) → depth_past 0 xs ≡ depth → depth_past 0 (xs ++ (i ∷ [])) ≡ depth_after i.kind depth
unfolding depth_past
past_more xs i depth d = past_append 0 xs (i ∷ []) ∙ ap (depth_after i.kind) d
