-- In the records of a text the tenth word of each is its depth by the kinds before it. So what is proved here of depth is so of the word that an
-- editor indents by.
use Prim.Native.Nat.{ℕ, zero, suc, ◌+◌, ◌-◌, ◌*◌, ◌≤◌, ◌<◌}
use mathlib.Core.Path.{◌≡◌, refl, sym, ap, ◌∙◌}
use mathlib.Core.List.{List, [], ◌∷◌, ◌++◌}
use lib.ListN.{length, get_or}
use lib.Seq.{get_or-append-add}
use lib.Dec.{eqb}
use native.Mathlib.Omega.{arith}
use borrow.Author.Tests.{lt-ltb}
use Rattle.laws.proofs.Choice.{by_bool}
use Rattle.items.specs.Kinds as kind
use Rattle.items.specs.Meaning.{Text, none, source, decoded}
use Rattle.items.specs.Items.{Item, most_open, depth_after, record_words, own_words, record_of, memory_of, records}
use Rattle.items.proofs.Depth.{depth_slow}
use Rattle.nested_theorems.specs.Depth.{one_less, after, depth_of}

-- the depth after p records, with d brackets open before them
abbrev depth_from : ℕ → List ℕ → ℕ → ℕ
depth_from d s zero = d
depth_from d s (suc p) = after (get_or s (p * record_words) 0) (depth_from d s p)

from_none : (s : List ℕ) (p : ℕ) → depth_from 0 s p ≡ depth_of s p
unfolding depth_of
from_none s zero = refl
from_none s (suc p) = ap (after (get_or s (p * record_words) 0)) (from_none s p)

-- as long as a word holds it
less : (n : ℕ) → n - 1 ≡ one_less n
less zero = refl
less (suc n) = omega arith

same_after : (k d : ℕ) → d < most_open → depth_after k d ≡ after k d
same_after k d h = by_bool (eqb k kind.OpenParen)
    (λ e. rw (e, lt-ltb d most_open h))
    (λ e. rw e (by_bool (eqb k kind.CloseParen) (λ f. rw f (less d)) (λ f. rw f)))

-- ---- one record, and those after it

module _ (free d : ℕ) (i : Item) (l : List ℕ) where
  abbrev words : List ℕ
  words = record_of free d i ++ l

  abbrev with : Text → Item
  with t = record { kind = i.kind; detail = i.detail; start = i.start; end = i.end; place = i.place; text = t }

  ten : length (record_of free d i) ≡ record_words
  ten = go i.text
    where
      go : (t : Text) → length (record_of free d (with t)) ≡ record_words
      go none = refl
      go (source a b) = refl
      go (decoded bs) = refl

  tenth : get_or words own_words 0 ≡ d
  tenth = go i.text
    where
      go : (t : Text) → get_or (record_of free d (with t) ++ l) own_words 0 ≡ d
      go none = refl
      go (source a b) = refl
      go (decoded bs) = refl

  later : (n k : ℕ) → k ≡ record_words + n → get_or words k 0 ≡ get_or l n 0
  later n k e =
      ap (λ (m : ℕ). get_or words m 0) (e ∙ ap (λ (m : ℕ). m + n) (sym ten)) ∙ get_or-append-add (record_of free d i) l n 0

  from_later : (c p : ℕ) → depth_from c words (suc p) ≡ depth_from (after i.kind c) l p
  from_later c zero = refl
  from_later c (suc p) =
      ap (λ (k : ℕ). after k (depth_from c words (suc p))) (later (p * record_words) (suc p * record_words) (omega arith))
      ∙ ap (after (get_or l (p * record_words) 0)) (from_later c p)

-- ---- all records

tenth_from : (free d : ℕ) (is : List Item) (p : ℕ) → d + length is ≤ most_open → p < length is
    → get_or (records free d is) (p * record_words + own_words) 0 ≡ depth_from d (records free d is) p
unfolding records
tenth_from free d [] p h l = absurd (omega arith)
tenth_from free d (i ∷ is) zero h l = tenth free d i (records (free + length (memory_of i.text)) (depth_after i.kind d) is)
tenth_from free d (i ∷ is) (suc p) h l =
    let next : ℕ = free + length (memory_of i.text) in
    let rest : List ℕ = records next (depth_after i.kind d) is in
    later free d i rest (p * record_words + own_words) (suc p * record_words + own_words) (omega arith)
    ∙ tenth_from next (depth_after i.kind d) is p (omega (arith, depth_slow i.kind d)) (omega arith)
    ∙ ap (λ (c : ℕ). depth_from c rest p) (same_after i.kind d (omega arith))
    ∙ sym (from_later free d i rest d p)

-- THE TENTH WORD of record p of a text is the depth that the kinds of the records before it make.
pub tenth_word : (is : List Item) (p : ℕ) → length is ≤ most_open → p < length is
    → get_or (records 0 0 is) (p * record_words + own_words) 0 ≡ depth_of (records 0 0 is) p
tenth_word is p h l = tenth_from 0 0 is p (omega arith) l ∙ from_none (records 0 0 is) p
