-- The depth of an item: it fits a word, skipped comments do not move it, it is the count of the brackets that are open, and the other nine
-- words of a record do not know of it.
use Rattle.items.specs.Items.{Item, kept, most_open, depth_after, depth_past, own_words, record_words, nine_of, record_of, memory_of, records}
use Rattle.items.specs.Kinds as kind
use Rattle.items.specs.Meaning.{Text, none, source, decoded}
use Rattle.std.specs.Prelude.{if◌then◌else◌}
use Rattle.laws.proofs.Choice.{by_bool, if_all, if_is, and_true}
use Prim.Native.Nat.{ℕ, zero, suc, ◌+◌, ◌-◌, ◌≤◌}
use mathlib.Core.Path.{◌≡◌, refl, sym, ap, ◌∙◌}
use mathlib.Core.Bool.{Bool, true, ◌&&◌}
use mathlib.Core.List.{List, [], ◌∷◌, ◌++◌}
use lib.ListN.{length, take, drop}
use lib.Dec.{eqb, ltb}
use native.Mathlib.Omega.{arith}
use borrow.Author.Tests.{eqb-true, ltb-true, lt-ltb}

-- ---- no item makes a depth that a word does not hold: the greatest stays as it is

pub depth_within : (k d : ℕ) → d ≤ most_open → depth_after k d ≤ most_open
depth_within k d h =
    let P : ℕ → Type 0 = λ (n : ℕ). n ≤ most_open in
    if_all P (eqb k kind.OpenParen) (if_is P (ltb d most_open) (λ e. omega (arith, ltb-true d most_open e)) (λ _. h)) (if_all P (eqb k kind.CloseParen) (omega arith) h)

-- and none goes deeper by more than one
pub depth_slow : (k d : ℕ) → depth_after k d ≤ suc d
depth_slow k d =
    let P : ℕ → Type 0 = λ (n : ℕ). n ≤ suc d in
    if_all P (eqb k kind.OpenParen) (if_all P (ltb d most_open) (omega arith) (omega arith)) (if_all P (eqb k kind.CloseParen) (omega arith) (omega arith))

pub past_slow : (d : ℕ) (is : List Item) → depth_past d is ≤ d + length is
unfolding depth_past
past_slow d [] = omega arith
past_slow d (i ∷ is) = omega (arith, past_slow (depth_after i.kind d) is, depth_slow i.kind d)

pub past_append : (d : ℕ) (xs ys : List Item) → depth_past d (xs ++ ys) ≡ depth_past (depth_past d xs) ys
unfolding depth_past
past_append d [] ys = refl
past_append d (i ∷ xs) ys = past_append (depth_after i.kind d) xs ys

-- ---- a comment is no bracket

pub comment_stays : (k d : ℕ) → eqb k kind.Comment ≡ true → depth_after k d ≡ d
comment_stays k d e = ap (λ (n : ℕ). depth_after n d) (eqb-true k kind.Comment e)

-- so skipping comments changes no other depth
pub kept_past : (skip : Bool) (d : ℕ) (is : List Item) → depth_past d (kept skip is) ≡ depth_past d is
unfolding kept depth_past
kept_past skip d [] = refl
kept_past skip d (i ∷ is) = by_bool (skip && eqb i.kind kind.Comment)
    (λ e. rw (e, kept) (kept_past skip d is ∙ ap (λ (n : ℕ). depth_past n is) (sym (comment_stays i.kind d (and_true skip _ e).1))))
    (λ e. rw (e, kept) (kept_past skip (depth_after i.kind d) is))

-- ---- how many brackets open, and how many close one

abbrev pub opens : List Item → ℕ
opens [] = 0
opens (i ∷ is) = (if eqb i.kind kind.OpenParen then 1 else 0) + opens is

-- a close that meets the depth 0 closes none
abbrev pub closes : ℕ → List Item → ℕ
closes d [] = 0
closes d (i ∷ is) = (if eqb i.kind kind.CloseParen && ltb 0 d then 1 else 0) + closes (depth_after i.kind d) is

-- A RECORD'S DEPTH is the number of opens before it, less the closes that closed one.
pub depth_counts : (d : ℕ) (is : List Item) → d + length is ≤ most_open → depth_past d is + closes d is ≡ d + opens is
unfolding depth_past
depth_counts d [] h = omega arith
depth_counts d (i ∷ is) h =
    let k : ℕ = i.kind in
    let later : depth_past (depth_after k d) is + closes (depth_after k d) is ≡ depth_after k d + opens is
    = depth_counts (depth_after k d) is (omega (arith, depth_slow k d)) in
    omega (arith, one k)
  where
    one : (k : ℕ) → depth_after k d + (if eqb k kind.CloseParen && ltb 0 d then 1 else 0) ≡ d + (if eqb k kind.OpenParen then 1 else 0)
    one k = by_bool (eqb k kind.OpenParen)
        (λ e. let same : k ≡ kind.OpenParen = eqb-true k kind.OpenParen e in rw (same, lt-ltb d most_open (omega arith)) (omega arith))
        (λ e. rw e (by_bool (eqb k kind.CloseParen)
        (λ f. rw f (below d))
        (λ f. rw f (omega arith))))
      where
        below : (d : ℕ) → d - 1 + (if ltb 0 d then 1 else 0) ≡ d + 0
        below zero = refl
        below (suc d) = rw (lt-ltb 0 (suc d) (omega arith)) (omega arith)

-- ---- the other nine words

-- of so many records, the words that each item has by itself
unfoldable pub nines : ℕ → List ℕ → List ℕ
nines zero words = []
nines (suc n) words = take own_words words ++ nines n (drop record_words words)

-- the same on the items: no depth is asked for
unfoldable pub nines_of : ℕ → List Item → List ℕ
nines_of free [] = []
nines_of free (i ∷ is) = nine_of free i ++ nines_of (free + length (memory_of i.text)) is

-- THE FIRST NINE WORDS of every record are those that demand 2 speaks of.
pub nine : (free depth : ℕ) (is : List Item) → nines (length is) (records free depth is) ≡ nines_of free is
unfolding records nines nines_of
nine free depth [] = refl
nine free depth (i ∷ is) = go i.text (nine (free + length (memory_of i.text)) (depth_after i.kind depth) is)
  where
    with : Text → Item
    with t = record { kind = i.kind; detail = i.detail; start = i.start; end = i.end; place = i.place; text = t }

    go : (t : Text) → let words : List ℕ = record_of free depth (with t) ++ records (free + length (memory_of t)) (depth_after i.kind depth) is in
        nines (length is) (records (free + length (memory_of t)) (depth_after i.kind depth) is) ≡ nines_of (free + length (memory_of t)) is
        → take own_words words ++ nines (length is) (drop record_words words) ≡ nine_of free (with t) ++ nines_of (free + length (memory_of t)) is
    go none e = ap (λ (l : List ℕ). nine_of free (with none) ++ l) e
    go (source a b) e = ap (λ (l : List ℕ). nine_of free (with (source a b)) ++ l) e
    go (decoded bs) e = ap (λ (l : List ℕ). nine_of free (with (decoded bs)) ++ l) e
