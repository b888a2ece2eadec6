-- An item that starts with a character past ASCII is a word: no other kind of item starts so.
use Prim.Native.Nat.{ℕ, ◌<◌}
use mathlib.Core.Path.{◌≡◌, refl, sym, ap, ◌∙◌}
use mathlib.Core.Bool.{Bool, true, ◌&&◌}
use mathlib.Core.List.{List, [], ◌∷◌, ◌++◌}
use mathlib.Core.Logic.{◌⊎◌, inl, inr}
use lib.ListN.{length, get_or, get_or-append}
use lib.Dec.{eqb, ltb}
use native.Mathlib.Omega.{arith}
use borrow.Author.Tests.{eqb-true, ltb-true}
use Rattle.laws.specs.Quoted.{code, codes, one_of}
use Rattle.laws.proofs.Choice.{by_bool, if_is, and_true, impossible}
use Rattle.chars.specs.Encode.{bytes_of}
use Rattle.chars.proofs.Width.{wide, utf8-one}
use Rattle.items.specs.declared.Outcome.TheVariants.{Word}
use Rattle.items.specs.Classes.{First, first_of, starts_run, wordy, in_word}
use Rattle.items.specs.Readers.{SoFar, so_far, eat, read_word_on, word_skip, read_item}
use Rattle.items.proofs.Cases.{by_word}
use Rattle.items.proofs.Splits.{read_splits, read_longer}

-- ---- a word is a word

mutual
  unfolding read_word_on word_skip

  word_on : (i : SoFar) (cs : List ℕ) → (read_word_on i cs).what ≡ Word
  word_on i [] = refl
  word_on i (c ∷ cs) =
      by_word (in_word c) (λ e. rw (e, read_word_on)) (λ e. rw (e, read_word_on) (word_skip_lem (eat i c) cs)) (λ e. rw (e, read_word_on) (word_on (eat i c) cs))

  word_skip_lem : (i : SoFar) (cs : List ℕ) → (word_skip i cs).what ≡ Word
  word_skip_lem i [] = refl
  word_skip_lem i (c ∷ cs) = word_on (eat i c) cs

-- ---- what starts with ASCII

-- whether all of some numbers lie below n
abbrev all_below : ℕ → List ℕ → Bool
all_below n [] = true
all_below n (k ∷ ks) = ltb k n && all_below n ks

pub one_below : (n : ℕ) (ks : List ℕ) (c : ℕ) → all_below n ks ≡ true → one_of ks c ≡ true → c < n
one_below n [] c h = λ e. impossible cc
one_below n (k ∷ ks) c h =
    let v = and_true (ltb k n) (all_below n ks) h in
    by_bool (eqb c k)
    (λ f e. omega (arith, eqb-true c k f, ltb-true k n v.0))
    (λ f e. one_below n ks c v.1 (rw f at e))

first_class : (c : ℕ) → (c < 0x80) ⊎ (first_of c ≡ wordy)
unfolding first_of starts_run
first_class c =
    let P : First → Type 0 = λ f. (c < 0x80) ⊎ (f ≡ wordy) in
    let is : (k : ℕ) → k < 0x80 → eqb c k ≡ true → c < 0x80 = λ k h e. omega (arith, eqb-true c k e) in
    if_is P (eqb c (code ";")) (λ e. inl (is (code ";") (omega arith) e)) (λ _.
    if_is P (eqb c (code "\"")) (λ e. inl (is (code "\"") (omega arith) e)) (λ _.
    if_is P (eqb c (code ",")) (λ e. inl (is (code ",") (omega arith) e)) (λ _.
    if_is P (eqb c (code "#")) (λ e. inl (is (code "#") (omega arith) e)) (λ _.
    if_is P (eqb c (code "(")) (λ e. inl (is (code "(") (omega arith) e)) (λ _.
    if_is P (eqb c (code "[")) (λ e. inl (is (code "[") (omega arith) e)) (λ _.
    if_is P (eqb c (code "{")) (λ e. inl (is (code "{") (omega arith) e)) (λ _.
    if_is P (eqb c (code ")")) (λ e. inl (is (code ")") (omega arith) e)) (λ _.
    if_is P (eqb c (code "]")) (λ e. inl (is (code "]") (omega arith) e)) (λ _.
    if_is P (eqb c (code "}")) (λ e. inl (is (code "}") (omega arith) e)) (λ _.
    if_is P (eqb c (code "'")) (λ e. inl (is (code "'") (omega arith) e)) (λ _.
    if_is P (eqb c (code "`")) (λ e. inl (is (code "`") (omega arith) e)) (λ _.
    if_is P (one_of (codes "+-.0123456789") c) (λ e. inl (one_below 0x80 (codes "+-.0123456789") c refl e)) (λ _.
    if_is P (eqb c (code "|")) (λ e. inl (is (code "|") (omega arith) e)) (λ _.
    if_is P (eqb c (code "\\")) (λ e. inl (is (code "\\") (omega arith) e)) (λ _. inr refl)))))))))))))))

-- ---- the item that is read

module _ (report : Bool) (at c : ℕ) (cs : List ℕ) where
  low_byte : c < 0x80 → get_or (read_item report at c cs).item.bytes 0 0 < 0x80
  unfolding bytes_of
  low_byte h =
      let raw = (read_item report at c cs).item.bytes in
      let some : 0 < length raw = omega (arith, read_longer report at c cs, wide c) in
      let front : get_or raw 0 0 ≡ c =
      sym (get_or-append raw (bytes_of (read_item report at c cs).rest) 0 0 some)
      ∙ ap (λ (l : List ℕ). get_or l 0 0) (read_splits report at c cs)
      ∙ ap (λ (l : List ℕ). get_or (l ++ bytes_of cs) 0 0) (utf8-one c h) in
      omega (arith, front)

  wordy_is : first_of c ≡ wordy → (read_item report at c cs).what ≡ Word
  unfolding read_item
  wordy_is e = rw (e, read_item) (word_on (eat (so_far [] at) c) cs)

  -- its first byte is ASCII, or it is a word
  pub first_byte : (get_or (read_item report at c cs).item.bytes 0 0 < 0x80) ⊎ ((read_item report at c cs).what ≡ Word)
  first_byte = go (first_class c)
    where
      go : (c < 0x80) ⊎ (first_of c ≡ wordy) → (get_or (read_item report at c cs).item.bytes 0 0 < 0x80) ⊎ ((read_item report at c cs).what ≡ Word)
      go (inl h) = inl (low_byte h)
      go (inr e) = inr (wordy_is e)
