-- A word that starts with `#`, byte by byte: how long it is, and where it ends in a mark of its own.
use Prim.Native.Nat.{ℕ, ◌+◌, ◌-◌, ◌≤◌, ◌<◌}
use mathlib.Core.Path.{◌≡◌, refl, ap, sym, ◌∙◌}
use mathlib.Core.Logic.{◌⊎◌, inl, inr}
use mathlib.Core.Bool.{true, false}
use mathlib.Core.List.{List, [], ◌∷◌, ◌++◌, append-nil}
use lib.ListN.{length, get_or, length-append}
use lib.Seq.{get_or_at}
use lib.Dec.{eqb, ltb}
use native.Mathlib.Omega.{arith}
use Rattle.laws.specs.Quoted.{code, codes, one_of}
use Rattle.laws.specs.Texts.{begins}
use Rattle.laws.proofs.Choice.{no_yes, if_is}
use Rattle.chars.specs.Encode.{utf8, bytes_of, spelled}
use Rattle.items.specs.Classes.{ends_hash, in_hash}
use Rattle.items.specs.Classes.{InHash, skips_two, tick, commas, stops_hash, stays_hash}
use Rattle.chars.proofs.Width.{wide, width-utf8}
use Rattle.items_coverage.proofs.Bytes.{begins_other}
use Rattle.items_r7rs.proofs.Bytes.{utf8_low}
use Rattle.items_r7rs.proofs.Classes.{at_one_of}

-- a word that starts with `#` and ends in a mark of its own, which is not the one character of `#\\'`
abbrev pub Marked : List ℕ → Type 0
Marked raw = (one_of (codes "'`,@") (get_or raw (length raw - 1) 0) ≡ true) × (2 ≤ length raw) × (begins (spelled "#\\") raw ≡ true → 3 < length raw)

abbrev pub HashEnd : List ℕ → ℕ → Type 0
HashEnd raw c = (ends_hash c ≡ true) ⊎ Marked raw

-- a word that starts with `#`, so far: more than that, and after `#\\` one character at least
abbrev pub Open : List ℕ → Type 0
Open raw = (2 ≤ length raw) × (begins (spelled "#\\") raw ≡ true → 3 ≤ length raw)

-- what two bytes decide
begins_two : (raw l : List ℕ) → 2 ≤ length raw → begins (spelled "#\\") (raw ++ l) ≡ true → begins (spelled "#\\") raw ≡ true
unfolding begins bytes_of utf8
begins_two [] l n h = absurd (omega arith)
begins_two (a ∷ []) l n h = absurd (omega arith)
begins_two (a ∷ b ∷ raw) l n h = h

-- the same, or `#` alone
abbrev pub Started : List ℕ → Type 0
Started raw = Open raw ⊎ (raw ≡ spelled "#")

module _ (raw : List ℕ) (c : ℕ) where
  pub wider : length raw + 1 ≤ length (raw ++ utf8 c)
  wider = omega (arith, length-append raw (utf8 c), width-utf8 c, wide c)

  -- `#` and another character than a backslash
  no_backslash : raw ≡ spelled "#" → eqb c (code "\\") ≡ false → begins (spelled "#\\") (raw ++ utf8 c) ≡ false
  unfolding begins bytes_of utf8
  no_backslash e f =
      ap (λ (l : List ℕ). begins (spelled "#\\") (l ++ utf8 c)) e
      ∙ ap (begins (codes "\\")) (sym (append-nil (utf8 c))) ∙ begins_other (code "\\") (omega arith) c [] [] f

  pub grown : Started raw → 2 ≤ length (raw ++ utf8 c)
  unfolding bytes_of utf8
  grown (inl h) = omega (arith, wider, h.0)
  grown (inr e) = omega (arith, wider, ap length e)

  pub opened : Started raw → eqb c (code "\\") ≡ false → Open (raw ++ utf8 c)
  opened (inl h) f = (grown (inl h), λ e. omega (arith, wider, h.1 (begins_two raw (utf8 c) h.0 e)))
  opened (inr z) f = (grown (inr z), λ e. no_yes (sym (no_backslash z f) ∙ e))

  ends_marked : one_of (codes "'`,@") c ≡ true → one_of (codes "'`,@") (get_or (raw ++ utf8 c) (length (raw ++ utf8 c) - 1) 0) ≡ true
  ends_marked m =
      let low : utf8 c ≡ c ∷ [] = utf8_low c (at_one_of (λ k. ltb k 0x80) true (codes "'`,@") c refl m) in
      let n : length raw ≡ length (raw ++ (c ∷ [])) - 1 = omega (arith, length-append raw (c ∷ [])) in
      rw (low, get_or_at raw c [] 0 (length (raw ++ (c ∷ [])) - 1) n) m

  pub marked : Started raw → one_of (codes "'`,@") c ≡ true → Marked (raw ++ utf8 c)
  marked (inl h) m = (ends_marked m, grown (inl h), λ e. omega (arith, wider, h.1 (begins_two raw (utf8 c) h.0 e)))
  marked (inr z) m =
      (ends_marked m, grown (inr z), λ e. no_yes (sym (no_backslash z (at_one_of (λ k. eqb k (code "\\")) false (codes "'`,@") c refl m)) ∙ e))

  pub marked_on : Marked raw → one_of (codes "'`,@") c ≡ true → Marked (raw ++ utf8 c)
  marked_on h m = (ends_marked m, omega (arith, wider, h.1), λ e. omega (arith, wider, h.2 (begins_two raw (utf8 c) h.1 e)))

-- what a class of these words says of its character
abbrev pub HashClass : ℕ → InHash → Type 0
HashClass c skips_two = Unit {0}
HashClass c tick = one_of (codes "'`,@") c ≡ true
HashClass c commas = one_of (codes "'`,@") c ≡ true
HashClass c stops_hash = ends_hash c ≡ true
HashClass c stays_hash = eqb c (code "\\") ≡ false

pub hash_class : (c : ℕ) → HashClass c (in_hash c)
unfolding in_hash
hash_class c =
    if_is (HashClass c) (eqb c (code "\\")) (λ _. tt) (λ e.
    if_is (HashClass c) (eqb c (code "'")) (λ f. rw f) (λ f.
    if_is (HashClass c) (eqb c (code "`")) (λ g. rw (f, g)) (λ g.
    if_is (HashClass c) (eqb c (code ",")) (λ h. rw (f, g, h)) (λ _.
    if_is (HashClass c) (ends_hash c) (λ k. k) (λ _. e)))))
