-- The index: a name that is in a half is never answered by an empty slot.
use Prim.Native.Nat.{ℕ, zero, suc, ◌+◌, ◌-◌, ◌%◌, ◌<◌}
use native.Mathlib.Omega.{arith}
use borrow.Author.Tests.{eqb-true, eqb-false}
use mathlib.Core.Path.{◌≡◌, refl, sym, ◌∙◌}
use mathlib.Core.Bool.{true, false}
use mathlib.Core.List.{List}
use lib.Dec.{eqb}
use Rattle.laws.proofs.Choice.{by_bool, impossible}
use Rattle.names.specs.Layout.{slot, index_slots}
use Rattle.names.specs.Call.{proposes, probe}
use Rattle.names.specs.declared.Proposal.{Proposal}
use Rattle.names.specs.declared.Proposal.TheVariants.{Entry, Free, Full}
use Rattle.names.proofs.Laws.{next_small, probe_free, probe_hit, probe_miss, probe_end}

pub entry_free : {k s : ℕ} → Entry k ≡ Free s → ⊥
entry_free e = impossible cc

pub full_free : {s : ℕ} → Full ≡ Free s → ⊥
full_free e = impossible cc

pub free_free : {r s : ℕ} → Free r ≡ Free s → r ≡ s
free_free e = cc

-- no empty slot answers
abbrev pub Reached : Proposal → Type 0
Reached x = (s : ℕ) → x ≡ Free s → ⊥

module _ (w b : List ℕ) (p : ℕ) (name : List ℕ) where
  step : (n s : ℕ) → (slot w p s ≡ 0 → ⊥) → proposes w b p name (slot w p s) ≡ false → probe n w b p name ((s + 1) % index_slots) ≡ probe (suc n) w b p name s
  step n s h g = let f : suc n - 1 ≡ n = omega arith in rw f at (probe_miss w b p name (suc n) s refl (omega arith) h g)

  pub free_empty : (n s : ℕ) {r : ℕ} → probe n w b p name s ≡ Free r → slot w p r ≡ 0
  free_empty zero s e = absurd (full_free (probe_end w b p name 0 s refl ∙ e))
  free_empty (suc n) s {r} e =
      by_bool (eqb (slot w p s) 0)
      (λ t. let h = eqb-true (slot w p s) 0 t in rw (sym (free_free (probe_free w b p name (suc n) s refl (omega arith) h ∙ e))) h)
      (λ t. let h = eqb-false (slot w p s) 0 t in
      by_bool (proposes w b p name (slot w p s))
      (λ g. absurd (entry_free (probe_hit w b p name (suc n) s refl (omega arith) h g ∙ e)))
      (λ g. free_empty n ((s + 1) % index_slots) (step n s h g ∙ e)))

-- another memory: its slots are those of the first but where the first is empty; what proposes the name in the first proposes it there
module _ (w b v c : List ℕ) (p : ℕ) (name : List ℕ)
    (slots : (s : ℕ) → s < index_slots → (slot w p s ≡ 0 → ⊥) → slot v p s ≡ slot w p s)
    (proposing : (x : ℕ) → proposes w b p name x ≡ true → proposes v c p name x ≡ true) where
  -- the same turn in both, where it does not end in the first
  turn : (n s : ℕ) → s < index_slots → (slot w p s ≡ 0 → ⊥)
      → (proposes w b p name (slot w p s) ≡ false → Reached (probe n v c p name ((s + 1) % index_slots))) → Reached (probe (suc n) v c p name s)
  turn n s l h more r e =
      let a = slots s l h in
      let d : slot v p s ≡ 0 → ⊥ = λ z. h (sym a ∙ z) in
      by_bool (proposes v c p name (slot v p s))
      (λ g. entry_free (probe_hit v c p name (suc n) s refl (omega arith) d g ∙ e))
      (λ g. by_bool (proposes w b p name (slot w p s))
      (λ i. let x = proposing (slot w p s) i in let y : proposes v c p name (slot w p s) ≡ false = rw a at g in impossible cc)
      (λ i. more i r (step v c p name n s d g ∙ e)))

  pub stays_reached : (n s : ℕ) → s < index_slots → Reached (probe n w b p name s) → Reached (probe n v c p name s)
  stays_reached zero s l f r e = full_free (probe_end v c p name 0 s refl ∙ e)
  stays_reached (suc n) s l f r e =
      let h : slot w p s ≡ 0 → ⊥ = λ z. f s (sym (probe_free w b p name (suc n) s refl (omega arith) z)) in
      turn n s l h (λ g. stays_reached n ((s + 1) % index_slots) (next_small s) (λ q i. f q (sym (step w b p name n s h g) ∙ i))) r e

  -- the empty slot that answered is filled by an entry that bears the name
  pub comes_reached : (x n s : ℕ) → (slot v p x ≡ 0 → ⊥) → proposes v c p name (slot v p x) ≡ true → s < index_slots → probe n w b p name s ≡ Free x → Reached (probe n v c p name s)
  comes_reached x zero s a i l f r e = full_free (probe_end v c p name 0 s refl ∙ e)
  comes_reached x (suc n) s a i l f r e =
      by_bool (eqb (slot w p s) 0)
      (λ t. let h = eqb-true (slot w p s) 0 t in
      let q : s ≡ x = free_free (probe_free w b p name (suc n) s refl (omega arith) h ∙ f) in
      entry_free (probe_hit v c p name (suc n) s refl (omega arith) (rw (sym q) at a) (rw (sym q) at i) ∙ e))
      (λ t. let h = eqb-false (slot w p s) 0 t in
      turn n s l h (λ g. comes_reached x n ((s + 1) % index_slots) a i (next_small s) (step w b p name n s h g ∙ f)) r e)
