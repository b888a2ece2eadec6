-- What is found bears the name; each return of the calls is a case of the definition.
use Rattle.std.proofs.Common.{None, Option, Some}
use Prim.Native.Nat.{ℕ, zero, suc, ◌+◌, ◌-◌, ◌*◌, ◌%◌, ◌≤◌, ◌<◌}
use native.Mathlib.Omega.{arith}
use borrow.Author.Tests.{lt-ltb, le-ltb, le-leb, lt-leb, eqb-true, eqb-false}
use mathlib.Core.Path.{◌≡◌, refl, sym, ap, ◌∙◌}
use mathlib.Core.Bool.{true, false}
use mathlib.Core.List.{List}
use lib.Dec.{eqb}
use lib.ListN.{length, get_or}
use Rattle.laws.proofs.Choice.{by_bool, if_yes, if_no, impossible}
use Rattle.refusal.specs.Refusals.{out_of_bounds, no_party, no_room}
use Rattle.names.specs.Layout.{count, used, slot, bears, is_in_bounds, half_names, half_bytes, first_bound, index_slots, half_words, table_names}
use Rattle.names.specs.Call.{slot_of, tag_of, proposes, probe, probe_of, scan, scanned, lookup_of, or_else, find_of, laid, new_words}
use Rattle.names.specs.Call.{numbered, free_of, Outcome, outcome, new_of, enter_of, looks}
use Rattle.names.specs.Answers.{Number, Refused}
use Rattle.names.specs.declared.Proposal.{Proposal}
use Rattle.names.specs.declared.Proposal.TheVariants.{Entry, Free, Full}
use Rattle.names.proofs.Laws.{next_small, bears_in, probe_free, probe_hit, probe_miss, probe_end, probe_in}

-- a number is that of an entry that bears the name
pub record Bearing (w b name : List ℕ) (n : ℕ) : Type 0 where
  pub party : ℕ
  pub place : ℕ
  pub there : party < 2
  pub borne : bears w b party name place ≡ true
  pub number : n ≡ party * half_names + place

pub by_proposal : {P : Type 0} (x : Proposal) → ((k : ℕ) → x ≡ Entry k → P) → ((s : ℕ) → x ≡ Free s → P) → (x ≡ Full → P) → P
by_proposal (Entry k) f g h = f k refl
by_proposal (Free s) f g h = g s refl
by_proposal Full f g h = h refl

pub by_found : {P : Type 0} (x : Option ℕ) → ((n : ℕ) → x ≡ Some n → P) → (x ≡ None → P) → P
by_found (Some n) f g = f n refl
by_found None f g = g refl

or_in : {P : Type 0} (f g : Option ℕ) {n : ℕ} → (f ≡ Some n → P) → (g ≡ Some n → P) → or_else f g ≡ Some n → P
or_in (Some m) g F G e = F e
or_in None g F G e = G e

pub or_none : (f g : Option ℕ) → or_else f g ≡ None → (f ≡ None) × (g ≡ None)
or_none (Some m) g e = impossible cc
or_none None g e = (refl, e)

module _ (w b : List ℕ) (name : List ℕ) where
  pub scan_in : (p m k : ℕ) {n : ℕ} → p < 2 → scan m w b p name k ≡ Some n → Bearing w b name n
  unfolding scan
  scan_in p zero k h e = impossible cc
  scan_in p (suc m) k {n} h e =
      by_bool (bears w b p name k)
      (λ t. let g : Some (p * half_names + k) ≡ Some n = if_yes _ _ _ t refl ∙ e in
      let x : n ≡ p * half_names + k = cc in
      record { party = p; place = k; there = h; borne = t; number = x })
      (λ t. scan_in p m (k + 1) h (if_no _ _ _ t refl ∙ e))

  pub scan_none : (p m k : ℕ) → scan m w b p name k ≡ None → (j : ℕ) → k ≤ j → j < k + m → bears w b p name j ≡ false
  unfolding scan
  scan_none p zero k e j h i = absurd (omega arith)
  scan_none p (suc m) k e j h i =
      by_bool (bears w b p name k)
      (λ t. let g : Some (p * half_names + k) ≡ None = if_yes _ _ _ t refl ∙ e in impossible cc)
      (λ t. by_bool (eqb k j)
      (λ q. rw (← eqb-true k j q) t)
      (λ q. let d = eqb-false k j q in scan_none p m (k + 1) (if_no _ _ _ t refl ∙ e) j (omega (arith, d)) (omega arith)))

  lookup_in : (p : ℕ) {n : ℕ} → p < 2 → lookup_of w b p name ≡ Some n → Bearing w b name n
  unfolding lookup_of
  lookup_in p {n} h e =
      by_proposal (probe_of w b p name)
      (λ k f. let g : Some (p * half_names + k) ≡ Some n = sym (ap (λ (x : Proposal). numbered p x (scanned w b p name)) f) ∙ e in
      let x : n ≡ p * half_names + k = cc in
      record { party = p; place = k; there = h; borne = probe_in w b p name looks (slot_of name) f; number = x })
      (λ s f. let g : None ≡ Some n = sym (ap (λ (x : Proposal). numbered p x (scanned w b p name)) f) ∙ e in impossible cc)
      (λ f. scan_in p (count w p) 0 h (sym (ap (λ (x : Proposal). numbered p x (scanned w b p name)) f) ∙ e))

  pub find_in : (p : ℕ) {n : ℕ} → p < 2 → find_of w b p name ≡ Some n → Bearing w b name n
  unfolding find_of
  find_in p h e = or_in _ _ (lookup_in p h) (lookup_in (1 - p) (omega arith)) e

  pub find_none : (p : ℕ) → find_of w b p name ≡ None → (lookup_of w b p name ≡ None) × (lookup_of w b (1 - p) name ≡ None)
  unfolding find_of
  find_none p e = or_none (lookup_of w b p name) (lookup_of w b (1 - p) name) e

  pub number_small : {n : ℕ} → ((p : ℕ) → p < 2 → count w p ≤ half_names) → Bearing w b name n → n < table_names
  number_small few r = omega (arith, few r.party r.there, bears_in w b r.party name r.place r.borne)

  -- the slot at which the index is extended
  pub free_small : (p n s : ℕ) → s < index_slots → free_of (probe n w b p name s) < index_slots + 1
  free_small p zero s h = rw (← probe_end w b p name 0 s refl) (omega arith)
  free_small p (suc n) s h =
      by_bool (eqb (slot w p s) 0)
      (λ t. rw (← probe_free w b p name (suc n) s refl (omega arith) (eqb-true _ _ t)) (omega arith))
      (λ t. by_bool (proposes w b p name (slot w p s))
      (λ g. rw (← probe_hit w b p name (suc n) s refl (omega arith) (eqb-false _ _ t) g) (omega arith))
      (λ g. let f : suc n - 1 ≡ n = omega arith in
      rw (← probe_miss w b p name (suc n) s refl (omega arith) (eqb-false _ _ t) g, f) (free_small p n ((s + 1) % index_slots) (next_small s))))

module _ (w b : List ℕ) (p : ℕ) (name : List ℕ) where
  pub lookup_entry : (k : ℕ) → probe_of w b p name ≡ Entry k → Some (p * half_names + k) ≡ lookup_of w b p name
  unfolding lookup_of
  lookup_entry k e = rw e

  pub lookup_free : (s : ℕ) → probe_of w b p name ≡ Free s → None ≡ lookup_of w b p name
  unfolding lookup_of
  lookup_free s e = rw e

  pub lookup_full : {x : Option ℕ} → probe_of w b p name ≡ Full → x ≡ scanned w b p name → x ≡ lookup_of w b p name
  unfolding lookup_of
  lookup_full e f = rw e f

  pub find_own : {x : Option ℕ} {n : ℕ} → x ≡ Some n → x ≡ lookup_of w b p name → x ≡ find_of w b p name
  unfolding find_of
  find_own e f = rw (← f, e)

  pub find_other : {x : Option ℕ} → lookup_of w b p name ≡ None → x ≡ lookup_of w b (1 - p) name → x ≡ find_of w b p name
  unfolding find_of
  find_other e f = rw e f

  pub new_full : {n : ℕ} → n ≡ count w p → half_names ≤ n → outcome (Refused no_room) w b ≡ new_of w b p name
  unfolding new_of
  new_full {n} e h = if_no _ _ _ (le-ltb (count w p) half_names (omega arith)) refl

  pub new_long : {n from : ℕ} → n ≡ count w p → n < half_names → from ≡ get_or w (p * half_words + first_bound + n) 0
      → used w p ≤ half_bytes → half_bytes - from < length name → outcome (Refused no_room) w b ≡ new_of w b p name
  unfolding new_of
  new_long {n} {from} e h f u g =
      let q : from ≡ used w p = f ∙ rw e in
      if_yes _ _ _ (lt-ltb (count w p) half_names (omega arith)) (if_no _ _ _ (lt-leb (used w p + length name) half_bytes (omega arith)) refl)

  pub new_put : {n from s : ℕ} {v c : List ℕ} → n ≡ count w p → n < half_names → from ≡ get_or w (p * half_words + first_bound + n) 0 → used w p ≤ half_bytes → length name ≤ half_bytes - from
      → s ≡ free_of (probe_of w b p name) → v ≡ new_words w p s (tag_of name) (length name) → c ≡ laid (p * half_bytes + from) name b → outcome (Number (p * half_names + n)) v c ≡ new_of w b p name
  unfolding new_of
  new_put {n} {from} {s} {v} {c} e h f u g i j k =
      let q : from ≡ used w p = f ∙ rw e in
      if_yes _ _ _ (lt-ltb (count w p) half_names (omega arith)) (if_yes _ _ _ (le-leb (used w p + length name) half_bytes (omega arith)) (rw (j, k, e, q, i)))

  pub enter_outside : is_in_bounds w b ≡ false → outcome (Refused out_of_bounds) w b ≡ enter_of w b p name
  unfolding enter_of
  enter_outside h = if_no _ _ _ h refl

  pub enter_party : is_in_bounds w b ≡ true → 2 ≤ p → outcome (Refused no_party) w b ≡ enter_of w b p name
  unfolding enter_of
  enter_party h g = if_yes _ _ _ h (if_no _ _ _ (le-ltb _ _ g) refl)

  pub enter_there : {n : ℕ} → is_in_bounds w b ≡ true → p < 2 → find_of w b p name ≡ Some n → outcome (Number n) w b ≡ enter_of w b p name
  unfolding enter_of
  enter_there h g e = if_yes _ _ _ h (if_yes _ _ _ (lt-ltb _ _ g) (rw e))

  pub enter_new : {o : Outcome} → is_in_bounds w b ≡ true → p < 2 → find_of w b p name ≡ None → o ≡ new_of w b p name → o ≡ enter_of w b p name
  unfolding enter_of
  enter_new h g e f = if_yes _ _ _ h (if_yes _ _ _ (lt-ltb _ _ g) (rw e f))

  pub used_of : {n from : ℕ} → n ≡ count w p → from ≡ get_or w (p * half_words + first_bound + n) 0 → from ≡ used w p
  used_of e f = f ∙ rw e
