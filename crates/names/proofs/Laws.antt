-- Laws of one turn of each loop, and of the tests.
use Rattle.std.proofs.Common.{Result, Ok, Err}
use Rattle.std.specs.Result.{is_err}
use Rattle.refusal.specs.Refusals.{served}
use Rattle.names.specs.Answers.{error_number, mark_in}
use Rattle.names.specs.declared.NameError.{NameError}
use Rattle.names.specs.declared.NameError.TheVariants as error
use Prim.Native.Nat.{ℕ, zero, suc, ◌+◌, ◌-◌, ◌*◌, ◌/◌, ◌%◌, ◌≤◌, ◌<◌}
use native.Mathlib.Omega.{arith}
use native.Mathlib.Nat.{mod-lt, div-lt_iff_lt-mul}
use borrow.Author.Tests.{eq-eqb, ne_eqb, lt-ltb, le-ltb, le-leb, lt-leb, ltb-true, ltb-false, leb-true, leb-false, eqb-true, eqb-false}
use mathlib.Core.Path.{◌≡◌, refl, sym, ap, ◌∙◌}
use mathlib.Core.Bool.{Bool, true, false, true≢false}
use mathlib.Core.List.{List, [], ◌∷◌, ◌++◌}
use lib.Dec.{eqb, ltb, leb}
use lib.ListN.{length, get_or, drop, take, set, replicate, length-replicate, length-append, length-drop}
use lib.Seq.{paste, take-length, length-take-le}
use Rattle.laws.specs.Texts.{same}
use Rattle.laws.specs.Lent.{written}
use Rattle.laws.proofs.Places.{past, here}
use Rattle.laws.proofs.Choice.{if_yes, if_no, by_bool, impossible}
use Rattle.std.specs.Prelude.{if◌then◌else◌, None, Some}
use Rattle.refusal.specs.Refusals.{out_of_bounds, no_name}
use Rattle.names.specs.Layout.{count, bound, used, slot, name_at, bears, half_bounds, is_in_bounds, half_names, half_bytes, first_bound}
use Rattle.names.specs.Layout.{first_slot, index_slots, half_words, table_names, table_bytes, table_words, nowhere, placed, cut, place_at, Readable}
use Rattle.names.specs.Call.{factor, hashes, hashes_aSlot, turn, four, rest, mix, hash_of, slot_of, tag_of, entry_in, tag_in, proposes}
use Rattle.names.specs.Call.{probe, scan, scanned, laid, new_words, mark_of, name_of, open_of, opening, place_of}
use Rattle.names.specs.declared.Place.{Place}
use Rattle.names.specs.declared.Proposal.TheVariants.{Entry, Free, Full}

-- the hash
pub rest_more : (h : ℕ) (s : List ℕ) (i : ℕ) → i < length s → rest h (drop i s) ≡ rest (turn h (get_or s i 0)) (drop (i + 1) s)
unfolding rest
rest_more h s i k = rw (here s i k)

pub rest_all : (h : ℕ) (s : List ℕ) (i : ℕ) → length s ≤ i → rest h (drop i s) ≡ h
unfolding rest
rest_all h s i k = rw (past s i k)

pub mix_more : (h : ℕ) (s : List ℕ) (i : ℕ) → i + 4 ≤ length s
    → mix h (drop i s) ≡ mix (turn h (four (get_or s i 0) (get_or s (i + 1) 0) (get_or s (i + 2) 0) (get_or s (i + 3) 0))) (drop (i + 4) s)
unfolding mix
mix_more h s i k =
    let two : i + 1 + 1 ≡ i + 2 = omega arith in
    let three : i + 2 + 1 ≡ i + 3 = omega arith in
    let all : i + 3 + 1 ≡ i + 4 = omega arith in
    rw (here s i (omega arith), here s (i + 1) (omega arith), two, here s (i + 2) (omega arith), three, here s (i + 3) (omega arith), all)

mix_few : (h : ℕ) (s : List ℕ) → length s < 4 → mix h s ≡ rest h s
unfolding mix rest
mix_few h [] k = refl
mix_few h (a ∷ []) k = refl
mix_few h (a ∷ b ∷ []) k = refl
mix_few h (a ∷ b ∷ c ∷ []) k = refl
mix_few h (a ∷ b ∷ c ∷ d ∷ s) k = absurd (omega arith)

pub mix-rest : (h : ℕ) (s : List ℕ) (i : ℕ) → length s - i < 4 → mix h (drop i s) ≡ rest h (drop i s)
mix-rest h s i k = mix_few h (drop i s) (rw (length-drop i s) k)

turn_small : (h x : ℕ) → turn h x < hashes
turn_small h x = mod-lt ((h + x) * factor) (omega arith)

rest_small : (h : ℕ) (s : List ℕ) → h < hashes → rest h s < hashes
unfolding rest
rest_small h [] k = k
rest_small h (c ∷ s) k = rest_small (turn h c) s (turn_small h c)

mix_small : (h : ℕ) (s : List ℕ) → h < hashes → mix h s < hashes
unfolding mix
mix_small h (a ∷ b ∷ c ∷ d ∷ s) k = mix_small (turn h (four a b c d)) s (turn_small h (four a b c d))
mix_small h (a ∷ b ∷ c ∷ []) k = rest_small h (a ∷ b ∷ c ∷ []) k
mix_small h (a ∷ b ∷ []) k = rest_small h (a ∷ b ∷ []) k
mix_small h (a ∷ []) k = rest_small h (a ∷ []) k
mix_small h [] k = k

pub hash_small : (s : List ℕ) → hash_of s < hashes
hash_small s = mix_small 0 s (omega arith)

pub slot_small : (s : List ℕ) → slot_of s < index_slots
slot_small s = let h = hash_small s in (div-lt_iff_lt-mul {k = hashes_aSlot} {x = hash_of s} {y = index_slots} (omega arith)).1 (omega arith)

pub next_small : (s : ℕ) → (s + 1) % index_slots < index_slots
next_small s = mod-lt (s + 1) (omega arith)

-- the copy
pub laid_all : (b : List ℕ) (at : ℕ) (name : List ℕ) (i : ℕ) {now : List ℕ} → now ≡ paste b at name i → i ≡ length name → now ≡ laid at name b
unfolding laid
laid_all b at name i e h = e ∙ rw (h, take-length name)

pub length-laid : (at : ℕ) (name b : List ℕ) → at + length name ≤ length b → length (laid at name b) ≡ length b
unfolding laid
length-laid at name b h = simp (length-append, length-drop, length-take-le at b (omega arith)) (omega arith)

-- clearing
abbrev pub cleared : ℕ → List ℕ → List ℕ
cleared n w = written (replicate n 0) w

pub length-cleared : (n : ℕ) (w : List ℕ) → n ≤ length w → length (cleared n w) ≡ length w
length-cleared n w h = simp (length-append, length-drop, length-replicate) (omega arith)

pub cleared_front : (n : ℕ) (w : List ℕ) {front : List ℕ} → n ≤ length w → front ≡ replicate (length (take n w)) 0 → front ++ drop n w ≡ cleared n w
cleared_front n w h e = rw (e, length-take-le n w h, length-replicate n)

-- the words with one name more
pub put_words : (w : List ℕ) (p s t len : ℕ) {n from : ℕ} → n ≡ count w p → from ≡ used w p
    → set (set (set w (p * half_words + first_slot + s) (t * half_names + n + 1)) (p * half_words + first_bound + (n + 1)) (from + len)) (p * half_words) (n + 1) ≡ new_words w p s t len
unfolding new_words
put_words w p s t len e f = rw (e, f)

-- the bounds
pub half_over : (w : List ℕ) (p : ℕ) {n : ℕ} → n ≡ count w p → half_names < n → false ≡ half_bounds w p
unfolding half_bounds
half_over w p {n} e h = if_no _ _ _ (ap (λ (x : ℕ). leb x half_names) (sym e) ∙ lt-leb n half_names h) refl

pub half_in : (w : List ℕ) (p : ℕ) {n u : ℕ} → n ≡ count w p → n ≤ half_names → u ≡ get_or w (p * half_words + first_bound + n) 0 → leb u half_bytes ≡ half_bounds w p
unfolding half_bounds
half_in w p {n} {u} e h f = if_yes _ _ _ (ap (λ (x : ℕ). leb x half_names) (sym e) ∙ le-leb n half_names h) (rw (f, e))

-- where an entry lies, and its name
module _ (w : List ℕ) (p k : ℕ) {s e : ℕ} (hs : s ≡ bound w p k) (he : e ≡ bound w p (k + 1)) where
  pub place_back : e < s → nowhere ≡ place_at w p k
  unfolding place_at
  place_back h = if_no _ _ _ (lt-leb (bound w p k) (bound w p (k + 1)) (omega arith)) refl

  pub place_past : s ≤ e → half_bytes < e → nowhere ≡ place_at w p k
  unfolding place_at
  place_past h g = if_yes _ _ _ (le-leb (bound w p k) (bound w p (k + 1)) (omega arith)) (if_no _ _ _ (lt-leb (bound w p (k + 1)) half_bytes (omega arith)) refl)

  pub place_part : s ≤ e → e ≤ half_bytes → placed (p * half_bytes + s) (p * half_bytes + e) ≡ place_at w p k
  unfolding place_at
  place_part h g = if_yes _ _ _ (le-leb (bound w p k) (bound w p (k + 1)) (omega arith)) (if_yes _ _ _ (le-leb (bound w p (k + 1)) half_bytes (omega arith)) (rw (hs, he)))

  pub name_part : (b : List ℕ) → s ≤ e → e ≤ half_bytes → take ((p * half_bytes + e) - (p * half_bytes + s)) (drop (p * half_bytes + s) b) ≡ name_at w b p k
  unfolding name_at
  name_part b h g = ap (λ (q : Place). cut q b) (place_part h g)

-- every place lies within its half
pub record Within (q : Place) (n : ℕ) : Type 0 where
  pub forth : q.start ≤ q.end
  pub short : q.end ≤ n

pub nowhere_within : (n : ℕ) → Within nowhere n
nowhere_within n = record { forth = omega arith; short = omega arith }

pub place_within : (w : List ℕ) (p k : ℕ) → p < 2 → Within (place_at w p k) table_bytes
place_within w p k h =
    by_bool (leb (bound w p k) (bound w p (k + 1)))
    (λ t. let up = leb-true (bound w p k) (bound w p (k + 1)) t in
    by_bool (leb (bound w p (k + 1)) half_bytes)
    (λ u. let l = leb-true (bound w p (k + 1)) half_bytes u in
    rw (← place_part w p k refl refl up l) (record { forth = omega arith; short = omega arith }))
    (λ u. rw (← place_past w p k refl refl up (leb-false (bound w p (k + 1)) half_bytes u)) (nowhere_within table_bytes)))
    (λ t. rw (← place_back w p k refl refl (leb-false (bound w p k) (bound w p (k + 1)) t)) (nowhere_within table_bytes))

if_both : (t s : Bool) → (if t then s else false) ≡ true → (t ≡ true) × (s ≡ true)
if_both true s e = (refl, e)
if_both false s e = impossible cc

-- what an index or a reading finds is an entry that bears the name
module _ (w b : List ℕ) (p : ℕ) (name : List ℕ) where
  pub bears_out : (k : ℕ) {n : ℕ} → n ≡ count w p → n ≤ k → false ≡ bears w b p name k
  unfolding bears
  bears_out k {n} e h = if_no _ _ _ (le-ltb k (count w p) (omega arith)) refl

  pub bears-same : (k : ℕ) {n : ℕ} → n ≡ count w p → k < n → same (name_at w b p k) name ≡ bears w b p name k
  unfolding bears
  bears-same k {n} e h = if_yes _ _ _ (lt-ltb k (count w p) (omega arith)) refl

  pub bears_in : (k : ℕ) → bears w b p name k ≡ true → k < count w p
  bears_in k e = by_bool (ltb k (count w p)) (λ h. ltb-true _ _ h)
      (λ h. let z : true ≡ false = sym e ∙ sym (bears_out k refl (ltb-false _ _ h)) in impossible cc)

  pub probe_free : (n s : ℕ) {v : ℕ} → v ≡ slot w p s → 0 < n → v ≡ 0 → Free s ≡ probe n w b p name s
  unfolding probe
  probe_free zero s e h g = absurd (omega arith)
  probe_free (suc n) s e h g = if_yes _ _ _ (eq-eqb (slot w p s) 0 (omega arith)) refl

  -- a slot's word by its tag
  pub proposes_not : (v : ℕ) {t : ℕ} → t ≡ tag_of name → (tag_in v ≡ t → ⊥) → false ≡ proposes w b p name v
  unfolding proposes
  proposes_not v e h = if_no _ _ _ (ne_eqb (tag_in v) (tag_of name) (λ z. h (z ∙ sym e))) refl

  pub proposes_as : (v : ℕ) {t : ℕ} → t ≡ tag_of name → tag_in v ≡ t → bears w b p name (entry_in v) ≡ proposes w b p name v
  unfolding proposes
  proposes_as v e h = if_yes _ _ _ (eq-eqb (tag_in v) (tag_of name) (h ∙ e)) refl

  pub proposes_is : (v : ℕ) → proposes w b p name v ≡ true → (tag_in v ≡ tag_of name) × (bears w b p name (entry_in v) ≡ true)
  unfolding proposes
  proposes_is v e = let f = if_both (eqb (tag_in v) (tag_of name)) (bears w b p name (entry_in v)) e in (eqb-true (tag_in v) (tag_of name) f.0, f.1)

  pub probe_hit : (n s : ℕ) {v : ℕ} → v ≡ slot w p s → 0 < n → (v ≡ 0 → ⊥) → proposes w b p name v ≡ true → Entry (entry_in v) ≡ probe n w b p name s
  unfolding probe
  probe_hit zero s e h g i = absurd (omega arith)
  probe_hit (suc n) s e h g i = if_no _ _ _ (ne_eqb (slot w p s) 0 (λ z. g (e ∙ z))) (if_yes _ _ _ (rw e at i) (rw e))

  pub probe_miss : (n s : ℕ) {v : ℕ} → v ≡ slot w p s → 0 < n → (v ≡ 0 → ⊥) → proposes w b p name v ≡ false
      → probe (n - 1) w b p name ((s + 1) % index_slots) ≡ probe n w b p name s
  unfolding probe
  probe_miss zero s e h g i = absurd (omega arith)
  probe_miss (suc n) s e h g i =
      let f : suc n - 1 ≡ n = omega arith in rw f (if_no _ _ _ (ne_eqb (slot w p s) 0 (λ z. g (e ∙ z))) (if_no _ _ _ (rw e at i) refl))

  pub probe_end : (n s : ℕ) → n ≡ 0 → Full ≡ probe n w b p name s
  unfolding probe
  probe_end zero s e = refl
  probe_end (suc n) s e = absurd (omega arith)

  pub probe_in : (n s : ℕ) {k : ℕ} → probe n w b p name s ≡ Entry k → bears w b p name k ≡ true
  probe_in zero s e = let f = probe_end 0 s refl ∙ e in impossible cc
  probe_in (suc n) s {k} e =
      by_bool (eqb (slot w p s) 0)
      (λ h. let f = probe_free (suc n) s refl (omega arith) (eqb-true _ _ h) ∙ e in impossible cc)
      (λ h. by_bool (proposes w b p name (slot w p s))
      (λ g. let f = probe_hit (suc n) s refl (omega arith) (eqb-false _ _ h) g ∙ e in
      let x : entry_in (slot w p s) ≡ k = cc in rw (← x) (proposes_is (slot w p s) g).1)
      (λ g. probe_in n ((s + 1) % index_slots) (let f : suc n - 1 ≡ n = omega arith in (rw f at (probe_miss (suc n) s refl (omega arith) (eqb-false _ _ h) g)) ∙ e)))

  pub scan_hit : (n k : ℕ) → k < n → bears w b p name k ≡ true → Some (p * half_names + k) ≡ scan (n - k) w b p name k
  unfolding scan
  scan_hit n k h g = let e : n - k ≡ suc (n - (k + 1)) = omega arith in rw e (if_yes _ _ _ g refl)

  pub scan_miss : (n k : ℕ) → k < n → bears w b p name k ≡ false → scan (n - (k + 1)) w b p name (k + 1) ≡ scan (n - k) w b p name k
  unfolding scan
  scan_miss n k h g = let e : n - k ≡ suc (n - (k + 1)) = omega arith in rw e (if_no _ _ _ g refl)

  pub scan_end : (n k : ℕ) → n ≤ k → None ≡ scan (n - k) w b p name k
  unfolding scan
  scan_end n k h = let e : n - k ≡ 0 = omega arith in rw e

  pub scan_start : {n : ℕ} → n ≡ count w p → scan (n - 0) w b p name 0 ≡ scanned w b p name
  scan_start {n} e = let f : n - 0 ≡ count w p = omega arith in rw f

-- what 27 rules out
pub record Bounds (w b : List ℕ) : Type 0 where
  pub words : table_words ≤ length w
  pub bytes : table_bytes ≤ length b
  pub few : (p : ℕ) → p < 2 → count w p ≤ half_names
  pub short : (p : ℕ) → p < 2 → used w p ≤ half_bytes

pub halves : (P : ℕ → Type 0) → P 0 → P 1 → (p : ℕ) → p < 2 → P p
halves P x y zero h = x
halves P x y (suc zero) h = y
halves P x y (suc (suc n)) h = absurd (omega arith)

half_facts : (w : List ℕ) (p : ℕ) → half_bounds w p ≡ true → (count w p ≤ half_names) × (used w p ≤ half_bytes)
unfolding half_bounds
half_facts w p e = let f = if_both _ _ e in (leb-true _ _ f.0, leb-true _ _ f.1)

pub bounds : (w b : List ℕ) → is_in_bounds w b ≡ true → Bounds w b
unfolding is_in_bounds
bounds w b e =
    let f = if_both _ _ e in
    let g = if_both _ _ f.1 in
    let h = if_both _ _ g.1 in
    let x = half_facts w 0 h.0 in
    let y = half_facts w 1 h.1 in
    record {
      words = leb-true _ _ f.0;
      bytes = leb-true _ _ g.0;
      few = halves (λ p. count w p ≤ half_names) x.0 y.0;
      short = halves (λ p. used w p ≤ half_bytes) x.1 y.1;
    }

pub readable : (w b : List ℕ) → Bounds w b → (p : ℕ) → p < 2 → Readable w b p
readable w b t p h = record { words = t.words; bytes = t.bytes; party = h; few = t.few p h }

-- the name of a number
pub party_of : (n : ℕ) → n < table_names → n / half_names < 2
party_of n h = (div-lt_iff_lt-mul {k = half_names} {x = n} {y = 2} (omega arith)).1 (omega arith)

pub place_of_lem : (n : ℕ) → n % half_names < half_names
place_of_lem n = mod-lt n (omega arith)

module _ (w b : List ℕ) (n : ℕ) where
  pub mark_outside : is_in_bounds w b ≡ false → out_of_bounds ≡ mark_of w b n
  unfolding mark_of
  mark_outside h = if_no _ _ _ h refl

  pub mark_far : is_in_bounds w b ≡ true → table_names ≤ n → no_name ≡ mark_of w b n
  unfolding mark_of
  mark_far h g = if_yes _ _ _ h (if_no _ _ _ (le-ltb _ _ g) refl)

  pub mark_none : {m : ℕ} → is_in_bounds w b ≡ true → n < table_names → m ≡ count w (n / half_names) → m ≤ n % half_names → no_name ≡ mark_of w b n
  unfolding mark_of
  mark_none h g e i = if_yes _ _ _ h (if_yes _ _ _ (lt-ltb _ _ g) (if_no _ _ _ (le-ltb (n % half_names) (count w (n / half_names)) (omega arith)) refl))

  pub mark_there : {m : ℕ} → is_in_bounds w b ≡ true → n < table_names → m ≡ count w (n / half_names) → n % half_names < m → 0 ≡ mark_of w b n
  unfolding mark_of
  mark_there h g e i = if_yes _ _ _ h (if_yes _ _ _ (lt-ltb _ _ g) (if_yes _ _ _ (lt-ltb (n % half_names) (count w (n / half_names)) (omega arith)) refl))

  -- what a number stands for
  pub mark_facts : mark_of w b n ≡ 0 → (is_in_bounds w b ≡ true) × (n < table_names)
  mark_facts e =
      by_bool (is_in_bounds w b)
      (λ i. by_bool (ltb n table_names)
      (λ t. (i, ltb-true n table_names t))
      (λ t. let z = mark_far i (ltb-false n table_names t) ∙ e in absurd (omega arith)))
      (λ i. let z = mark_outside i ∙ e in absurd (omega arith))

  pub place_none : (mark_of w b n ≡ 0 → ⊥) → nowhere ≡ place_of w b n
  unfolding place_of
  place_none h = if_no _ _ _ (ne_eqb (mark_of w b n) 0 h) refl

  pub place_there : mark_of w b n ≡ 0 → place_at w (n / half_names) (n % half_names) ≡ place_of w b n
  unfolding place_of
  place_there h = if_yes _ _ _ (eq-eqb (mark_of w b n) 0 h) refl

  pub name_none : (mark_of w b n ≡ 0 → ⊥) → name_of w b n ≡ []
  unfolding name_of
  name_none h = ap (λ (q : Place). cut q b) (sym (place_none h))

  pub name_there : mark_of w b n ≡ 0 → name_of w b n ≡ name_at w b (n / half_names) (n % half_names)
  unfolding name_of name_at
  name_there h = ap (λ (q : Place). cut q b) (sym (place_there h))

  pub place_inside : Within (place_of w b n) (length b)
  place_inside =
      by_bool (eqb (mark_of w b n) 0)
      (λ t. let m = eqb-true (mark_of w b n) 0 t in
      let f = mark_facts m in
      let l = (bounds w b f.0).bytes in
      let q = place_within w (n / half_names) (n % half_names) (party_of n f.1) in
      rw (← place_there m) (record { forth = q.forth; short = let s = q.short in omega arith }))
      (λ t. rw (← place_none (eqb-false (mark_of w b n) 0 t)) (nowhere_within (length b)))

-- opening
module _ (w b : List ℕ) where
  pub open_few : length w < table_words → opening out_of_bounds w ≡ open_of w b
  unfolding open_of
  open_few h = if_no _ _ _ (lt-leb _ _ h) refl

  pub open_short : table_words ≤ length w → length b < table_bytes → opening out_of_bounds w ≡ open_of w b
  unfolding open_of
  open_short h g = if_yes _ _ _ (le-leb _ _ h) (if_no _ _ _ (lt-leb _ _ g) refl)

  pub open_all : {v : List ℕ} → table_words ≤ length w → table_bytes ≤ length b → v ≡ cleared table_words w → opening 0 v ≡ open_of w b
  unfolding open_of
  open_all h g e = if_yes _ _ _ (le-leb _ _ h) (if_yes _ _ _ (le-leb _ _ g) (rw e))

-- ---- what an answer means

refused_number : (e : NameError) → error_number e ≡ served → ⊥
refused_number error.OutOfBounds h = omega (arith, h)
refused_number error.NoParty h = omega (arith, h)
refused_number error.NoRoom h = omega (arith, h)
refused_number error.NoName h = omega (arith, h)

-- a refusal's mark is not `served`, and any other answer's is
pub refused_mark : {T : Type 0} (r : Result T NameError) → is_err r ≡ true → mark_in r ≡ served → ⊥
refused_mark (Ok x) e h = absurd (true≢false (sym e))
refused_mark (Err x) e h = refused_number x h

pub served_mark : {T : Type 0} (r : Result T NameError) → is_err r ≡ false → mark_in r ≡ served
served_mark (Ok x) e = refl
served_mark (Err x) e = absurd (true≢false e)
