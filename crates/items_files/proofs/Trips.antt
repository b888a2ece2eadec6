-- The round trips between record lists and item files.
use mathlib.Core.Path.{◌≡◌, refl, sym, ap, ◌∙◌}
use mathlib.Core.List.{List, [], ◌∷◌, ◌++◌, append_assoc}
use mathlib.Core.Logic.{◌⊎◌, ⊎_elim, inl, inr}
use Prim.Native.Nat.{ℕ, zero, suc, ◌+◌, ◌-◌, ◌*◌, ◌/◌, ◌%◌, ◌^◌, ◌≤◌, ◌<◌}
use native.Mathlib.Omega.{arith}
use native.Mathlib.Numerals.{add-one}
use native.Mathlib.Nat.{pow-le-pow_right, pow-suc, mul-le-mul_left, mul-add, mul_assoc, div-add-mod}
use lib.ListN.{length, get_or, length-append}
use lib.Dec.{eqb}
use borrow.Author.Tests.{lt-ltb, le-ltb, le-leb, lt-leb, eq-eqb, ne_eqb, eqb-true}
use Rattle.items_files.specs.Groups.{most, groups, image}
use Rattle.items.specs.Items.{record_words, own_words}
use Rattle.items_files.specs.Layout.{base, after, first}
use Rattle.items_files.specs.Write.{file, on, goes}
use Rattle.items_files.specs.Numbers.{fifth}
use Rattle.items_files.specs.Read.{Reading, Took, goes_on, word, entered, taken, between, Found, all, fails, push, told, ended, read_from, opening}
use Rattle.items_files.specs.declared.Before.{Before}
use Rattle.laws.proofs.Choice.{by_bool, impossible}
use Rattle.lines.proofs.Tests.{by_less, by_equal}
use Rattle.items_files.proofs.Writer.{no_back}
use Rattle.items_files.proofs.Groups.{last_group, more_groups}
use Rattle.items_files.proofs.Reader.{Fine, zero_value, View, v_on, v_word, v_bad, view, fine_on, fine_between, fine_less}

-- a list of bytes
abbrev pub Bytes : List ℕ → Type 0
Bytes s = (i : ℕ) → get_or s i 0 < 256

-- a list of words of 32 bits
pub data Words : List ℕ → Type 0 where
  none : Words []
  some : {w : ℕ} {ws : List ℕ} → w ≤ most → Words ws → Words (w ∷ ws)

-- ---- the groups of a number that was read

pub data Going : List ℕ → Type 0 where
  none : Going []
  some : {x : ℕ} {p : List ℕ} → 128 ≤ x → x < 256 → Going p → Going (x ∷ p)

-- the value of groups that go on and a last one
pub total : List ℕ → ℕ → ℕ
total [] c = c
total (x ∷ p) c = (x - 128) + 128 * total p c

total_some : (p : List ℕ) (c : ℕ) → 1 ≤ c → 1 ≤ total p c
unfolding total
total_some [] c h = h
total_some (x ∷ p) c h = omega (arith, total_some p c h)

total_snoc : (p : List ℕ) (x c : ℕ) → total (p ++ (x ∷ [])) c ≡ total p ((x - 128) + 128 * c)
unfolding total
total_snoc [] x c = refl
total_snoc (y ∷ p) x c = ap (λ (k : ℕ). (y - 128) + 128 * k) (total_snoc p x c)

going_snoc : (p : List ℕ) (x : ℕ) → 128 ≤ x → x < 256 → Going p → Going (p ++ (x ∷ []))
going_snoc [] x l h none = some l h none
going_snoc (y ∷ p) x l h (some a b g) = some a b (going_snoc p x l h g)

-- they are the groups of their value, unless the last is 0 and not the only one
groups-total : (m : ℕ) (p : List ℕ) (c : ℕ) → Going p → c < 128 → (c ≡ 0 → length p ≡ 0) → length p ≤ m → groups m (total p c) ≡ p ++ (c ∷ [])
unfolding total
groups-total m [] c g h z l = last_group m c h
groups-total zero (x ∷ p) c g h z l = absurd (omega (arith, l))
groups-total (suc m) (x ∷ p) c (some a b g) h z l =
    let pos : 1 ≤ c = by_less c 1 (λ q. absurd (omega (arith, z (omega arith)))) (λ q. q) in
    let t : 1 ≤ total p c = total_some p c pos in
    let big : 128 ≤ (x - 128) + 128 * total p c = omega arith in
    let low : 128 + ((x - 128) + 128 * total p c) % 128 ≡ x = omega arith in
    let rest : ((x - 128) + 128 * total p c) / 128 ≡ total p c = omega arith in
    more_groups m ((x - 128) + 128 * total p c) big
    ∙ rw (low, rest) (ap (λ (k : List ℕ). x ∷ k) (groups-total m p c g h (λ q. absurd (omega (arith, pos))) (omega arith)))

-- the groups p of the number that is being read
pub record Held (r : Reading) (p : List ℕ) : Type 0 where
  pub fine : Fine r
  pub going : Going p
  pub few : length p ≤ 4
  pub power : r.weight ≡ 128 ^ length p
  pub sum : (c : ℕ) → total p c ≡ r.value + r.weight * c

held_none : (b : Before) → Held (between b) []
unfolding total
held_none b = record { fine = fine_between b; going = none; few = omega arith; power = refl; sum = λ c. omega arith }

held_on : (r : Reading) (p : List ℕ) (x : ℕ) → Held r p → 128 ≤ x → x < 256 → (r.weight ≡ fifth → ⊥)
    → Held (record { value = r.value + r.weight * (x - 128); weight = r.weight * 128; before = r.before }) (p ++ (x ∷ []))
held_on r p x h a b d = record {
  fine = fine_on r h.fine (x - 128) (omega arith) d;
  going = going_snoc p x a b h.going;
  few = omega (arith, length-append p (x ∷ []), (fine_less r.weight (length p) h.few h.power d).0);
  power = rw (length-append p (x ∷ []), h.power, add-one (length p)) (sym (pow-suc 128 (length p)));
  sum = λ c. total_snoc p x c ∙ h.sum ((x - 128) + 128 * c) ∙ omega (arith, mul-add r.weight (x - 128) (128 * c), mul_assoc r.weight 128 c);
}

-- ---- what is read is a record list, and its file is what was read

pub record Returns (b : Before) (bytes ws : List ℕ) : Type 0 where
  pub same : bytes ≡ file b ws
  pub tens : (b.which + length ws) % record_words ≡ 0
  pub onward : (j : ℕ) → goes b j ws ≡ on
  pub words : Words ws

ended-all : (r : Reading) (j : ℕ) (ws : List ℕ) → ended r j ≡ all ws → (r.weight ≡ 1) × (r.before.which ≡ 0) × (ws ≡ [])
ended-all r j ws = by_bool (eqb r.weight 1)
    (λ a. rw a (by_bool (eqb r.before.which 0)
    (λ b. rw b (λ q. (eqb-true _ _ a, eqb-true _ _ b, let e : ws ≡ [] = cc in e)))
    (λ b. rw b (λ q. impossible cc))))
    (λ a. rw a (λ q. impossible cc))

push-all : (w : ℕ) (f : Found) (ws : List ℕ) → push w f ≡ all ws → (l : List ℕ) × (f ≡ all l) × (ws ≡ w ∷ l)
push-all w (all l) ws q = (l, refl, let e : ws ≡ w ∷ l = cc in e)
push-all w (fails n j) ws q = impossible cc

after-which : (b : Before) (w : ℕ) → b.which < record_words → ((b.which ≡ own_words) × ((after b w).which ≡ 0)) ⊎ ((b.which < own_words) × ((after b w).which ≡ b.which + 1))
unfolding after
after-which b w h =
    by_equal b.which 2 (λ e. inr (omega arith, rw (eq-eqb b.which 2 e) (omega arith))) (λ e.
    by_less b.which own_words (λ l. inr (l, rw (ne_eqb b.which 2 e, lt-ltb b.which own_words l))) (λ l. inl (omega arith, rw (ne_eqb b.which 2 e, le-ltb b.which own_words l))))

after_small : (b : Before) (w : ℕ) → b.which < record_words → (after b w).which < record_words
after_small b w h = ⊎_elim (λ x. omega (arith, x.1)) (λ x. omega (arith, x.0, x.1)) (after-which b w h)

after_tens : (b : Before) (w k : ℕ) → b.which < record_words → ((after b w).which + k) % record_words ≡ 0 → (b.which + suc k) % record_words ≡ 0
after_tens b w k h e = ⊎_elim (λ x. omega (arith, x.0, x.1)) (λ x. omega (arith, x.0, x.1)) (after-which b w h)

weight_one : (w k : ℕ) → w ≡ 128 ^ k → w ≡ 1 → k ≡ 0
weight_one w zero e h = refl
weight_one w (suc k) e h = absurd (omega (arith, e, pow-suc 128 k, pow-le-pow_right {n = 128} (omega arith) {i = 0} {j = k} (omega arith)))

nil_of : (p : List ℕ) → length p ≡ 0 → p ≡ []
nil_of [] h = refl
nil_of (x ∷ p) h = absurd (omega (arith, h))

-- a word that was whole, with what follows it
returns_word : (r : Reading) (p : List ℕ) (c n : ℕ) (s l : List ℕ) → Held r p → r.before.which < record_words → c < 128 → (c ≡ 0 → r.weight ≡ 1)
    → n ≡ r.value + r.weight * c → base r.before + n ≤ most
    → Returns (after r.before (base r.before + n)) s l → Returns r.before (p ++ (c ∷ s)) ((base r.before + n) ∷ l)
unfolding file goes
returns_word r p c n s l h w k z e f x =
    let d : base r.before + n - base r.before ≡ n = omega arith in
    let g : image n ≡ p ++ (c ∷ []) =
    rw (e ∙ sym (h.sum c)) (groups-total 4 p c h.going k (λ q. weight_one r.weight (length p) h.power (z q)) h.few) in
    record {
      same = rw (d, g, ← x.same) (sym (append_assoc p (c ∷ []) s));
      tens = after_tens r.before (base r.before + n) (length l) w x.tens;
      onward = λ j. rw (le-ltb (base r.before + n) (base r.before) (omega arith)) (x.onward (j + 1));
      words = some f x.words;
    }

turn : (c : ℕ) (s : List ℕ) (r : Reading) (p : List ℕ) (j : ℕ) (ws : List ℕ) {o : Took} → Held r p → r.before.which < record_words → c < 256 → View r c o
    → ((t : Reading) (q : List ℕ) (k : ℕ) (l : List ℕ) → Held t q → t.before.which < record_words → read_from t k s ≡ all l → Returns t.before (q ++ s) l)
    → told o (λ t. read_from t j s) (λ w t. push w (read_from t (j + 1) s)) (λ n. fails n j) ≡ all ws → Returns r.before (p ++ (c ∷ s)) ws
turn c s r p j ws h w b (v_on l d) rec e =
    rw (append_assoc p (c ∷ []) s) at
    (rec (record { value = r.value + r.weight * (c - 128); weight = r.weight * 128; before = r.before }) (p ++ (c ∷ [])) j ws (held_on r p c h l b d) w e)
turn c s r p j ws h w b (v_word n k z e m f) rec q =
    let u = push-all (base r.before + n) (read_from (between (after r.before (base r.before + n))) (j + 1) s) ws q in
    rw u.2
    (returns_word r p c n s u.0 h w k z e f
    (rec (between (after r.before (base r.before + n))) [] (j + 1) u.0 (held_none (after r.before (base r.before + n)))
    (after_small r.before (base r.before + n) w) u.1))
turn c s r p j ws h w b (v_bad k) rec q = impossible cc

pub returns : (s : List ℕ) (r : Reading) (p : List ℕ) (j : ℕ) (ws : List ℕ) → Held r p → r.before.which < record_words → Bytes s
    → read_from r j s ≡ all ws → Returns r.before (p ++ s) ws
unfolding read_from file goes
returns [] r p j ws h w b e =
    let x = ended-all r j ws e in
    let y : p ≡ [] = nil_of p (weight_one r.weight (length p) h.power x.0) in
    rw (x.2, y) (record { same = refl; tens = omega (arith, x.1); onward = λ j. refl; words = none })
returns (c ∷ s) r p j ws h w b e = turn c s r p j ws h w (b 0) (view r c h.fine) (λ t q k l x y z. returns s t q k l x y (λ i. b (suc i)) z) e

pub read_back : (s ws : List ℕ) → Bytes s → read_from opening 0 s ≡ all ws → Returns first s ws
read_back s ws b e = returns s opening [] 0 ws (held_none first) (omega arith) b e

-- ---- reading the file of a record list gives the record list

-- how reading goes on after a number
abbrev cont : ℕ → List ℕ → Took → Found
cont j s o = told o (λ t. read_from t j s) (λ w t. push w (read_from t (j + 1) s)) (λ k. fails k j)

taken_last : (r : Reading) (n : ℕ) → Fine r → n < 128 → (n ≡ 0 → r.weight ≡ 1) → taken r n ≡ entered r.before (r.value + r.weight * n)
unfolding taken
taken_last r n f h z =
    rw (lt-leb 128 n h)
    (by_equal n 0
    (λ e. rw (eq-eqb n 0 e, eq-eqb r.weight 1 (z e)) (ap (entered r.before) (zero_value r n f e (z e))))
    (λ e. rw (ne_eqb n 0 e)))

taken_on : (r : Reading) (c : ℕ) → 128 ≤ c → (r.weight ≡ fifth → ⊥)
    → taken r c ≡ goes_on (record { value = r.value + r.weight * (c - 128); weight = r.weight * 128; before = r.before })
unfolding taken
taken_on r c h d = rw (le-leb 128 c h, ne_eqb r.weight fifth d)

module _ (j : ℕ) (s : List ℕ) where
  reads_number : (m n g : ℕ) (r : Reading) → g + m ≡ 4 → r.weight ≡ 128 ^ g → Fine r → r.value + r.weight * n ≤ most → (n ≡ 0 → r.weight ≡ 1)
      → read_from r j (groups m n ++ s) ≡ cont j s (entered r.before (r.value + r.weight * n))
  unfolding read_from
  reads_number zero n g r e p f h z =
      let w : r.weight ≡ fifth = p ∙ ap (λ (x : ℕ). 128 ^ x) (let q : g ≡ 4 = omega arith in q) in
      let small : n < 128 = by_less n 128 (λ x. x) (λ x. absurd (omega (arith, mul-le-mul_left r.weight x))) in
      rw (last_group 0 n small) (ap (cont j s) (taken_last r n f small z))
  reads_number (suc m) n g r e p f h z =
      by_less n 128 (λ x. rw (last_group (suc m) n x) (ap (cont j s) (taken_last r n f x z))) (λ x.
      let low : r.weight ≤ 2097152 = omega (arith, p, pow-le-pow_right {n = 128} (omega arith) {i = g} {j = 3} (omega arith)) in
      let t : Reading = record { value = r.value + r.weight * (128 + n % 128 - 128); weight = r.weight * 128; before = r.before } in
      let d : 128 + n % 128 - 128 ≡ n % 128 = omega arith in
      let k : r.value + r.weight * (128 + n % 128 - 128) + r.weight * 128 * (n / 128) ≡ r.value + r.weight * n =
      omega (
        arith,
        ap (λ (y : ℕ). r.weight * y) d,
        mul_assoc r.weight 128 (n / 128),
        mul-add r.weight (128 * (n / 128)) (n % 128),
        ap (λ (y : ℕ). r.weight * y) (div-add-mod n 128),
      ) in
      rw (more_groups m n x)
      (ap (cont j (groups m (n / 128) ++ s)) (taken_on r (128 + n % 128) (omega arith) (λ y. omega arith))
      ∙ reads_number m (n / 128) (suc g) t (omega arith) (rw p (sym (pow-suc 128 g))) (fine_on r f (128 + n % 128 - 128) (omega arith) (λ y. omega arith))
      (omega (arith, k)) (λ y. absurd (omega arith))
      ∙ ap (λ (y : ℕ). cont j s (entered r.before y)) k))

entered-word : (b : Before) (w : ℕ) → base b ≤ w → w ≤ most → entered b (0 + 1 * (w - base b)) ≡ word w (between (after b w))
unfolding entered
entered-word b w h l =
    let e : 0 + 1 * (w - base b) ≡ w - base b = omega arith in
    let d : base b + (w - base b) ≡ w = omega arith in
    rw (e, le-ltb most (w - base b) (omega arith), d, le-ltb most w l)

tens_after : (b : Before) (w k : ℕ) → b.which < record_words → (b.which + suc k) % record_words ≡ 0 → ((after b w).which + k) % record_words ≡ 0
tens_after b w k h e = ⊎_elim (λ x. omega (arith, x.0, x.1)) (λ x. omega (arith, x.0, x.1)) (after-which b w h)

pub reads_file : (ws : List ℕ) (b : Before) (j : ℕ) → Words ws → goes b j ws ≡ on → b.which < record_words → (b.which + length ws) % record_words ≡ 0
    → read_from (between b) j (file b ws) ≡ all ws
unfolding read_from file goes
reads_file [] b j u g h t = let e : b.which ≡ 0 = omega (arith, t) in rw (eq-eqb b.which 0 e)
reads_file (w ∷ ws) b j (some l u) g h t =
    let n = no_back j w (base b) (goes (after b w) (j + 1) ws) g in
    reads_number j (file (after b w) ws) 4 (w - base b) 0 (between b) refl refl (fine_between b) (omega arith) (λ x. refl)
    ∙ ap (cont j (file (after b w) ws)) (entered-word b w n.0 l)
    ∙ ap (push w) (reads_file ws (after b w) (j + 1) u n.1 (after_small b w h) (tens_after b w (length ws) h t))
