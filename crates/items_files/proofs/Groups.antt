-- The groups of a number: how many they are, from its leading zeros, and how they are written one by one.
use mathlib.Core.Path.{◌≡◌, refl, sym, ap, ◌∙◌, subst}
use mathlib.Core.List.{List, [], ◌∷◌, ◌++◌, append_assoc}
use Prim.Native.Nat.{ℕ, zero, suc, ◌+◌, ◌-◌, ◌*◌, ◌/◌, ◌%◌, ◌^◌, ◌≤◌, ◌<◌}
use native.Mathlib.Omega.{arith}
use lib.Count.{count_leading_zeros, leading_length}
use lib.Pow.{pow_mono}
use lib.ListN.{length, set, length-append}
use borrow.Author.Tests.{lt-ltb, le-ltb}
use Rattle.items_files.specs.Groups.{groups, image}
use Rattle.laws.specs.Lent.{written}
use Rattle.laws.proofs.Lent.{written_push, length-written}
use Rattle.lines.proofs.Tests.{by_less}

pub last_group : (m n : ℕ) → n < 128 → groups m n ≡ n ∷ []
unfolding groups
last_group zero n h = refl
last_group (suc m) n h = rw (lt-ltb n 128 h)

pub more_groups : (m n : ℕ) → 128 ≤ n → groups (suc m) n ≡ (128 + n % 128) ∷ groups m (n / 128)
unfolding groups
more_groups m n h = rw (le-ltb n 128 h)

pub groups_some : (m n : ℕ) → 1 ≤ length (groups m n)
unfolding groups
groups_some zero n = omega arith
groups_some (suc m) n = by_less n 128 (λ h. rw (last_group (suc m) n h) (omega arith)) (λ h. rw (more_groups m n h) (omega arith))

pub groups_few : (m n : ℕ) → length (groups m n) ≤ suc m
unfolding groups
groups_few zero n = omega arith
groups_few (suc m) n = by_less n 128 (λ h. rw (last_group (suc m) n h) (omega arith)) (λ h. rw (more_groups m n h) (omega (arith, groups_few m (n / 128))))

-- n is k groups long if its length in bits, m, is from 7 k - 6 to 7 k
module _ (n m : ℕ) (low : n < 2 ^ m) (top : 2 ^ m ≤ 2 * n + 1) where
  below : (j k : ℕ) → 2 ^ j ≡ k → m ≤ j → n < k
  below j k e h = omega (arith, pow_mono {i = m} {j = j} h)

  above : (j k : ℕ) → 2 ^ j ≡ 2 * k → j ≤ m → k ≤ n
  above j k e h = omega (arith, pow_mono {i = j} {j = m} h)

  pub count_groups : m ≤ 32 → (9 * m + 64) / 64 ≡ length (image n)
  count_groups l =
      by_less m 8 (λ a. rw (last_group 4 n (below 7 128 refl (omega arith))) (omega arith)) (λ a.
      rw (more_groups 3 n (above 8 128 refl a))
      (by_less m 15 (λ b. let x : n / 128 < 128 = omega (arith, below 14 16384 refl (omega arith)) in rw (last_group 3 (n / 128) x) (omega arith)) (λ b.
      let x : 128 ≤ n / 128 = omega (arith, above 15 16384 refl b) in
      rw (more_groups 2 (n / 128) x)
      (by_less m 22 (λ d. let y : n / 128 / 128 < 128 = omega (arith, below 21 2097152 refl (omega arith)) in rw (last_group 2 (n / 128 / 128) y) (omega arith)) (λ d.
      let y : 128 ≤ n / 128 / 128 = omega (arith, above 22 2097152 refl d) in
      rw (more_groups 1 (n / 128 / 128) y)
      (by_less m 29 (λ f. let z : n / 128 / 128 / 128 < 128 = omega (arith, below 28 268435456 refl (omega arith)) in rw (last_group 1 (n / 128 / 128 / 128) z) (omega arith)) (λ f.
      let z : 128 ≤ n / 128 / 128 / 128 = omega (arith, above 29 268435456 refl f) in
      let w : n / 128 / 128 / 128 / 128 < 128 = omega (arith, below 32 4294967296 refl l) in
      rw (more_groups 0 (n / 128 / 128 / 128) z, last_group 0 (n / 128 / 128 / 128 / 128) w) (omega arith))))))))

pub count_leading : (n : ℕ) → n < 2 ^ 32 → (352 - 9 * count_leading_zeros 32 n) / 64 ≡ length (image n)
count_leading n h =
    let s = leading_length 32 n h in
    let same : 352 - 9 * count_leading_zeros 32 n ≡ 9 * s.0 + 64 = omega (arith, s.1) in
    rw same (count_groups n s.0 s.2 s.3 (omega (arith, s.1)))

-- ---- written one by one

-- with `more` groups to come at most, a rest is below this
unfoldable pub limit : ℕ → ℕ
limit zero = 16
limit (suc k) = 128 * limit k

pub record Putting (n : ℕ) (old out : List ℕ) (rest i : ℕ) : Type 0 where
  pub done : List ℕ
  pub more : ℕ
  pub few : i + more ≡ 4
  pub small : rest < limit more
  pub count : length done ≡ i
  pub whole : image n ≡ done ++ groups more rest
  pub lies : out ≡ written done old

pub putting_start : (n : ℕ) (old : List ℕ) → n < 2 ^ 32 → Putting n old old n 0
unfolding limit
putting_start n old h = record { done = []; more = 4; few = refl; small = h; count = refl; whole = refl; lies = refl }

-- more than one group: the first goes on
longer : (more rest : ℕ) → 1 < length (groups more rest) → (m : ℕ) × (more ≡ suc m) × (128 ≤ rest)
longer zero rest h = absurd (omega (arith, groups_few 0 rest))
longer (suc m) rest h = by_less rest 128 (λ l. absurd (omega (arith, ap length (last_group (suc m) rest l)))) (λ l. (m, refl, l))

-- one group: the rest itself
shorter : (more rest : ℕ) → length (groups more rest) ≤ 1 → rest < limit more → rest < 128
unfolding limit
shorter zero rest h l = omega arith
shorter (suc m) rest h l = by_less rest 128 (λ x. x) (λ x. absurd (omega (arith, ap length (more_groups m rest x), groups_some m (rest / 128))))

limit_div : (m rest : ℕ) → rest < limit (suc m) → rest / 128 < limit m
unfolding limit
limit_div m rest h = omega arith

module _ {n : ℕ} {old out : List ℕ} {rest i : ℕ} (fits : length (image n) ≤ length old) (g : Putting n old out rest i) where
  sized : length (image n) ≡ i + length (groups g.more rest)
  sized = ap length g.whole ∙ length-append g.done (groups g.more rest) ∙ rw g.count

  pub putting_room : i < length old
  putting_room = omega (arith, sized, groups_some g.more rest)

  pub putting_length : length out ≡ length old
  putting_length = ap length g.lies ∙ length-written g.done old (omega (arith, putting_room, g.count))

  pub putting_turn : i + 1 < length (image n) → Putting n old (set out i (128 + rest % 128)) (rest / 128) (i + 1)
  putting_turn h =
      let l = longer g.more rest (omega (arith, sized)) in
      let m : ℕ = l.0 in
      let is : groups g.more rest ≡ (128 + rest % 128) ∷ groups m (rest / 128) = ap (λ (k : ℕ). groups k rest) l.1 ∙ more_groups m rest l.2 in
      record {
        done = g.done ++ ((128 + rest % 128) ∷ []);
        more = m;
        few = omega (arith, g.few, l.1);
        small = limit_div m rest (subst (λ (k : ℕ). rest < limit k) l.1 g.small);
        count = length-append g.done ((128 + rest % 128) ∷ []) ∙ rw g.count;
        whole = g.whole ∙ ap (λ (l : List ℕ). g.done ++ l) is ∙ sym (append_assoc g.done ((128 + rest % 128) ∷ []) (groups m (rest / 128)));
        lies = rw (g.lies, ← g.count) (written_push g.done old (128 + rest % 128) (omega (arith, putting_room, g.count)));
      }

  pub putting_last : length (image n) ≤ i + 1 → rest < 128
  putting_last h = shorter g.more rest (omega (arith, sized)) g.small

  pub putting_end : length (image n) ≤ i + 1 → set out i rest ≡ written (image n) old
  putting_end h =
      rw (g.whole, last_group g.more rest (putting_last h), g.lies, ← g.count)
      (written_push g.done old rest (omega (arith, putting_room, g.count)))

-- a number of one group is stored at once
pub one_stored : (n : ℕ) (old : List ℕ) → n < 128 → 1 ≤ length old → (1 ≡ length (image n)) × (set old 0 n ≡ written (image n) old)
one_stored n old h fits = rw (last_group 4 n h) (refl, written_push [] old n fits)
