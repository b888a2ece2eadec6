-- The next item that is not skipped, a turn at a time.
use Rattle.std.proofs.Common.{None, Some}
use Rattle.items.specs.Kinds as kind
use Rattle.items.specs.Items.{Item}
use Rattle.items.specs.declared.Nine.{Nine}
use Rattle.meaning.specs.Records.{packed}
use Rattle.laws.proofs.Choice.{by_bool, impossible}
use Rattle.lexer.specs.Reading.{Turn, gives, ends, turn, size_of, next_from, next_at, found_of, one_found}
use Rattle.lexer.specs.declared.Spot.{Spot}
use Rattle.lexer.specs.declared.Found.{Found}
use Rattle.lexer.proofs.Moves.{Moved, turn_moved}
use Prim.Native.Nat.{ℕ, zero, suc, ◌≤◌, ◌<◌}
use mathlib.Core.Path.{◌≡◌, refl, sym, ap, ◌∙◌}
use mathlib.Core.Bool.{true, false, ◌&&◌}
use mathlib.Core.List.{List}
use lib.Dec.{eqb}
use native.Mathlib.Omega.{arith}

same_found : (x y : Found) → Some x ≡ Some y → x ≡ y
same_found x y e = cc

-- what was found is an item of the definition, or the end
pub found_gives : (free : ℕ) (t : Turn) (r : Nine) (q : Spot) → one_found r q ≡ found_of free t → (i : Item) × ((t ≡ gives i q) × (r ≡ packed free i))
found_gives free (gives i u) r q e =
    let x = same_found _ _ e in
    (i, (ap (λ (y : Found). gives i y.after) (sym x), ap (λ (y : Found). y.nine) x))
found_gives free ends r q e = impossible cc

pub found_ends : (free : ℕ) (t : Turn) → None ≡ found_of free t → t ≡ ends
found_ends free (gives i u) e = impossible cc
found_ends free ends e = refl

-- what is left to find from a spot on is what was to find from the start
pub record Seeking (s : List ℕ) (free : ℕ) (start p : Spot) : Type 0 where
  pub left : ℕ
  pub enough : size_of s p < left
  pub behind : free ≤ p.at
  pub same : next_at s start ≡ next_from left s p

pub seeking : (s : List ℕ) (free : ℕ) (p : Spot) → free ≤ p.at → Seeking s free p p
unfolding next_at
seeking s free p h = record { left = suc (size_of s p); enough = omega arith; behind = h; same = refl }

module _ (s : List ℕ) where
  next_skips : (n : ℕ) (p q : Spot) (i : Item) → turn s p ≡ gives i q → (p.skip && eqb i.kind kind.Comment) ≡ true → next_from (suc n) s p ≡ next_from n s q
  unfolding next_from
  next_skips n p q i e b = rw (e, b)

  next_gives : (n : ℕ) (p q : Spot) (i : Item) → turn s p ≡ gives i q → (p.skip && eqb i.kind kind.Comment) ≡ false → next_from (suc n) s p ≡ gives i q
  unfolding next_from
  next_gives n p q i e b = rw (e, b)

  next_ends : (n : ℕ) (p : Spot) → turn s p ≡ ends → next_from (suc n) s p ≡ ends
  unfolding next_from
  next_ends n p e = rw e

  -- more turns than the size change nothing
  next_enough : (k m n : ℕ) (p : Spot) → size_of s p < k → size_of s p < m → size_of s p < n → next_from m s p ≡ next_from n s p
  next_enough zero m n p h f g = absurd (omega arith)
  next_enough (suc k) zero n p h f g = absurd (omega arith)
  next_enough (suc k) (suc m) zero p h f g = absurd (omega arith)
  next_enough (suc k) (suc m) (suc n) p h f g = go (λ m n p h f g. next_enough k m n p h f g) (turn s p) refl
    where
      go : ((m n : ℕ) (p : Spot) → size_of s p < k → size_of s p < m → size_of s p < n → next_from m s p ≡ next_from n s p)
          → (t : Turn) → turn s p ≡ t → next_from (suc m) s p ≡ next_from (suc n) s p
      go rec ends e = next_ends m p e ∙ sym (next_ends n p e)
      go rec (gives i q) e =
          let l : size_of s q < size_of s p = (turn_moved s p i q e).smaller in
          by_bool (p.skip && eqb i.kind kind.Comment)
          (λ b. next_skips m p q i e b ∙ rec m n q (omega arith) (omega arith) (omega arith) ∙ sym (next_skips n p q i e b))
          (λ b. next_gives m p q i e b ∙ sym (next_gives n p q i e b))

  pub next_at_skips : (p q : Spot) (i : Item) → turn s p ≡ gives i q → (p.skip && eqb i.kind kind.Comment) ≡ true → next_at s p ≡ next_at s q
  unfolding next_at
  next_at_skips p q i e b =
      let l : size_of s q < size_of s p = (turn_moved s p i q e).smaller in
      next_skips (size_of s p) p q i e b ∙ next_enough (suc (size_of s q)) (size_of s p) (suc (size_of s q)) q (omega arith) (omega arith) (omega arith)

  pub next_at_gives : (p q : Spot) (i : Item) → turn s p ≡ gives i q → (p.skip && eqb i.kind kind.Comment) ≡ false → next_at s p ≡ gives i q
  unfolding next_at
  next_at_gives p q i e b = next_gives (size_of s p) p q i e b

  pub next_at_ends : (p : Spot) → turn s p ≡ ends → next_at s p ≡ ends
  unfolding next_at
  next_at_ends p e = next_ends (size_of s p) p e

  -- spots with the same turn have the same next item
  pub next_same : (p q : Spot) → p.skip ≡ q.skip → turn s p ≡ turn s q → next_at s p ≡ next_at s q
  next_same p q k e = go (turn s q) refl
    where
      go : (t : Turn) → turn s q ≡ t → next_at s p ≡ next_at s q
      go ends f = next_at_ends p (e ∙ f) ∙ sym (next_at_ends q f)
      go (gives i u) f = by_bool (q.skip && eqb i.kind kind.Comment)
          (λ b. next_at_skips p u i (e ∙ f) (rw k b) ∙ sym (next_at_skips q u i f b))
          (λ b. next_at_gives p u i (e ∙ f) (rw k b) ∙ sym (next_at_gives q u i f b))

  -- the next item goes forward as a turn does
  then_moved : (p t q : Spot) (x i : Item) → Moved s p x t → Moved s t i q → Moved s p i q
  then_moved p t q x i a b = record {
    smaller = omega (arith, a.smaller, b.smaller);
    report = b.report ∙ a.report;
    skip = b.skip ∙ a.skip;
    memory = omega (arith, a.memory, b.memory);
    inside = b.inside;
    whole = b.whole;
  }

  from_moved : (n : ℕ) (p q : Spot) (i : Item) → next_from n s p ≡ gives i q → Moved s p i q
  unfolding next_from
  from_moved zero p q i e = impossible cc
  from_moved (suc n) p q i e = go (λ t f. from_moved n t q i f) (turn s p) refl
    where
      go : ((t : Spot) → next_from n s t ≡ gives i q → Moved s t i q) → (t : Turn) → turn s p ≡ t → Moved s p i q
      go rec ends f = let z : ends ≡ gives i q = sym (next_ends n p f) ∙ e in impossible cc
      go rec (gives x t) f = by_bool (p.skip && eqb x.kind kind.Comment)
          (λ b. then_moved p t q x i (turn_moved s p x t f) (rec t (sym (next_skips n p t x f b) ∙ e)))
          (λ b. turn_moved s p i q (f ∙ (sym (next_gives n p t x f b) ∙ e)))

  pub next_moved : (p q : Spot) (i : Item) → next_at s p ≡ gives i q → Moved s p i q
  unfolding next_at
  next_moved p q i e = from_moved (suc (size_of s p)) p q i e

  module _ (free : ℕ) (start p : Spot) (k : Seeking s free start p) where
    pub seeks_end : turn s p ≡ ends → None ≡ found_of free (next_at s start)
    seeks_end e = sym (ap (found_of free) (k.same ∙ go k.left k.enough))
      where
        go : (n : ℕ) → size_of s p < n → next_from n s p ≡ ends
        go zero h = absurd (omega arith)
        go (suc n) h = next_ends n p e

    module _ (r : Nine) (q : Spot) (e : one_found r q ≡ found_of free (turn s p)) where
      abbrev i : Item
      i = (found_gives free (turn s p) r q e).0

      gave : turn s p ≡ gives i q
      gave = (found_gives free (turn s p) r q e).1.0

      kinds : r.kind ≡ i.kind
      kinds = ap (λ (x : Nine). x.kind) (found_gives free (turn s p) r q e).1.1

      pub seeks_moved : Moved s p i q
      seeks_moved = turn_moved s p i q gave

      pub seeks_given : (p.skip && eqb r.kind kind.Comment) ≡ false → one_found r q ≡ found_of free (next_at s start)
      seeks_given b = e ∙ ap (found_of free) (gave ∙ sym (k.same ∙ go k.left k.enough))
        where
          go : (n : ℕ) → size_of s p < n → next_from n s p ≡ gives i q
          go zero h = absurd (omega arith)
          go (suc n) h = next_gives n p q i gave (ap (λ (x : ℕ). p.skip && eqb x kind.Comment) (sym kinds) ∙ b)

      pub seeks_on : (p.skip && eqb r.kind kind.Comment) ≡ true → Seeking s free start q
      seeks_on b = go k.left refl
        where
          go : (n : ℕ) → k.left ≡ n → Seeking s free start q
          go zero z = absurd (omega (arith, k.enough))
          go (suc n) z = record {
            left = n;
            enough = omega (arith, k.enough, seeks_moved.smaller);
            behind = omega (arith, k.behind, seeks_moved.memory);
            same = k.same ∙ ap (λ (m : ℕ). next_from m s p) z ∙ next_skips n p q i gave (ap (λ (x : ℕ). p.skip && eqb x kind.Comment) (sym kinds) ∙ b);
          }
