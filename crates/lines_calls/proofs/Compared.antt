-- An index compared with the starts of a text, newline byte by newline byte.
use mathlib.Core.Path.{◌≡◌, refl, sym, ap, ◌∙◌}
use mathlib.Core.Bool.{false}
use mathlib.Core.List.{List, [], ◌∷◌}
use Prim.Native.Nat.{ℕ, ◌+◌, ◌≤◌, ◌<◌}
use native.Mathlib.Omega.{arith}
use lib.ListN.{length, get_or, drop}
use lib.Dec.{eqb}
use borrow.Author.Tests.{eq-eqb, ne_eqb}
use Rattle.laws.specs.Texts.{same, before}
use Rattle.laws.proofs.Places.{past, here}
use Rattle.lines.specs.Starts.{newline, starts_from, starts}
use Rattle.lines.proofs.Tests.{by_less, by_equal}
use Rattle.lines_calls.specs.Left.{left}
use Rattle.lines_calls.proofs.Left.{left_hit, left_end, found_left, found_stands}

module _ (x : ℕ) (l index : List ℕ) (j : ℕ) where
  same_step : j < length index → get_or index j 0 ≡ x → same (x ∷ l) (drop j index) ≡ same l (drop (j + 1) index)
  unfolding same
  same_step h e = rw (here index j h, e, eq-eqb x x refl)

  pub same_other : j < length index → (get_or index j 0 ≡ x → ⊥) → same (x ∷ l) (drop j index) ≡ false
  unfolding same
  same_other h e = rw (here index j h, ne_eqb x (get_or index j 0) (λ q. e (sym q)))

  pub same_out : length index ≤ j → same (x ∷ l) (drop j index) ≡ false
  unfolding same
  same_out h = rw (past index j h)

same_end : (index : List ℕ) (j : ℕ) → j ≤ length index → same [] (drop j index) ≡ eqb j (length index)
unfolding same
same_end index j h =
    by_equal j (length index)
    (λ e. rw (past index j (let q : length index ≤ j = omega arith in q), eq-eqb j (length index) e))
    (λ e. let q : j < length index = by_less j (length index) (λ x. x) (λ x. absurd (e (omega arith))) in rw (here index j q, ne_eqb j (length index) e))

-- j starts are the same, and `at` is the next newline byte's place, or the end
pub record Comparing (s index : List ℕ) (j at : ℕ) : Type 0 where
  pub within : j ≤ length index
  pub stands : at < length s → get_or s at 0 ≡ newline
  pub rest : same (starts s) index ≡ same (left s at) (drop j index)

pub comparing_start : (s index : List ℕ) {at : ℕ} → 1 ≤ length index → get_or index 0 0 ≡ 0 → at ≡ 0 + before newline (drop 0 s) → Comparing s index 1 at
comparing_start s index h e f = record {
  within = h;
  stands = found_stands s 0 f;
  rest = same_step 0 (starts_from 0 s) index 0 h e ∙ ap (λ (l : List ℕ). same l (drop 1 index)) (found_left s 0 f);
}

module _ (s index : List ℕ) (j at : ℕ) (g : Comparing s index j at) where
  module _ (h : at < length s) where
    hit : same (starts s) index ≡ same ((at + 1) ∷ left s (at + 1)) (drop j index)
    hit = g.rest ∙ ap (λ (l : List ℕ). same l (drop j index)) (left_hit s at h (g.stands h))

    pub comparing_out : j ≡ length index → false ≡ same (starts s) index
    comparing_out q = sym (hit ∙ same_out (at + 1) (left s (at + 1)) index j (omega arith))

    module _ {w : ℕ} (n : j ≡ length index → ⊥) (q : w ≡ get_or index j 0) where
      low : j < length index
      low = by_less j (length index) (λ x. x) (λ x. absurd (n (omega (arith, g.within))))

      pub comparing_other : (w ≡ at + 1 → ⊥) → false ≡ same (starts s) index
      comparing_other d = sym (hit ∙ same_other (at + 1) (left s (at + 1)) index j low (λ x. d (q ∙ x)))

      pub comparing_next : {next : ℕ} → w ≡ at + 1 → next ≡ at + 1 + before newline (drop (at + 1) s) → Comparing s index (j + 1) next
      comparing_next d f = record {
        within = omega (arith, low);
        stands = found_stands s (at + 1) f;
        rest =
            hit ∙ same_step (at + 1) (left s (at + 1)) index j low (sym q ∙ d)
            ∙ ap (λ (l : List ℕ). same l (drop (j + 1) index)) (found_left s (at + 1) f);
      }

  pub comparing_end : length s ≤ at → eqb j (length index) ≡ same (starts s) index
  comparing_end h = sym (g.rest ∙ ap (λ (l : List ℕ). same l (drop j index)) (left_end s at h) ∙ same_end index j g.within)
