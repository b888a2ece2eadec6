-- What the greatest suffix of a text tells of its periods, and what is left of it where the text is cut by one.
use Prim.Native.Nat.{ℕ, ◌+◌, ◌-◌, ◌*◌, ◌≤◌, ◌<◌}
use native.Mathlib.Omega.{arith}
use mathlib.Core.Path.{◌≡◌, refl, sym, ap, ◌∙◌}
use lib.Dec.{eqb, ltb}
use borrow.Author.Tests.{eqb-true, eqb-false, ltb-true, ltb-false}
use Rattle.laws.proofs.Choice.{by_bool}
use Rattle.byte_periods.specs.Periods.{Repeats, Period, Lesser, Suffixed, Stays, Moves}
use Rattle.byte_periods.proofs.Greatest.{higher, one_byte}

-- ---- another text with the same bytes

module _ (f g : ℕ → ℕ) (most : ℕ) (same : (k : ℕ) → k < most → f k ≡ g k) where
  lesser_there : {c a top : ℕ} → top ≤ most → Lesser f c a top → Lesser g c a top
  lesser_there {c} {a} h v =
      let near = v.here in
      let far = v.there in
      record {
        off = v.off;
        same = λ k l. sym (same (c + k) (omega arith)) ∙ v.same k l ∙ same (a + k) (omega arith);
        less = omega (arith, v.less, same (c + v.off) (omega arith), same (a + v.off) (omega arith));
        here = near;
        there = far;
      }

  -- of which more may be known
  pub suffixed_there : (top a p e : ℕ) → top ≤ most → e ≤ most → Suffixed f top a p e → Suffixed g most a p e
  suffixed_there top a p e h l v =
      record {
        some = v.some;
        room = v.room;
        turns = λ k m n. sym (same (k + p) (omega arith)) ∙ v.turns k m n ∙ same k (omega arith);
        inside = λ c m n. lesser_there (omega (arith, v.room)) (v.inside c m n);
        before = λ c m. higher g most (omega arith) (lesser_there h (v.before c m));
      }

-- ---- moves

module _ (f : ℕ → ℕ) (n : ℕ) where
  -- by a third where there is no such period
  pub far : (by kept : ℕ) → 0 < n → kept ≡ 0 → n < 3 * by → 3 * by ≤ n + 3 → ((d : ℕ) → 0 < d → 3 * d ≤ n → Period f n d → ⊥) → Moves f n by kept
  far by kept more e h l none =
      record {
        some = omega arith;
        near = omega arith;
        least = λ d some m period. none d some (omega arith) period;
        inside = omega arith;
        agrees = λ k m. absurd (omega arith);
      }

  -- what a move before left, or one byte
  pub begun_suffixed : (kept a p start period end : ℕ) → 0 < n → kept ≤ n → Stays f kept a p → (kept ≡ 0 → (start ≡ 0) × (period ≡ 1) × (end ≡ 1))
      → (0 < kept → (start ≡ a) × (period ≡ p) × (end ≡ kept)) → (end ≤ n) × Suffixed f n start period end
  begun_suffixed kept a p start period end some h stays none left =
      by_bool (eqb kept 0)
      (λ t. let q = none (eqb-true kept 0 t) in (omega (arith, q.2), rw (q.0, q.1, q.2) (one_byte f n)))
      (λ t. let more : 0 < kept = omega (arith, eqb-false kept 0 t) in
      let q = left more in
      (omega (arith, q.2), rw (q.0, q.1, q.2) (suffixed_there f f n (λ k m. refl) kept a p kept h h (stays more))))

-- ---- the periods

module _ (f : ℕ → ℕ) (n a p : ℕ) (v : Suffixed f n a p n) where
  module _ (d : ℕ) (some : 0 < d) (period : Period f n d) where
    past_start : a < d
    past_start =
        by_bool (ltb a d)
        (λ t. ltb-true a d t)
        (λ t. let h = ltb-false a d t in
        let w = v.before (a - d) (omega arith) in
        let i : a - d + w.off + d ≡ a + w.off = omega arith in
        absurd (omega (arith, w.less, ap f i, period (a - d + w.off) (omega (arith, w.there)))))

    no_less : p ≤ d
    no_less =
        by_bool (ltb d p)
        (λ t. let h = ltb-true d p t in
        let w = v.inside (a + d) (omega arith) (omega arith) in
        let i : a + w.off + d ≡ a + d + w.off = omega arith in
        absurd (omega (arith, w.less, ap f i, period (a + w.off) (omega (arith, w.here, v.room)))))
        (λ t. ltb-false d p t)

    -- a period that leaves room for the suffix's is all of the text's
    all_turns : a + d + p ≤ n → Repeats f a p
    all_turns h k l =
        let past = past_start in
        let i : k + p + d ≡ k + d + p = omega arith in
        sym (period (k + p) (omega arith)) ∙ ap f i ∙ v.turns (k + d) (omega arith) (omega arith) ∙ period k (omega arith)

  -- a longer start does not repeat
  not_longer : p < a → Repeats f a p → ⊥
  not_longer h r =
      let w = v.before (a - p) (omega (arith, v.some)) in
      let i : a - p + w.off + p ≡ a + w.off = omega arith in
      by_bool (ltb w.off p)
      (λ t. omega (arith, w.less, ap f i, r (a - p + w.off) (omega (arith, ltb-true w.off p t))))
      (λ t. omega (arith, w.less, ap f i, v.turns (a - p + w.off) (omega (arith, ltb-false w.off p t)) (omega (arith, w.there))))

  -- a text that does not repeat has no period of a third of it
  pub no_third : (a ≤ p → Repeats f a p → ⊥) → (d : ℕ) → 0 < d → 3 * d ≤ n → Period f n d → ⊥
  no_third not d some h period =
      let past = past_start d some period in
      let least = no_less d some period in
      let r = all_turns d some period (omega arith) in
      by_bool (ltb p a) (λ t. not_longer (ltb-true p a t) r) (λ t. not (ltb-false p a t) r)

  module _ (r : Repeats f a p) where
    whole : (i k : ℕ) → i ≡ k + p → i < n → f i ≡ f k
    whole i k e h = ap f e ∙ by_bool (ltb k a) (λ t. r k (ltb-true k a t)) (λ t. v.turns k (ltb-false k a t) (omega arith))

    -- one that repeats is moved by its period, and what is left agrees
    pub turned : (kept : ℕ) → kept ≤ n - p → Moves f n p kept
    turned kept h =
        record {
          some = v.some;
          near = omega (arith, v.room);
          least = λ d some l period. omega (arith, no_less d some period);
          inside = h;
          agrees = λ k l. whole (k + p) k (omega arith) (omega arith);
        }

    -- and its greatest suffix, but for one turn
    module _ (fit : a ≤ p) (long : a + p + p ≤ n) where
      soon : (c : ℕ) → c < a → Lesser f c a (n - p)
      soon c h =
          let w = v.before c h in
          let near = w.here in
          let far = w.there in
          let less : w.off < p =
          by_bool (ltb w.off p)
          (λ t. ltb-true w.off p t)
          (λ t. let l = ltb-false w.off p t in
          absurd (omega (
            arith,
            w.less,
            whole (c + w.off) (c + (w.off - p)) (omega arith) near,
            whole (a + w.off) (a + (w.off - p)) (omega arith) far,
            w.same (w.off - p) (omega (arith, v.some)),
          ))) in
          record { off = w.off; same = w.same; less = w.less; here = omega arith; there = omega arith }

      pub one_turn_less : Suffixed f (n - p) a p (n - p)
      one_turn_less =
          record {
            some = v.some;
            room = omega arith;
            turns = λ k h l. v.turns k h (omega arith);
            inside = v.inside;
            before = soon;
          }
