-- The greatest suffix, one byte more: the byte agrees with the one a period before it, or is less, or is greater.
use Prim.Native.Nat.{ℕ, zero, suc, ◌+◌, ◌-◌, ◌≤◌, ◌<◌}
use native.Mathlib.Omega.{arith}
use mathlib.Core.Path.{◌≡◌, sym, ap, ◌∙◌}
use lib.Dec.{eqb, ltb}
use borrow.Author.Tests.{eqb-true, eqb-false, ltb-true, ltb-false}
use Rattle.laws.proofs.Choice.{by_bool}
use Rattle.byte_periods.specs.Periods.{Lesser, Suffixed}

module _ (f : ℕ → ℕ) where
  -- before the byte that tells it, and there, nothing is greater
  at_most : {c a top : ℕ} (v : Lesser f c a top) (k : ℕ) → k ≤ v.off → f (c + k) ≤ f (a + k)
  at_most {c} {a} v k h =
      by_bool (ltb k v.off)
      (λ e. omega (arith, v.same k (ltb-true k v.off e)))
      (λ e. let q : v.off ≡ k = omega (arith, ltb-false k v.off e) in
      omega (arith, v.less, ap (λ (i : ℕ). f (c + i)) q, ap (λ (i : ℕ). f (a + i)) q))

  -- a later top
  pub higher : {c a top : ℕ} (last : ℕ) → top ≤ last → Lesser f c a top → Lesser f c a last
  higher last h v = record { off = v.off; same = v.same; less = v.less; here = omega (arith, v.here); there = omega (arith, v.there) }

  -- one byte is its own greatest suffix
  pub one_byte : (top : ℕ) → Suffixed f top 0 1 1
  one_byte top =
      record {
        some = omega arith;
        room = omega arith;
        turns = λ k h l. absurd (omega arith);
        inside = λ c h l. absurd (omega arith);
        before = λ c h. absurd (omega arith);
      }

  module _ (top a p e : ℕ) (v : Suffixed f top a p e) where
    -- a place of the suffix and the one a period behind it
    turn : (i k : ℕ) → i ≡ k + p → a ≤ k → i < e → f i ≡ f k
    turn i k q h l = ap f q ∙ v.turns k h (omega arith)

    pub as_before : f e ≡ f (e - p) → Suffixed f top a p (e + 1)
    as_before same =
        record {
          some = v.some;
          room = omega (arith, v.room);
          turns = λ k h l. by_bool (ltb (k + p) e)
              (λ t. v.turns k h (ltb-true (k + p) e t))
              (λ t. let i : k + p ≡ e = omega (arith, ltb-false (k + p) e t) in
              let j : e - p ≡ k = omega (arith, i) in
              ap f i ∙ same ∙ ap f j);
          inside = v.inside;
          before = v.before;
        }

    -- ---- a byte that is less: all of the suffix is its period

    module _ (less : f e < f (e - p)) where
      -- what begins a period behind the start
      second : Lesser f (a + p) a (e + 1)
      second =
          let k = e - (a + p) in
          let i : a + p + k ≡ e = omega (arith, v.room) in
          let j : a + k ≡ e - p = omega (arith, v.room) in
          record {
            off = k;
            same = λ m h. turn (a + p + m) (a + m) (omega arith) (omega arith) (omega arith);
            less = omega (arith, less, ap f i, ap f j);
            here = omega (arith, v.room);
            there = omega (arith, v.room);
          }

      -- what begins a period behind another place
      next_turn : (c : ℕ) → a + p < c → c ≤ e → Lesser f (c - p) a (e + 1) → Lesser f c a (e + 1)
      next_turn c h l w =
          by_bool (ltb (c + w.off) e)
          (λ t. let q = ltb-true (c + w.off) e t in
          record {
            off = w.off;
            same = λ m n. turn (c + m) (c - p + m) (omega arith) (omega arith) (omega arith) ∙ w.same m n;
            less = omega (arith, w.less, turn (c + w.off) (c - p + w.off) (omega arith) (omega arith) q);
            here = omega arith;
            there = w.there;
          })
          (λ t. let q = ltb-false (c + w.off) e t in
          let k = e - c in
          let i : c + k ≡ e = omega arith in
          let j : c - p + k ≡ e - p = omega arith in
          record {
            off = k;
            same = λ m n. turn (c + m) (c - p + m) (omega arith) (omega arith) (omega arith) ∙ w.same m (omega arith);
            less = omega (arith, less, ap f i, ap f j, at_most w k (omega arith));
            here = omega arith;
            there = omega arith;
          })

      all_less : (m c : ℕ) → c ≤ m → a < c → c ≤ e → Lesser f c a (e + 1)
      all_less zero c b h l = absurd (omega arith)
      all_less (suc m) c b h l =
          by_bool (ltb c (a + p))
          (λ t. higher (e + 1) (omega (arith, v.room)) (v.inside c h (ltb-true c (a + p) t)))
          (λ t. by_bool (eqb c (a + p))
          (λ q. rw (eqb-true c (a + p) q) second)
          (λ q. let past : a + p < c = omega (arith, ltb-false c (a + p) t, eqb-false c (a + p) q) in
          next_turn c past l (all_less m (c - p) (omega (arith, v.some)) (omega arith) (omega arith))))

      pub all_one : Suffixed f top a (e + 1 - a) (e + 1)
      all_one =
          let n : a + (e + 1 - a) ≡ e + 1 = omega (arith, v.room) in
          record {
            some = omega (arith, v.room);
            room = omega (arith, v.room);
            turns = λ k h l. absurd (omega arith);
            inside = λ c h l. higher (a + (e + 1 - a)) (omega arith) (all_less c c (omega arith) h (omega arith));
            before = v.before;
          }

    -- ---- a byte that is greater: a later start

    module _ (more : f (e - p) < f e) (inside : e < top) where
      -- the byte that tells it
      tells : a + (e - (a + p)) ≡ e - p
      tells = omega (arith, v.room)

      last : a + p + (e - (a + p)) ≡ e
      last = omega (arith, v.room)

      ahead : (c : ℕ) → c < a + p → {t : ℕ} → Lesser f c a t → Lesser f c (a + p) top
      ahead c h w =
          let k = e - (a + p) in
          by_bool (ltb w.off k)
          (λ t. let q = ltb-true w.off k t in
          record {
            off = w.off;
            same = λ m n. w.same m n ∙ sym (turn (a + p + m) (a + m) (omega arith) (omega arith) (omega arith));
            less = omega (arith, w.less, turn (a + p + w.off) (a + w.off) (omega arith) (omega arith) (omega arith));
            here = omega arith;
            there = omega arith;
          })
          (λ t. let q = ltb-false w.off k t in
          record {
            off = k;
            same = λ m n. w.same m (omega arith) ∙ sym (turn (a + p + m) (a + m) (omega arith) (omega arith) (omega arith));
            less = omega (arith, more, ap f tells, ap f last, at_most w k q);
            here = omega (arith, last);
            there = omega (arith, last);
          })

      start_ahead : Lesser f a (a + p) top
      start_ahead =
          record {
            off = e - (a + p);
            same = λ m n. sym (turn (a + p + m) (a + m) (omega arith) (omega arith) (omega arith));
            less = omega (arith, more, ap f tells, ap f last);
            here = omega (arith, last, v.some);
            there = omega (arith, last);
          }

      all_ahead : (c : ℕ) → c < a + p → Lesser f c (a + p) top
      all_ahead c h =
          by_bool (ltb c a)
          (λ t. ahead c h (v.before c (ltb-true c a t)))
          (λ t. by_bool (eqb c a)
          (λ q. rw (eqb-true c a q) start_ahead)
          (λ q. ahead c h (v.inside c (omega (arith, ltb-false c a t, eqb-false c a q)) h)))

      pub anew : Suffixed f top (a + p) 1 (a + p + 1)
      anew =
          record {
            some = omega arith;
            room = omega arith;
            turns = λ k h l. absurd (omega arith);
            inside = λ c h l. absurd (omega arith);
            before = all_ahead;
          }

      -- a period later there is one period more
      module _ (long : a + p + p ≤ e) where
        later : (c : ℕ) → a + p < c → c < a + p + p → Lesser f c (a + p) (a + p + p)
        later c h l =
            let w = v.inside (c - p) (omega arith) (omega arith) in
            let near = w.here in
            let far = w.there in
            record {
              off = w.off;
              same = λ m n. turn (c + m) (c - p + m) (omega arith) (omega arith) (omega arith) ∙ w.same m n
                  ∙ sym (turn (a + p + m) (a + m) (omega arith) (omega arith) (omega arith));
              less = omega (
                arith,
                w.less,
                turn (c + w.off) (c - p + w.off) (omega arith) (omega arith) (omega arith),
                turn (a + p + w.off) (a + w.off) (omega arith) (omega arith) (omega arith),
              );
              here = omega arith;
              there = omega arith;
            }

        pub a_turn_later : Suffixed f top (a + p) p e
        a_turn_later =
            record { some = v.some; room = long; turns = λ k h l. v.turns k (omega arith) l; inside = later; before = all_ahead }
