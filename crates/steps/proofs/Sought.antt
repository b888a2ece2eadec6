-- The search for a here-string's delimiter: one byte that differs tells that it does not stand at a place, and what is known of it grows
-- along its line.
use Prim.Native.Nat.{ℕ, zero, suc, ◌+◌, ◌-◌, ◌≤◌, ◌<◌}
use native.Mathlib.Omega.{arith}
use mathlib.Core.Path.{◌≡◌, refl, sym, ap, subst, ◌∙◌}
use mathlib.Core.Bool.{true, false}
use mathlib.Core.List.{List, [], ◌∷◌, ◌++◌, append-nil}
use lib.Dec.{eqb, ltb}
use lib.ListN.{length, get_or, take, drop, length-append, length-drop}
use lib.Seq.{drop-drop, get_or-drop, get_or-take, get_or_at, take-suc, take-length, length-take-le}
use borrow.Author.Tests.{eq-eqb, ne_eqb, eqb-true, ltb-true, ltb-false}
use Rattle.laws.specs.Quoted.{code}
use Rattle.laws.specs.Texts.{begins}
use Rattle.laws.proofs.Choice.{by_bool, and_true, no_yes}
use Rattle.laws.proofs.Lent.{part_rest}
use Rattle.byte_runs.specs.Search.{Lone}
use Rattle.items.specs.Readers.{unreturned}
use Rattle.steps.specs.Sought.{Waits, Kept, Begun}
use Rattle.steps.proofs.Delimiter.{unreturned_skip, unreturned_keep, unreturned_end}

-- ---- where it does not stand

pub begins_same : (d t : List ℕ) → begins d t ≡ true → (q : ℕ) → q < length d → get_or t q 0 ≡ get_or d q 0
unfolding begins
begins_same [] t e q h = absurd (omega arith)
begins_same (x ∷ d) [] e q h = no_yes e
begins_same (x ∷ d) (y ∷ t) e zero h = sym (eqb-true x y (and_true (eqb x y) (begins d t) e).0)
begins_same (x ∷ d) (y ∷ t) e (suc q) h = begins_same d t (and_true (eqb x y) (begins d t) e).1 q (omega arith)

-- one byte differs
pub missed : (d s : List ℕ) (i q : ℕ) → q < length d → (get_or s (i + q) 0 ≡ get_or d q 0 → ⊥) → begins d (drop i s) ≡ false
missed d s i q h n =
    by_bool (begins d (drop i s)) (λ e. absurd (n (sym (get_or-drop i s q 0) ∙ begins_same d (drop i s) e q h))) (λ e. e)

-- ---- along the line

module _ (l : List ℕ) where
  -- the byte at a place of the line, where the delimiter's first j bytes stand before it
  module _ (j i : ℕ) (rest : drop j (unreturned l) ≡ unreturned (drop i l)) (w : Waits l i) where
    onward : drop j (unreturned l) ≡ get_or l i 0 ∷ unreturned (drop (i + 1) l)
    onward = rest ∙ unreturned_keep l i w.0 w.1

    pub byte_in : j < length (unreturned l)
    byte_in = omega (arith, length-drop j (unreturned l), ap length onward)

    pub byte_at : get_or (unreturned l) j 0 ≡ get_or l i 0
    byte_at =
        let z : j + 0 ≡ j = omega arith in
        ap (λ (k : ℕ). get_or (unreturned l) k 0) (sym z) ∙ sym (get_or-drop j (unreturned l) 0 0) ∙ ap (λ (m : List ℕ). get_or m 0 0) onward

    pub byte_on : drop (j + 1) (unreturned l) ≡ unreturned (drop (i + 1) l)
    byte_on = sym (drop-drop 1 j (unreturned l)) ∙ ap (drop 1) onward

  module _ (s : List ℕ) (at : ℕ) where
    pub begun_none : at ≤ length s → Begun s l at 0 0
    begun_none h = record { room = omega arith; same = λ q k. absurd (omega arith); few = omega arith; rest = refl }

    pub begun_skip : (j i : ℕ) → i < length l → get_or l i 0 ≡ code "\r" → Begun s l at j i → Begun s l at j (i + 1)
    begun_skip j i h e b = record { room = b.room; same = b.same; few = b.few; rest = b.rest ∙ unreturned_skip l i h e }

    pub begun_more : (j i : ℕ) → Waits l i → at + length (unreturned l) ≤ length s → get_or l i 0 ≡ get_or s (at + j) 0 → Begun s l at j i
        → Begun s l at (j + 1) (i + 1)
    begun_more j i w h e b =
        let less = byte_in j i b.rest w in
        record {
          room = omega arith;
          same = λ q k. by_bool (ltb q j)
              (λ f. b.same q (ltb-true q j f))
              (λ f. let r : j ≡ q = omega (arith, ltb-false q j f) in
              subst (λ (m : ℕ). get_or s (at + m) 0 ≡ get_or (unreturned l) m 0) r (sym e ∙ sym (byte_at j i b.rest w)));
          few = omega arith;
          rest = byte_on j i b.rest w;
        }

    -- the line's end is the delimiter's
    pub begun_all : (j i : ℕ) → length l ≤ i → Begun s l at j i → length (unreturned l) ≤ j
    begun_all j i h b = omega (arith, length-drop j (unreturned l), ap length (b.rest ∙ unreturned_end l i h))

    -- the same bytes at another place
    pub begun_there : (i j r : ℕ) → i + j ≤ length s → ((q : ℕ) → q < j → get_or s (i + q) 0 ≡ get_or s (at + q) 0) → Begun s l at j r → Begun s l i j r
    begun_there i j r h e b = record { room = h; same = λ q k. e q k ∙ b.same q k; few = b.few; rest = b.rest }

    -- one of the bytes known differs
    pub known_missed : (i j r q : ℕ) → Begun s l at j r → q < j → (get_or s (i + q) 0 ≡ get_or s (at + q) 0 → ⊥) → begins (unreturned l) (drop i s) ≡ false
    known_missed i j r q b h n = missed (unreturned l) s i q (omega (arith, b.few)) (λ e. n (e ∙ sym (b.same q h)))

-- ---- its first byte and its last one

unreturned_append : (a b : List ℕ) → unreturned (a ++ b) ≡ unreturned a ++ unreturned b
unfolding unreturned
unreturned_append [] b = refl
unreturned_append (c ∷ a) b =
    by_bool (eqb c (code "\r")) (λ e. rw e (unreturned_append a b)) (λ e. rw e (ap (λ (l : List ℕ). c ∷ l) (unreturned_append a b)))

one_kept : (c : ℕ) → (c ≡ code "\r" → ⊥) → unreturned (c ∷ []) ≡ c ∷ []
unfolding unreturned
one_kept c e = rw (ne_eqb c (code "\r") e)

one_left : (c : ℕ) → c ≡ code "\r" → unreturned (c ∷ []) ≡ []
unfolding unreturned
one_left c e = rw (eq-eqb c (code "\r") e)

module _ (l : List ℕ) where
  -- a carriage return at the end of a cut is left out
  pub cut_back : (i : ℕ) → i < length l → get_or l i 0 ≡ code "\r" → unreturned (take (i + 1) l) ≡ unreturned (take i l)
  cut_back i h e =
      let n : i + 1 ≡ suc i = omega arith in
      ap (λ (k : ℕ). unreturned (take k l)) n ∙ ap unreturned (take-suc l i 0 h) ∙ unreturned_append (take i l) (get_or l i 0 ∷ [])
      ∙ ap (λ (m : List ℕ). unreturned (take i l) ++ m) (one_left (get_or l i 0) e) ∙ append-nil (unreturned (take i l))

  pub last_byte : Waits l (length l - 1) → get_or (unreturned l) (length (unreturned l) - 1) 0 ≡ get_or l (length l - 1) 0
  last_byte w =
      let i = length l - 1 in
      let c = get_or l i 0 in
      let n : length l ≡ suc i = omega (arith, w.0) in
      let whole : unreturned l ≡ unreturned (take i l) ++ (c ∷ []) =
      ap unreturned (sym (take-length l) ∙ ap (λ (k : ℕ). take k l) n ∙ take-suc l i 0 w.0) ∙ unreturned_append (take i l) (c ∷ [])
      ∙ ap (λ (m : List ℕ). unreturned (take i l) ++ m) (one_kept c w.1) in
      let long : length (unreturned (take i l)) ≡ length (unreturned l) - 1 =
      omega (arith, ap length whole, length-append (unreturned (take i l)) (c ∷ [])) in
      ap (λ (m : List ℕ). get_or m (length (unreturned l) - 1) 0) whole ∙ get_or_at (unreturned (take i l)) c [] 0 (length (unreturned l) - 1) long

  -- between two places where they do not stand as far apart
  pub lone_missed : (s : List ℕ) (from to gap : ℕ) → Kept l → gap ≡ length (unreturned l) - 1
      → Lone s gap (get_or l 0 0) (get_or l (length l - 1) 0) from to → (k : ℕ) → from ≤ k → k < to → begins (unreturned l) (drop k s) ≡ false
  lone_missed s from to gap kept g lone k h m =
      let some = byte_in l 0 0 refl kept.0 in
      by_bool (begins (unreturned l) (drop k s))
      (λ e. absurd (lone k h m
      (let z : k + 0 ≡ k = omega arith in
      ap (λ (q : ℕ). get_or s q 0) (sym z) ∙ sym (get_or-drop k s 0 0) ∙ begins_same (unreturned l) (drop k s) e 0 some ∙ byte_at l 0 0 refl kept.0)
      (sym (get_or-drop k s gap 0) ∙ begins_same (unreturned l) (drop k s) e gap (omega arith) ∙ ap (λ (q : ℕ). get_or (unreturned l) q 0) g
      ∙ last_byte kept.1)))
      (λ e. e)

  -- and so between the first and the last of three
  pub clear_to : (s : List ℕ) (from i to gap : ℕ) → Kept l → gap ≡ length (unreturned l) - 1
      → ((k : ℕ) → from ≤ k → k < i → begins (unreturned l) (drop k s) ≡ false)
      → Lone s gap (get_or l 0 0) (get_or l (length l - 1) 0) i to → (k : ℕ) → from ≤ k → k < to → begins (unreturned l) (drop k s) ≡ false
  clear_to s from i to gap kept g clear lone k h m =
      by_bool (ltb k i) (λ e. clear k h (ltb-true k i e)) (λ e. lone_missed s i to gap kept g lone k (ltb-false k i e) m)

-- ---- a line cut where no carriage return stands

-- its end cut off
pub kept_line : (l : List ℕ) (e : ℕ) → 0 < e → e ≤ length l → (get_or l 0 0 ≡ code "\r" → ⊥) → (get_or l (e - 1) 0 ≡ code "\r" → ⊥) → Kept (take e l)
kept_line l e some h first last =
    let long : length (take e l) ≡ e = length-take-le e l h in
    let end : length (take e l) - 1 ≡ e - 1 = omega (arith, long) in (
      (omega (arith, long), λ q. first (sym (get_or-take e l 0 0 some) ∙ q)),
      (
        omega (arith, long),
        λ q. last (sym (get_or-take e l (e - 1) 0 (omega arith)) ∙ sym (ap (λ (i : ℕ). get_or (take e l) i 0) end) ∙ q),
      ),
    )

-- its start cut off
pub rest_first : (l : List ℕ) (i : ℕ) → get_or (take (length l - i) (drop i l)) 0 0 ≡ get_or l i 0
rest_first l i =
    let z : i + 0 ≡ i = omega arith in
    ap (λ (m : List ℕ). get_or m 0 0) (part_rest l i) ∙ get_or-drop i l 0 0 ∙ ap (λ (k : ℕ). get_or l k 0) z
