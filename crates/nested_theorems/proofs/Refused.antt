-- What the call refuses, it refuses for the first record that rules a reading out (specs/Refused): the reader stops there (`stopped`), the
-- records before it can be continued to a reading (`possible`), and one that refuses rules out every reading (`rules_out`).
use Prim.Native.Nat.{ℕ, zero, suc, ◌+◌, ◌*◌, ◌-◌, ◌/◌, ◌≤◌, ◌<◌}
use native.Mathlib.Omega.{arith}
use mathlib.Core.Path.{◌≡◌, refl, sym, ap, subst, ◌∙◌}
use mathlib.Core.Bool.{Bool, true, false, cond}
use mathlib.Core.List.{List, [], ◌∷◌, ◌++◌, append_assoc, append-nil}
use lib.ListN.{length, get_or, take, length-append, get_or-append}
use lib.Seq.{length-take-le}
use borrow.Author.Tests.{eq-eqb}
use Rattle.laws.proofs.Choice.{impossible}
use Rattle.refusal.specs.Refusals as refusal
use Rattle.items.specs.Items.{record_words}
use Rattle.nested.specs.Items.{Item, item, items_from, items_of, count_of, class_at}
use Rattle.nested.specs.Grammar.{Node, Reading}
use Rattle.nested.specs.Reader.{Level, level, Levels, state, Result, Nodes, No, start, wrong, ending, run, read_on}
use Rattle.nested.specs.Order.{at_record, at_end}
use Rattle.nested.specs.Lent.{fits, outcome, given, nested_of, words_of, spliced, Built, Refused}
use Rattle.nested.specs.declared.Class.{Class}
use Rattle.nested.specs.declared.Frame.{Frame}
use Rattle.nested.proofs.First.{Way, here, step, way_runs, Stopped, stopped, at_record_case, at_end_case, placed, possible, rules_out, end_rules_out}
use Rattle.nested.proofs.First as first
use Rattle.nested.proofs.InOrder.{in_order, end_in_order}
use Rattle.nested.proofs.Sound.{sound}
use Rattle.nested_theorems.specs.Refused.{front, Possible, reached, frame_of, around, after_front, RefusedFirst, ruled_out, unended, few}

-- ---- records as items

-- items go by the words
items_same : (m q : ℕ) (s t : List ℕ) → ((j : ℕ) → j < (q + m) * record_words → get_or s j 0 ≡ get_or t j 0) → items_from m q s ≡ items_from m q t
unfolding items_from
items_same zero q s t h = refl
items_same (suc m) q s t h =
    let k : get_or s (q * record_words) 0 ≡ get_or t (q * record_words) 0 = h (q * record_words) (omega arith) in
    let d : get_or s (q * record_words + 1) 0 ≡ get_or t (q * record_words + 1) 0 = h (q * record_words + 1) (omega arith) in
    let more : items_from m (q + 1) s ≡ items_from m (q + 1) t = items_same m (q + 1) s t (λ j l. h j (omega arith)) in
    rw (k, d, more)

-- some, and those behind them
items_split : (m n q : ℕ) (s : List ℕ) → items_from (m + n) q s ≡ items_from m q s ++ items_from n (q + m) s
unfolding items_from
items_split zero n q s =
    let a : 0 + n ≡ n = omega arith in
    let b : q ≡ q + 0 = omega arith in
    ap (λ (k : ℕ). items_from k q s) a ∙ ap (λ (k : ℕ). items_from n k s) b
items_split (suc m) n q s =
    let a : suc m + n ≡ suc (m + n) = omega arith in
    let b : q + 1 + m ≡ q + suc m = omega arith in
    ap (λ (k : ℕ). items_from k q s) a
    ∙ ap (λ (l : List Item). item q (class_at s q) ∷ l)
    (items_split m n (q + 1) s ∙ ap (λ (k : ℕ). items_from m (q + 1) s ++ items_from n k s) b)

items_front : (m n : ℕ) (s : List ℕ) → items_from (m + n) 0 s ≡ items_from m 0 s ++ items_from n m s
items_front m n s =
    let z : 0 + m ≡ m = omega arith in items_split m n 0 s ∙ ap (λ (k : ℕ). items_from m 0 s ++ items_from n k s) z

items_length : (m q : ℕ) (s : List ℕ) → length (items_from m q s) ≡ m
unfolding items_from
items_length zero q s = refl
items_length (suc m) q s = ap suc (items_length m (q + 1) s)

-- an item of theirs, and those before it
record At (n q : ℕ) (s : List ℕ) (ys : List Item) (p : ℕ) (k : Class) : Type 0 where
  place : p ≡ q + length ys
  inside : length ys < n
  class : k ≡ class_at s p
  before : ys ≡ items_from (length ys) q s

item_at : (n q : ℕ) (s : List ℕ) (ys zs : List Item) (p : ℕ) (k : Class) → items_from n q s ≡ ys ++ (item p k ∷ zs) → At n q s ys p k
unfolding items_from
item_at zero q s [] zs p k e = impossible cc
item_at zero q s (y ∷ ys) zs p k e = impossible cc
item_at (suc n) q s [] zs p k e =
    let z : q ≡ p = cc in
    let c : class_at s q ≡ k = cc in
    record { place = omega arith; inside = omega arith; class = sym c ∙ ap (class_at s) z; before = refl }
item_at (suc n) q s (y ∷ ys) zs p k e =
    let z : item q (class_at s q) ≡ y = cc in
    let t : items_from n (q + 1) s ≡ ys ++ (item p k ∷ zs) = cc in
    let r : At n (q + 1) s ys p k = item_at n (q + 1) s ys zs p k t in
    record {
      place = omega (arith, r.place);
      inside = omega (arith, r.inside);
      class = r.class;
      before = ap (λ (l : List Item). y ∷ l) r.before ∙ ap (λ (x : Item). x ∷ items_from (length ys) (q + 1) s) (sym z);
    }

-- ---- the first records, and others behind them

get_d_take : (n j : ℕ) (s : List ℕ) → j < n → get_or (take n s) j 0 ≡ get_or s j 0
get_d_take zero j s h = absurd (omega arith)
get_d_take (suc n) j [] h = refl
get_d_take (suc n) zero (x ∷ s) h = refl
get_d_take (suc n) (suc j) (x ∷ s) h = get_d_take n j s (omega arith)

module _ (s : List ℕ) (p : ℕ) (whole : p * record_words ≤ length s) where
  front_length : length (front p s) ≡ p * record_words
  front_length = length-take-le (p * record_words) s whole

  front_more : (more : List ℕ) (j : ℕ) → j < p * record_words → get_or (front p s ++ more) j 0 ≡ get_or s j 0
  front_more more j h = get_or-append (front p s) more 0 j (omega (arith, front_length)) ∙ get_d_take (p * record_words) j s h

  front_items : items_of (front p s) ≡ items_from p 0 s
  front_items =
      let n : count_of (front p s) - 0 ≡ p = omega (arith, front_length) in
      ap (λ (m : ℕ). items_from m 0 (front p s)) n ∙ items_same p 0 (front p s) s (λ j h. get_d_take (p * record_words) j s (omega arith))

  -- with any words behind them
  front_then : (more : List ℕ) → items_of (front p s ++ more) ≡ items_from p 0 s ++ items_from (length more / record_words) p (front p s ++ more)
  front_then more =
      let t : List ℕ = front p s ++ more in
      let m : ℕ = length more / record_words in
      let n : count_of t - 0 ≡ p + m = omega (arith, front_length, length-append (front p s) more) in
      ap (λ (k : ℕ). items_from k 0 t) n ∙ items_front p m t
      ∙ ap (λ (l : List Item). l ++ items_from m p t) (items_same p 0 t s (λ j h. front_more more j (omega arith)))

-- a record of a kind and a detail
abbrev words : ℕ × ℕ → List ℕ
words r = r.0 ∷ r.1 ∷ 0 ∷ 0 ∷ 0 ∷ 0 ∷ 0 ∷ 0 ∷ 0 ∷ 0 ∷ []

abbrev all_words : List (ℕ × ℕ) → List ℕ
all_words [] = []
all_words (r ∷ rs) = words r ++ all_words rs

words_count : (rs : List (ℕ × ℕ)) → length (all_words rs) ≡ length rs * record_words
words_count [] = refl
words_count (r ∷ rs) = omega (arith, words_count rs, length-append (words r) (all_words rs))

get_d_behind : (u v : List ℕ) (n j : ℕ) → length u ≡ n → get_or (u ++ v) (n + j) 0 ≡ get_or v j 0
get_d_behind [] v n j e = let z : n + j ≡ j = omega arith in rw z
get_d_behind (x ∷ u) v zero j e = absurd (omega arith)
get_d_behind (x ∷ u) v (suc n) j e =
    let z : suc n + j ≡ suc (n + j) = omega arith in ap (λ (k : ℕ). get_or (x ∷ (u ++ v)) k 0) z ∙ get_d_behind u v n j (omega arith)

placed_items : (rs : List (ℕ × ℕ)) (p : ℕ) (u : List ℕ) → length u ≡ p * record_words → items_from (length rs) p (u ++ all_words rs) ≡ placed p rs
unfolding items_from
placed_items [] p u e = refl
placed_items (r ∷ rs) p u e =
    let t : List ℕ = u ++ (words r ++ all_words rs) in
    let zeroth : p * record_words ≡ p * record_words + 0 = omega arith in
    let k : get_or t (p * record_words) 0 ≡ r.0 = ap (λ (n : ℕ). get_or t n 0) zeroth ∙ get_d_behind u (words r ++ all_words rs) (p * record_words) 0 e in
    let d : get_or t (p * record_words + 1) 0 ≡ r.1 = get_d_behind u (words r ++ all_words rs) (p * record_words) 1 e in
    let more : items_from (length rs) (p + 1) t ≡ placed (p + 1) rs
    = ap (items_from (length rs) (p + 1)) (sym (append_assoc u (words r) (all_words rs)))
    ∙ placed_items rs (p + 1) (u ++ words r) (omega (arith, length-append u (words r))) in
    rw (k, d, more)

-- ---- the theorem

way_reached : {st to : Levels} {ys : List Item} → Way st ys to → reached st ys ≡ to
unfolding reached
way_reached here = refl
way_reached (step h w) = way_reached w

module _ (s : List ℕ) (p : ℕ) (whole : p * record_words ≤ length s) where
  -- some records behind the first p make a reading
  continued : first.Possible (items_from p 0 s) → Possible (front p s)
  continued z =
      let rs : List (ℕ × ℕ) = z.0 in
      let n : length (all_words rs) / record_words ≡ length rs = omega (arith, words_count rs) in
      let at : length (items_from p 0 s) ≡ p = items_length p 0 s in
      let e : items_of (front p s ++ all_words rs) ≡ items_from p 0 s ++ placed p rs
      = front_then s p whole (all_words rs)
      ∙ ap (λ (m : ℕ). items_from p 0 s ++ items_from m p (front p s ++ all_words rs)) n
      ∙ ap (λ (l : List Item). items_from p 0 s ++ l) (placed_items rs p (front p s) (front_length s p whole)) in (
        all_words rs,
        z.1,
        subst (λ (l : List Item). Reading l z.1) (ap (λ (m : ℕ). items_from p 0 s ++ placed m rs) at ∙ sym e) z.2,
      )

module _ (s memory : List ℕ) (n p : ℕ) where
  -- a record refuses
  by_record : (k : Class) (f : Frame) (i : ℕ) (ms : List Node) (ls : List Level) (ys zs : List Item) → Way start ys (state (level f i ms) ls)
      → items_of s ≡ ys ++ (item p k ∷ zs) → n ≡ wrong k f (length ls) → (n ≡ 0 → ⊥)
      → RefusedFirst s memory n p
  unfolding items_from
  by_record k f i ms ls ys zs w x a b =
      let r : At (count_of s - 0) 0 s ys p k = item_at (count_of s - 0) 0 s ys zs p k x in
      let at : length ys ≡ p = omega (arith, r.place) in
      let less : p < count_of s = omega (arith, r.inside) in
      let whole : p * record_words ≤ length s = omega arith in
      let next : (p + 1) * record_words ≤ length s = omega arith in
      let is : ys ≡ items_from p 0 s = r.before ∙ ap (λ (m : ℕ). items_from m 0 s) at in
      let st : after_front p s ≡ state (level f i ms) ls
      = ap (reached start) (front_items s p whole ∙ sym is) ∙ way_reached w in
      ruled_out less (continued s p whole (subst first.Possible is (possible w)))
      (λ z. rules_out p k w (λ y. b (a ∙ y)) (items_from (length z.0 / record_words) (p + 1) (front (p + 1) s ++ z.0)) z.1
      (subst (λ (l : List Item). Reading l z.1) (upto k ys z.0 is r.class next) z.2))
      (a ∙ in_order k f (length ls) ∙ ap (λ (c : Class). at_record c f (length ls)) r.class
      ∙ ap (λ (l : Levels). at_record (class_at s p) (frame_of l) (around l)) (sym st)) b
    where
      upto : (k : Class) (ys : List Item) (more : List ℕ) → ys ≡ items_from p 0 s → k ≡ class_at s p → (p + 1) * record_words ≤ length s
          → items_of (front (p + 1) s ++ more) ≡ ys ++ (item p k ∷ items_from (length more / record_words) (p + 1) (front (p + 1) s ++ more))
      upto k ys more is c next =
          let rest : List Item = items_from (length more / record_words) (p + 1) (front (p + 1) s ++ more) in
          front_then s (p + 1) next more
          ∙ ap (λ (l : List Item). l ++ rest) (items_front p 1 s)
          ∙ append_assoc (items_from p 0 s) (item p (class_at s p) ∷ []) rest
          ∙ ap (λ (l : List Item). l ++ (item p (class_at s p) ∷ rest)) (sym is) ∙ ap (λ (d : Class). ys ++ (item p d ∷ rest)) (sym c)

  -- the end refuses
  by_end : (f : Frame) (i : ℕ) (ms : List Node) (ls : List Level) → Way start (items_of s) (state (level f i ms) ls) → n ≡ ending f → p ≡ count_of s
      → run (count_of s) start (items_of s) ≡ No n p → RefusedFirst s memory n p
  unfolding read_on
  by_end f i ms ls w a e h =
      let whole : p * record_words ≤ length s = omega arith in
      let all : items_of s ≡ items_from p 0 s = ap (λ (m : ℕ). items_from m 0 s) (let y : count_of s - 0 ≡ p = omega arith in y) in
      let st : after_front p s ≡ state (level f i ms) ls = ap (reached start) (front_items s p whole ∙ sym all) ∙ way_reached w in
      unended e (continued s p whole (subst first.Possible all (possible w))) (end_rules_out (count_of s) n p (items_of s) h)
      (a ∙ end_in_order f ∙ ap (λ (l : Levels). at_end (frame_of l)) (sym st)) (λ z. done (sym a ∙ z))
    where
      done : ending f ≡ 0 → ⊥
      done z =
          let r : run (count_of s) (state (level f i ms) ls) [] ≡ Nodes ms = ap (λ (b : Bool). cond b (Nodes ms) (No (ending f) (count_of s))) (eq-eqb (ending f) 0 z) in
          let t : run (count_of s) start (items_of s) ≡ Nodes ms = ap (run (count_of s) start) (sym (append-nil (items_of s))) ∙ way_runs w (count_of s) [] ∙ r in
          let q : No n p ≡ Nodes ms = sym h ∙ t in
          impossible cc

  by_stop : run (count_of s) start (items_of s) ≡ No n p → Stopped (count_of s) n p start (items_of s) → RefusedFirst s memory n p
  by_stop h (at_record_case k f i ms ls ys zs w x a b) = by_record k f i ms ls ys zs w x a b
  by_stop h (at_end_case f i ms ls w a e) = by_end f i ms ls w a e h

  -- WHAT THE CALL REFUSES: the first record that rules a reading out, or the end, with the first of the order that holds; or 46, last
  pub refused_first : (nested_of s memory).answer ≡ Refused n p → RefusedFirst s memory n p
  unfolding nested_of
  refused_first h = go (run (count_of s) start (items_of s)) refl h
    where
      fit : (ns : List Node) → Reading (items_of s) ns → (b : Bool) → fits s ns memory ≡ b
          → (cond b (outcome (Built (length ns)) (spliced 0 (words_of ns) memory)) (outcome (Refused refusal.few_nodes 0) memory)).answer ≡ Refused n p
          → RefusedFirst s memory n p
      fit ns r true e q = impossible cc
      fit ns r false e q = let a : n ≡ refusal.few_nodes = cc in let b : p ≡ 0 = cc in few a b ns r e

      go : (r : Result) → run (count_of s) start (items_of s) ≡ r → (given r s memory).answer ≡ Refused n p → RefusedFirst s memory n p
      go (Nodes ns) e q = fit ns (sound (count_of s) e) (fits s ns memory) refl q
      go (No m j) e q =
          let a : m ≡ n = cc in
          let b : j ≡ p = cc in
          let f : run (count_of s) start (items_of s) ≡ No n p = e ∙ ap (λ (k : ℕ). No k j) a ∙ ap (λ (k : ℕ). No n k) b in
          by_stop f (stopped (items_of s) (count_of s) n p start f)
