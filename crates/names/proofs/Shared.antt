-- The request's sentences, over the book: numbers stay, equal names have equal numbers, who is refused, what the other party can do.
use Rattle.std.proofs.Common.{None, Some}
use Prim.Native.Nat.{ℕ, zero, suc, ◌+◌, ◌-◌, ◌*◌, ◌/◌, ◌%◌, ◌≤◌, ◌<◌}
use native.Mathlib.Omega.{arith}
use borrow.Author.Tests.{lt-ltb, le-ltb, ltb-true, ltb-false, leb-true, leb-false}
use mathlib.Core.Path.{◌≡◌, refl, sym, ap, ◌∙◌}
use mathlib.Core.Logic.{◌⊎◌, inl, inr, ⊎_elim}
use mathlib.Core.List.{List, [], ◌∷◌, ◌++◌}
use lib.Dec.{ltb, leb}
use lib.ListN.{length, length-append}
use Rattle.laws.specs.Texts.{same}
use Rattle.laws.proofs.Choice.{by_bool, if_yes, if_no, impossible}
use Rattle.laws.proofs.Compared.{same_is}
use Rattle.refusal.specs.Refusals.{no_party, no_room}
use Rattle.names.specs.Book.{Name, Book, half, place, size, number_in, added, Reply, reply, new_in, ask, mark_in, name_in, Call, asks}
use Rattle.names.specs.Layout.{half_names, half_bytes, table_names}
use Rattle.names.specs.Answers.{Number, Refused}
use Rattle.names.proofs.Gives.{by_found}
use Rattle.names.proofs.Parts.{same_refl}
use Rattle.names.proofs.Means.{place_name}

-- places in a list that grows
pub place_le : (n : Name) (l : List Name) → place n l ≤ length l
unfolding place
place_le n [] = omega arith
place_le n (x ∷ xs) = by_bool (same x n) (λ t. rw t (omega arith)) (λ t. rw t (omega (arith, place_le n xs)))

pub place_grows : (n : Name) (l : List Name) (x : Name) → place n l < length l → place n (l ++ (x ∷ [])) ≡ place n l
unfolding place
place_grows n [] x h = absurd (omega arith)
place_grows n (y ∷ ys) x h =
    by_bool (same y n)
    (λ t. rw t)
    (λ t. rw t (ap suc (place_grows n ys x (let g = rw t at h in omega arith))))

pub place_not : (n : Name) (l : List Name) (x : Name) → place n l ≡ length l → (x ≡ n → ⊥) → place n (l ++ (x ∷ [])) ≡ length (l ++ (x ∷ []))
unfolding place
place_not n [] x h d = by_bool (same x n) (λ t. absurd (d (same_is x n t))) (λ t. rw t)
place_not n (y ∷ ys) x h d =
    by_bool (same y n)
    (λ t. let g : 0 ≡ suc (length ys) = rw t at h in absurd (omega arith))
    (λ t. let g : suc (place n ys) ≡ suc (length ys) = rw t at h in rw t (ap suc (place_not n ys x (omega arith) d)))

pub place_new : (n : Name) (l : List Name) → place n l ≡ length l → place n (l ++ (n ∷ [])) ≡ length l
unfolding place
place_new n [] h = rw (same_refl n)
place_new n (y ∷ ys) h =
    by_bool (same y n)
    (λ t. let g : 0 ≡ suc (length ys) = rw t at h in absurd (omega arith))
    (λ t. let g : suc (place n ys) ≡ suc (length ys) = rw t at h in rw t (ap suc (place_new n ys (omega arith))))

pub length_more : (l : List Name) (x : Name) → length (l ++ (x ∷ [])) ≡ length l + 1
length_more l x = length-append l (x ∷ [])

-- where a name is
pub record InPlanner (b : Book) (n : Name) (k : ℕ) : Type 0 where
  pub less : place n b.planner < length b.planner
  pub number : k ≡ place n b.planner

pub record InContractor (b : Book) (n : Name) (k : ℕ) : Type 0 where
  pub none : place n b.planner ≡ length b.planner
  pub less : place n b.contractor < length b.contractor
  pub number : k ≡ half_names + place n b.contractor

module _ (b : Book) (n : Name) where
  pub number_planner : {k : ℕ} → InPlanner b n k → number_in b n ≡ Some k
  unfolding number_in
  number_planner r = sym (if_yes _ _ _ (lt-ltb (place n b.planner) (length b.planner) r.less) (ap Some r.number))

  pub number_contractor : {k : ℕ} → InContractor b n k → number_in b n ≡ Some k
  unfolding number_in
  number_contractor r =
      let e = r.none in
      sym (if_no _ _ _ (le-ltb (place n b.planner) (length b.planner) (omega arith))
      (if_yes _ _ _ (lt-ltb (place n b.contractor) (length b.contractor) r.less) (ap Some r.number)))

  pub number_none : place n b.planner ≡ length b.planner → place n b.contractor ≡ length b.contractor → number_in b n ≡ None
  unfolding number_in
  number_none e f =
      sym (if_no _ _ _ (le-ltb (place n b.planner) (length b.planner) (omega arith))
      (if_no _ _ _ (le-ltb (place n b.contractor) (length b.contractor) (omega arith)) refl))

  -- the three ways
  pub where_is : {P : Type 0} → ((k : ℕ) → InPlanner b n k → P) → ((k : ℕ) → InContractor b n k → P)
      → (place n b.planner ≡ length b.planner → place n b.contractor ≡ length b.contractor → P) → P
  where_is f g h =
      by_bool (ltb (place n b.planner) (length b.planner))
      (λ t. f (place n b.planner) (record { less = ltb-true (place n b.planner) (length b.planner) t; number = refl }))
      (λ t. let x = ltb-false (place n b.planner) (length b.planner) t in
      let e : place n b.planner ≡ length b.planner = omega (arith, place_le n b.planner) in
      by_bool (ltb (place n b.contractor) (length b.contractor))
      (λ u. g (half_names + place n b.contractor) (record { none = e; less = ltb-true (place n b.contractor) (length b.contractor) u; number = refl }))
      (λ u. let y = ltb-false (place n b.contractor) (length b.contractor) u in h e (omega (arith, place_le n b.contractor))))

pub at_same : {j k : ℕ} → Some j ≡ Some k → j ≡ k
at_same e = cc

pub at_none : {k : ℕ} → Some k ≡ None → ⊥
at_none e = impossible cc

-- a number in the book stays when a name that is not there is added
pub number_stays : (b : Book) (p : ℕ) (x n : Name) {k : ℕ} → number_in b x ≡ None → number_in b n ≡ Some k → number_in (added b p x) n ≡ Some k
number_stays b p x n {k} e f = stays p
  where
    differ : x ≡ n → ⊥
    differ g = at_none (sym f ∙ ap (λ (z : Name). number_in b z) (sym g) ∙ e)

    stays : (q : ℕ) → number_in (added b q x) n ≡ Some k
    stays zero =
        where_is b n
        (λ j r. number_planner (added b 0 x) n
        (record {
          less = rw (place_grows n b.planner x r.less, length_more b.planner x) (let g = r.less in omega arith);
          number = sym (at_same (sym (number_planner b n r) ∙ f)) ∙ r.number ∙ sym (place_grows n b.planner x r.less);
        }))
        (λ j r. number_contractor (added b 0 x) n
        (record { none = place_not n b.planner x r.none differ; less = r.less; number = sym (at_same (sym (number_contractor b n r) ∙ f)) ∙ r.number }))
        (λ u v. absurd (at_none (sym f ∙ number_none b n u v)))
    stays (suc q) =
        where_is b n
        (λ j r. number_planner (added b (suc q) x) n
        (record { less = r.less; number = sym (at_same (sym (number_planner b n r) ∙ f)) ∙ r.number }))
        (λ j r. number_contractor (added b (suc q) x) n
        (record {
          none = r.none;
          less = rw (place_grows n b.contractor x r.less, length_more b.contractor x) (let g = r.less in omega arith);
          number = sym (at_same (sym (number_contractor b n r) ∙ f)) ∙ r.number ∙ ap (λ (z : ℕ). half_names + z) (sym (place_grows n b.contractor x r.less));
        }))
        (λ u v. absurd (at_none (sym f ∙ number_none b n u v)))

-- the ways of a call
pub record Ways (b : Book) (p : ℕ) (n : Name) (r : Reply) : Type 0 where
  pub way : ((k : ℕ) × (number_in b n ≡ Some k) × (r ≡ reply (Number k) b))
      ⊎ ((number_in b n ≡ None) × (length (half b p) < half_names) × (size (half b p) + length n ≤ half_bytes) × (r ≡ reply (Number (p * half_names + length (half b p))) (added b p n)))
      ⊎ ((number_in b n ≡ None) × ((half_names ≤ length (half b p)) ⊎ (half_bytes < size (half b p) + length n)) × (r ≡ reply (Refused no_room) b))

pub ways : (b : Book) (p : ℕ) (n : Name) → p < 2 → Ways b p n (ask b p n)
unfolding ask new_in
ways b p n two =
    by_found (number_in b n)
    (λ k e. record { way = inl (k, e, sym (if_yes _ _ _ (lt-ltb p 2 two) (rw e))) })
    (λ e. by_bool (ltb (length (half b p)) half_names)
    (λ t. by_bool (leb (size (half b p) + length n) half_bytes)
    (λ u. record {
      way = inr (inl (
        e,
        ltb-true (length (half b p)) half_names t,
        leb-true (size (half b p) + length n) half_bytes u,
        sym (if_yes _ _ _ (lt-ltb p 2 two) (rw e (if_yes _ _ _ t (if_yes _ _ _ u refl)))),
      ));
    })
    (λ u. record { way = inr (inr (e, inr (leb-false (size (half b p) + length n) half_bytes u), sym (if_yes _ _ _ (lt-ltb p 2 two) (rw e (if_yes _ _ _ t (if_no _ _ _ u refl)))))) }))
    (λ t. record { way = inr (inr (e, inl (ltb-false (length (half b p)) half_names t), sym (if_yes _ _ _ (lt-ltb p 2 two) (rw e (if_no _ _ _ t refl))))) }))

-- ---- the request's sentences, in the book

pub ask_stranger : (b : Book) (p : ℕ) (n : Name) → 2 ≤ p → ask b p n ≡ reply (Refused no_party) b
unfolding ask
ask_stranger b p n h = sym (if_no _ _ _ (le-ltb p 2 h) refl)

pub ask_there : (b : Book) (p : ℕ) (n : Name) {k : ℕ} → p < 2 → number_in b n ≡ Some k → ask b p n ≡ reply (Number k) b
unfolding ask
ask_there b p n h e = sym (if_yes _ _ _ (lt-ltb p 2 h) (rw e))

-- a call leaves the book as it was, or adds a name that is not there
pub after_is : (b : Book) (p : ℕ) (n : Name) → ((ask b p n).after ≡ b) ⊎ ((number_in b n ≡ None) × (p < 2) × (length (half b p) < half_names) × ((ask b p n).after ≡ added b p n))
after_is b p n =
    by_bool (ltb p 2)
    (λ t. let two = ltb-true p 2 t in
    ⊎_elim (λ x. inl (ap (λ (r : Reply). r.after) x.2))
    (⊎_elim (λ x. inr (x.0, two, x.1, ap (λ (r : Reply). r.after) x.3)) (λ x. inl (ap (λ (r : Reply). r.after) x.2)))
    (ways b p n two).way)
    (λ t. inl (ap (λ (r : Reply). r.after) (ask_stranger b p n (ltb-false p 2 t))))

-- a number, once given, is the name's in every later book
pub ask_keeps : (b : Book) (p : ℕ) (x n : Name) {k : ℕ} → number_in b n ≡ Some k → number_in (ask b p x).after n ≡ Some k
ask_keeps b p x n e =
    ⊎_elim (λ y. rw y e) (λ y. rw y.3 (number_stays b p x n y.0 e)) (after_is b p x)

pub asks_keep : (b : Book) (cs : List Call) (n : Name) {k : ℕ} → number_in b n ≡ Some k → number_in (asks b cs) n ≡ Some k
unfolding asks
asks_keep b [] n e = e
asks_keep b (c ∷ cs) n e = asks_keep (ask b c.party c.name).after cs n (ask_keeps b c.party c.name n e)

number_same : {j k : ℕ} → Number j ≡ Number k → j ≡ k
number_same e = cc

refused_not : {j k : ℕ} → Refused j ≡ Number k → ⊥
refused_not e = impossible cc

-- a name that is added is found at the number given
added_number : (b : Book) (p : ℕ) (n : Name) → p < 2 → number_in b n ≡ None → number_in (added b p n) n ≡ Some (p * half_names + length (half b p))
added_number b zero n h e =
    where_is b n
    (λ j r. absurd (at_none (sym (number_planner b n r) ∙ e)))
    (λ j r. absurd (at_none (sym (number_contractor b n r) ∙ e)))
    (λ u v. number_planner (added b 0 n) n
    (record { less = rw (place_new n b.planner u, length_more b.planner n) (omega arith); number = rw (place_new n b.planner u) (omega arith) }))
added_number b (suc zero) n h e =
    where_is b n
    (λ j r. absurd (at_none (sym (number_planner b n r) ∙ e)))
    (λ j r. absurd (at_none (sym (number_contractor b n r) ∙ e)))
    (λ u v. number_contractor (added b 1 n) n
    (record { none = u; less = rw (place_new n b.contractor v, length_more b.contractor n) (omega arith); number = rw (place_new n b.contractor v) (omega arith) }))
added_number b (suc (suc p)) n h e = absurd (omega arith)

pub ask_gives : (b : Book) (p : ℕ) (n : Name) {k : ℕ} → (ask b p n).answer ≡ Number k → number_in (ask b p n).after n ≡ Some k
ask_gives b p n {k} e =
    by_bool (ltb p 2)
    (λ t. let two = ltb-true p 2 t in
    ⊎_elim
    (λ x. let y : Number x.0 ≡ Number k = sym (ap (λ (r : Reply). r.answer) x.2) ∙ e in
    rw (ap (λ (r : Reply). r.after) x.2) (x.1 ∙ ap Some (number_same y)))
    (⊎_elim
    (λ x. let y = sym (ap (λ (r : Reply). r.answer) x.3) ∙ e in
    rw (ap (λ (r : Reply). r.after) x.3) (added_number b p n two x.0 ∙ ap Some (number_same y)))
    (λ x. absurd (refused_not (sym (ap (λ (r : Reply). r.answer) x.2) ∙ e))))
    (ways b p n two).way)
    (λ t. absurd (refused_not (sym (ap (λ (r : Reply). r.answer) (ask_stranger b p n (ltb-false p 2 t))) ∙ e)))

-- at most half_names names a half
pub record Few (b : Book) : Type 0 where
  pub planners : length b.planner ≤ half_names
  pub contractors : length b.contractor ≤ half_names

few_added : (b : Book) (p : ℕ) (n : Name) → Few b → length (half b p) < half_names → Few (added b p n)
few_added b zero n f h = record { planners = rw (length_more b.planner n) (omega arith); contractors = f.contractors }
few_added b (suc p) n f h = record { planners = f.planners; contractors = rw (length_more b.contractor n) (omega arith) }

pub ask_few : (b : Book) (p : ℕ) (n : Name) → Few b → Few (ask b p n).after
ask_few b p n f = ⊎_elim (λ y. rw y f) (λ y. rw y.3 (few_added b p n f y.2)) (after_is b p n)

pub asks_few : (b : Book) (cs : List Call) → Few b → Few (asks b cs)
unfolding asks
asks_few b [] f = f
asks_few b (c ∷ cs) f = asks_few (ask b c.party c.name).after cs (ask_few b c.party c.name f)

-- a number gives its name back
pub number_name_holds : (b : Book) (n : Name) {k : ℕ} → Few b → number_in b n ≡ Some k → (mark_in b k ≡ 0) × (name_in b k ≡ n)
unfolding mark_in name_in
number_name_holds b n {k} f e =
    where_is b n
    (λ j r. let x = at_same (sym (number_planner b n r) ∙ e) in
    let a : k ≡ place n b.planner = sym x ∙ r.number in
    let l = r.less in
    let m = f.planners in
    let d : k / half_names ≡ 0 = omega arith in
    let q : k % half_names ≡ place n b.planner = omega arith in
    let u : k < table_names = omega arith in
    rw (lt-ltb k table_names u, d, q) (rw (lt-ltb (place n b.planner) (length b.planner) l) (refl, place_name n b.planner l)))
    (λ j r. let x = at_same (sym (number_contractor b n r) ∙ e) in
    let a : k ≡ half_names + place n b.contractor = sym x ∙ r.number in
    let l = r.less in
    let m = f.contractors in
    let d : k / half_names ≡ 1 = omega arith in
    let q : k % half_names ≡ place n b.contractor = omega arith in
    let u : k < table_names = omega arith in
    rw (lt-ltb k table_names u, d, q) (rw (lt-ltb (place n b.contractor) (length b.contractor) l) (refl, place_name n b.contractor l)))
    (λ u v. absurd (at_none (sym e ∙ number_none b n u v)))

-- ---- who is refused

-- 36 exactly if the name is absent and the own half lacks the entry or the bytes
pub refused_if : (b : Book) (p : ℕ) (n : Name) → p < 2 → number_in b n ≡ None → (half_names ≤ length (half b p)) ⊎ (half_bytes < size (half b p) + length n) → (ask b p n).answer ≡ Refused no_room
refused_if b p n two e f =
    ⊎_elim (λ x. absurd (at_none (sym x.1 ∙ e)))
    (⊎_elim (λ x. absurd (⊎_elim (λ y. let a = x.1 in omega arith) (λ y. let a = x.2 in omega arith) f)) (λ x. ap (λ (r : Reply). r.answer) x.2))
    (ways b p n two).way

pub refused_only : (b : Book) (p : ℕ) (n : Name) → p < 2 → (ask b p n).answer ≡ Refused no_room → (number_in b n ≡ None) × ((half_names ≤ length (half b p)) ⊎ (half_bytes < size (half b p) + length n))
refused_only b p n two e =
    ⊎_elim (λ x. absurd (refused_not (sym e ∙ ap (λ (r : Reply). r.answer) x.2)))
    (⊎_elim (λ x. absurd (refused_not (sym e ∙ ap (λ (r : Reply). r.answer) x.3))) (λ x. (x.0, x.1)))
    (ways b p n two).way

-- its half being given, the other's entries can only turn a refusal into an answer: where the other party has entered more, a refusal was one before
pub only_turns : (b c : Book) (p : ℕ) (n : Name) → p < 2 → half b p ≡ half c p
    → (place n (half b (1 - p)) < length (half b (1 - p)) → place n (half c (1 - p)) < length (half c (1 - p)))
    → (ask c p n).answer ≡ Refused no_room → (ask b p n).answer ≡ Refused no_room
only_turns b c p n two e more r =
    let s = refused_only c p n two r in
    refused_if b p n two (absent p two e more s.0) (rw e s.1)
  where
    absent : (q : ℕ) → q < 2 → half b q ≡ half c q
        → (place n (half b (1 - q)) < length (half b (1 - q)) → place n (half c (1 - q)) < length (half c (1 - q))) → number_in c n ≡ None → number_in b n ≡ None
    absent zero h f m z =
        where_is b n
        (λ k r. absurd (at_none (sym (number_planner c n (record { less = rw f at r.less; number = refl })) ∙ z)))
        (λ k r. where_is c n
        (λ j x. absurd (at_none (sym (number_planner c n x) ∙ z)))
        (λ j x. absurd (at_none (sym (number_contractor c n x) ∙ z)))
        (λ u v. let y = m r.less in absurd (omega arith)))
        (λ u v. number_none b n u v)
    absent (suc zero) h f m z =
        where_is b n
        (λ k r. where_is c n
        (λ j x. absurd (at_none (sym (number_planner c n x) ∙ z)))
        (λ j x. absurd (at_none (sym (number_contractor c n x) ∙ z)))
        (λ u v. let y = m r.less in absurd (omega arith)))
        (λ k r. where_is c n
        (λ j x. absurd (at_none (sym (number_planner c n x) ∙ z)))
        (λ j x. absurd (at_none (sym (number_contractor c n x) ∙ z)))
        (λ u v. let y = rw f at r.less in absurd (omega arith)))
        (λ u v. number_none b n u v)
    absent (suc (suc q)) h f m z = absurd (omega arith)
