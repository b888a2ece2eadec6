-- A here-string's delimiter: one turn of the loops over its line, and the parts of the item that they are called with.
use Prim.Native.Nat.{ℕ, zero, suc, ◌+◌, ◌-◌, ◌≤◌, ◌<◌}
use mathlib.Core.Path.{◌≡◌, refl, sym, ap, ◌∙◌}
use mathlib.Core.Bool.{Bool, true, false, not}
use mathlib.Core.List.{List, [], ◌∷◌}
use lib.ListN.{length, get_or, take, drop, length-drop}
use lib.Seq.{drop-drop, length-take-le}
use lib.Dec.{eqb, ltb}
use native.Mathlib.Omega.{arith}
use Rattle.std.specs.List.{position_or_len}
use borrow.Author.Tests.{eqb-false, lt-ltb, le-ltb, ltb-false, eq-eqb, ne_eqb}
use Rattle.laws.specs.Quoted.{code}
use Rattle.laws.specs.Texts.{span, before, begins}
use Rattle.laws.proofs.Choice.{by_bool, and_true, yes_no, no_yes}
use Rattle.laws.proofs.Places.{past, here, drop-take}
use Rattle.laws.proofs.Lent.{part_rest}
use Rattle.chars.specs.Walk.{Walk, stays, goes}
use Rattle.chars.proofs.Chars.{CharAt, char_at}
use Rattle.items.specs.declared.Phase.TheVariants.{HereBody}
use Rattle.items.specs.Readers.{unreturned, line_of, after_line, ends_with, here_inside, here_ends}
use Rattle.steps.specs.Here.{HereLine}
use Rattle.steps.specs.Scan.{part, answer, PassesFor}
use Rattle.steps.proofs.Turn.{turn_eat}

module _ (l : List ℕ) (i : ℕ) where
  pub unreturned_skip : i < length l → get_or l i 0 ≡ code "\r" → unreturned (drop i l) ≡ unreturned (drop (i + 1) l)
  unfolding unreturned
  unreturned_skip h e = rw (here l i h) (rw (eq-eqb _ _ e))

  pub unreturned_keep : i < length l → (get_or l i 0 ≡ code "\r" → ⊥) → unreturned (drop i l) ≡ get_or l i 0 ∷ unreturned (drop (i + 1) l)
  unfolding unreturned
  unreturned_keep h e = rw (here l i h) (rw (ne_eqb _ _ e))

  pub unreturned_end : length l ≤ i → unreturned (drop i l) ≡ []
  unfolding unreturned
  unreturned_end h = rw (past l i h)

-- comparing on
module _ (l s : List ℕ) (i j : ℕ) where
  pub line_short : i < length l → (get_or l i 0 ≡ code "\r" → ⊥) → length s ≤ j → begins (unreturned (drop i l)) (drop j s) ≡ false
  unfolding begins
  line_short h e k = rw (unreturned_keep l i h e, past s j k)

  pub line_differ : i < length l → (get_or l i 0 ≡ code "\r" → ⊥) → j < length s → (get_or l i 0 ≡ get_or s j 0 → ⊥)
      → begins (unreturned (drop i l)) (drop j s) ≡ false
  unfolding begins
  line_differ h e k d = rw (unreturned_keep l i h e, here s j k) (rw (ne_eqb _ _ d))

  pub line_more : i < length l → (get_or l i 0 ≡ code "\r" → ⊥) → j < length s → get_or l i 0 ≡ get_or s j 0
      → begins (unreturned (drop i l)) (drop j s) ≡ begins (unreturned (drop (i + 1) l)) (drop (j + 1) s)
  unfolding begins
  line_more h e k d = rw (unreturned_keep l i h e, here s j k) (rw (eq-eqb _ _ d))

  pub line_all : length l ≤ i → begins (unreturned (drop i l)) (drop j s) ≡ true
  unfolding begins
  line_all h = rw (unreturned_end l i h)

-- counting on
module _ (l : List ℕ) (i n : ℕ) where
  pub count_on_lem : i < length l → (get_or l i 0 ≡ code "\r" → ⊥)
      → n + length (unreturned (drop i l)) ≡ (n + 1) + length (unreturned (drop (i + 1) l))
  count_on_lem h e = rw (unreturned_keep l i h e) (omega arith)

  pub count_end : length l ≤ i → n + length (unreturned (drop i l)) ≡ n
  count_end h = rw (unreturned_end l i h) (omega arith)

module _ (d body : List ℕ) (n : ℕ) (e : n ≡ length d) where
  pub ends_short : length body < n → ends_with d body ≡ false
  unfolding ends_with
  ends_short h = rw (lt-ltb (length body) (length d) (omega arith))

  pub ends_on : {x : Bool} → n ≤ length body
      → x ≡ begins d (take (length body - (length body - n)) (drop (length body - n) body)) → x ≡ ends_with d body
  unfolding ends_with
  ends_on h q = rw (le-ltb (length body) (length d) (omega arith), ← e) (q ∙ ap (begins d) (part_rest body (length body - n)))

-- an item that is shorter than `#<<`
module _ (raw : List ℕ) (h : length raw < 3) where
  nothing : here_inside raw ≡ []
  nothing = past raw 3 (omega arith)

  pub here_short : here_ends raw ≡ true
  unfolding here_ends ends_with unreturned begins span
  here_short = rw nothing

  pub line_none : 0 ≡ length (line_of (here_inside raw))
  unfolding unreturned span
  line_none = rw nothing

-- an item whose line ends at the place k
module _ (raw : List ℕ) (k : ℕ) (e : k ≡ 3 + before (code "\n") (here_inside raw)) where
  line_at : take (k - 3) (drop 3 raw) ≡ take (before (code "\n") (here_inside raw)) (here_inside raw)
  line_at = let n : k - 3 ≡ before (code "\n") (here_inside raw) = omega arith in rw n

  pub line_length : {n : ℕ} → n ≡ length (unreturned (take (k - 3) (drop 3 raw))) → n ≡ length (line_of (here_inside raw))
  line_length q = q ∙ rw line_at

  pub here_in : {x : Bool}
      → x ≡ ends_with (unreturned (take (k - 3) (drop 3 raw))) (take (length raw - (k + 1)) (drop (k + 1) raw)) → x ≡ here_ends raw
  unfolding here_ends
  here_in q =
      let m = before (code "\n") (here_inside raw) in
      let p : k + 1 ≡ 3 + (m + 1) = omega arith in
      let r : drop (k + 1) raw ≡ drop (m + 1) (drop 3 raw) = ap (λ (i : ℕ). drop i raw) p ∙ sym (drop-drop (m + 1) 3 raw) in
      q ∙ rw (part_rest raw (k + 1), r, line_at)

  pub here_out : {x : Bool} → length raw ≤ k
      → x ≡ ends_with (unreturned (take (k - 3) (drop 3 raw))) (take (length raw - k) (drop k raw)) → x ≡ here_ends raw
  unfolding here_ends
  here_out g q =
      let m = before (code "\n") (here_inside raw) in
      let u : length (drop 3 raw) ≤ m + 1 = omega (arith, length-drop 3 raw) in
      let r : drop (m + 1) (drop 3 raw) ≡ [] = past (drop 3 raw) (m + 1) u in
      q ∙ rw (part_rest raw k, past raw k g, r, line_at)

-- ---- the here-string from a on in the text s, its newline at k

cut-span : (f : ℕ → Bool) (x : List ℕ) (j : ℕ) → span f x < j → span f (take j x) ≡ span f x
unfolding span
cut-span f [] zero h = refl
cut-span f [] (suc j) h = refl
cut-span f (c ∷ x) zero h = absurd (omega arith)
cut-span f (c ∷ x) (suc j) h =
    by_bool (f c) (λ e. let l : suc (span f x) < suc j = rw e at h in rw e (ap suc (cut-span f x j (omega arith)))) (λ e. rw e)

cut_twice : (b j : ℕ) (x : List ℕ) → b ≤ j → take b (take j x) ≡ take b x
cut_twice zero j x h = refl
cut_twice (suc b) zero x h = absurd (omega arith)
cut_twice (suc b) (suc j) [] h = refl
cut_twice (suc b) (suc j) (c ∷ x) h = ap (λ (l : List ℕ). c ∷ l) (cut_twice b j x (omega arith))

module _ (s : List ℕ) (a at k : ℕ) (e : HereLine s a k) (l : k < at) where
  abbrev rest : List ℕ
  rest = drop (a + 3) s

  abbrev size : ℕ
  size = before (code "\n") rest

  abbrev room : ℕ
  room = at - (a + 3)

  inside_at : drop 3 (part s a at) ≡ take room rest
  inside_at =
      let q : at - a ≡ 3 + room = omega arith in
      rw q (drop-take 3 room (drop a s) ∙ ap (take room) (drop-drop 3 a s))

  newline_at : before (code "\n") (take room rest) ≡ size
  newline_at = let h : size < room = omega arith in cut-span (λ c. not (eqb c (code "\n"))) rest room h

  lines : take (before (code "\n") (take room rest)) (take room rest) ≡ part s (a + 3) k
  lines =
      let h : size ≤ room = omega arith in
      let q : size ≡ k - (a + 3) = omega arith in
      ap (λ (i : ℕ). take i (take room rest)) newline_at ∙ cut_twice size room rest h ∙ ap (λ (i : ℕ). take i rest) q

  bodies : drop (before (code "\n") (take room rest) + 1) (take room rest) ≡ part s (k + 1) at
  bodies =
      let q : room ≡ size + 1 + (at - (k + 1)) = omega arith in
      let r : a + 3 + (size + 1) ≡ k + 1 = omega arith in
      ap (λ (i : ℕ). drop (i + 1) (take room rest)) newline_at ∙ ap (λ (i : ℕ). drop (size + 1) (take i rest)) q
      ∙ drop-take (size + 1) (at - (k + 1)) rest ∙ ap (take (at - (k + 1))) (drop-drop (size + 1) (a + 3) s ∙ ap (λ (i : ℕ). drop i s) r)

  here_at : here_ends (part s a at) ≡ ends_with (unreturned (part s (a + 3) k)) (part s (k + 1) at)
  unfolding here_ends
  here_at =
      ap (λ (y : List ℕ). ends_with (line_of y) (after_line y)) inside_at
      ∙ ap (λ (y : List ℕ). ends_with (unreturned y) (after_line (take room rest))) lines
      ∙ ap (ends_with (unreturned (part s (a + 3) k))) bodies

  -- where the body does not end with the delimiter, a character of it is passed
  pub body_on : {x : Bool} → x ≡ ends_with (unreturned (part s (a + 3) k)) (part s (k + 1) at) → x ≡ false
      → (c next : ℕ) → CharAt s at c next → (report : Bool) → answer s report a HereBody at ≡ answer s report a HereBody next
  body_on q f c next i report =
      let h : here_ends (part s a at) ≡ false = here_at ∙ sym q ∙ f in
      turn_eat s report a HereBody at c next i HereBody (omega arith) (rw h refl)

-- ---- up to a place before which the body does not end

begins_uncut : (d t : List ℕ) (n : ℕ) → begins d (take n t) ≡ true → begins d t ≡ true
unfolding begins
begins_uncut [] t n e = refl
begins_uncut (x ∷ d) t zero e = no_yes e
begins_uncut (x ∷ d) [] (suc n) e = no_yes e
begins_uncut (x ∷ d) (y ∷ t) (suc n) e =
    let b = and_true (eqb x y) (begins d (take n t)) e in
    rw b.0 (begins_uncut d t n b.1)

-- where no delimiter begins that would end at a place, the body does not end there
pub no_end : (s d : List ℕ) (b at : ℕ) → b ≤ at → at ≤ length s → ((i : ℕ) → b ≤ i → i + length d ≡ at → begins d (drop i s) ≡ false)
    → ends_with d (part s b at) ≡ false
unfolding ends_with
no_end s d b at l h f =
    let n = length d in
    let long : length (part s b at) ≡ at - b = length-take-le (at - b) (drop b s) (omega (arith, length-drop b s)) in
    by_bool (ltb (length (part s b at)) n)
    (λ e. rw e)
    (λ e. let m = ltb-false (length (part s b at)) n e in
    let p = length (part s b at) - n in
    let q : at - b ≡ p + n = omega (arith, long, m) in
    let i : b + p ≡ at - n = omega (arith, long, m) in
    let cut : drop p (part s b at) ≡ take n (drop (at - n) s) =
    ap (λ (k : ℕ). drop p (take k (drop b s))) q ∙ drop-take p n (drop b s) ∙ ap (take n) (drop-drop p b s ∙ ap (λ (k : ℕ). drop k s) i) in
    rw e (by_bool (begins d (drop p (part s b at)))
    (λ y. yes_no (sym (begins_uncut d (drop (at - n) s) n (ap (begins d) (sym cut) ∙ y)) ∙ f (at - n) (omega (arith, i)) (omega (arith, long, m))))
    (λ y. y)))

-- so characters up to such a place are passed
pub passes_walk : (s : List ℕ) (a k from e r : ℕ) → HereLine s a k → k < from → from ≤ length s
    → ((at : ℕ) → from ≤ at → at < e → ends_with (unreturned (part s (a + 3) k)) (part s (k + 1) at) ≡ false)
    → Walk s e from r → PassesFor s a HereBody from r
passes_walk s a k from e r line l h none stays = (omega arith, h, λ report. refl)
passes_walk s a k from e r line l h none (goes {m} {n} {c} w less f) =
    let y = passes_walk s a k from e m line l h none w in
    let q = char_at s m c (m + n) (rw f) y.1 in (
      omega (arith, y.0),
      q.inside,
      λ report. y.2 report ∙ body_on s a m k line (omega (arith, y.0)) (sym (none m y.0 less)) refl c (m + n) q report,
    )

-- where a line's first byte stands that is no carriage return
pub first_kept : (l : List ℕ) → (position_or_len (λ (b : ℕ). not (eqb b (code "\r"))) l ≤ length l)
    × (unreturned (drop (position_or_len (λ (b : ℕ). not (eqb b (code "\r"))) l) l) ≡ unreturned l)
    × (position_or_len (λ (b : ℕ). not (eqb b (code "\r"))) l < length l
    → get_or l (position_or_len (λ (b : ℕ). not (eqb b (code "\r"))) l) 0 ≡ code "\r" → ⊥)
unfolding unreturned
first_kept [] = (omega arith, refl, λ h. absurd (omega arith))
first_kept (c ∷ t) =
    let k = first_kept t in
    let n = position_or_len (λ (b : ℕ). not (eqb b (code "\r"))) t in
    let up : 1 + n ≡ suc n = omega arith in
    by_bool (eqb c (code "\r"))
    (λ e. rw e (rw up (omega (arith, k.0), k.1, λ h. k.2 (omega (arith, h)))))
    (λ e. rw e (omega arith, rw e, λ h q. eqb-false c (code "\r") e q))
