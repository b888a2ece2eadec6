-- Bytes laid one after the other are laid together; what is left to lay shrinks from turn to turn of a loop; and what a caller sees of it all.
use Prim.Native.Nat.{ℕ, zero, suc, ◌+◌, ◌-◌, ◌≤◌, ◌<◌, min}
use mathlib.Core.Bool.{Bool, true, false}
use mathlib.Core.List.{List, [], ◌∷◌, ◌++◌, append_assoc}
use mathlib.Core.Path.{◌≡◌, refl, ap, ◌∙◌}
use native.Mathlib.Numerals.{sub-one}
use native.Mathlib.Omega.{arith}
use borrow.Author.Tests.{lt-ltb, le-leb, ltb-true, ltb-false, leb-true}
use lib.Dec.{ltb, leb}
use lib.ListN.{length, set, replicate, length-append, length-set}
use lib.Seq.{set_out, set_at, take-nil, append_snoc}
use Rattle.std.specs.Prelude.{if◌then◌else◌}
use Rattle.laws.proofs.Choice.{if_all, by_bool}
use Rattle.findings_render_parts.specs.Laid.{top, beyond, past, laid, is_marked, letter, marked_byte, marked, Laid, counted, over}

pub marked_append : (q : Bool) (a b : List ℕ) → marked q (a ++ b) ≡ marked q a ++ marked q b
unfolding marked
marked_append q [] b = refl
marked_append q (x ∷ a) b = rw (marked_append q a b, append_assoc (marked_byte q x) (marked q a) (marked q b))

past_append : (at : ℕ) (a b : List ℕ) → past at (a ++ b) ≡ past (past at a) b
unfolding past
past_append at [] b = refl
past_append at (x ∷ a) b = past_append (beyond at) a b

laid_append : (at : ℕ) (a b old : List ℕ) → laid at (a ++ b) old ≡ laid (past at a) b (laid at a old)
unfolding past laid
laid_append at [] b old = refl
laid_append at (x ∷ a) b old = laid_append (beyond at) a b (set old at x)

pub length-laid : (at : ℕ) (bs old : List ℕ) → length (laid at bs old) ≡ length old
unfolding laid
length-laid at [] old = refl
length-laid at (b ∷ bs) old = length-laid (beyond at) bs (set old at b) ∙ length-set old at b

-- ---- a byte

-- the sum stays at the top
pub saturated : (at : ℕ) → at ≤ top → min (at + 1) top ≡ beyond at
unfolding beyond
saturated at h =
    by_bool (ltb at top)
    (λ y. let below = ltb-true at top y in rw y (omega arith))
    (λ n. let last = ltb-false at top n in rw n (omega arith))

pub one_plain : {q : Bool} {b at n : ℕ} {old new : List ℕ} → is_marked q b ≡ false → n ≡ beyond at → new ≡ set old at b → Laid q (b ∷ []) at old n new
unfolding marked_byte marked past laid
one_plain e p m = record { place = rw e p; memory = rw e m }

pub one_marked : {q : Bool} {b at n k : ℕ} {old mid new : List ℕ} → is_marked q b ≡ true → n ≡ beyond at → mid ≡ set old at 0x5C
    → k ≡ beyond n → new ≡ set mid n (letter b) → Laid q (b ∷ []) at old k new
unfolding marked_byte marked past laid
one_marked e p m p2 m2 = record { place = rw e (p2 ∙ ap beyond p); memory = rw e (m2 ∙ rw (m, p)) }

-- ---- a byte some times

pub run_on : (n b : ℕ) → 0 < n → replicate n b ≡ (b ∷ []) ++ replicate (n - 1) b
run_on zero b h = absurd (omega arith)
run_on (suc n) b h = rw (sub-one (suc n))

pub run_end : (n b : ℕ) → n ≤ 0 → replicate n b ≡ []
run_end zero b h = refl
run_end (suc n) b h = absurd (omega arith)

-- ---- one after the other

pub nothing : {q : Bool} {at : ℕ} {old : List ℕ} → Laid q [] at old at old
unfolding marked past laid
nothing = record { place = refl; memory = refl }

pub joined : {q : Bool} {a b : List ℕ} {at m n : ℕ} {old mid new : List ℕ} → Laid q a at old m mid → Laid q b m mid n new → Laid q (a ++ b) at old n new
joined {q} {a} {b} {at} {m} {n} {old} {mid} {new} f s =
    record {
      place = s.place ∙ rw (f.place, marked_append q a b, past_append at (marked q a) (marked q b));
      memory = s.memory ∙ rw (f.memory, f.place, marked_append q a b, laid_append at (marked q a) (marked q b) old);
    }

pub as_laid : {q : Bool} {a b : List ℕ} {at n : ℕ} {old new : List ℕ} → a ≡ b → Laid q a at old n new → Laid q b at old n new
as_laid e l = rw e at l

pub same_room : {q : Bool} {a : List ℕ} {at n : ℕ} {old new : List ℕ} → Laid q a at old n new → length new ≡ length old
same_room {q} {a} {at} {n} {old} l = ap length l.memory ∙ length-laid at (marked q a) old

-- ---- in a loop: what is left to lay, laid now, is the whole laid at first

pub record Left (q : Bool) (bs : List ℕ) (at : ℕ) (out : List ℕ) (bs₀ : List ℕ) (at₀ : ℕ) (out₀ : List ℕ) : Type 0 where
  pub room : length out ≡ length out₀
  pub place : past at (marked q bs) ≡ past at₀ (marked q bs₀)
  pub memory : laid at (marked q bs) out ≡ laid at₀ (marked q bs₀) out₀

pub left_start : {q : Bool} {bs : List ℕ} {at : ℕ} {out : List ℕ} → Left q bs at out bs at out
left_start = record { room = refl; place = refl; memory = refl }

pub left_on : {q : Bool} {bs a b : List ℕ} {at at₀ n : ℕ} {out bs₀ out₀ new : List ℕ}
    → Left q bs at out bs₀ at₀ out₀ → bs ≡ a ++ b → Laid q a at out n new → Left q b n new bs₀ at₀ out₀
left_on {q} {bs} {a} {b} {at} {at₀} {n} {out} {bs₀} {out₀} {new} l e s =
    record {
      room = same_room s ∙ l.room;
      place = rw (s.place, ← past_append at (marked q a) (marked q b), ← marked_append q a b, ← e) l.place;
      memory = rw (s.memory, s.place, ← laid_append at (marked q a) (marked q b) out, ← marked_append q a b, ← e) l.memory;
    }

pub left_end : {q : Bool} {bs : List ℕ} {at at₀ : ℕ} {out bs₀ out₀ : List ℕ} → Left q bs at out bs₀ at₀ out₀ → bs ≡ [] → Laid q bs₀ at₀ out₀ at out
unfolding marked past laid
left_end l e = record { place = (rw e at l.place); memory = (rw e at l.memory) }

-- ---- what a caller sees

-- counting from a place on
past_is : (at : ℕ) (bs : List ℕ) → at ≤ top → past at bs ≡ (if leb (at + length bs) top then at + length bs else top)
unfolding past beyond
past_is at [] h = let e : at + 0 ≡ at = omega arith in rw (e, le-leb at top h)
past_is at (b ∷ bs) h =
    by_bool (ltb at top)
    (λ y. let below = ltb-true at top y in
    let e : at + 1 + length bs ≡ at + suc (length bs) = omega arith in
    rw y (rw e at (past_is (at + 1) bs (omega arith))))
    (λ n. let last = ltb-false at top n in
    rw (n, past_is at bs h, last_one at (length bs) (omega arith), last_one at (suc (length bs)) (omega arith)))
  where
    last_one : (at n : ℕ) → at ≡ top → (if leb (at + n) top then at + n else top) ≡ top
    last_one at n e =
        by_bool (leb (at + n) top) (λ y. let f = leb-true (at + n) top y in rw y (omega arith)) (λ n'. rw n')

-- past the memory's end nothing is written
laid_out : (at : ℕ) (bs old : List ℕ) → length old ≤ at → laid at bs old ≡ old
unfolding laid beyond
laid_out at [] old h = refl
laid_out at (b ∷ bs) old h =
    rw (set_out old at b h) (laid_out (beyond at) bs old (if_all (λ (n : ℕ). length old ≤ n) (ltb at top) (omega arith) h))

laid_is : (p bs old : List ℕ) → length (p ++ old) ≤ top → laid (length p) bs (p ++ old) ≡ p ++ over bs old
unfolding laid over beyond
laid_is p [] old h = rw (take-nil (length old))
laid_is p (b ∷ bs) [] h = rw (set_out (p ++ []) (length p) b (omega (arith, length-append p []))) (laid_out (beyond (length p)) bs (p ++ [])
    (if_all (λ (n : ℕ). length (p ++ []) ≤ n) (ltb (length p) top) (omega (arith, length-append p [])) (omega (arith, length-append p []))))
laid_is p (b ∷ bs) (x ∷ old) h =
    let room : length p < top = omega (arith, length-append p (x ∷ old)) in
    let far : length p + 1 ≡ length (p ++ (b ∷ [])) = omega (arith, length-append p (b ∷ [])) in
    let fit : length ((p ++ (b ∷ [])) ++ old) ≤ top = omega (arith, length-append p (x ∷ old), length-append (p ++ (b ∷ [])) old) in
    rw (lt-ltb (length p) top room, set_at p x old b (length p) refl, far, ← append_snoc p b old)
    (laid_is (p ++ (b ∷ [])) bs old fit ∙ append_assoc p (b ∷ []) (over bs old))

pub unquoted : (bs : List ℕ) → marked false bs ≡ bs
unfolding marked marked_byte is_marked
unquoted [] = refl
unquoted (b ∷ bs) = rw (unquoted bs)

-- what was quoted, as bytes
pub as_quoted : {q : Bool} {bs : List ℕ} {at n : ℕ} {old new : List ℕ} → Laid q bs at old n new → Laid false (marked q bs) at old n new
as_quoted {q} {bs} l = record { place = rw (unquoted (marked q bs)) l.place; memory = rw (unquoted (marked q bs)) l.memory }

pub whole : {bs : List ℕ} {n : ℕ} {old new : List ℕ} → length old ≤ top → Laid false bs 0 old n new → (n ≡ counted bs) × (new ≡ over bs old)
unfolding counted
whole {bs} {n} {old} fit l =
    let e : 0 + length bs ≡ length bs = omega arith in
    (l.place ∙ rw (unquoted bs) (past_is 0 bs (omega arith) ∙ rw e), l.memory ∙ rw (unquoted bs) (laid_is [] bs old fit))
