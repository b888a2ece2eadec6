-- Runs of characters over joined lists: tests that all characters pass, digits, and cuts before a character.
use mathlib.Core.Bool.{Bool, false, not, true}
use mathlib.Core.List.{List, [], ◌++◌, ◌∷◌}
use Prim.Native.Nat.{◌+◌, ◌<◌, ◌≤◌, suc, ℕ}
use mathlib.Core.Path.{◌∙◌, ◌≡◌, ap, refl, sym}
use native.Mathlib.Numerals.{add-one}
use native.Mathlib.Nat.{add-zero, zero-add}
use native.Mathlib.Omega.{arith}
use lib.ListN.{drop, length, take}
use borrow.Author.Tests.{eq-eqb, eqb-true, le-ltb, lt-ltb, ltb-true}
use lib.Dec.{eqb, ltb}
use Rattle.laws.specs.Texts.{before, span}
use Rattle.laws.proofs.Choice.{by_bool, yes_no}
use Rattle.digits.specs.Digits.{digit_of, digits, uinteger}
use Rattle.std.specs.Prelude.{if◌then◌else◌}
use Rattle.numbers_difference.specs.Productions.{Digits, UInteger}

-- every character passes the test
unfoldable pub all : (ℕ → Bool) → List ℕ → Bool
all f [] = true
all f (c ∷ s) = if f c then all f s else false

pub all_head : (f : ℕ → Bool) (c : ℕ) (s : List ℕ) → all f (c ∷ s) ≡ true → f c ≡ true
unfolding all
all_head f c s h = by_bool (f c) (λ e. e) (λ e. yes_no (sym (rw e at h)))

pub all_tail : (f : ℕ → Bool) (c : ℕ) (s : List ℕ) → all f (c ∷ s) ≡ true → all f s ≡ true
unfolding all
all_tail f c s h = rw (all_head f c s h) at h

pub all_cons : (f : ℕ → Bool) (c : ℕ) (s : List ℕ) → f c ≡ true → all f s ≡ true → all f (c ∷ s) ≡ true
unfolding all
all_cons f c s e h = rw e h

pub all_append : (f : ℕ → Bool) (a b : List ℕ) → all f a ≡ true → all f b ≡ true → all f (a ++ b) ≡ true
all_append f [] b h k = k
all_append f (c ∷ a) b h k = all_cons f c (a ++ b) (all_head f c a h) (all_append f a b (all_tail f c a h) k)

pub all_imp : (f g : ℕ → Bool) → ((c : ℕ) → f c ≡ true → g c ≡ true) → (a : List ℕ) → all f a ≡ true → all g a ≡ true
unfolding all
all_imp f g i [] h = refl
all_imp f g i (c ∷ a) h = all_cons g c a (i c (all_head f c a h)) (all_imp f g i a (all_tail f c a h))

pub span-all : (f : ℕ → Bool) (a b : List ℕ) → all f a ≡ true → span f (a ++ b) ≡ length a + span f b
unfolding span
span-all f [] b h = sym (zero-add (span f b))
span-all f (c ∷ a) b h = rw (all_head f c a h) (ap suc (span-all f a b (all_tail f c a h)) ∙ omega arith)

pub span_stop : (f : ℕ → Bool) (c : ℕ) (s : List ℕ) → f c ≡ false → span f (c ∷ s) ≡ 0
unfolding span
span_stop f c s e = rw e

pub span_at_lem : (f : ℕ → Bool) (a : List ℕ) (c : ℕ) (b : List ℕ) → all f a ≡ true → f c ≡ false → span f (a ++ c ∷ b) ≡ length a
span_at_lem f a c b h e = span-all f a (c ∷ b) h ∙ ap (λ (n : ℕ). length a + n) (span_stop f c b e) ∙ add-zero (length a)

pub span_whole : (f : ℕ → Bool) (a : List ℕ) → all f a ≡ true → span f a ≡ length a
unfolding span
span_whole f [] h = refl
span_whole f (c ∷ a) h = rw (all_head f c a h) (ap suc (span_whole f a (all_tail f c a h)))

-- what a run is, and what stands after it
pub span_is : (f : ℕ → Bool) (s : List ℕ) → all f (take (span f s) s) ≡ true
unfolding span all
span_is f [] = refl
span_is f (c ∷ s) = by_bool (f c) (λ e. rw e (all_cons f c (take (span f s) s) e (span_is f s))) (λ e. rw e)

pub before_split : (b : ℕ) (s : List ℕ) → ltb (before b s) (length s) ≡ true → s ≡ take (before b s) s ++ b ∷ drop (before b s + 1) s
unfolding span
before_split b [] h = yes_no (sym h)
before_split b (c ∷ s) h =
    by_bool (eqb c b)
    (λ e. rw e (ap (λ (x : ℕ). x ∷ s) (eqb-true c b e)))
    (λ e. rw (e, add-one (suc (before b s))) (ap (λ (x : List ℕ). c ∷ x) (before_split b s (go (rw e at h)) ∙ ap (λ (n : ℕ). take (before b s) s ++ b ∷ drop n s) (add-one (before b s)))))
  where
    go : ltb (suc (before b s)) (suc (length s)) ≡ true → ltb (before b s) (length s) ≡ true
    go k = lt-ltb (before b s) (length s) (omega (arith, ltb-true (suc (before b s)) (suc (length s)) k))

pub before_none : (b : ℕ) (s : List ℕ) → all (λ c. not (eqb c b)) s ≡ true → ltb (before b s) (length s) ≡ false
before_none b s h = le-ltb (before b s) (length s) (rw (span_whole (λ c. not (eqb c b)) s h) (omega arith))

pub before_here : (b : ℕ) (s t : List ℕ) → all (λ c. not (eqb c b)) s ≡ true → before b (s ++ b ∷ t) ≡ length s
before_here b s t h = span_at_lem (λ c. not (eqb c b)) s b t h (ap not (eq-eqb b b refl))

-- a digit is none of the characters that are no digits
pub digit_differs : (R c x : ℕ) → digit_of c < R → R ≤ digit_of x → c ≡ x → ⊥
digit_differs R c x h k e = let z : digit_of c ≡ digit_of x = ap digit_of e in omega arith

-- <digit R>* and <uinteger R> as tests
abbrev pub is_a_digit : ℕ → ℕ → Bool
is_a_digit R c = ltb (digit_of c) R

pub digits-all : {R : ℕ} {s : List ℕ} → Digits R s → all (is_a_digit R) s ≡ true
unfolding all
digits-all Digits.none = refl
digits-all {R} (Digits.more {c = c} h d) = rw (lt-ltb (digit_of c) R h) (digits-all d)

pub all_digits : (R : ℕ) (s : List ℕ) → all (is_a_digit R) s ≡ true → Digits R s
all_digits R [] h = Digits.none
all_digits R (c ∷ s) h = Digits.more (ltb-true (digit_of c) R (all_head (is_a_digit R) c s h)) (all_digits R s (all_tail (is_a_digit R) c s h))

pub uint_digits : {R : ℕ} {s : List ℕ} → UInteger R s → Digits R s
uint_digits (UInteger.uint h d) = Digits.more h d

uint_all : {R : ℕ} {s : List ℕ} → UInteger R s → all (is_a_digit R) s ≡ true
uint_all u = digits-all (uint_digits u)

pub uint_pos : {R : ℕ} {s : List ℕ} → UInteger R s → 0 < length s
uint_pos (UInteger.uint {s = s} h d) = omega arith

pub uint_test : {R : ℕ} {s : List ℕ} → UInteger R s → uinteger R s ≡ true
unfolding uinteger
uint_test {R} {s} u = rw (lt-ltb 0 (length s) (uint_pos u)) (eq-eqb (digits R s) (length s) (span_whole (is_a_digit R) s (uint_all u)))

pub span_full : (f : ℕ → Bool) (s : List ℕ) → span f s ≡ length s → all f s ≡ true
unfolding span all
span_full f [] e = refl
span_full f (c ∷ s) e = by_bool (f c) (λ h. rw h (span_full f s (omega (arith, rw h at e)))) (λ h. absurd (omega (arith, rw h at e)))

pub test_uint : (R : ℕ) (s : List ℕ) → uinteger R s ≡ true → UInteger R s
unfolding uinteger
test_uint R [] h = yes_no (sym h)
test_uint R (c ∷ s) h =
    let k : all (is_a_digit R) (c ∷ s) ≡ true = span_full (is_a_digit R) (c ∷ s) (eqb-true (digits R (c ∷ s)) (suc (length s)) (rw (lt-ltb 0 (suc (length s)) (omega arith)) at h)) in
    UInteger.uint (ltb-true (digit_of c) R (all_head (is_a_digit R) c s k)) (all_digits R s (all_tail (is_a_digit R) c s k))

-- a run of digits that ends before x
pub digits_end : {R : ℕ} {d : List ℕ} (x : List ℕ) → Digits R d → digits R x ≡ 0 → digits R (d ++ x) ≡ length d
digits_end {R} {d} x h e = span-all (is_a_digit R) d x (digits-all h) ∙ ap (λ (n : ℕ). length d + n) e ∙ add-zero (length d)
