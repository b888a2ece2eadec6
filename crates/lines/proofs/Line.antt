-- The last line that starts at or before a place, in a list that rises.
use mathlib.Core.Path.{◌≡◌, refl, sym, ◌∙◌}
use mathlib.Core.List.{List, [], ◌∷◌}
use Prim.Native.Nat.{ℕ, zero, suc, ◌+◌, ◌≤◌, ◌<◌}
use native.Mathlib.Omega.{arith}
use native.Mathlib.Numerals.{add-one}
use lib.ListN.{length, get_or}
use borrow.Author.Tests.{eq-eqb, ne_eqb, le-leb, lt-leb}
use Rattle.lines.specs.Starts.{newline, starts_from, starts}
use Rattle.lines.specs.Place.{line_of, Rise, none, some, Search, from}
use Rattle.lines.proofs.Tests.{by_equal}

pub rise_less : {lo lo' : ℕ} {l : List ℕ} → lo' ≤ lo → Rise lo l → Rise lo' l
rise_less h none = none
rise_less {lo' = l} h (some {x = x} a r) = some {lo = l} {x = x} (omega arith) r

-- the starts of a text rise
pub starts_rise : (s : List ℕ) (at : ℕ) → Rise at (starts_from at s)
unfolding starts_from
starts_rise [] at = none
starts_rise (b ∷ s) at = by_equal b newline
    (λ e. rw (eq-eqb b newline e) (some {lo = at} {x = at + 1} (omega arith) (starts_rise s (at + 1))))
    (λ e. rw (ne_eqb b newline e) (rise_less (omega arith) (starts_rise s (at + 1))))

pub starts_search : (s : List ℕ) (p : ℕ) → Search (starts s) p
starts_search s p = from {x = 0} {p = p} (omega arith) (starts_rise s 0)

rise_low : {lo : ℕ} {l : List ℕ} (k : ℕ) → Rise lo l → k < length l → lo < get_or l k 0
rise_low k none h = absurd (omega arith)
rise_low zero (some a r) h = a
rise_low (suc k) (some a r) h = omega (arith, rise_low k r (omega arith))

-- past the place no line is found any more
line_past : (l : List ℕ) (p lo j f : ℕ) → p ≤ lo → Rise lo l → line_of p l j f ≡ f
unfolding line_of
line_past [] p lo j f h r = refl
line_past (x ∷ l) p lo j f h (some a r) = rw (lt-leb x p (let q : p < x = omega arith in q)) (line_past l p x (j + 1) f (omega arith) r)

line_at : (l : List ℕ) (p x k j f : ℕ) → Rise x l → k < length (x ∷ l) → get_or (x ∷ l) k 0 ≤ p → (suc k < length (x ∷ l) → p < get_or (x ∷ l) (suc k) 0)
    → line_of p (x ∷ l) j f ≡ j + k
unfolding line_of
line_at [] p x zero j f r h a b = rw (le-leb x p a) (omega arith)
line_at [] p x (suc k) j f r h a b = absurd (omega arith)
line_at (y ∷ l) p x zero j f (some c r) h a b =
    let past : p < y = b (omega arith) in
    rw (le-leb x p a, lt-leb y p past) (line_past l p y (j + 1 + 1) j (omega arith) r ∙ omega arith)
line_at (y ∷ l) p x (suc k) j f (some c r) h a b =
    let low : x ≤ p = omega (arith, rise_low k (some c r) (omega arith)) in
    rw (le-leb x p low) (line_at l p y k (j + 1) j r (omega arith) a (λ q. b (omega arith)) ∙ omega arith)

pub search_first : {l : List ℕ} {p : ℕ} → Search l p → (1 ≤ length l) × (get_or l 0 0 ≤ p)
search_first (from h r) = (omega arith, h)

pub line_found : (l : List ℕ) (p k : ℕ) → Search l p → k < length l → get_or l k 0 ≤ p → (k + 1 < length l → p < get_or l (k + 1) 0) → k + 1 ≡ line_of p l 1 0
line_found l p k (from {x = x} {l = m} h r) a b c = sym (line_at m p x k 1 0 r a b (λ q. rw (add-one k) at (c (omega arith))) ∙ omega arith)
