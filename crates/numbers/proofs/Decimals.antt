-- A decimal from a place on: its exponent, its suffix, its digits before and after the dot.
use Rattle.std.proofs.Common.{None, Option, Some}
use Rattle.numbers.specs.declared.Real.{Real}
use Rattle.numbers.specs.declared.Exponent.{Exponent}
use Rattle.numbers.specs.declared.Real.TheVariants.{Decimal}
use Rattle.numbers.specs.declared.Suffix.{Suffix}
use Rattle.numbers.specs.declared.Suffix.TheVariants.{Empty, Marked, Bad}
use Rattle.numbers.specs.Reals.{exponent_marker, exponent, suffix, point_of, dotted, undotted, decimal}
use Rattle.laws.specs.Quoted.{code}
use Rattle.laws.specs.Texts.{starts}
use Rattle.laws.proofs.Places.{past, here, cut_at, cut_after}
use Rattle.digits.specs.declared.Span.{Span}
use Rattle.digits.specs.Digits.{digits, sign, uinteger}
use Rattle.digits.proofs.Digits.{uinteger_in}
use Prim.Native.Nat.{ℕ, ◌+◌, ◌-◌, ◌≤◌, ◌<◌}
use mathlib.Core.Path.{◌≡◌, ap}
use mathlib.Core.Bool.{Bool, true, false}
use mathlib.Core.List.{List}
use lib.ListN.{length, get_or, drop}
use lib.Dec.{eqb}
use native.Mathlib.Omega.{arith}
use borrow.Author.Tests.{eq-eqb, ne_eqb}

-- <exponent marker>
module _ (c : ℕ) where
  pub marker_lower : c ≡ code "e" → true ≡ exponent_marker c
  unfolding exponent_marker
  marker_lower e = rw e

  pub marker_upper : (c ≡ code "e" → ⊥) → eqb c (code "E") ≡ exponent_marker c
  unfolding exponent_marker
  marker_upper n = simp (ne_eqb c (code "e") n)

-- the exponent after its marker
module _ (t : List ℕ) (p : ℕ) (neg : Bool) (a : ℕ) (n : neg ≡ starts (code "-") (drop p t)) (e : a ≡ p + sign (drop p t)) where
  pub exponent_yes : true ≡ uinteger 10 (drop a t)
      → Marked (record { negative = neg; digits = record { start = a; end = length t } }) ≡ exponent p (drop p t)
  unfolding exponent
  exponent_yes u =
      simp (← cut_at t p (sign (drop p t)) a e, ← u, ← e, ← n)
      (ap (λ (x : ℕ). Marked (record { negative = neg; digits = record { start = a; end = x } })) (uinteger_in 10 t a u))

  pub exponent_no : false ≡ uinteger 10 (drop a t) → Bad ≡ exponent p (drop p t)
  unfolding exponent
  exponent_no u = simp (← cut_at t p (sign (drop p t)) a e, ← u)

module _ (t : List ℕ) (p : ℕ) where
  pub suffix_past : length t ≤ p → Empty ≡ suffix p (drop p t)
  unfolding suffix
  suffix_past h = simp (past t p h)

  pub suffix_marked : (x : Suffix) → p < length t → true ≡ exponent_marker (get_or t p 0) → x ≡ exponent (p + 1) (drop (p + 1) t)
      → x ≡ suffix p (drop p t)
  unfolding suffix
  suffix_marked x h m e = simp (here t p h, ← m) e

  pub suffix_bad : p < length t → false ≡ exponent_marker (get_or t p 0) → Bad ≡ suffix p (drop p t)
  unfolding suffix
  suffix_bad h m = simp (here t p h, ← m)

-- a decimal of its parts
module _ (neg : Bool) (w f : Span) (x : Suffix) where
  pub point_empty : x ≡ Empty
      → Some (Decimal (record {
        negative =
            neg;
        whole = w;
        fraction = f;
        exponent = record { negative = false; digits = record { start = f.end; end = f.end } };
      })) ≡ point_of neg w f x
  unfolding point_of
  point_empty e = rw e

  pub point_marked : (d : Exponent) → x ≡ Marked d
      → Some (Decimal (record { negative = neg; whole = w; fraction = f; exponent = d })) ≡ point_of neg w f x
  unfolding point_of
  point_marked d e = rw e

  pub point_bad : x ≡ Bad → None ≡ point_of neg w f x
  unfolding point_of
  point_bad e = rw e

upto : (a b : ℕ) → a ≤ b → a + (b - a) ≡ b
upto a b h = omega arith

-- without a dot, the digits from a to b
module _ (neg : Bool) (a b : ℕ) (x : Suffix) where
  pub undotted_empty : x ≡ Empty → None ≡ undotted neg a (b - a) x
  unfolding undotted
  undotted_empty e = rw e

  pub undotted_bad : x ≡ Bad → None ≡ undotted neg a (b - a) x
  unfolding undotted
  undotted_bad e = rw e

  module _ (d : Exponent) (e : x ≡ Marked d) where
    pub undotted_none : a ≡ b → None ≡ undotted neg a (b - a) x
    unfolding undotted
    undotted_none h = simp (e, eq-eqb (b - a) 0 (omega arith))

    pub undotted_some : (r : Option Real) → (a ≡ b → ⊥) → a ≤ b → r ≡ point_of neg (record { start = a; end = b }) (record { start = b; end = b }) x
        → r ≡ undotted neg a (b - a) x
    unfolding undotted
    undotted_some r k h z = simp (e, ne_eqb (b - a) 0 (λ q. k (omega arith)), upto a b h) (rw e at z)

-- with a dot before q, the digits from a to b before it and from q to e after it
module _ (neg : Bool) (t : List ℕ) (a b q e : ℕ) (l : a ≤ b) (h : e ≡ q + digits 10 (drop q t)) where
  pub dotted_none : a ≡ b → q ≡ e → None ≡ dotted neg a (b - a) q (drop q t)
  unfolding dotted
  dotted_none f g = simp (eq-eqb (b - a + digits 10 (drop q t)) 0 (omega arith))

  module _ (r : Option Real) (x : Suffix) (i : x ≡ suffix e (drop e t)) (z : r ≡ point_of neg (record {
    start =
        a;
    end = b;
  }) (record { start = q; end = e }) x) where
    dotted_some : (b - a + digits 10 (drop q t) ≡ 0 → ⊥) → r ≡ dotted neg a (b - a) q (drop q t)
    unfolding dotted
    dotted_some n = simp (ne_eqb (b - a + digits 10 (drop q t)) 0 n, upto a b l, ← h, ← cut_at t q (digits 10 (drop q t)) e h, ← i) z

    pub dotted_fraction : (q ≡ e → ⊥) → r ≡ dotted neg a (b - a) q (drop q t)
    dotted_fraction n = dotted_some (λ g. n (omega arith))

    pub dotted_whole : (a ≡ b → ⊥) → r ≡ dotted neg a (b - a) q (drop q t)
    dotted_whole n = dotted_some (λ g. n (omega arith))

module _ (neg : Bool) (t : List ℕ) (p a : ℕ) (e : a ≡ p + digits 10 (drop p t)) (r : Option Real) where
  pub decimal_dot : true ≡ starts (code ".") (drop a t) → r ≡ dotted neg p (a - p) (a + 1) (drop (a + 1) t) → r ≡ decimal neg p (drop p t)
  unfolding decimal
  decimal_dot u z =
      let w : a - p ≡ digits 10 (drop p t) = omega arith in
      simp (← cut_at t p (digits 10 (drop p t)) a e, ← u) (cc (cut_after t p (digits 10 (drop p t)) a e))

  pub decimal_no : (x : Suffix) → false ≡ starts (code ".") (drop a t) → x ≡ suffix a (drop a t) → r ≡ undotted neg p (a - p) x
      → r ≡ decimal neg p (drop p t)
  unfolding decimal
  decimal_no x u i z =
      let w : a - p ≡ digits 10 (drop p t) = omega arith in
      simp (← cut_at t p (digits 10 (drop p t)) a e, ← u) (cc)
