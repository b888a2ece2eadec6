-- The exponent less the count of fraction digits, by the cases that the code tells apart.
use Rattle.std.proofs.Common.{◌≡◌, ℕ, zero, suc, ◌+◌, ◌-◌, ◌^◌, ◌<◌, ◌≤◌, Bool, true, false, pos, negsuc, ◌-ℤ◌, neg_ℤ, sym, refl, ap, ◌∙◌, add-zero, add-suc, suc-add, zero-add, arith, le-ltb, lt-ltb}
use Rattle.digits.specs.Digits.{signed}
use Rattle.coordinates.specs.Coordinate.{scaled, outside}
use Rattle.coordinates.proofs.Floats.{up_out, down_out}

pub less_down : (e f : ℕ) → signed true e -ℤ pos f ≡ neg_ℤ (pos (e + f))
unfolding signed
less_down zero zero = refl
less_down zero (suc f) = simp (zero-add, lt-ltb 0 (suc f) (omega arith)) (ap negsuc (omega arith))
less_down (suc e) zero = simp (add-zero, lt-ltb 0 (suc e) (omega arith)) (ap negsuc (omega arith))
less_down (suc e) (suc f) = simp (suc-add, add-suc)

negsuc_of : (k n : ℕ) → suc k ≡ n → negsuc k ≡ neg_ℤ (pos n)
negsuc_of k zero e = absurd (let f : suc k ≡ 0 = e in omega arith)
negsuc_of k (suc n) e = ap negsuc (omega arith)

pub less_below : (e f : ℕ) → e < f → signed false e -ℤ pos f ≡ neg_ℤ (pos (f - e))
unfolding signed
less_below e zero h = absurd (none e h)
  where
    none : (e : ℕ) → e < 0 → ⊥
    none e h = omega arith
less_below e (suc f) h = simp (lt-ltb e (suc f) h) (negsuc_of (suc f - suc e) (suc f - e) (omega arith))

pub less_above : (e f : ℕ) → f ≤ e → signed false e -ℤ pos f ≡ pos (e - f)
unfolding signed
less_above e zero h = ap pos (omega arith)
less_above e (suc f) h = simp (le-ltb e (suc f) h)

-- without an exponent
pub less_none : (f : ℕ) → signed false 0 -ℤ pos f ≡ neg_ℤ (pos f)
less_none zero = less_above 0 0 (omega arith)
less_none (suc f) = let z : suc f - 0 ≡ suc f = omega arith in less_below 0 (suc f) (omega arith) ∙ ap (λ (k : ℕ). neg_ℤ (pos k)) z

-- an exponent past 2 ^ 53 is out of range, whatever the count of fraction digits
pub far : (neg : Bool) (m : ℕ) (d : Bool) (e f : ℕ) → 2 ^ 53 < e → f < 2 ^ 32 → outside ≡ scaled neg m (signed d e -ℤ pos f)
far neg m true e f h l = down_out neg m (e + f) (omega arith) ∙ ap (scaled neg m) (sym (less_down e f))
far neg m false e f h l = up_out neg m (e - f) (omega arith) ∙ ap (scaled neg m) (sym (less_above e f (omega arith)))
