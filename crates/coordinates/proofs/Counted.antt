-- A run of digits after a value that counts alike: from each place on it counts as from the start on, and one digit more has room.
use Rattle.std.proofs.Common.{◌≡◌, ℕ, ◌+◌, ◌-◌, ◌*◌, ◌%◌, ◌^◌, ◌<◌, ◌≤◌, true, false, ltb, leb, List, length, get_or, drop, sym, ap, ◌∙◌, lt_of_lt_of_le, lt_of_le_of_lt, arith, lit<, length-drop, leb-false, leb-true}
use native.Mathlib.Nat.{pow-le-pow_right}
use Rattle.laws.specs.Quoted.{code, within}
use Rattle.laws.proofs.Choice.{by_bool, within_below}
use Rattle.chars.proofs.Table.{within_in, within_above}
use Rattle.laws.proofs.Runs.{span_le}
use Rattle.digits.specs.Digits.{digits, digit_of, run_value, short}
use Rattle.digits.proofs.DecimalRuns.{run_grows, run_value_more, run_value_end}
use Rattle.coordinates.specs.Inner.{capped, Held}
use Rattle.coordinates.proofs.Totals.{capped_le, capped_room, capped_twice, alike_value}

-- one digit more, of the byte x
module _ (v i x : ℕ) (h : Held v i) (w : true ≡ within (code "0") (code "9") x) where
  pub more_fits : v * 10 + (x - code "0") < 10 ^ 19
  more_fits = run_grows v short x h.0 w

  pub more_held : Held (capped (v * 10 + (x - code "0"))) (i + 1)
  more_held =
      let n = v * 10 + (x - code "0") in
      let r = capped_room n in
      (omega arith, lt_of_le_of_lt (capped_le n) (run_grows v i x h.1 w))

pub run_capped : (t : List ℕ) (v i : ℕ) → i < length t → true ≡ within (code "0") (code "9") (get_or t i 0)
    → capped (run_value v (drop i t)) ≡ capped (run_value (capped (v * 10 + (get_or t i 0 - code "0"))) (drop (i + 1) t))
run_capped t v i l w =
    ap capped (run_value_more t v i l w) ∙ sym (alike_value _ _ _ (capped_twice (v * 10 + (get_or t i 0 - code "0"))))

-- a place more
pub held_on : (v i : ℕ) → Held v i → Held v (i + 1)
held_on v i h = let f : i ≤ i + 1 = omega arith in (h.0, lt_of_lt_of_le h.1 (pow-le-pow_right (lit< tt) f))

-- in a short text a run's value is below ten to its length
pub short_held : (t : List ℕ) (from b v e : ℕ) → length t ≤ short → Held b from → e ≡ from + digits 10 (drop from t)
    → v ≡ run_value b (drop from t) → v < 10 ^ e → Held v e
short_held t from b v e l h d w k =
    by_bool (leb from (length t))
    (λ i. let a = leb-true from (length t) i in
    let n = span_le (λ c. ltb (digit_of c) 10) (drop from t) in
    let m = length-drop from t in
    let f : e ≤ short = omega arith in
    (lt_of_lt_of_le k (pow-le-pow_right (lit< tt) f), k))
    (λ i. let a = leb-false from (length t) i in (rw (w ∙ run_value_end t b from (omega arith)) h.0, k))

-- the byte x, of which 48 is taken away in 64 bits
module _ (d x : ℕ) (e : (d + 48) % 2 ^ 64 ≡ x) where
  pub digit_in : d ≤ 9 → (true ≡ within (code "0") (code "9") x) × (d ≡ x - code "0")
  digit_in h = let q : x ≡ d + 48 = omega arith in (sym (within_in (code "0") (code "9") x (omega arith) (omega arith)), omega arith)

  pub digit_out : d < 2 ^ 64 → 9 < d → false ≡ within (code "0") (code "9") x
  digit_out l h =
      by_bool (leb 48 x)
      (λ i. let a = leb-true 48 x i in sym (within_above (code "0") (code "9") x (omega arith)))
      (λ i. within_below (code "0") (code "9") x (leb-false 48 x i))
