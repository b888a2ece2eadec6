-- What the tests on a character say of its class, how long an item is with one more character, and hex digits that are not there.
use Prim.Native.Nat.{ℕ, zero, suc, ◌+◌, ◌≤◌, ◌<◌}
use mathlib.Core.Path.{◌≡◌, refl, sym, ◌∙◌}
use mathlib.Core.Bool.{true, false}
use mathlib.Core.List.{List, [], ◌∷◌, ◌++◌}
use lib.ListN.{length, drop, length-append}
use lib.Dec.{eqb, leb}
use native.Mathlib.Omega.{arith}
use borrow.Author.Tests.{eqb-false, leb-true, leb-false, ne_eqb}
use Rattle.std.specs.Prelude.{if◌then◌else◌}
use Rattle.laws.specs.Quoted.{one_of}
use Rattle.laws.proofs.Choice.{by_bool, impossible}
use Rattle.laws.proofs.Places.{past}
use Rattle.chars.specs.Encode.{utf8, width}
use Rattle.chars.proofs.Width.{width-utf8}
use Rattle.digits.specs.Hex.{hex_value}
use Rattle.items.specs.declared.Quotes.{Quotes}
use Rattle.items.specs.Classes.{delim_of, stops_hex, in_hex, stops, digit}

-- n numbers from a on
abbrev pub upto : ℕ → ℕ → List ℕ
upto zero a = []
upto (suc n) a = a ∷ upto n (suc a)

pub below_run : (n a c : ℕ) → c < a → one_of (upto n a) c ≡ false
below_run zero a c h = refl
below_run (suc n) a c h = rw (ne_eqb c a (λ e. omega arith)) (below_run n (suc a) c (omega arith))

pub above_run : (n a c : ℕ) → a + n ≤ c → one_of (upto n a) c ≡ false
above_run zero a c h = refl
above_run (suc n) a c h = rw (ne_eqb c a (λ e. omega arith)) (above_run n (suc a) c (omega arith))

pub in_run_lem : (n a c : ℕ) → a ≤ c → c < a + n → one_of (upto n a) c ≡ true
in_run_lem zero a c h k = absurd (omega arith)
in_run_lem (suc n) a c h k = by_bool (eqb c a) (λ e. rw e) (λ e. rw e (in_run_lem n (suc a) c (let d = eqb-false c a e in omega arith) (omega arith)))

-- from a on, the run goes to z
pub run_end : (n a z c : ℕ) → a ≤ c → a + n ≡ suc z → leb c z ≡ one_of (upto n a) c
run_end n a z c h e =
    by_bool (leb c z)
    (λ f. f ∙ sym (in_run_lem n a c h (let g = leb-true c z f in omega arith)))
    (λ f. f ∙ sym (above_run n a c (let g = leb-false c z f in omega arith)))

-- in the digits of a hex escape, past its closer
module _ (k : Quotes) (closer c : ℕ) (e : eqb c closer ≡ false) where
  pub hex_breaks : (if stops_hex c then true else eqb c (delim_of k)) ≡ true → in_hex k closer c ≡ stops
  unfolding in_hex
  hex_breaks h = by_bool (stops_hex c) (λ f. rw (e, f)) (λ f. rw (e, f) (rw (rw f at h)))

  pub hex_goes : (if stops_hex c then true else eqb c (delim_of k)) ≡ false → in_hex k closer c ≡ digit
  unfolding in_hex
  hex_goes h = by_bool (stops_hex c)
      (λ f. let g = rw f at h in impossible cc)
      (λ f. rw (e, f) (rw (rw f at h)))

-- an item with one character more
pub with_length : (raw : List ℕ) (c w : ℕ) → w ≡ width c → length raw + w ≡ length (raw ++ utf8 c)
with_length raw c w e = rw (length-append raw (utf8 c), width-utf8 c, e)

-- an item that ends before its digits
pub no_digits : (raw : List ℕ) (n : ℕ) → length raw < n → hex_value [] ≡ hex_value (drop n raw)
no_digits raw n h = rw (past raw n (omega arith))
