-- Where an error that knows its place points (02 (vii)): at a range within the bytes in which it was found.
use Rattle.std.proofs.Common.{Ok, Err, Result}
use Prim.Native.Nat.{ℕ, zero, suc, ◌+◌, ◌-◌, ◌*◌, ◌%◌, ◌^◌, ◌≤◌, ◌<◌}
use mathlib.Core.Bool.{Bool, ◌&&◌, ◌||◌}
use mathlib.Core.List.{List, [], ◌∷◌, map}
use lib.ListN.{length, get_or, take, drop, length-drop}
use lib.Seq.{length-take-le}
use lib.Dec.{eqb, ltb}
use native.Mathlib.Omega.{arith}
use native.Mathlib.Nat.{le_refl}
use borrow.Author.Tests.{ltb-true}
use Rattle.laws.specs.Quoted.{code, within}
use Rattle.laws.proofs.Choice.{if_all, if_is, and_true}
use Rattle.chars.specs.Encode.{is_scalar}
use Rattle.chars.specs.declared.Step.{Step}
use Rattle.chars.specs.declared.Step.TheVariants as step
use Rattle.chars.specs.Utf8.{first, rest, front, Front}
use Rattle.chars.specs.Utf8 as Utf8
use Rattle.digits.specs.Digits.{digit_of}
use Rattle.digits.specs.Hex.{hex_value, hex_digits, hex_after_plus, empty, Hex}
use Rattle.items.specs.declared.CharError.{CharError}
use Rattle.items.specs.declared.CharError.TheVariants.{Wrong, WrongAt}
use Rattle.items.specs.Meaning.{lookup, lower, char_names, unnamed, before_delimiter, nameless, only_one, later, hex_named, spelled_out, character_of}
use Rattle.items.specs.Readers.{first_is, last_is, scalar_of, front_width, past_failing}

-- ---- the character at the front has no more bytes than there are

rest_within : (n lo hi c k : ℕ) (s : List ℕ) → front_width (rest n lo hi c k s) ≤ k + length s
unfolding rest
rest_within zero lo hi c k s = omega arith
rest_within (suc n) lo hi c k [] = omega arith
rest_within (suc n) lo hi c k (b ∷ s) =
    if_all (λ (f : Front). front_width f ≤ k + length (b ∷ s)) (within lo hi b)
    (omega (arith, rest_within n 0x80 0xBF (c * 64 + b % 64) (k + 1) s)) (omega arith)

after_within : (t : Step) (s : List ℕ) → front_width (Utf8.after t s) ≤ 1 + length s
after_within (step.Char c) s = omega arith
after_within (step.More t) s = rest_within t.need t.low t.high t.code 1 s
after_within step.Bad s = omega arith

pub front_within : (t : List ℕ) → front_width (front t) ≤ length t
unfolding front
front_within [] = le_refl 0
front_within (b ∷ s) = omega (arith, after_within (first b) s)

pub past_within : (d at : ℕ) (t : List ℕ) → (at ≤ past_failing d at t) × (past_failing d at t ≤ at + length t)
unfolding past_failing
past_within d at t =
    if_all (λ (p : ℕ). (at ≤ p) × (p ≤ at + length t)) (eqb d empty) (omega arith, omega arith) (omega arith, omega (arith, front_within t))

-- ---- the failing place lies in the bytes that were read, of which there are m

abbrev pub Inside : ℕ → Result ℕ CharError → Type 0
Inside m (Ok c) = Unit {0}
Inside m (Err (Wrong e d)) = Unit {0}
Inside m (Err (WrongAt e d p)) = p ≤ m

abbrev pub HexInside : ℕ → Hex → Type 0
HexInside m (Ok v) = Unit {0}
HexInside m (Err w) = w.place ≤ m

digits_inside : (m p v : ℕ) (s : List ℕ) → p + length s ≤ m → HexInside m (hex_digits p v s)
unfolding hex_digits
digits_inside m p v [] h = tt
digits_inside m p v (c ∷ s) h =
    if_all (HexInside m) (ltb (digit_of c) 16)
    (if_all (HexInside m) (ltb (v * 16 + digit_of c) (2 ^ 32)) (digits_inside m (p + 1) (v * 16 + digit_of c) s (omega arith)) (omega arith))
    (omega arith)

plus_inside : (m : ℕ) (s : List ℕ) → 1 + length s ≤ m → HexInside m (hex_after_plus s)
unfolding hex_after_plus
plus_inside m [] h = omega arith
plus_inside m (c ∷ s) h = digits_inside m 1 0 (c ∷ s) h

pub value_inside : (s : List ℕ) → HexInside (length s) (hex_value s)
unfolding hex_value
value_inside [] = le_refl 0
value_inside (c ∷ s) =
    if_all (HexInside (length (c ∷ s))) (eqb c (code "+")) (plus_inside (length (c ∷ s)) s (omega arith)) (digits_inside (length (c ∷ s)) 0 0 (c ∷ s) (omega arith))

scalar_inside : (m : ℕ) (h : Hex) → HexInside m h → Inside m (scalar_of h)
unfolding scalar_of
scalar_inside m (Ok v) h = if_all (Inside m) (is_scalar v) tt tt
scalar_inside m (Err w) h = h

pub hex_inside : (s : List ℕ) → Inside (length s) (scalar_of (hex_value s))
hex_inside s = scalar_inside (length s) (hex_value s) (value_inside s)

-- ---- and so it does in a character's name, of which there are m bytes, one or more

abbrev pub Named : ℕ → Result ℕ CharError → Type 0
Named m (Ok c) = Unit {0}
Named m (Err (Wrong e d)) = Unit {0}
Named m (Err (WrongAt e d p)) = (1 ≤ m) × (p ≤ m)

nameless_inside : (report : Bool) (t : List ℕ) → Named (length t) (nameless report t)
unfolding nameless
nameless_inside report t =
    let p : ℕ = suc (before_delimiter (drop 1 t)) in
    if_is (Named (length t)) (report && ltb p (length t))
    (λ e. let h : p < length t = ltb-true p (length t) (and_true report _ e).1 in (omega arith, omega arith)) (λ e. tt)

only_inside : (report : Bool) (f : Front) (t : List ℕ) → Named (length t) (only_one report f t)
only_inside report (Utf8.char c n) t = if_all (Named (length t)) (eqb n (length t)) tt (nameless_inside report t)
only_inside report (Utf8.bad n) t = nameless_inside report t
only_inside report Utf8.cut t = nameless_inside report t
only_inside report Utf8.none t = nameless_inside report t

later_inside : (n k m : ℕ) (v : Result ℕ CharError) → Inside k v → 1 ≤ m → n + k ≤ m → Named m (later n v)
later_inside n k m (Ok c) h some fits = tt
later_inside n k m (Err (Wrong e d)) h some fits = tt
later_inside n k m (Err (WrongAt e d p)) h some fits = (some, omega arith)

named_inside : (t : List ℕ) → 1 < length t → Named (length t) (hex_named t)
unfolding hex_named
named_inside t h =
    let P : Result ℕ CharError → Type 0 = Named (length t) in
    let braced : List ℕ = take (length t - 3) (drop 2 t) in
    if_all P (first_is (code "u") t && eqb (get_or t 1 0) (code "{"))
    (if_all P (last_is (code "}") t)
    (later_inside 2 (length braced) (length t) (scalar_of (hex_value braced)) (hex_inside braced) (omega arith)
    (omega (arith, length-take-le (length t - 3) (drop 2 t) (omega (arith, length-drop 2 t)), length-drop 2 t))) tt)
    (later_inside 1 (length (drop 1 t)) (length t) (scalar_of (hex_value (drop 1 t))) (hex_inside (drop 1 t)) (omega arith) (omega (arith, length-drop 1 t)))

spelled_inside : (report : Bool) (t : List ℕ) → Named (length t) (spelled_out report t)
unfolding spelled_out
spelled_inside report t =
    if_is (Named (length t)) ((first_is (code "u") t || first_is (code "x") t) && ltb 1 (length t))
    (λ e. named_inside t (ltb-true 1 (length t) (and_true (first_is (code "u") t || first_is (code "x") t) (ltb 1 (length t)) e).1))
    (λ e. only_inside report (front t) t)

pub character_inside : (report : Bool) (t : List ℕ) → Named (length t) (character_of report t)
unfolding character_of
character_inside report t =
    if_all (Named (length t)) (eqb (lookup char_names (map lower t) unnamed) unnamed) (spelled_inside report t) tt
