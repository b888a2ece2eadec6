-- What is wrong with a character has one of 01's error numbers.
use Rattle.std.proofs.Common.{Ok, Err, Result}
use Rattle.laws.proofs.Choice.{if_all}
use Rattle.chars.specs.Utf8.{Front, front}
use Rattle.chars.specs.Utf8 as utf8
use Rattle.chars.specs.Encode.{is_scalar}
use Rattle.digits.specs.Hex.{hex_value, Hex}
use Rattle.items.specs.Readers.{first_is, last_is, scalar_of}
use Rattle.items.specs.Meaning.{lookup, char_names, lower, unnamed, before_delimiter, nameless, only_one, later, hex_named, spelled_out, character_of, char_inside}
use Rattle.items.proofs.Failing.{Named, character_inside}
use Rattle.items.specs.declared.CharError.{CharError}
use Rattle.items.specs.declared.CharError.TheVariants.{Wrong, WrongAt}
use Rattle.meaning.specs.Meant.{last_error}
use Rattle.laws.specs.Quoted.{code}
use Prim.Native.Nat.{ℕ, suc, ◌+◌, ◌≤◌, ◌-◌}
use mathlib.Core.Path.{◌≡◌, subst}
use mathlib.Core.Bool.{Bool, ◌&&◌, ◌||◌}
use mathlib.Core.List.{List, map}
use lib.ListN.{length, get_or, take, drop, length-drop}
use lib.Dec.{eqb, ltb}
use native.Mathlib.Omega.{arith}

abbrev Numbered : Result ℕ CharError → Type 0
Numbered (Ok c) = Unit
Numbered (Err (Wrong e d)) = e ≤ last_error
Numbered (Err (WrongAt e d p)) = e ≤ last_error

scalar_numbered : (h : Hex) → Numbered (scalar_of h)
unfolding scalar_of
scalar_numbered (Ok v) = if_all Numbered (is_scalar v) tt (omega arith)
scalar_numbered (Err w) = omega arith

nameless_numbered : (report : Bool) (t : List ℕ) → Numbered (nameless report t)
unfolding nameless
nameless_numbered report t = if_all Numbered (report && ltb (suc (before_delimiter (drop 1 t))) (length t)) (omega arith) (omega arith)

one_numbered : (report : Bool) (f : Front) (t : List ℕ) → Numbered (only_one report f t)
one_numbered report (utf8.char c n) t = if_all Numbered (eqb n (length t)) tt (nameless_numbered report t)
one_numbered report (utf8.bad n) t = nameless_numbered report t
one_numbered report utf8.cut t = nameless_numbered report t
one_numbered report utf8.none t = nameless_numbered report t

later_numbered : (n : ℕ) (v : Result ℕ CharError) → Numbered v → Numbered (later n v)
later_numbered n (Ok c) h = h
later_numbered n (Err (Wrong e d)) h = h
later_numbered n (Err (WrongAt e d p)) h = h

hex_numbered : (t : List ℕ) → Numbered (hex_named t)
unfolding hex_named
hex_numbered t =
    let braced : Hex = hex_value (take (length t - 3) (drop 2 t)) in
    if_all Numbered (first_is (code "u") t && eqb (get_or t 1 0) (code "{"))
    (if_all Numbered (last_is (code "}") t) (later_numbered 2 (scalar_of braced) (scalar_numbered braced)) (omega arith))
    (later_numbered 1 (scalar_of (hex_value (drop 1 t))) (scalar_numbered (hex_value (drop 1 t))))

spelled_numbered : (report : Bool) (t : List ℕ) → Numbered (spelled_out report t)
unfolding spelled_out
spelled_numbered report t =
    if_all Numbered ((first_is (code "u") t || first_is (code "x") t) && ltb 1 (length t)) (hex_numbered t) (one_numbered report (front t) t)

numbered : (report : Bool) (t : List ℕ) → Numbered (character_of report t)
unfolding character_of
numbered report t = if_all Numbered (eqb (lookup char_names (map lower t) unnamed) unnamed) (spelled_numbered report t) tt

-- a failing place is one of the extent's
pub failing_within : (report : Bool) (raw : List ℕ) {e d p : ℕ} → character_of report (char_inside raw) ≡ Err (WrongAt e d p) → 2 + p ≤ length raw
failing_within report raw {e} {d} {p} h =
    let t : List ℕ = char_inside raw in
    let w : Named (length t) (Err (WrongAt e d p)) = subst (Named (length t)) h (character_inside report t) in
    omega (arith, w.0, w.1, length-drop 2 raw)

module _ (report : Bool) (t : List ℕ) {e d : ℕ} where
  pub wrong_numbered : character_of report t ≡ Err (Wrong e d) → e ≤ last_error
  wrong_numbered h = subst Numbered h (numbered report t)

  pub failing_numbered : {p : ℕ} → character_of report t ≡ Err (WrongAt e d p) → e ≤ last_error
  failing_numbered h = subst Numbered h (numbered report t)
