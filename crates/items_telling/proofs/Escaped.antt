-- A backslash in a string begins an escape: one of two bytes leaves the string as it is, and one that is none ends it as an error.
use Prim.Native.Nat.{ℕ, ◌+◌, ◌-◌, ◌≤◌, ◌<◌}
use mathlib.Core.Path.{◌≡◌, sym, ◌∙◌}
use mathlib.Core.Bool.{Bool}
use mathlib.Core.List.{List}
use lib.ListN.{length, get_or}
use native.Mathlib.Omega.{arith}
use Rattle.laws.specs.Quoted.{code}
use Rattle.chars.specs.Encode.{width}
use Rattle.chars.proofs.Chars.{CharAt, char_at}
use Rattle.items.specs.Kinds as kind
use Rattle.items.specs.Classes.{in_quotes, after_backslash, invalid}
use Rattle.items.specs.Readers.{SoFar}
use Rattle.items.specs.Machine.{step_of}
use Rattle.items.specs.declared.Outcome.TheVariants.{ErrorAt}
use Rattle.items.specs.declared.Next.TheVariants.{Eat}
use Rattle.items.specs.declared.Phase.TheVariants as ph
use Rattle.items.specs.declared.Quotes.TheVariants.{Double}
use Rattle.steps.specs.Scan.{answer, Passes}
use Rattle.steps.proofs.Turn.{turn_eat, turn_stop}
use Rattle.steps.proofs.Kept.{ascii_found}
use Rattle.items_telling.specs.Strings.{Short, failure, StringIs}

escape_begins : (report : Bool) (i : SoFar) (c : ℕ) → c ≡ code "\\" → step_of report (ph.Quoted Double) i c ≡ Eat (ph.Escape Double i.at)
unfolding in_quotes
escape_begins report i c e = rw e

module _ (s : List ℕ) (at : ℕ) where
  ascii_char : at < length s → get_or s at 0 < 0x80 → CharAt s at (get_or s at 0) (at + 1)
  ascii_char h k = char_at s at (get_or s at 0) (at + 1) (ascii_found s at h k) (omega arith)

-- a backslash at a place, and the character behind it
module _ (s : List ℕ) (at : ℕ) (h : at + 1 < length s) (e : get_or s at 0 ≡ code "\\") where
  begins : (report : Bool) (a : ℕ) → a ≤ at → answer s report a (ph.Quoted Double) at ≡ answer s report a (ph.Escape Double at) (at + 1)
  begins report a b =
      turn_eat s report a (ph.Quoted Double) at (get_or s at 0) (at + 1) (ascii_char s at (omega arith) (omega (arith, e))) (ph.Escape Double at) b
      (escape_begins report _ _ e)

  pub short_passes : Short (get_or s (at + 1) 0) → Passes s (ph.Quoted Double) at (at + 2)
  short_passes S = (
    omega arith,
    omega arith,
    λ report a b. let n : at + 1 + 1 ≡ at + 2 = omega arith in
        begins report a b ∙ turn_eat s report a (ph.Escape Double at) (at + 1) (get_or s (at + 1) 0) (at + 1 + 1)
        (ascii_char s (at + 1) h S.0) (ph.Quoted Double) (omega arith) (S.1 at _) ∙ rw n,
  )

  module _ (l : get_or s (at + 1) 0 < 0x80) (f : after_backslash (get_or s (at + 1) 0) ≡ invalid) where
    escape_fails : (report : Bool) (a : ℕ) → a ≤ at
        → answer s report a (ph.Quoted Double) at ≡ record { what = ErrorAt kind.InvalidStringEscape (get_or s (at + 1) 0) at (at + 2); end = at + 1 }
    escape_fails report a b =
        let c = ascii_char s (at + 1) h l in
        let n : at + 1 + width (get_or s (at + 1) 0) ≡ at + 2 = omega (arith, c.on) in
        begins report a b ∙ turn_stop s report a (ph.Escape Double at) (at + 1) (get_or s (at + 1) 0) (at + 1 + 1) c
        (ErrorAt kind.InvalidStringEscape (get_or s (at + 1) 0) at (at + 2)) (rw (f, ← n))

    -- from a place before it on
    pub fails_past : (from : ℕ) → Passes s (ph.Quoted Double) from at → StringIs s from (failure s (at + 1)) (at + 1)
    fails_past from pass report a b =
        let u : at + 1 - 1 ≡ at = omega arith in
        let v : at + 1 + 1 ≡ at + 2 = omega arith in
        rw (u, v) (sym (pass.2 report a b ∙ escape_fails report a (omega (arith, pass.0))))
