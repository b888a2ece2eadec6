-- The first character that is no blank, a character at a time.
use Rattle.std.proofs.Common.{None}
use Rattle.chars.specs.Utf8.{front, placed, chars}
use Rattle.chars.specs.Blank.{is_blank}
use Rattle.chars.specs.declared.Decoded.{Decoded}
use Rattle.chars.specs.declared.Decoded.TheVariants as decoded
use Rattle.chars.proofs.Chars.{CharAt, nothing_at}
use Rattle.laws.specs.Texts.{span}
use Rattle.laws.proofs.Choice.{by_bool}
use Rattle.laws.proofs.Runs.{span_le, span_hit, span_stop, span_end}
use Rattle.byte_runs.specs.Runs.{blank}
use Rattle.steps.proofs.Kept.{ascii_found, blank_ascii}
use Rattle.lexer.specs.Reading.{start_from, first_at}
use Rattle.lexer.proofs.CharacterAt.{char_found}
use Prim.Native.Nat.{ℕ, zero, suc, ◌+◌, ◌≤◌, ◌<◌}
use mathlib.Core.Path.{◌≡◌, sym, ap, ◌∙◌}
use mathlib.Core.Bool.{Bool, true, false}
use mathlib.Core.List.{List}
use native.Mathlib.Omega.{arith}
use lib.Dec.{leb}
use lib.ListN.{length, get_or, drop, length-drop}
use borrow.Author.Tests.{le-leb}

module _ (s : List ℕ) (at : ℕ) where
  module _ (c next : ℕ) (found : decoded.Char c next ≡ placed at (front (drop at s))) where
    pub start_blank : is_blank c ≡ true → start_from at (chars (drop at s)) ≡ start_from next (chars (drop next s))
    unfolding start_from
    start_blank b =
        let k : CharAt s at c next = char_found s at c next found in
        ap (start_from at) k.first ∙ rw b (ap (λ (x : ℕ). start_from x (chars (drop next s))) (sym k.on))

    pub start_solid : is_blank c ≡ false → first_at c at next ≡ start_from at (chars (drop at s))
    unfolding start_from
    start_solid b =
        let k : CharAt s at c next = char_found s at c next found in
        ap (first_at c at) k.on ∙ sym (ap (start_from at) k.first ∙ rw b)

  pub start_none : (o : Decoded) → o ≡ placed at (front (drop at s)) → ((c n : ℕ) → o ≡ decoded.Char c n → ⊥) → None ≡ start_from at (chars (drop at s))
  unfolding start_from
  start_none o e h = sym (ap (start_from at) (nothing_at s at o e h))

-- ---- a run of ASCII's blanks

module _ (s : List ℕ) where
  pub blanks : (n at : ℕ) → n ≤ span blank (drop at s) → start_from (at + n) (chars (drop (at + n) s)) ≡ start_from at (chars (drop at s))
  blanks zero at k = let e : at + 0 ≡ at = omega arith in rw e
  blanks (suc n) at k =
      let inside : at < length s = omega (arith, span_le blank (drop at s), length-drop at s) in
      by_bool (blank (get_or s at 0))
      (λ e. let on = span_hit blank s at inside e in
      let b = blank_ascii (get_or s at 0) e in
      let j : at + suc n ≡ at + 1 + n = omega arith in
      rw j (blanks n (at + 1) (omega (arith, on)) ∙ sym (start_blank s at (get_or s at 0) (at + 1) (ascii_found s at inside b.0) b.1)))
      (λ e. absurd (omega (arith, span_stop blank s at inside e)))

  pub start_run : (at : ℕ) → start_from (at + span blank (drop at s)) (chars (drop (at + span blank (drop at s)) s)) ≡ start_from at (chars (drop at s))
  start_run at = blanks (span blank (drop at s)) at (omega arith)

-- ---- whether a blank of ASCII stands at a place

module _ (s : List ℕ) (at : ℕ) where
  pub blank_past : length s ≤ at → false ≡ leb 1 (span blank (drop at s))
  blank_past h = let e : span blank (drop at s) ≡ 0 = omega (arith, span_end blank s at h) in rw e

  pub blank_here : at < length s → (b : Bool) → b ≡ blank (get_or s at 0) → b ≡ leb 1 (span blank (drop at s))
  blank_here h true e =
      let n = span_hit blank s at h (sym e) in
      sym (le-leb 1 (span blank (drop at s)) (omega arith))
  blank_here h false e =
      let n : span blank (drop at s) ≡ 0 = omega (arith, span_stop blank s at h (sym e)) in rw n
