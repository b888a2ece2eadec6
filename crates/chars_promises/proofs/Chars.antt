-- Programs that meet no promise of the calls, whatever else they do: a row of specs/Chars, where the definition answers otherwise, contradicts each.
use Rattle.std.specs.Prelude.{ℕ, ◌≡◌, List, [], ◌∷◌}
use Rattle.std.proofs.Common.{sym, ◌∙◌, None, Option, Some}
use Rattle.laws.specs.Quoted.{code}
use Rattle.laws.proofs.Choice.{impossible}
use Rattle.chars.specs.Encode.{spelled}
use Rattle.chars.specs.Utf8.{first_bad}
use Rattle.chars_promises.specs.Chars.{rows}

-- no program that finds every text good, or none, meets the promise of `first_bad`
never_fixed : (u : Option ℕ) → ((s : List ℕ) → u ≡ first_bad s) → ⊥
never_fixed u h =
    let e : ◌≡◌ {A = Option ℕ} None (Some 1) = sym (h (spelled "abc") ∙ rows.good) ∙ (h (code "a" ∷ 0xE2 ∷ 0x82 ∷ []) ∙ rows.short) in
    impossible cc
