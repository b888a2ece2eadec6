-- Programs that meet no promise of the calls, whatever else they do: a row of specs/Meaning, where the definition answers otherwise, contradicts each.
use Rattle.std.specs.Prelude.{◌≡◌, false, List}
use Rattle.std.proofs.Common.{ap, ◌∙◌, arith}
use Rattle.chars.specs.Encode.{spelled}
use Rattle.items.specs.Meaning.{meaning_of}
use Rattle.items.specs.declared.Outcome.TheVariants.{Word}
use Rattle.meaning.specs.declared.Means.{Means}
use Rattle.meaning.specs.Meant.{sized_all}
use Rattle.lexer_promises.specs.Meaning.{second_start, rows}

-- no program whose second item of `+foo` has a text that starts at the plus meets the promise
never_at_the_plus : (ms : List Means) → second_start ms ≡ 3 → ms ≡ sized_all (meaning_of false Word 3 7 (spelled "+foo")) → ⊥
never_at_the_plus ms plus h = omega (arith, plus, ap second_start (h ∙ rows.plus))
