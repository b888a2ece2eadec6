-- What the bytes of an extent tell.
use Rattle.std.proofs.Common.{Ok}
use Rattle.laws.specs.Quoted.{code}
use Rattle.numbers.specs.Grammar.{parse_number}
use Rattle.numbers.specs.declared.Parts.{Parts}
use Rattle.items.specs.Kinds as kind
use Rattle.items.specs.Readers.{first_is}
use Rattle.items.specs.Meaning.{escaped, string_text, lined_text, word_kind, word_means, run_means}
use Rattle.items.specs.declared.Outcome.TheVariants.{Word, Run}
use Rattle.items.specs.declared.Quotes.{Quotes}
use Rattle.items.specs.declared.Quotes.TheVariants.{Double, Lines}
use Rattle.meaning.specs.Meant.{means}
use Rattle.meaning.specs.declared.Text.TheVariants.{Nowhere, Source}
use Rattle.items_telling.specs.Tells.{Level, Tells, quoted_as, quoted_kind}
use Rattle.items_telling.specs.declared.Quick.TheVariants.{Item}
use Rattle.items_telling.proofs.WordKinds.{kind_fine, kind_level, kind_kept}
use Prim.Native.Nat.{ℕ, ◌+◌, ◌-◌, ◌<◌}
use mathlib.Core.Path.{◌≡◌, refl, subst}
use mathlib.Core.Bool.{false}
use mathlib.Core.List.{List}
use lib.Dec.{eqb}
use lib.ListN.{length}
use native.Mathlib.Omega.{arith}

module _ (at e : ℕ) (raw : List ℕ) (long : e ≡ at + length raw) where
  pub quoted_tells : (k : Quotes) → escaped raw ≡ false → Tells (quoted_as k) at raw (Item (means (quoted_kind k) 0 (Source (at + 1) (e - 1))) at e)
  unfolding string_text lined_text
  quoted_tells Double f = (refl, long, refl, omega arith, record { means = λ r. rw (long, f); undecoded = tt }, λ depth. refl)
  quoted_tells Lines f = (refl, long, refl, omega arith, record { means = λ r. rw (long, f); undecoded = tt }, λ depth. refl)

  pub run_tells : (p : Parts) → parse_number raw ≡ Ok p → Tells Run at raw (Item (means kind.Number 0 Nowhere) at e)
  unfolding run_means
  run_tells p f = (refl, long, refl, omega arith, record { means = λ r. rw f; undecoded = tt }, λ depth. refl)

  pub identifier_tells : first_is (code "+") raw ≡ false → word_kind raw ≡ kind.Identifier
      → Tells Word at raw (Item (means kind.Identifier 0 (Source at e)) at e)
  unfolding word_means
  identifier_tells f k = (refl, long, refl, omega arith, record { means = λ r. rw (long, k, f); undecoded = tt }, λ depth. refl)

  pub word_tells : (k : ℕ) → word_kind raw ≡ k → eqb k kind.Identifier ≡ false → Tells Word at raw (Item (means k 0 Nowhere) at e)
  unfolding word_means
  word_tells k f i = (
    refl,
    long,
    subst (λ (x : ℕ). eqb x kind.Comment ≡ false) f (kind_kept raw),
    subst (λ (x : ℕ). x < kind.first_error) f (kind_fine raw),
    record { means = λ r. rw (f, i); undecoded = tt },
    subst Level f (kind_level raw),
  )
