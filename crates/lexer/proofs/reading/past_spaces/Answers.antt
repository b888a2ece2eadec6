-- A run of ASCII's blanks is passed (Starts); else the place stays.
use native.Mathlib.Omega.{arith}
use mathlib.Core.Path.{refl, ap, ◌∙◌}
use Prim.Native.Nat.{ℕ}
use lib.ListN.{drop}
use Rattle.chars.specs.Utf8.{chars}
use Rattle.lexer.specs.Reading.{start_from}
use Rattle.lexer.proofs.Starts.{start_run}
use Rattle.lexer.proofs.reading.past_spaces.Goals as goal

pub returns-then-source-at : goal.returns-then-source-at
returns-then-source-at c = (omega arith, refl)

pub returns-then-source-at-eq32 : goal.returns-then-source-at-eq32
returns-then-source-at-eq32 c =
    let a = c.args in
    let e = c.blank_end.ensures in
    (omega (arith, e), ap (λ (i : ℕ). start_from i (chars (drop i a.source.now))) e ∙ start_run a.source.now a.at)

pub returns : goal.returns
returns c = (omega arith, refl)
