-- A place past the text, a backslash and what closes the quotes have no run (`span_end`, `span_stop`); any other is the text's run.
use borrow.Author.Tests.{eq-eqb}
use Prim.Native.Nat.{ℕ}
use mathlib.Core.Path.{◌≡◌, sym, ap, ◌∙◌}
use mathlib.Core.Bool.{Bool, false, not, ◌&&◌}
use lib.Dec.{eqb, ltb}
use lib.ListN.{get_or}
use Rattle.laws.specs.Quoted.{code}
use Rattle.laws.proofs.Choice.{and_no}
use Rattle.laws.proofs.Runs.{span_stop, span_end}
use Rattle.byte_runs.specs.Runs.{plain}
use Rattle.items.specs.Classes.{delim_of}
use Rattle.escapes.proofs.run_end.Goals as goal

-- neither of the two bytes that end a run is plain
first_ends : (a b c : ℕ) → c ≡ a → plain a b c ≡ false
first_ends a b c e = rw (eq-eqb c a e) (and_no (ltb c 0x80))

second-ends : (a b c : ℕ) → c ≡ b → plain a b c ≡ false
second-ends a b c e = rw (eq-eqb c b e) (ap (λ (x : Bool). ltb c 0x80 && x) (and_no (not (eqb c a))) ∙ and_no (ltb c 0x80))

pub returns-then-raw-at : goal.returns-then-raw-at
returns-then-raw-at c =
    let a = c.args in
    sym (span_end (plain (delim_of a.k) (code "\\")) a.raw.now a.at c.if-raw-at.true)

pub returns-then-b-eq92 : goal.returns-then-b-eq92
returns-then-b-eq92 c =
    let a = c.args in
    sym (span_stop (plain (delim_of a.k) (code "\\")) a.raw.now a.at c.if-raw-at.false
    (second-ends (delim_of a.k) (code "\\") (get_or a.raw.now a.at 0) c.if-b-eq92.true))

pub returns-then-b-closes : goal.returns-then-b-closes
returns-then-b-closes c =
    let a = c.args in
    sym (span_stop (plain (delim_of a.k) (code "\\")) a.raw.now a.at c.if-raw-at.false
    (first_ends (delim_of a.k) (code "\\") (get_or a.raw.now a.at 0) (c.if-b-closes.true ∙ c.delimiter-closes.ensures)))

pub returns : goal.returns
returns c = rw (sym c.delimiter-closes.ensures) c.plain_end.ensures
