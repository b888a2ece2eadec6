-- A digit belongs to a number run, what comes before the plus to none (Kept), a dot does; else the tests are those of the definition.
use borrow.Author.Tests.{lt-ltb, le-ltb}
use native.Mathlib.Omega.{arith}
use mathlib.Core.Path.{sym, ap, ◌∙◌}
use Rattle.items.specs.Classes.{stays_run}
use Rattle.steps.proofs.Kept.{digit_runs, early_stops}
use Rattle.steps.proofs.runs.of_run.Goals as goal

pub returns-then-between : goal.returns-then-between
returns-then-between c = sym (digit_runs c.args.c (sym c.between.ensures ∙ c.if-between.true))

pub returns-then-c-lt43 : goal.returns-then-c-lt43
returns-then-c-lt43 c =
    let b = c.args.c in
    rw (lt-ltb b 0x80 (omega (arith, c.if-c-lt43.true)), early_stops b c.if-c-lt43.true)

pub returns-then-c-eq46 : goal.returns-then-c-eq46
unfolding stays_run
returns-then-c-eq46 c = rw c.if-c-eq46.true

pub returns-then-c-ge-ASCII_END : goal.returns-then-c-ge-ASCII_END
returns-then-c-ge-ASCII_END c = rw (le-ltb c.args.c 0x80 c.if-c-ge-ASCII_END.true)

pub returns : goal.returns
returns c = rw (lt-ltb c.args.c 0x80 c.if-c-ge-ASCII_END.false) (c.stays_run.ensures ∙ ap stays_run c.from.ensures)
