-- A run of blanks that is not empty stands where the byte there is one of them.
use borrow.Author.Tests.{ne_eqb, le-leb, lt-leb}
use native.Mathlib.Omega.{arith}
use mathlib.Core.Path.{◌≡◌, refl, sym}
use mathlib.Core.Bool.{Bool, true, false, ◌||◌}
use lib.Dec.{eqb, leb}
use lib.ListN.{get_or}
use Rattle.laws.specs.Quoted.{within}
use Rattle.laws.proofs.Choice.{and_yes}
use Rattle.lexer.proofs.Starts.{blank_here, blank_past}
use Rattle.lexer.proofs.reading.blank_at.Goals as goal

or-false : (x : Bool) → (x || false) ≡ x
or-false true = refl
or-false false = refl

pub returns-then-source-at : goal.returns-then-source-at
returns-then-source-at c = blank_past c.args.source.now c.args.at c.if-source-at.true

-- a byte past the carriage return is a blank where it is the space
pub returns-then-b-gt13 : goal.returns-then-b-gt13
unfolding within
returns-then-b-gt13 c =
    let b = get_or c.args.source.now c.args.at 0 in
    blank_here c.args.source.now c.args.at c.if-source-at.false (eqb b 0x20)
    (rw (le-leb 0x09 b (omega arith), lt-leb b 0x0D c.if-b-gt13.true) (sym (or-false (eqb b 0x20))))

-- no other is the space
pub returns : goal.returns
unfolding within
returns c =
    let b = get_or c.args.source.now c.args.at 0 in
    blank_here c.args.source.now c.args.at c.if-source-at.false (leb 0x09 b)
    (rw (ne_eqb b 0x20 (λ e. omega (arith, e)), le-leb b 0x0D (omega arith)) (sym (and_yes (leb 0x09 b))))
