-- By the byte.
use Prim.Native.Nat.{◌+◌}
use borrow.Author.Tests.{ne_eqb}
use lib.ListN.{drop}
use native.Mathlib.Nat.{sub-zero}
use native.Mathlib.Omega.{arith}
use mathlib.Core.Path.{ap, ◌∙◌}
use Rattle.laws.proofs.Lent.{part_rest}
use Rattle.findings_render_messages.specs.Messages.{inserted, inserted_more}
use Rattle.findings_render_parts.specs.Shown.{shown}
use Rattle.findings_render_parts.proofs.OneByOne.{as_laid}
use Rattle.findings_render_messages.proofs.put_inserted.Goals as goal

pub returns-in-64 : goal.returns-in-64
unfolding inserted
returns-in-64 c =
    rw c.in-64.is (as_laid (ap shown c.part.ensures) c.put_shown.ensures)

pub returns-in-38 : goal.returns-in-38
unfolding inserted
returns-in-38 c =
    rw c.in-38.is (as_laid (ap shown c.part-in-38.ensures) c.put_shown-in-38.ensures)

pub returns-in-37 : goal.returns-in-37
unfolding inserted
returns-in-37 c =
    rw c.in-37.is c.put_number.ensures

pub returns-in-36 : goal.returns-in-36
unfolding inserted
returns-in-36 c =
    rw c.in-36.is c.put_shown-in-36.ensures

pub returns-in-42 : goal.returns-in-42
unfolding inserted inserted_more
returns-in-42 c =
    rw c.in-42.is (rw c.hex_count-count.ensures.0 at c.put_digits.ensures)

pub returns-in-126 : goal.returns-in-126
unfolding inserted inserted_more
returns-in-126 c =
    rw c.in-126.is c.put_digits-in-126.ensures

pub returns-in-60 : goal.returns-in-60
unfolding inserted inserted_more
returns-in-60 c =
    rw c.in-60.is (as_laid (ap shown (c.part-in-60.ensures ∙ rw (c.part-place.ensures, sub-zero))) c.put_shown-in-60.ensures)

pub returns-in-62 : goal.returns-in-62
unfolding inserted inserted_more
returns-in-62 c =
    rw c.in-62.is (as_laid (ap shown
    (c.part-in-62.ensures ∙ part_rest c.part-place-in-62.result.now (c.args.t.detail + 1) ∙ ap (drop (c.args.t.detail + 1))
    c.part-place-in-62.ensures)) c.put_shown-in-62.ensures)

pub returns-in_default : goal.returns-in_default
unfolding inserted inserted_more
returns-in_default c =
    simp (
      ne_eqb c.args.b 64 (λ h. omega arith),
      ne_eqb c.args.b 38 (λ h. omega arith),
      ne_eqb c.args.b 37 (λ h. omega arith),
      ne_eqb c.args.b 36 (λ h. omega arith),
      ne_eqb c.args.b 42 (λ h. omega arith),
      ne_eqb c.args.b 126 (λ h. omega arith),
      ne_eqb c.args.b 60 (λ h. omega arith),
      ne_eqb c.args.b 62 (λ h. omega arith),
    ) c.put_byte.ensures
