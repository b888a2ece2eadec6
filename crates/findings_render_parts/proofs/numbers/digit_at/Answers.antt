-- The power of the base is the table's.
use mathlib.Core.Path.{ap, ◌∙◌}
use Prim.Native.Nat.{ℕ, ◌/◌, ◌%◌}
use Rattle.findings_render_parts.specs.Printed.{digit}
use Rattle.findings_render_parts.proofs.numbers.digit_at.Goals as goal

pub sixteen_to-requires : goal.sixteen_to-requires
sixteen_to-requires c = rw c.if-hex.true at c.requires

pub returns-then-hex : goal.returns-then-hex
returns-then-hex c =
    rw c.if-hex.true (c.digit_byte.ensures ∙ ap (λ (p : ℕ). digit (c.args.n / p % 16)) c.sixteen_to.ensures.0)

pub ten_to-requires : goal.ten_to-requires
ten_to-requires c = rw c.if-hex.false at c.requires

pub returns : goal.returns
returns c =
    rw c.if-hex.false (c.digit_byte-2.ensures ∙ ap (λ (p : ℕ). digit (c.args.n / p % 10)) c.ten_to.ensures.0)
