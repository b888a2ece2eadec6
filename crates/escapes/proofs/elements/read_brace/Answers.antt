-- With a brace the digits start past it; without one they start here, and are read as those of `\x` are.
use mathlib.Core.Path.{sym, ◌∙◌}
use native.Mathlib.Omega.{arith}
use native.Mathlib.Nat.{le_refl}
use Rattle.laws.specs.Quoted.{code}
use Rattle.laws.proofs.Compared.{starts_in}
use Rattle.escapes.proofs.Cases.{same_text}
use Rattle.escapes.proofs.Hex.{brace_open, brace_missing}
use Rattle.escapes.proofs.elements.read_brace.Goals as goal

pub read_hex-requires : goal.read_hex-requires
read_hex-requires c = omega (arith, starts_in (code "{") c.args.raw.now c.args.from (sym c.if-starts_at.true ∙ c.starts_at.ensures))

pub returns-then-starts_at : goal.returns-then-starts_at
returns-then-starts_at c =
    let s = sym c.if-starts_at.true ∙ c.starts_at.ensures in
    same_text c.args.k _ (brace_open c.args.k c.args.raw.now c.args.from s) (omega arith) c.read_hex.ensures

pub returns : goal.returns
returns c =
    same_text c.args.k _
    (brace_missing c.args.k _ (sym c.if-starts_at.false ∙ c.starts_at.ensures)) (le_refl _) c.read_hex-2.ensures
