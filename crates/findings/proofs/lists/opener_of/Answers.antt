-- One bracket less than the depth; where none is open, none.
use mathlib.Core.Path.{ap, ◌∙◌}
use Prim.Native.Nat.{ℕ}
use Rattle.items.specs.Kinds as kind
use Rattle.findings.specs.Rows.{last_before}
use Rattle.findings.specs.Lists.{is_kind, is_open}
use Rattle.findings.proofs.lists.opener_of.Goals as goal

pub returns : goal.returns
unfolding is_open
returns c =
    c.last_passing.ensures
    ∙ ap (λ (d : ℕ). last_before (λ (i : ℕ). is_kind c.args.rows.now kind.OpenParen d i) c.args.p) c.saturating_sub.ensures
