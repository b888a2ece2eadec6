-- Spaces and tabs vanish up to the newline, and after it; where no newline follows them the text goes on at once.
use mathlib.Core.Path.{sym, ◌∙◌}
use native.Mathlib.Omega.{arith}
use Rattle.escapes.proofs.Lines.{seen_goes_on, missing_goes_on, ahead_goes_on, past_newline}
use Rattle.escapes.proofs.elements.next_line.Goals as goal

pub overflow_add-i : goal.overflow_add-i
overflow_add-i c =
    omega (
      arith,
      past_newline c.args.raw.now
          c.args.from _ c.spaces_end-i.ensures (sym c.if-starts_at.true ∙ c.starts_at.ensures),
    )

pub returns-then-starts_at : goal.returns-then-starts_at
returns-then-starts_at c =
    let raw = c.args.raw.now in
    let s = sym c.if-starts_at.true ∙ c.starts_at.ensures in let e = c.spaces_end-i.ensures in
    ahead_goes_on raw c.args.from _ e s (seen_goes_on raw _ _ c.spaces_end.ensures (past_newline raw c.args.from _ e s))

pub returns : goal.returns
returns c =
    missing_goes_on c.args.raw.now
    c.args.from _ c.spaces_end-i.ensures c.requires (sym c.if-starts_at.false ∙ c.starts_at.ensures)
