-- Its kind goes by the quote.
use Prim.Native.Nat.{ℕ}
use mathlib.Core.Path.{ap}
use Rattle.findings_rows.proofs.slips.unclosed.Goals as goal

pub returns : goal.returns
returns c =
    ap (λ (k : ℕ). record {
      kind = k;
      detail = 0;
      start = c.args.start;
      «end» = c.args.end;
      from = c.args.start;
      to = c.args.end;
      source = 0;
      first = 0;
      past = 0;
    }) c.unclosed_kind.ensures
