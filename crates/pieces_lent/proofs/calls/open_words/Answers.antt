-- A buffer of another length, a mode that there is not, or a fresh state.
use native.Mathlib.Omega.{arith}
use Rattle.pieces_lent.proofs.Opens.{opens_short, opens_no_mode, opens}
use Rattle.pieces_lent.proofs.calls.open_words.Goals as goal

pub returns-then-buf-ne-LONGEST : goal.returns-then-buf-ne-LONGEST
returns-then-buf-ne-LONGEST c =
    opens_short c.args.mode
    c.args.skip c.args.buf.now c.if-buf-ne-LONGEST.true c.fresh_words.ensures c.refuse.ensures

pub returns-then-mode-gt-REPORT : goal.returns-then-mode-gt-REPORT
returns-then-mode-gt-REPORT c =
    opens_no_mode c.args.mode c.args.skip c.args.buf.now
    c.if-buf-ne-LONGEST.false (c.fill.ensures.after (λ y h. h))
    c.if-mode-gt-REPORT.true c.fresh_words-then-mode-gt-REPORT.ensures c.refuse-then-mode-gt-REPORT.ensures

pub returns : goal.returns
returns c =
    opens c.args.mode c.args.skip c.args.buf.now c.if-buf-ne-LONGEST.false
    (c.fill.ensures.after (λ y h. h)) (omega arith) c.fresh_words-2.ensures
