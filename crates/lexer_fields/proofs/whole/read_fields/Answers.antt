-- The mode, then how the ends cut the source: refused, or what is delivered.
use mathlib.Core.Path.{sym, subst, ◌∙◌}
use lib.ListN.{length}
use Rattle.lexer_fields.specs.Fields.{is_in_order}
use Rattle.lexer_fields.specs.Answers.{between}
use Rattle.lexer_fields.proofs.Cuts.{Says, says}
use Rattle.lexer_fields.proofs.Delivered.{no_mode, is_mode_lem, bad_ends_lem}
use Rattle.lexer_fields.proofs.whole.read_fields.Goals as goal

pub returns-then-mode-gt-REPORT : goal.returns-then-mode-gt-REPORT
returns-then-mode-gt-REPORT c =
    no_mode c.args.source.now c.args.ends.now c.args.mode c.args.skip c.args.rows.now c.args.recs.now c.args.text.now c.if-mode-gt-REPORT.true

pub deliver_cut-requires : goal.deliver_cut-requires
deliver_cut-requires c =
    let source = c.args.source.now in
    let ends = c.args.ends.now in
    let told = subst (Says (is_in_order (length source) 0 ends) (between source ends)) (sym c.cut.ensures ∙ c.in-Inside.is)
    (says (is_in_order (length source) 0 ends) (between source ends)) in
    (is_mode_lem source ends c.args.mode c.args.skip c.args.rows.now c.args.recs.now c.args.text.now c.if-mode-gt-REPORT.false, told.0, told.1)

pub deliver_cut-requires-in-Between : goal.deliver_cut-requires-in-Between
deliver_cut-requires-in-Between c =
    let source = c.args.source.now in
    let ends = c.args.ends.now in
    let told = subst (Says (is_in_order (length source) 0 ends) (between source ends)) (sym c.cut.ensures ∙ c.in-Between.is)
    (says (is_in_order (length source) 0 ends) (between source ends)) in
    (is_mode_lem source ends c.args.mode c.args.skip c.args.rows.now c.args.recs.now c.args.text.now c.if-mode-gt-REPORT.false, told.0, told.1)

pub returns-in-Disordered : goal.returns-in-Disordered
returns-in-Disordered c =
    let source = c.args.source.now in
    let ends = c.args.ends.now in
    bad_ends_lem source ends c.args.mode c.args.skip c.args.rows.now c.args.recs.now c.args.text.now
    (is_mode_lem source ends c.args.mode c.args.skip c.args.rows.now c.args.recs.now c.args.text.now c.if-mode-gt-REPORT.false)
    (subst (Says (is_in_order (length source) 0 ends) (between source ends)) (sym c.cut.ensures ∙ c.in-Disordered.is)
    (says (is_in_order (length source) 0 ends) (between source ends)))
