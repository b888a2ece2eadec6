-- Too long, or what is delivered: the ends are known.
use mathlib.Core.Path.{ap, ◌∙◌}
use Rattle.chars.specs.Utf8.{first_bad}
use Rattle.lexer_fields.specs.Answers.{well_cut}
use Rattle.lexer_fields.proofs.Cuts.{all_known}
use Rattle.lexer_fields.proofs.Delivered.{too_long, is_fine, is_delivered}
use Rattle.lexer_fields.proofs.whole.deliver_cut.Goals as goal

pub returns-then-source-gt-LIMIT : goal.returns-then-source-gt-LIMIT
returns-then-source-gt-LIMIT c =
    too_long c.args.source.now c.args.ends.now c.args.mode c.args.skip c.args.rows.now c.args.recs.now c.args.text.now
    c.requires.0 c.requires.1 c.if-source-gt-LIMIT.true

pub deliver-requires : goal.deliver-requires
deliver-requires c = record {
  fine = is_fine c.args.source.now c.args.ends.now c.args.mode c.args.skip c.args.rows.now c.args.recs.now c.args.text.now
      c.requires.0 c.requires.1 c.if-source-gt-LIMIT.false;
  all_known = all_known c.args.mode c.args.skip c.args.source.now c.args.ends.now c.all_known.result c.requires.1
      (c.all_known.ensures ∙ ap (well_cut (first_bad c.args.source.now)) c.requires.2);
}

pub returns : goal.returns
returns c =
    is_delivered c.args.source.now c.args.ends.now c.args.mode c.args.skip c.args.rows.now c.args.recs.now c.args.text.now
    c.requires.0 c.requires.1 c.if-source-gt-LIMIT.false c.deliver.ensures
