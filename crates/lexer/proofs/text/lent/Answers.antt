-- Each text source is a case of the definition (Texts).
use Rattle.lexer.proofs.Texts.{lent_source, lent_memory, lent_nowhere}
use Rattle.lexer.proofs.text.lent.Goals as goal

pub returns-in-1 : goal.returns-in-1
returns-in-1 c = lent_source c.args.source.now c.args.text.now c.args.origin c.args.start c.args.end c.get.result c.in-1.is c.get.ensures.lookup

pub returns-in-2 : goal.returns-in-2
returns-in-2 c = lent_memory c.args.source.now c.args.text.now c.args.origin c.args.start c.args.end c.get-in-2.result c.in-2.is c.get-in-2.ensures.lookup

pub returns-in_default : goal.returns-in_default
returns-in_default c =
    let rest = c.in_default.in_default-own.rest in
    lent_nowhere c.args.source.now c.args.text.now c.args.origin c.args.start c.args.end rest.0.1 rest.1
