-- It ends where the item does that one look tells there.
use Rattle.lexer.proofs.Sharps.{hash_skims, bracket_skims}
use Rattle.lexer.proofs.glance.skim_hash.Goals as goal

pub returns-in-Item : goal.returns-in-Item
returns-in-Item c report =
    hash_skims c.args.source.now report c.args.skip c.args.at c.quick_hash.result
    (c.quick_hash.ensures report) c.in-Item.field-0 c.in-Item.field-1 c.in-Item.end c.in-Item.is

pub returns-in-Bracket : goal.returns-in-Bracket
returns-in-Bracket c report =
    bracket_skims c.args.source.now report c.args.skip c.args.at c.quick_hash.result
    (c.quick_hash.ensures report) c.in-Bracket.field-0 c.in-Bracket.field-1 c.in-Bracket.end c.in-Bracket.is
