-- Plain characters and those past ASCII leave the string as it is (Letters of crate `steps`).
use Rattle.laws.specs.Quoted.{code}
use Rattle.items.specs.declared.Quotes.TheVariants.{Double}
use Rattle.items.specs.declared.Phase.TheVariants as ph
use Rattle.steps.proofs.Letters.{passes_plain, passes_wides, quoted_holds}
use Rattle.items_telling.proofs.strings.past_part.Goals as goal

pub returns-then-b-ge-ASCII_END : goal.returns-then-b-ge-ASCII_END
returns-then-b-ge-ASCII_END c =
    passes_wides c.args.s.now (ph.Quoted Double) c.args.at c.wide_end.result (quoted_holds Double).lasts c.requires c.wide_end.ensures

pub returns : goal.returns
returns c =
    passes_plain c.args.s.now (ph.Quoted Double) (code "\"") (code "\\") c.args.at c.plain_end.result (quoted_holds Double) c.requires c.plain_end.ensures
