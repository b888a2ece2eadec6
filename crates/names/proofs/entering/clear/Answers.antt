-- The words of the table are filled, and those behind it stay.
use Rattle.std.proofs.Common.{rules}
use Rattle.names.specs.Layout.{table_words}
use Rattle.names.proofs.Laws.{cleared_front}
use Rattle.names.proofs.entering.clear.Goals as goal

pub returns : goal.returns
returns c = cleared_front table_words c.args.words.now c.requires (c.fill.ensures.after (λ y h. search rules))
