-- The index's three answers are the three cases of `numbered`; an entry that it proposes is below the count, so its number fits.
use native.Mathlib.Omega.{arith}
use mathlib.Core.Path.{sym, ◌∙◌}
use Rattle.names.specs.Call.{looks}
use Rattle.names.proofs.Gives.{lookup_entry, lookup_free, lookup_full}
use Rattle.names.proofs.Laws.{bears_in, probe_in}
use Rattle.names.proofs.finding.number_by.Goals as goal

pub overflow_add-result : goal.overflow_add-result
overflow_add-result c =
    omega (
      arith,
      bears_in
          c.args.words.now c.args.bytes.now c.args.party c.args.name.now _ (probe_in c.args.words.now
          c.args.bytes.now c.args.party c.args.name.now looks _ (sym c.requires.x_value ∙ c.in-Entry.is)),
    )

pub returns-in-Entry : goal.returns-in-Entry
returns-in-Entry c =
    lookup_entry c.args.words.now
    c.args.bytes.now c.args.party c.args.name.now _ (sym c.requires.x_value ∙ c.in-Entry.is)

pub returns-in-Free : goal.returns-in-Free
returns-in-Free c =
    lookup_free c.args.words.now
    c.args.bytes.now c.args.party c.args.name.now _ (sym c.requires.x_value ∙ c.in-Free.is)

pub returns-in-Full : goal.returns-in-Full
returns-in-Full c =
    lookup_full c.args.words.now c.args.bytes.now
    c.args.party c.args.name.now (sym c.requires.x_value ∙ c.in-Full.is) c.scan.ensures
