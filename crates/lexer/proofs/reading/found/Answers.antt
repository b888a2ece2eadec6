-- The extent's one meaning or two are the definition's, and so is the record of the one that is given. All numbers fit their words, which
-- the caller knows of the extent.
use mathlib.Core.Path.{sym, ap, ◌∙◌}
use Prim.Native.Nat.{◌+◌}
use lib.ListN.{length}
use Rattle.items.specs.Meaning.{meaning_of}
use Rattle.meaning.specs.Meant.{meant}
use Rattle.lexer.proofs.Gives.{fits_one, fits_two, found_one, found_second, found_first}
use Rattle.lexer.proofs.reading.found.Goals as goal

pub one-requires : goal.one-requires
one-requires c =
    fits_one c.args.free (meaning_of c.args.p.report c.args.what
    c.args.start (c.args.start + length c.args.raw.now) c.args.raw.now) c.in-One.m
    (sym (ap meant c.in-One.is) ∙ c.meaning.ensures) c.requires.texts

pub one-requires-then-p : goal.one-requires-then-p
one-requires-then-p c =
    (fits_two c.args.free (meaning_of c.args.p.report
    c.args.what c.args.start (c.args.start + length c.args.raw.now) c.args.raw.now) c.in-Two.m
    c.in-Two.n (sym (ap meant c.in-Two.is) ∙ c.meaning.ensures) c.requires.texts).1

pub one-requires-else-p : goal.one-requires-else-p
one-requires-else-p c =
    (fits_two c.args.free (meaning_of c.args.p.report
    c.args.what c.args.start (c.args.start + length c.args.raw.now) c.args.raw.now) c.in-Two.m
    c.in-Two.n (sym (ap meant c.in-Two.is) ∙ c.meaning.ensures) c.requires.texts).0

pub returns-in-One : goal.returns-in-One
returns-in-One c =
    found_one c.args.free c.args.p c.args.start c.args.what
    c.args.raw.now c.shown-set.result c.range_after-last.result c.shown-set.ensures
    c.range_after-last.ensures c.one.result c.past.result c.in-One.m
    (sym (ap meant c.in-One.is) ∙ c.meaning.ensures)
    c.one.ensures c.past.ensures

pub returns-then-p : goal.returns-then-p
returns-then-p c =
    found_second c.args.free c.args.p c.args.start
    c.args.what c.args.raw.now c.shown-set.result c.range_after-last.result
    c.shown-set.ensures c.range_after-last.ensures c.one-then-p.result c.past-then-p.result
    c.in-Two.m c.in-Two.n (sym (ap meant c.in-Two.is) ∙ c.meaning.ensures)
    c.if-p.true c.one-then-p.ensures c.past-then-p.ensures

pub returns-else-p : goal.returns-else-p
returns-else-p c =
    found_first c.args.free c.args.p c.args.start c.args.what
    c.args.raw.now c.shown-set.result c.range_after-last.result c.shown-set.ensures
    c.range_after-last.ensures c.one-else-p.result c.stand.result c.in-Two.m
    c.in-Two.n (sym (ap meant c.in-Two.is) ∙ c.meaning.ensures)
    c.if-p.false c.one-else-p.ensures c.stand.ensures
