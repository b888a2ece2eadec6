-- The tests of the definition; the first text is `+`, so the joined word is a plus and the second.
use mathlib.Core.Path.{◌≡◌, ap, ◌∙◌}
use mathlib.Core.Bool.{true}
use Rattle.laws.specs.Quoted.{codes}
use Rattle.laws.specs.Texts.{same}
use Rattle.items.specs.Kinds as kind
use Rattle.items_writing.specs.Records.{entry_of}
use Rattle.items_writing.proofs.PieceByPiece.{joined_so}
use Rattle.chars.specs.Encode.{bytes_of, utf8}
use Rattle.chars.specs.Utf8.{first_bad}
use Rattle.std.proofs.Common.{arith}
use Rattle.std.proofs.lemmas.Grind.{common_steps}
use Rattle.std.proofs.lemmas.Bool.Decides.{nat_tests}
use Rattle.items_writing.specs.Written.{Entry, twins, joined}
use Rattle.items_writing.proofs.RightRecords.{right_is, text_good}
use Rattle.items_writing.proofs.turning.joins.Goals as goal

pub reads_pair-requires : goal.reads_pair-requires
reads_pair-requires c =
    let s = c.args.source.now in
    let t = c.args.text.now in
    let f = c.args.f in
    ap first_bad c.text_of-then-equal.ensures ∙ text_good s t f (right_is s t f c.requires.1).text_right_holds

pub returns-then-equal : goal.returns-then-equal
unfolding bytes_of utf8
returns-then-equal c =
    let e : Entry = entry_of c.args.source.now c.args.text.now c.args.e in
    let f : Entry = entry_of c.args.source.now c.args.text.now c.args.f in
    let first : e.kind ≡ kind.Identifier = grind (arith, common_steps) in
    let second : f.kind ≡ kind.Identifier = grind (arith, common_steps) in
    let start : e.start ≡ f.start = grind (arith, common_steps) in
    let end : e.end ≡ f.end = grind (arith, common_steps) in
    let plus : same e.text (codes "+") ≡ true = grind (arith, common_steps) in
    joined_so e f first second start end plus c.text_of-then-equal.ensures c.reads_pair.ensures

pub returns-else-equal : goal.returns-else-equal
unfolding joined twins bytes_of utf8
returns-else-equal c = grind (arith, nat_tests, common_steps)
