-- The last record, a pair, or one record with another after it.
use mathlib.Core.Path.{ap, ◌∙◌}
use Rattle.chars.specs.Utf8.{first_bad}
use Rattle.items_writing.specs.Records.{is_right}
use Rattle.items_writing.proofs.RightRecords.{right_at, body_good}
use Rattle.items_writing.proofs.PieceByPiece.{here_right, said_pair, said_more, said_last}
use Rattle.items_writing.proofs.turning.turn_at.Goals as goal

pub words_at-e-requires : goal.words_at-e-requires
words_at-e-requires c = c.requires.0

pub joins-requires : goal.joins-requires
joins-requires c = (
  here_right c.args.records.now c.args.source.now c.args.text.now c.args.first c.args.p c.requires.0 c.requires.1
      c.words_at-e.ensures,
  ap (is_right c.args.source.now c.args.text.now) c.words_at.ensures ∙ right_at
      c.args.records.now c.args.source.now c.args.text.now _ c.requires.1 c.if-next-count.true,
)

pub returns-then-joins : goal.returns-then-joins
returns-then-joins c =
    said_pair c.args.records.now c.args.source.now c.args.text.now c.args.first c.args.p c.requires.0 c.requires.1
    c.words_at-e.ensures c.if-next-count.true c.words_at.ensures c.joins.ensures
    c.if-joins.true

pub body_of-requires : goal.body_of-requires
body_of-requires c =
    here_right c.args.records.now c.args.source.now c.args.text.now c.args.first c.args.p c.requires.0 c.requires.1
    c.words_at-e.ensures

pub form_for-requires : goal.form_for-requires
form_for-requires c =
    ap first_bad c.body_of.ensures ∙ body_good c.args.source.now c.args.text.now c.words_at-e.result
    (here_right c.args.records.now c.args.source.now c.args.text.now c.args.first c.args.p c.requires.0 c.requires.1
    c.words_at-e.ensures)

pub returns-then-next-count : goal.returns-then-next-count
returns-then-next-count c =
    said_more c.args.records.now c.args.source.now c.args.text.now c.args.first c.args.p c.requires.0 c.requires.1
    c.words_at-e.ensures c.if-next-count.true
    c.words_at.ensures c.joins.ensures c.if-joins.false c.body_of.ensures
    c.form_for.ensures

pub body_of-requires-2 : goal.body_of-requires-2
body_of-requires-2 c =
    here_right c.args.records.now c.args.source.now c.args.text.now c.args.first c.args.p c.requires.0 c.requires.1
    c.words_at-e.ensures

pub form_for-requires-2 : goal.form_for-requires-2
form_for-requires-2 c =
    ap first_bad c.body_of-2.ensures ∙ body_good c.args.source.now c.args.text.now c.words_at-e.result (here_right
    c.args.records.now c.args.source.now c.args.text.now c.args.first c.args.p c.requires.0 c.requires.1
    c.words_at-e.ensures)

pub returns : goal.returns
returns c =
    said_last c.args.records.now c.args.source.now c.args.text.now c.args.first c.args.p c.requires.0 c.requires.1
    c.words_at-e.ensures c.if-next-count.false c.body_of-2.ensures c.form_for-2.ensures
