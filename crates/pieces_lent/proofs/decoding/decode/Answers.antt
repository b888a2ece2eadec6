-- The tests of `is_code` in its order; the words are a code where their row is the row of the stage that it stands for.
use mathlib.Core.Path.{sym, ◌∙◌}
use borrow.Author.Tests.{lt-ltb, le-ltb, le-leb, lt-leb}
use Rattle.pieces_lent.specs.Coding.{is_code}
use Rattle.pieces_lent.proofs.Back.{narrowed, rows_compared}
use Rattle.pieces_lent.proofs.decoding.decode.Goals as goal

pub returns-then-not-narrow : goal.returns-then-not-narrow
unfolding is_code
returns-then-not-narrow c = simp (sym c.narrow.ensures ∙ c.if-not-narrow.true)

pub returns-then-words-gt-YES : goal.returns-then-words-gt-YES
unfolding is_code
returns-then-words-gt-YES c = simp (sym c.narrow.ensures ∙ c.if-not-narrow.false, lt-leb _ _ c.if-words-gt-YES.true)

pub returns-then-words-gt-YES-2 : goal.returns-then-words-gt-YES-2
unfolding is_code
returns-then-words-gt-YES-2 c = simp (
  sym c.narrow.ensures ∙ c.if-not-narrow.false,
  le-leb _ _ c.if-words-gt-YES.false,
  lt-leb _ _ c.if-words-gt-YES-2.true,
)

pub returns-then-words-ge-STAGES : goal.returns-then-words-ge-STAGES
unfolding is_code
returns-then-words-ge-STAGES c =
    simp (
      sym c.narrow.ensures ∙ c.if-not-narrow.false,
      le-leb _ _ c.if-words-gt-YES.false,
      le-leb _ _ c.if-words-gt-YES-2.false,
      le-ltb _ _ c.if-words-ge-STAGES.true,
    )

pub stand-marks-requires : goal.stand-marks-requires
stand-marks-requires c = (
  c.if-words-ge-STAGES.false,
  narrowed _ (sym c.narrow.ensures
      ∙ c.if-not-narrow.false),
)

pub returns-then-not-same_row : goal.returns-then-not-same_row
unfolding is_code
returns-then-not-same_row c =
    simp (
      sym c.narrow.ensures ∙ c.if-not-narrow.false,
      le-leb _ _ c.if-words-gt-YES.false,
      le-leb _ _ c.if-words-gt-YES-2.false,
      lt-ltb _ _ c.if-words-ge-STAGES.false,
      rows_compared c.args.words c.stand-marks.ensures c.row_of.ensures
          c.stage_row.ensures c.same_row.ensures ∙ c.if-not-same_row.true,
    )

pub returns : goal.returns
unfolding is_code
returns c =
    simp (
      sym c.narrow.ensures ∙ c.if-not-narrow.false,
      le-leb _ _ c.if-words-gt-YES.false,
      le-leb _ _ c.if-words-gt-YES-2.false,
      lt-ltb _ _ c.if-words-ge-STAGES.false,
      rows_compared c.args.words c.stand-marks.ensures c.row_of.ensures
          c.stage_row.ensures c.same_row.ensures ∙ c.if-not-same_row.false,
      c.stand-marks.ensures,
    )
