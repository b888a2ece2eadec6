-- The tests are those of `sort_of`, in its order; each arm answers what the definition is there.
use borrow.Author.Tests.{eq-eqb, ne_eqb, le-leb, lt-leb}
use Rattle.nested.specs.Items.{sort_of}
use Rattle.nested.proofs.classes.sort.Goals as goal

pub returns-then-k-eq-OPEN_PAREN : goal.returns-then-k-eq-OPEN_PAREN
unfolding sort_of
returns-then-k-eq-OPEN_PAREN c = simp (eq-eqb _ _ c.if-k-eq-OPEN_PAREN.true)

pub returns-then-k-eq-CLOSE_PAREN : goal.returns-then-k-eq-CLOSE_PAREN
unfolding sort_of
returns-then-k-eq-CLOSE_PAREN c = simp (ne_eqb _ _ c.if-k-eq-OPEN_PAREN.false, eq-eqb _ _ c.if-k-eq-CLOSE_PAREN.true)

pub returns-then-k-le-UNQUOTE_SPLICE_SYNTAX : goal.returns-then-k-le-UNQUOTE_SPLICE_SYNTAX
unfolding sort_of
returns-then-k-le-UNQUOTE_SPLICE_SYNTAX c = simp (ne_eqb _ _ c.if-k-eq-OPEN_PAREN.false, ne_eqb _ _ c.if-k-eq-CLOSE_PAREN.false, le-leb _ _ c.if-k-le-UNQUOTE_SPLICE_SYNTAX.true)

pub returns-then-k-le-REQUIRE : goal.returns-then-k-le-REQUIRE
unfolding sort_of
returns-then-k-le-REQUIRE c = simp (ne_eqb _ _ c.if-k-eq-OPEN_PAREN.false, ne_eqb _ _ c.if-k-eq-CLOSE_PAREN.false, lt-leb _ _ c.if-k-le-UNQUOTE_SPLICE_SYNTAX.false, le-leb _ _ c.if-k-le-REQUIRE.true)

pub returns-then-k-eq-CHARACTER_LITERAL : goal.returns-then-k-eq-CHARACTER_LITERAL
unfolding sort_of
returns-then-k-eq-CHARACTER_LITERAL c = simp (
  ne_eqb _ _ c.if-k-eq-OPEN_PAREN.false,
  ne_eqb _ _ c.if-k-eq-CLOSE_PAREN.false,
  lt-leb _ _ c.if-k-le-UNQUOTE_SPLICE_SYNTAX.false,
  lt-leb _ _ c.if-k-le-REQUIRE.false,
  eq-eqb _ _ c.if-k-eq-CHARACTER_LITERAL.true,
)

pub returns-then-k-eq-DATUM_COMMENT : goal.returns-then-k-eq-DATUM_COMMENT
unfolding sort_of
returns-then-k-eq-DATUM_COMMENT c = simp (
  ne_eqb _ _ c.if-k-eq-OPEN_PAREN.false,
  ne_eqb _ _ c.if-k-eq-CLOSE_PAREN.false,
  lt-leb _ _ c.if-k-le-UNQUOTE_SPLICE_SYNTAX.false,
  lt-leb _ _ c.if-k-le-REQUIRE.false,
  ne_eqb _ _ c.if-k-eq-CHARACTER_LITERAL.false,
  eq-eqb _ _ c.if-k-eq-DATUM_COMMENT.true,
)

pub returns-then-k-eq-COMMENT : goal.returns-then-k-eq-COMMENT
unfolding sort_of
returns-then-k-eq-COMMENT c =
    simp (
      ne_eqb _ _ c.if-k-eq-OPEN_PAREN.false,
      ne_eqb _ _ c.if-k-eq-CLOSE_PAREN.false,
      lt-leb _ _ c.if-k-le-UNQUOTE_SPLICE_SYNTAX.false,
      lt-leb _ _ c.if-k-le-REQUIRE.false,
      ne_eqb _ _ c.if-k-eq-CHARACTER_LITERAL.false,
      ne_eqb _ _ c.if-k-eq-DATUM_COMMENT.false,
      eq-eqb _ _ c.if-k-eq-COMMENT.true,
    )

pub returns-then-k-eq-BOOLEAN_LITERAL : goal.returns-then-k-eq-BOOLEAN_LITERAL
unfolding sort_of
returns-then-k-eq-BOOLEAN_LITERAL c =
    simp (
      ne_eqb _ _ c.if-k-eq-OPEN_PAREN.false,
      ne_eqb _ _ c.if-k-eq-CLOSE_PAREN.false,
      lt-leb _ _ c.if-k-le-UNQUOTE_SPLICE_SYNTAX.false,
      lt-leb _ _ c.if-k-le-REQUIRE.false,
      ne_eqb _ _ c.if-k-eq-CHARACTER_LITERAL.false,
      ne_eqb _ _ c.if-k-eq-DATUM_COMMENT.false,
      ne_eqb _ _ c.if-k-eq-COMMENT.false,
      eq-eqb _ _ c.if-k-eq-BOOLEAN_LITERAL.true,
    )

pub returns-then-k-le-KEYWORD : goal.returns-then-k-le-KEYWORD
unfolding sort_of
returns-then-k-le-KEYWORD c =
    simp (
      ne_eqb _ _ c.if-k-eq-OPEN_PAREN.false,
      ne_eqb _ _ c.if-k-eq-CLOSE_PAREN.false,
      lt-leb _ _ c.if-k-le-UNQUOTE_SPLICE_SYNTAX.false,
      lt-leb _ _ c.if-k-le-REQUIRE.false,
      ne_eqb _ _ c.if-k-eq-CHARACTER_LITERAL.false,
      ne_eqb _ _ c.if-k-eq-DATUM_COMMENT.false,
      ne_eqb _ _ c.if-k-eq-COMMENT.false,
      ne_eqb _ _ c.if-k-eq-BOOLEAN_LITERAL.false,
      le-leb _ _ c.if-k-le-KEYWORD.true,
    )

pub returns-then-k-eq-NUMBER : goal.returns-then-k-eq-NUMBER
unfolding sort_of
returns-then-k-eq-NUMBER c =
    simp (
      ne_eqb _ _ c.if-k-eq-OPEN_PAREN.false,
      ne_eqb _ _ c.if-k-eq-CLOSE_PAREN.false,
      lt-leb _ _ c.if-k-le-UNQUOTE_SPLICE_SYNTAX.false,
      lt-leb _ _ c.if-k-le-REQUIRE.false,
      ne_eqb _ _ c.if-k-eq-CHARACTER_LITERAL.false,
      ne_eqb _ _ c.if-k-eq-DATUM_COMMENT.false,
      ne_eqb _ _ c.if-k-eq-COMMENT.false,
      ne_eqb _ _ c.if-k-eq-BOOLEAN_LITERAL.false,
      lt-leb _ _ c.if-k-le-KEYWORD.false,
      eq-eqb _ _ c.if-k-eq-NUMBER.true,
    )

pub returns-then-k-eq-STRING_LITERAL : goal.returns-then-k-eq-STRING_LITERAL
unfolding sort_of
returns-then-k-eq-STRING_LITERAL c =
    simp (
      ne_eqb _ _ c.if-k-eq-OPEN_PAREN.false,
      ne_eqb _ _ c.if-k-eq-CLOSE_PAREN.false,
      lt-leb _ _ c.if-k-le-UNQUOTE_SPLICE_SYNTAX.false,
      lt-leb _ _ c.if-k-le-REQUIRE.false,
      ne_eqb _ _ c.if-k-eq-CHARACTER_LITERAL.false,
      ne_eqb _ _ c.if-k-eq-DATUM_COMMENT.false,
      ne_eqb _ _ c.if-k-eq-COMMENT.false,
      ne_eqb _ _ c.if-k-eq-BOOLEAN_LITERAL.false,
      lt-leb _ _ c.if-k-le-KEYWORD.false,
      ne_eqb _ _ c.if-k-eq-NUMBER.false,
      eq-eqb _ _ c.if-k-eq-STRING_LITERAL.true,
    )

pub returns : goal.returns
unfolding sort_of
returns c =
    simp (
      ne_eqb _ _ c.if-k-eq-OPEN_PAREN.false,
      ne_eqb _ _ c.if-k-eq-CLOSE_PAREN.false,
      lt-leb _ _ c.if-k-le-UNQUOTE_SPLICE_SYNTAX.false,
      lt-leb _ _ c.if-k-le-REQUIRE.false,
      ne_eqb _ _ c.if-k-eq-CHARACTER_LITERAL.false,
      ne_eqb _ _ c.if-k-eq-DATUM_COMMENT.false,
      ne_eqb _ _ c.if-k-eq-COMMENT.false,
      ne_eqb _ _ c.if-k-eq-BOOLEAN_LITERAL.false,
      lt-leb _ _ c.if-k-le-KEYWORD.false,
      ne_eqb _ _ c.if-k-eq-NUMBER.false,
      ne_eqb _ _ c.if-k-eq-STRING_LITERAL.false,
    )
