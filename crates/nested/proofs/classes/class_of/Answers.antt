-- Three kinds and the simple data are told by themselves, each as `class_of` has it; all else by the table.
use mathlib.Core.Path.{sym}
use Rattle.nested.proofs.classes.class_of.Goals as goal

pub returns-then-k-eq-OPEN_PAREN : goal.returns-then-k-eq-OPEN_PAREN
returns-then-k-eq-OPEN_PAREN c = rw c.if-k-eq-OPEN_PAREN.true c.open_class.ensures

pub returns-then-k-eq-CLOSE_PAREN : goal.returns-then-k-eq-CLOSE_PAREN
returns-then-k-eq-CLOSE_PAREN c = rw c.if-k-eq-CLOSE_PAREN.true c.close_class.ensures

pub returns-in-Some : goal.returns-in-Some
returns-in-Some c = sym (c.simple_kind.ensures c.in-Some.m c.in-Some.is)

pub returns-then-k-eq-COMMENT : goal.returns-then-k-eq-COMMENT
returns-then-k-eq-COMMENT c = rw c.if-k-eq-COMMENT.true c.comment_class.ensures
