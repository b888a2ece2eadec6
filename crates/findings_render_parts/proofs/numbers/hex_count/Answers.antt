-- By the tests.
use native.Mathlib.Omega.{arith}
use borrow.Author.Tests.{lt-ltb, le-ltb}
use Rattle.findings_render_parts.specs.Printed.{hex_count}
use Rattle.findings_render_parts.proofs.numbers.hex_count.Goals as goal

pub returns-then-c-lt65536 : goal.returns-then-c-lt65536
unfolding hex_count
returns-then-c-lt65536 c = (rw (lt-ltb _ _ c.if-c-lt65536.true), omega arith)

pub returns-then-c-lt1048576 : goal.returns-then-c-lt1048576
unfolding hex_count
returns-then-c-lt1048576 c = (rw (le-ltb _ _ c.if-c-lt65536.false, lt-ltb _ _ c.if-c-lt1048576.true), omega arith)

pub returns-else-c-lt1048576 : goal.returns-else-c-lt1048576
unfolding hex_count
returns-else-c-lt1048576 c = (rw (le-ltb _ _ c.if-c-lt65536.false, le-ltb _ _ c.if-c-lt1048576.false), omega arith)
