-- A byte of ASCII is its own character (Round); any other place is read byte by byte.
use native.Mathlib.Omega.{arith}
use lib.ListN.{drop_of_length-le}
use lib.Seq.{drop-cons}
use Rattle.chars.specs.Utf8.{front}
use Rattle.chars.proofs.Round.{one_read}
use Rattle.chars.proofs.decode.decode_at.Goals as goal

-- at the end or past it there is nothing
pub returns-then-s-at : goal.returns-then-s-at
unfolding front
returns-then-s-at c = rw (drop_of_length-le c.args.s.now c.if-s-at.true)

pub returns-then-b-lt-ASCII_END : goal.returns-then-b-lt-ASCII_END
returns-then-b-lt-ASCII_END c =
    let a = c.args in
    rw (drop-cons a.s.now a.at 0 (omega arith)) (rw (one_read _ _ c.if-b-lt-ASCII_END.true))
