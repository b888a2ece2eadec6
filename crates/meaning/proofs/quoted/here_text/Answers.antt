-- Body and delimiter are parts of the extent, so both can be taken off its end.
use Rattle.meaning.proofs.Lines.{body_within, delimiter_within}
use Rattle.items.specs.Meaning.{here_text}
use native.Mathlib.Omega.{arith}
use Rattle.meaning.proofs.quoted.here_text.Goals as goal

pub overflow_sub-result : goal.overflow_sub-result
overflow_sub-result c = omega (arith, body_within c.args.raw.now, c.body_length.ensures)

pub overflow_sub-result-2 : goal.overflow_sub-result-2
overflow_sub-result-2 c = omega (arith, delimiter_within c.args.raw.now, c.delimiter_length.ensures)

pub returns : goal.returns
unfolding here_text
returns c = simp (c.delimiter_length.ensures, c.body_length.ensures)
