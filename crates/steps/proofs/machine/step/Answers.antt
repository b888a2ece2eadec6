-- An arm for each phase: the step of the phase is what its function answers.
use native.Mathlib.Omega.{arith}
use Rattle.chars.proofs.Width.{wide}
use Rattle.steps.proofs.machine.step.Goals as goal

pub nest_sharp-requires : goal.nest_sharp-requires
nest_sharp-requires c =
    let h = rw c.in-NestSharp.is at c.requires.1 in omega (arith, wide c.args.c)

pub returns-in-InLine : goal.returns-in-InLine
returns-in-InLine c = rw c.in-InLine.is (simp c.read_rest_of_line.ensures)

pub returns-in-AfterComma : goal.returns-in-AfterComma
returns-in-AfterComma c = rw c.in-AfterComma.is (simp c.after_comma.ensures)

pub returns-in-AfterHash : goal.returns-in-AfterHash
returns-in-AfterHash c = rw c.in-AfterHash.is (simp c.after_hash.ensures)

pub returns-in-AfterAngle : goal.returns-in-AfterAngle
returns-in-AfterAngle c = rw c.in-AfterAngle.is (simp c.after_angle.ensures)

pub returns-in-HereDelim : goal.returns-in-HereDelim
returns-in-HereDelim c = rw c.in-HereDelim.is (simp c.here_delim.ensures)

pub returns-in-HereStart : goal.returns-in-HereStart
returns-in-HereStart c = rw c.in-HereStart.is

pub returns-in-HereBody : goal.returns-in-HereBody
returns-in-HereBody c = rw c.in-HereBody.is (simp c.here_body.ensures)

pub returns-in-InWord : goal.returns-in-InWord
returns-in-InWord c = rw c.in-InWord.is (simp c.read_word.ensures)

pub returns-in-WordEscape : goal.returns-in-WordEscape
returns-in-WordEscape c = rw c.in-WordEscape.is

pub returns-in-InRun : goal.returns-in-InRun
returns-in-InRun c = rw c.in-InRun.is (simp c.read_number.ensures)

pub returns-in-InHash : goal.returns-in-InHash
returns-in-InHash c = rw c.in-InHash.is (simp c.read_hash_value.ensures)

pub returns-in-HashEscape : goal.returns-in-HashEscape
returns-in-HashEscape c = rw c.in-HashEscape.is

pub returns-in-HashTick : goal.returns-in-HashTick
returns-in-HashTick c = rw c.in-HashTick.is (simp (c.hash_then.ensures, c.hash_kind.ensures))

pub returns-in-HashComma : goal.returns-in-HashComma
returns-in-HashComma c = rw c.in-HashComma.is (simp c.hash_comma.ensures)

pub returns-in-Nest : goal.returns-in-Nest
returns-in-Nest c = rw c.in-Nest.is (simp c.read_nestable_comment.ensures)

pub returns-in-NestBar : goal.returns-in-NestBar
returns-in-NestBar c = rw c.in-NestBar.is (simp c.nest_bar.ensures)

pub returns-in-NestSharp : goal.returns-in-NestSharp
returns-in-NestSharp c = rw c.in-NestSharp.is (simp c.nest_sharp.ensures)

pub returns-in-Quoted : goal.returns-in-Quoted
returns-in-Quoted c = rw c.in-Quoted.is (simp (c.read_string.ensures c.args.raw.now))

pub returns-in-Closed : goal.returns-in-Closed
returns-in-Closed c = rw c.in-Closed.is (simp c.closed.ensures)

pub returns-in-TrimBefore : goal.returns-in-TrimBefore
returns-in-TrimBefore c = rw c.in-TrimBefore.is (simp (c.trim_before.ensures c.args.raw.now))

pub returns-in-TrimAfter : goal.returns-in-TrimAfter
returns-in-TrimAfter c = rw c.in-TrimAfter.is (simp (c.trim_after.ensures c.args.raw.now))

pub returns-in-Escape : goal.returns-in-Escape
returns-in-Escape c = rw c.in-Escape.is (simp c.read_string_escape.ensures)

pub returns-in-Brace : goal.returns-in-Brace
returns-in-Brace c = rw c.in-Brace.is (simp c.open_brace.ensures)

pub returns-in-Hex : goal.returns-in-Hex
returns-in-Hex c = rw c.in-Hex.is (simp c.hex_digits.ensures)

pub returns-in-Done : goal.returns-in-Done
returns-in-Done c = rw c.in-Done.is
