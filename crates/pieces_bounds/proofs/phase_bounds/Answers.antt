-- An arm for each phase.
use Rattle.pieces_bounds.proofs.phase_bounds.Goals as goal

pub returns-in-InLine : goal.returns-in-InLine
returns-in-InLine c = rw c.in-InLine.is

pub returns-in-AfterComma : goal.returns-in-AfterComma
returns-in-AfterComma c = rw c.in-AfterComma.is

pub returns-in-AfterHash : goal.returns-in-AfterHash
returns-in-AfterHash c = rw c.in-AfterHash.is

pub returns-in-AfterAngle : goal.returns-in-AfterAngle
returns-in-AfterAngle c = rw c.in-AfterAngle.is

pub returns-in-HereDelim : goal.returns-in-HereDelim
returns-in-HereDelim c = rw c.in-HereDelim.is

pub returns-in-HereStart : goal.returns-in-HereStart
returns-in-HereStart c = rw c.in-HereStart.is

pub returns-in-HereBody : goal.returns-in-HereBody
returns-in-HereBody c = rw c.in-HereBody.is

pub returns-in-InWord : goal.returns-in-InWord
returns-in-InWord c = rw c.in-InWord.is

pub returns-in-WordEscape : goal.returns-in-WordEscape
returns-in-WordEscape c = rw c.in-WordEscape.is

pub returns-in-InRun : goal.returns-in-InRun
returns-in-InRun c = rw c.in-InRun.is

pub returns-in-InHash : goal.returns-in-InHash
returns-in-InHash c = rw c.in-InHash.is

pub returns-in-HashEscape : goal.returns-in-HashEscape
returns-in-HashEscape c = rw c.in-HashEscape.is

pub returns-in-HashTick : goal.returns-in-HashTick
returns-in-HashTick c = rw c.in-HashTick.is

pub returns-in-HashComma : goal.returns-in-HashComma
returns-in-HashComma c = rw c.in-HashComma.is

pub returns-in-Nest : goal.returns-in-Nest
returns-in-Nest c = rw c.in-Nest.is

pub returns-in-NestBar : goal.returns-in-NestBar
returns-in-NestBar c = rw c.in-NestBar.is

pub returns-in-NestSharp : goal.returns-in-NestSharp
returns-in-NestSharp c = rw c.in-NestSharp.is

pub returns-in-Quoted : goal.returns-in-Quoted
returns-in-Quoted c = rw c.in-Quoted.is

pub returns-in-Closed : goal.returns-in-Closed
returns-in-Closed c = rw c.in-Closed.is

pub returns-in-TrimBefore : goal.returns-in-TrimBefore
returns-in-TrimBefore c = rw c.in-TrimBefore.is

pub returns-in-TrimAfter : goal.returns-in-TrimAfter
returns-in-TrimAfter c = rw c.in-TrimAfter.is

pub returns-in-Escape : goal.returns-in-Escape
returns-in-Escape c = rw c.in-Escape.is

pub returns-in-Brace : goal.returns-in-Brace
returns-in-Brace c = rw c.in-Brace.is

pub returns-in-Hex : goal.returns-in-Hex
returns-in-Hex c = rw c.in-Hex.is (simp c.hex_bounds.ensures)

pub returns-in-Done : goal.returns-in-Done
returns-in-Done c = rw c.in-Done.is (simp c.done_bounds.ensures)
