-- An arm for each phase.
use Rattle.pieces_lent.proofs.encoding.phase_row.Goals as goal

pub returns-in-InLine : goal.returns-in-InLine
returns-in-InLine c = rw c.in-InLine.is c.row.ensures

pub returns-in-AfterComma : goal.returns-in-AfterComma
returns-in-AfterComma c = rw c.in-AfterComma.is c.row-in-AfterComma.ensures

pub returns-in-AfterHash : goal.returns-in-AfterHash
returns-in-AfterHash c = rw c.in-AfterHash.is c.row-in-AfterHash.ensures

pub returns-in-AfterAngle : goal.returns-in-AfterAngle
returns-in-AfterAngle c = rw c.in-AfterAngle.is c.row-in-AfterAngle.ensures

pub returns-in-HereDelim : goal.returns-in-HereDelim
returns-in-HereDelim c = rw c.in-HereDelim.is c.row-in-HereDelim.ensures

pub returns-in-HereStart : goal.returns-in-HereStart
returns-in-HereStart c = rw c.in-HereStart.is c.row-in-HereStart.ensures

pub returns-in-HereBody : goal.returns-in-HereBody
returns-in-HereBody c = rw c.in-HereBody.is c.row-in-HereBody.ensures

pub returns-in-InWord : goal.returns-in-InWord
returns-in-InWord c = rw c.in-InWord.is c.row-in-InWord.ensures

pub returns-in-WordEscape : goal.returns-in-WordEscape
returns-in-WordEscape c = rw c.in-WordEscape.is c.row-in-WordEscape.ensures

pub returns-in-InRun : goal.returns-in-InRun
returns-in-InRun c = rw c.in-InRun.is c.row-in-InRun.ensures

pub returns-in-InHash : goal.returns-in-InHash
returns-in-InHash c = rw c.in-InHash.is c.row-in-InHash.ensures

pub returns-in-HashEscape : goal.returns-in-HashEscape
returns-in-HashEscape c = rw c.in-HashEscape.is c.row-in-HashEscape.ensures

pub returns-in-HashTick : goal.returns-in-HashTick
returns-in-HashTick c = rw c.in-HashTick.is c.row-in-HashTick.ensures

pub returns-in-HashComma : goal.returns-in-HashComma
returns-in-HashComma c = rw c.in-HashComma.is c.row-in-HashComma.ensures

pub returns-in-Nest : goal.returns-in-Nest
returns-in-Nest c = rw c.in-Nest.is c.row-in-Nest.ensures

pub returns-in-NestBar : goal.returns-in-NestBar
returns-in-NestBar c = rw c.in-NestBar.is c.row-in-NestBar.ensures

pub returns-in-NestSharp : goal.returns-in-NestSharp
returns-in-NestSharp c = rw c.in-NestSharp.is c.row-in-NestSharp.ensures

pub returns-in-Quoted : goal.returns-in-Quoted
returns-in-Quoted c = rw c.in-Quoted.is c.quotes_row.ensures

pub returns-in-Closed : goal.returns-in-Closed
returns-in-Closed c = rw c.in-Closed.is c.quotes_row-in-Closed.ensures

pub returns-in-TrimBefore : goal.returns-in-TrimBefore
returns-in-TrimBefore c = rw c.in-TrimBefore.is c.quotes_row-in-TrimBefore.ensures

pub returns-in-TrimAfter : goal.returns-in-TrimAfter
returns-in-TrimAfter c = rw c.in-TrimAfter.is c.quotes_row-in-TrimAfter.ensures

pub returns-in-Escape : goal.returns-in-Escape
returns-in-Escape c = rw c.in-Escape.is c.quotes_row-in-Escape.ensures

pub returns-in-Brace : goal.returns-in-Brace
returns-in-Brace c = rw c.in-Brace.is c.quotes_row-in-Brace.ensures

pub returns-in-Hex : goal.returns-in-Hex
returns-in-Hex c = rw c.in-Hex.is c.quotes_row-in-Hex.ensures

pub returns-in-Done : goal.returns-in-Done
returns-in-Done c = rw c.in-Done.is c.outcome_row.ensures
