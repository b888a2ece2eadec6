-- The words of every state that the calls produced are a code, since its numbers are narrow.
use Rattle.std.proofs.Common.{None, Some}
use Rattle.items.specs.declared.Outcome.{Outcome}
use Rattle.items.specs.declared.Outcome.TheVariants.{Token, Str, HereStr, Word, Run, Lined, Keyword, Character, Error, ErrorAt}
use Rattle.items.specs.declared.Phase.{Phase}
use Rattle.items.specs.declared.Phase.TheVariants as ph
use Rattle.items.specs.declared.Quotes.{Quotes}
use Rattle.items.specs.declared.Quotes.TheVariants.{Double, Lines}
use Rattle.pieces.specs.declared.Stage.{Stage}
use Rattle.pieces.specs.declared.Stage.TheVariants.{Opening, Pound, FirstLine, Idle, Busy, Waiting, Stopped}
use Rattle.pieces.specs.declared.State.{State as ByValue}
use Rattle.pieces.proofs.Kept.{both}
use Rattle.pieces_lent.specs.Coding.{coded, narrow, is_code, stage_row, phase_row, outcome_row, quotes_code, Narrow}
use Rattle.pieces_lent.proofs.Back.{coded_is_code}
use Rattle.pieces_lent.proofs.SmallNumbers.{Small, Slim, Slight}
use Rattle.pieces_lent.proofs.Narrowness.{Lean, Staged}
use Prim.Native.Nat.{ℕ, ◌^◌}
use mathlib.Core.Path.{◌≡◌}
use mathlib.Core.Bool.{true}
use native.Mathlib.Omega.{arith}
use borrow.Author.Tests.{lt-ltb}

quotes_narrow : (k : Quotes) → Small (quotes_code k)
quotes_narrow Double = omega arith
quotes_narrow Lines = omega arith

outcome_narrow : (st : ℕ) (o : Outcome) → Slim o → Narrow (outcome_row st o)
outcome_narrow st (Token k d) h = record { which = h.0; detail = h.1 }
outcome_narrow st Str h = record { which = omega arith; detail = omega arith }
outcome_narrow st HereStr h = record { which = omega arith; detail = omega arith }
outcome_narrow st Word h = record { which = omega arith; detail = omega arith }
outcome_narrow st Run h = record { which = omega arith; detail = omega arith }
outcome_narrow st Lined h = record { which = omega arith; detail = omega arith }
outcome_narrow st Keyword h = record { which = omega arith; detail = omega arith }
outcome_narrow st Character h = record { which = omega arith; detail = omega arith }
outcome_narrow st (Error n d) h = record { which = h.0; detail = h.1 }
outcome_narrow st (ErrorAt n d a b) h = record { which = h.0; detail = h.1 }

phase_narrow : (st : ℕ) (p : Phase) → Slight p → Narrow (phase_row st p)
phase_narrow st ph.InLine h = record { which = omega arith; detail = omega arith }
phase_narrow st ph.AfterComma h = record { which = omega arith; detail = omega arith }
phase_narrow st ph.AfterHash h = record { which = omega arith; detail = omega arith }
phase_narrow st ph.AfterAngle h = record { which = omega arith; detail = omega arith }
phase_narrow st ph.HereDelim h = record { which = omega arith; detail = omega arith }
phase_narrow st ph.HereStart h = record { which = omega arith; detail = omega arith }
phase_narrow st ph.HereBody h = record { which = omega arith; detail = omega arith }
phase_narrow st ph.InWord h = record { which = omega arith; detail = omega arith }
phase_narrow st ph.WordEscape h = record { which = omega arith; detail = omega arith }
phase_narrow st ph.InRun h = record { which = omega arith; detail = omega arith }
phase_narrow st ph.InHash h = record { which = omega arith; detail = omega arith }
phase_narrow st ph.HashEscape h = record { which = omega arith; detail = omega arith }
phase_narrow st ph.HashTick h = record { which = omega arith; detail = omega arith }
phase_narrow st ph.HashComma h = record { which = omega arith; detail = omega arith }
phase_narrow st (ph.Nest d) h = record { which = omega arith; detail = omega arith }
phase_narrow st (ph.NestBar d) h = record { which = omega arith; detail = omega arith }
phase_narrow st (ph.NestSharp d) h = record { which = omega arith; detail = omega arith }
phase_narrow st (ph.Quoted k) h = record { which = quotes_narrow k; detail = omega arith }
phase_narrow st (ph.Closed k) h = record { which = quotes_narrow k; detail = omega arith }
phase_narrow st (ph.TrimBefore k) h = record { which = quotes_narrow k; detail = omega arith }
phase_narrow st (ph.TrimAfter k) h = record { which = quotes_narrow k; detail = omega arith }
phase_narrow st (ph.Escape k from) h = record { which = quotes_narrow k; detail = omega arith }
phase_narrow st (ph.Brace k from) h = record { which = quotes_narrow k; detail = omega arith }
phase_narrow st (ph.Hex k closer from m) h = record { which = quotes_narrow k; detail = h }
phase_narrow st (ph.Done o) h = outcome_narrow st o h

stage_narrow : (g : Stage) → Staged g → Narrow (stage_row g)
stage_narrow Opening h = record { which = omega arith; detail = omega arith }
stage_narrow Pound h = record { which = omega arith; detail = omega arith }
stage_narrow FirstLine h = record { which = omega arith; detail = omega arith }
stage_narrow Idle h = record { which = omega arith; detail = omega arith }
stage_narrow (Busy st p) h = phase_narrow st p h
stage_narrow (Waiting st None) h = record { which = omega arith; detail = omega arith }
stage_narrow (Waiting st (Some c)) h = record { which = omega arith; detail = h }
stage_narrow (Stopped n p) h = record { which = h; detail = omega arith }

pub lean_is_code : (s : ByValue) → Lean s → is_code (coded s.marks) ≡ true
unfolding coded narrow
lean_is_code s h =
    let r : Narrow (stage_row s.marks.stage) = stage_narrow s.marks.stage h.stage in
    coded_is_code s.marks
    (both (both (both (both (both (both (both
    (lt-ltb s.marks.mode (2 ^ 32) h.mode)
    (lt-ltb (stage_row s.marks.stage).which (2 ^ 32) r.which))
    (lt-ltb (stage_row s.marks.stage).detail (2 ^ 32) r.detail))
    (lt-ltb s.marks.part.state.need (2 ^ 8) h.begun.need))
    (lt-ltb s.marks.part.state.low (2 ^ 8) h.begun.low))
    (lt-ltb s.marks.part.state.high (2 ^ 8) h.begun.high))
    (lt-ltb s.marks.part.state.code (2 ^ 32) h.begun.code))
    (lt-ltb s.marks.depth (2 ^ 32) h.depth))
