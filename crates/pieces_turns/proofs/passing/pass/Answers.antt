-- In an item the run is copied behind what is held, between items and in a first line it is only counted; no other stage has one.
use native.Mathlib.Omega.{arith}
use mathlib.Core.Path.{◌≡◌, ap, ◌∙◌}
use mathlib.Core.List.{List}
use Prim.Native.Nat.{ℕ}
use Rattle.pieces.specs.declared.Marks.{Marks}
use Rattle.pieces_giving.specs.Answers.{state_of}
use Rattle.pieces_giving.proofs.Laid.{part_laid}
use Rattle.pieces_turns.proofs.Passes.{passed_none, passed_some}
use Rattle.pieces_turns.proofs.passing.pass.Goals as goal

state-both : {m n : Marks} {b d : List ℕ} → m ≡ n → b ≡ d → state_of m b ≡ state_of n d
state-both e f = cc

pub returns-then-n-eq0 : goal.returns-then-n-eq0
returns-then-n-eq0 c =
    passed_none (state_of c.args.m c.args.buf.now) c.args.run.now (omega arith)

pub returns-in-Opening : goal.returns-in-Opening
returns-in-Opening c =
    passed_some (state_of c.args.m c.args.buf.now) c.args.run.now (omega arith) _ c.in-Opening.is

pub returns-in-Pound : goal.returns-in-Pound
returns-in-Pound c =
    passed_some (state_of c.args.m c.args.buf.now) c.args.run.now (omega arith) _ c.in-Pound.is

pub returns-in-FirstLine : goal.returns-in-FirstLine
returns-in-FirstLine c =
    ap (λ (x : Marks). state_of x c.args.buf.now) c.marks_at.ensures
    ∙ passed_some (state_of c.args.m c.args.buf.now) c.args.run.now (omega arith) _ c.in-FirstLine.is

pub returns-in-Idle : goal.returns-in-Idle
returns-in-Idle c =
    ap (λ (x : Marks). state_of x c.args.buf.now) c.marks_at-in-Idle.ensures
    ∙ passed_some (state_of c.args.m c.args.buf.now) c.args.run.now (omega arith) _ c.in-Idle.is

pub returns-in-Busy : goal.returns-in-Busy
returns-in-Busy c =
    let f = c.args in
    state-both c.marks_at-in-Busy.ensures (part_laid f.m.len f.run.now f.buf.now c.copy_all.ensures)
    ∙ passed_some (state_of f.m f.buf.now) f.run.now (omega arith) _ c.in-Busy.is

pub returns-in-Waiting : goal.returns-in-Waiting
returns-in-Waiting c =
    passed_some (state_of c.args.m c.args.buf.now) c.args.run.now (omega arith) _ c.in-Waiting.is

pub returns-in-Stopped : goal.returns-in-Stopped
returns-in-Stopped c =
    passed_some (state_of c.args.m c.args.buf.now) c.args.run.now (omega arith) _ c.in-Stopped.is
