-- A byte of the delimiter, known or next, that does not stand where it should tells that the delimiter does not stand there (Sought).
use native.Mathlib.Omega.{arith}
use Prim.Native.Nat.{◌-◌}
use mathlib.Core.Path.{◌∙◌}
use Rattle.laws.proofs.Choice.{no_yes}
use Rattle.items.specs.Readers.{unreturned}
use Rattle.steps.proofs.Sought.{missed, byte_at, known_missed}
use Rattle.steps.proofs.search.refuted.Goals as goal

pub overflow_add-i : goal.overflow_add-i
overflow_add-i c = omega (arith, c.requires.0, c.requires.1)

pub bounds-s-i : goal.bounds-s-i
bounds-s-i c = omega (arith, c.requires.0, c.requires.1)

pub bounds-line-read : goal.bounds-line-read
bounds-line-read c = (c.requires.2.waits c.requires.1).0

pub returns-then-s-i : goal.returns-then-s-i
returns-then-s-i c h =
    let f = c.args in
    let p = c.requires in
    missed (unreturned f.line.now) f.s.now f.i f.known.count p.1
    (λ e. c.if-s-i.true (e ∙ byte_at f.line.now f.known.count f.known.read p.2.begun.rest (p.2.waits p.1)))

pub differs-requires : goal.differs-requires
differs-requires c = let p = c.requires in (omega (arith, p.0, p.1), p.2.begun.room)

pub returns-then-differs : goal.returns-then-differs
returns-then-differs c h =
    let f = c.args in
    let d = c.differs.ensures c.if-differs.true in
    known_missed f.line.now f.s.now f.known.at f.i f.known.count f.known.read f.known.off c.requires.2.begun d.0 d.1

pub returns-then-known-i : goal.returns-then-known-i
returns-then-known-i c = no_yes

pub differs-requires-2 : goal.differs-requires-2
differs-requires-2 c = let p = c.requires in (omega (arith, p.0, p.1), p.2.begun.room)

pub returns : goal.returns
returns c h =
    let f = c.args in
    let d = c.differs-2.ensures h in
    known_missed f.line.now f.s.now f.known.at f.i f.known.count f.known.read (f.known.odd - f.i)
    c.requires.2.begun d.0 d.1
