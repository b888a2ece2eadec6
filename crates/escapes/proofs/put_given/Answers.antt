-- What an element gave fits, so that `put_char` writes it.
use mathlib.Core.Path.{refl, ◌∙◌}
use native.Mathlib.Omega.{arith}
use Rattle.escapes.proofs.Laying.{lay-written, byte_written}
use Rattle.escapes.proofs.put_given.Goals as goal

pub bounds-free-0 : goal.bounds-free-0
bounds-free-0 c = let h = rw c.in-Byte.is at c.requires in omega arith

pub returns-in-Byte : goal.returns-in-Byte
returns-in-Byte c =
    rw c.in-Byte.is
    (refl, byte_written c.args.free.now _ (let h = rw c.in-Byte.is at c.requires in omega arith))

pub returns-in-Code : goal.returns-in-Code
returns-in-Code c =
    let e = c.in-Code.is in
    let h = lay-written _ _ (rw e at c.requires) in
    rw e (c.put_char.ensures.0 ∙ h.0, c.put_char.ensures.1 ∙ h.1)
