-- The invariant: the last digits are left.
use native.Mathlib.Nat.{sub-zero}
use native.Mathlib.Omega.{arith}
use Prim.Native.Nat.{◌+◌, ◌-◌}
use mathlib.Core.Path.{◌≡◌}
use Rattle.findings_render_parts.proofs.OneByOne.{left_start, left_on, left_end}
use Rattle.findings_render_parts.proofs.Digits.{digits_on, digits_end}
use Rattle.findings_render_parts.proofs.numbers.put_digits.Goals as goal

pub loop-k-init : goal.loop-k-init
loop-k-init c = rw sub-zero left_start

pub loop-k-preserved : goal.loop-k-preserved
loop-k-preserved c =
    let e : c.args.w - c.loop-k.k - 1 ≡ c.args.w - (c.loop-k.k + 1) = omega arith in
    let f : c.args.w - 1 - c.loop-k.k ≡ c.args.w - (c.loop-k.k + 1) = omega arith in
    left_on c.loop-k.invariant
    (rw (c.digit_at.ensures, f) (rw e at (digits_on c.args.hex (c.args.w - c.loop-k.k) c.args.n (omega arith)))) c.put_byte-next.ensures

pub shape_of-out : goal.shape_of-out
shape_of-out c = c.loop-k.invariant.room

pub returns : goal.returns
returns c =
    left_end c.loop-k.invariant (digits_end c.args.hex (c.args.w - c.loop-k.k) c.args.n (omega arith))
