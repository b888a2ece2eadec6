-- Nine for each bit and 64, in 64ths: 32 - zeros bits are (352 - 9 * zeros) / 64 groups.
use native.Mathlib.Omega.{arith}
use lib.Count.{leading_le}
use Rattle.items_files.proofs.Groups.{count_leading}
use Rattle.items_files.proofs.storing.group_count.Goals as goal

pub overflow_mul-result : goal.overflow_mul-result
overflow_mul-result c = omega (arith, leading_le 32 c.args.n)

pub overflow_sub-result : goal.overflow_sub-result
overflow_sub-result c = omega (arith, leading_le 32 c.args.n)

pub returns : goal.returns
returns c = count_leading c.args.n c.ranges.n.fits
