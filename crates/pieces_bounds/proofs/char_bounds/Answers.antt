-- A character has few bytes, so the sum fits.
use native.Mathlib.Omega.{arith}
use Rattle.chars.proofs.Width.{width_le}
use Rattle.pieces_bounds.proofs.char_bounds.Goals as goal

pub overflow_add-result : goal.overflow_add-result
overflow_add-result c = omega (arith, c.char_width.ensures, width_le c.args.c)
