-- The decimal digits are the bytes from 0 to 9.
use Rattle.std.proofs.Common.{not, ap, ◌∙◌, sym}
use Rattle.digits.proofs.Digits.{decimal_digit}
use Rattle.digits.proofs.DecimalByteClass.ends.Goals as goal

pub returns : goal.returns
returns c = ap not (c.between.ensures ∙ sym (decimal_digit c.args.c))
