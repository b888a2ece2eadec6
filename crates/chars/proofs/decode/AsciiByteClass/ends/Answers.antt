-- What is not below 0x80 is no character of ASCII (Ascii).
use Rattle.chars.proofs.Ascii.{ascii_ends}
use Rattle.chars.proofs.decode.AsciiByteClass.ends.Goals as goal

pub returns : goal.returns
returns c = ascii_ends c.args.c
