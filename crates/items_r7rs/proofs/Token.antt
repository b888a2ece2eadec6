-- Every production of <token> and <comment> is read as one item, of its kind and detail, and with the text that the standard gives it.
use Prim.Native.Nat.{ℕ}
use mathlib.Core.Bool.{Bool}
use mathlib.Core.List.{List}
use Rattle.items_r7rs.specs.Reading.{Spelling, ReadAs}
use Rattle.chars.specs.Encode.{bytes_of}
use Rattle.items_r7rs.specs.Token as token
use Rattle.items_r7rs.proofs.Boolean.{boolean}
use Rattle.items_r7rs.proofs.Punctuation.{punctuation}
use Rattle.items_r7rs.proofs.Comment.{line_comment, nested_comment, datum_comment}
use Rattle.items_r7rs.proofs.String.{string}
use Rattle.items_r7rs.proofs.Character.{character_text}
use Rattle.items_r7rs.proofs.Identifier.{plain_identifier, peculiar_identifier}
use Rattle.items_r7rs.proofs.Lined.{lined_identifier}
use Rattle.items_r7rs.proofs.Number.{real_text}
use Rattle.items_r7rs.proofs.Written.{written_number}
use Rattle.items_r7rs.proofs.NoNumber.{no_number}

pub read_as : (report : Bool) (cs : List ℕ) {t : List ℕ} {k d : ℕ} {w : Spelling} → token.Token report cs t k d w → ReadAs report t cs k d w
read_as report cs (token.boolean b e) = boolean report cs b e
read_as report cs (token.character c e) = character_text report cs c e
read_as report cs (token.string s) = string report cs s
read_as report cs (token.identifier p k e) = plain_identifier report cs p k e
read_as report cs (token.peculiar {t = t} p u n s k e) = peculiar_identifier report cs p u (no_number (bytes_of t) n s) k e
read_as report cs (token.lined l) = lined_identifier report cs l
read_as report cs (token.number x e) = real_text report cs x e
read_as report cs (token.any_number x e) = written_number report cs x e
read_as report cs (token.punctuation p f) = punctuation report cs p f
read_as report cs (token.line_comment t e l f) = line_comment report cs l f
read_as report cs (token.nested_comment n) = nested_comment report cs n
read_as report cs token.datum_comment = datum_comment report cs
