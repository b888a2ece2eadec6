-- A letter by itself is no name of a character, so that after `#\` a character of ASCII alone stands for itself.
use Rattle.std.proofs.Common.{Ok}
use Prim.Native.Nat.{ℕ, ◌≤◌, ◌<◌}
use mathlib.Core.Path.{◌≡◌, refl}
use mathlib.Core.Bool.{Bool, false, ◌&&◌, ◌||◌}
use mathlib.Core.List.{List, [], ◌∷◌, map}
use lib.Dec.{eqb}
use lib.ListN.{length}
use native.Mathlib.Omega.{arith}
use Rattle.laws.specs.Quoted.{code}
use Rattle.laws.specs.Texts.{same}
use Rattle.laws.proofs.Choice.{and_no}
use Rattle.chars.specs.Encode.{bytes_of, utf8}
use Rattle.chars.proofs.Round.{one_read}
use Rattle.items.specs.Readers.{first_is}
use Rattle.items.specs.Meaning.{lookup, char_names, unnamed, lower, spelled_out, character_of}

pub letter_unnamed : (t : List ℕ) → length t ≤ 1 → lookup char_names (map lower t) unnamed ≡ unnamed
unfolding lookup char_names same bytes_of utf8
letter_unnamed [] h = refl
letter_unnamed (c ∷ []) h = let no : (k : ℕ) → (eqb (lower c) k && false) ≡ false = λ k. and_no (eqb (lower c) k) in
    rw (no 0x61, no 0x62, no 0x64, no 0x65, no 0x6E, no 0x72, no 0x73, no 0x74)
letter_unnamed (c ∷ d ∷ t) h = absurd (omega arith)

pub lone_is : (report : Bool) (c : ℕ) → c < 0x80 → character_of report (c ∷ []) ≡ Ok c
unfolding character_of spelled_out
lone_is report c h = rw (letter_unnamed (c ∷ []) (omega arith)) (rw (and_no (first_is (code "u") (c ∷ []) || first_is (code "x") (c ∷ [])), one_read c [] h))
