-- Whether there is a real, or there are parts: what `plus_number` asks of what stands after a plus (02 (viii)), as a means of proof.
use Rattle.numbers.specs.declared.Parts.{Parts}
use Rattle.numbers.specs.declared.Real.{Real}
use Rattle.std.specs.Prelude.{Bool, Option, is_some}

abbrev pub is_real : Option Real → Bool
is_real r = is_some r

abbrev pub is_parts : Option Parts → Bool
is_parts p = is_some p
