-- Which characters of ASCII leave an item in the phase that it is in, where the code passes them as a run.
use Rattle.std.specs.Prelude.{ℕ, Bool, false, not, ◌&&◌, eqb, ltb}
use Rattle.laws.specs.Quoted.{code}
use Rattle.byte_runs.specs.Runs.{plain}
use Rattle.items.specs.declared.Phase.{Phase}
use Rattle.items.specs.declared.Phase.TheVariants as ph
use Rattle.items.specs.Classes.{delim_of, breaks_word, stays_run}

abbrev pub of_word : ℕ → Bool
of_word c = ltb c 0x80 && (not (breaks_word c) && not (eqb c (code "\\")))

abbrev pub of_run : ℕ → Bool
of_run c = ltb c 0x80 && stays_run c

-- by phase: in a comment, in quotes, in a word, in one that starts with `#` and in a number run; elsewhere none is passed
abbrev pub keeps : Phase → ℕ → Bool
keeps ph.InLine c = plain (code "\n") (code "\n") c
keeps ph.AfterComma c = false
keeps ph.AfterHash c = false
keeps ph.AfterAngle c = false
keeps ph.HereDelim c = false
keeps ph.HereStart c = false
keeps ph.HereBody c = false
keeps ph.InWord c = of_word c
keeps ph.WordEscape c = false
keeps ph.InRun c = of_run c
keeps ph.InHash c = of_word c
keeps ph.HashEscape c = false
keeps ph.HashTick c = false
keeps ph.HashComma c = false
keeps (ph.Nest d) c = plain (code "|") (code "#") c
keeps (ph.NestBar d) c = false
keeps (ph.NestSharp d) c = false
keeps (ph.Quoted k) c = plain (delim_of k) (code "\\") c
keeps (ph.Closed k) c = false
keeps (ph.TrimBefore k) c = false
keeps (ph.TrimAfter k) c = false
keeps (ph.Escape k from) c = false
keeps (ph.Brace k from) c = false
keeps (ph.Hex k closer from n) c = false
keeps (ph.Done o) c = false
