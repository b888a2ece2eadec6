-- The last lines of a file: how many findings were not told, if not all were, and `FILE: ok` or the counts.
use Rattle.std.specs.Prelude.{ℕ, ◌-◌, not, List, [], ◌++◌, eqb, ltb, if◌then◌else◌}
use Rattle.laws.specs.Quoted.{codes}
use Rattle.findings_render_parts.specs.Printed.{number}
use Rattle.findings_render.specs.Rendered.{only_if}

-- `1 error`, `2 errors`
unfoldable pub count_of : ℕ → List ℕ → List ℕ
count_of n word = number n ++ (word ++ only_if (not (eqb n 1)) (codes "s"))

unfoldable pub counts : ℕ → ℕ → List ℕ
counts findings errors =
    if eqb findings 0 then codes "ok" else count_of errors (codes " error") ++ (codes ", " ++ count_of (findings - errors) (codes " warning"))

unfoldable pub more : List ℕ → ℕ → ℕ → List ℕ
more name findings told = if ltb told findings then name ++ (codes ": " ++ (number (findings - told) ++ codes " more\n")) else []

unfoldable pub last : List ℕ → ℕ → ℕ → List ℕ
last name findings errors = name ++ (codes ": " ++ (counts findings errors ++ codes "\n"))

-- in full and in brief; JSON and any other style have none
unfoldable pub summed : List ℕ → ℕ → ℕ → ℕ → ℕ → List ℕ
summed name findings errors told style = if ltb style 2 then more name findings told ++ last name findings errors else []
