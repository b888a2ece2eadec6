-- A finding's bytes. In full:
--     01.scm:2:11: warning: terminals that read in plain mode take this number for a name [W07]
--         2 |   (corner 6892014.7;gps
--           |           ^^^^^^^^^
--           = help: put a blank before the `;`
use Rattle.std.specs.Prelude.{ℕ, ◌-◌, Bool, not, List, [], ◌∷◌, ◌++◌, eqb, ltb, take, drop, if◌then◌else◌}
use Rattle.laws.specs.Quoted.{codes, code}
use Rattle.findings_render_messages.specs.declared.ToldFinding.{ToldFinding}
use Rattle.findings_render_parts.specs.declared.Window.{Window}
use Rattle.findings_render_parts.specs.Printed.{number, aligned}
use Rattle.findings_render_parts.specs.Shown.{shown, under, carets}
use Rattle.findings_render_parts.specs.Spots.{line_number, column_number, window_of}
use Rattle.findings_render_messages.specs.Messages.{code_of, text_of, is_told}

-- some bytes, or none
abbrev pub only_if : Bool → List ℕ → List ℕ
only_if there bs = if there then bs else []

-- what turns a terminal's colours on, and off again
abbrev pub escape : ℕ
escape = 0x1B

abbrev pub red : List ℕ
red = escape ∷ codes "[1;31m"

abbrev pub magenta : List ℕ
magenta = escape ∷ codes "[1;35m"

abbrev pub green : List ℕ
green = escape ∷ codes "[1;32m"

abbrev pub plain : List ℕ
plain = escape ∷ codes "[0m"

-- ---- the picture

abbrev pub least : ℕ → ℕ → ℕ
least x y = if ltb y x then y else x

-- `    2 |   (corner 6892014.7;gps`, with `...` where the line is cut
unfoldable pub line_of : List ℕ → Window → ℕ → List ℕ
line_of s w n =
    aligned n
    ++ (codes " | "
    ++ (only_if (not (eqb w.from w.start)) (codes "...")
    ++ (shown (take (w.to - w.from) (drop w.from s))
    ++ (only_if (not (eqb w.to w.end)) (codes "...")
    ++ codes "\n"))))

-- `      |           ^^^^^^^^^`
unfoldable pub under_line : Bool → List ℕ → Window → ℕ → ℕ → List ℕ
under_line colour s w p q =
    codes "      | "
    ++ (only_if (not (eqb w.from w.start)) (codes "   ")
    ++ (under (code " ") (take (p - w.from) (drop w.from s))
    ++ (only_if colour green
    ++ (carets (take (least q w.to - p) (drop p s))
    ++ (only_if colour plain
    ++ codes "\n")))))

unfoldable pub picture : Bool → List ℕ → ℕ → ℕ → List ℕ
picture colour s p q = line_of s (window_of s p) (line_number s p) ++ under_line colour s (window_of s p) p q

-- ---- its lines

-- `NAME:LINE:COLUMN: `
unfoldable pub spot : List ℕ → List ℕ → ℕ → List ℕ
spot name s p = name ++ (codes ":" ++ (number (line_number s p) ++ (codes ":" ++ (number (column_number s p) ++ codes ": "))))

abbrev pub is_error : ToldFinding → Bool
is_error t = ltb 1 t.severity

unfoldable pub severity_word : ToldFinding → List ℕ
severity_word t = if is_error t then codes "error" else codes "warning"

unfoldable pub severity : Bool → ToldFinding → List ℕ
severity colour t = only_if colour (if is_error t then red else magenta) ++ (severity_word t ++ (codes ": " ++ only_if colour plain))

-- `NAME:LINE:COLUMN: error: MESSAGE [E41]`
unfoldable pub headline : Bool → ToldFinding → List ℕ → List ℕ → List ℕ
headline colour t s name = spot name s t.start ++ (severity colour t ++ (text_of t s (code ".") ++ (codes " [" ++ (code_of t ++ codes "]\n"))))

unfoldable pub help : ToldFinding → List ℕ → List ℕ
help t s = if is_told t (code "?") then codes "      = help: " ++ (text_of t s (code "?") ++ codes "\n") else []

unfoldable pub note : Bool → Bool → ToldFinding → List ℕ → List ℕ → List ℕ
note full colour t s name =
    if is_told t (code "!")
    then spot name s t.from ++ (codes "note: " ++ (text_of t s (code "!") ++ (codes "\n" ++ only_if full (picture colour s t.from t.to))))
    else []

-- what stands under the headline, in full
unfoldable pub body : Bool → ToldFinding → List ℕ → List ℕ
body colour t s = picture colour s t.start t.end ++ help t s

unfoldable pub lines : Bool → Bool → ToldFinding → List ℕ → List ℕ → List ℕ
lines full colour t s name = headline colour t s name ++ (only_if full (body colour t s) ++ note full colour t s name)
