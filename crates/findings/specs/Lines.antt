-- Lines as far as a list's shape on the page asks for them.
use Rattle.std.specs.Prelude.{ℕ, zero, suc, ◌-◌, Bool, true, false, ◌||◌, List, eqb, if◌then◌else◌}
use Rattle.laws.specs.Quoted.{code}
use Rattle.findings.specs.Rows.{byte_at}

abbrev pub is_newline : ℕ → Bool
is_newline b = eqb b (code "\n")

-- a space or a tab
abbrev pub is_space : ℕ → Bool
is_space b = eqb b (code " ") || eqb b (code "\t")

-- where the line of a place starts: behind the last newline before it
unfoldable pub line_start : List ℕ → ℕ → ℕ
line_start source zero = 0
line_start source (suc i) = let more = line_start source i in if is_newline (byte_at source i) then suc i else more

-- how far right a place stands, in bytes
abbrev pub offset : List ℕ → ℕ → ℕ
offset source a = a - line_start source a

-- only spaces and tabs stand before a place in its line
unfoldable pub first_on_line : List ℕ → ℕ → Bool
first_on_line source zero = true
first_on_line source (suc i) =
    let more = first_on_line source i in
    if is_newline (byte_at source i) then true else if is_space (byte_at source i) then more else false
