-- What the search for a misfit keeps: a value for each depth, of the last bracket that opens there.
use Rattle.std.specs.Prelude.{ℕ, ◌-◌, Bool, ◌&&◌, List, eqb, leb, ltb, length, get_or, set, if◌then◌else◌}
use Rattle.laws.specs.Quoted.{within}
use Rattle.items.specs.Kinds as kind
use Rattle.nested.specs.Grammar.{deepest}
use Rattle.findings.specs.Lines.{first_on_line}
use Rattle.findings.specs.declared.Row.{Row}

-- kept for the depth of a row, if it opens a bracket
unfoldable pub noted : Row → ℕ → List ℕ → List ℕ
noted r value kept = if eqb r.kind kind.OpenParen && ltb r.depth (length kept) then set kept r.depth value else kept

-- whether a row is a misfit, by where the lines of the brackets start and how far right these stand
unfoldable pub misfit_by : List ℕ → Row → ℕ → List ℕ → List ℕ → Bool
misfit_by source r line starts offsets =
    eqb r.kind kind.OpenParen && within 1 deepest r.depth
    && (ltb (get_or starts (r.depth - 1) 0) line && leb (r.start - line) (get_or offsets (r.depth - 1) 0) && first_on_line source r.start)
