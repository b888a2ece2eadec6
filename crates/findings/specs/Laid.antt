-- How many findings there are, and what of them lies in lent memory.
use Rattle.std.specs.Prelude.{ℕ, ◌+◌, ◌*◌, List, map, length}
use Rattle.findings_rows.specs.Laid.{laid_rows, laid_rows_from}
use Rattle.findings.specs.Finding.{finding_words, words_of}
use Rattle.findings.specs.Told.{errors_in}
use Rattle.findings.specs.declared.Finding.{Finding}
use Rattle.findings.specs.declared.Counted.{Counted}

abbrev pub counted : ℕ → ℕ → Counted
counted n e = record { findings = n; errors = e }

-- some findings more
abbrev pub count_on : Counted → List Finding → Counted
count_on n fs = counted (n.findings + length fs) (n.errors + errors_in fs)

-- the first ones that fit are written, whole, from the start: as many as there is room for
abbrev pub laid_findings : List Finding → List ℕ → List ℕ
laid_findings fs memory = laid_rows (map words_of fs) memory

-- some findings laid behind n
abbrev pub laid_behind : ℕ → List Finding → List ℕ → List ℕ
laid_behind n fs memory = laid_rows_from (n * finding_words) (map words_of fs) memory

-- how many there are, and what the memory then holds
pub record Telling : Type 0 where
  pub count : Counted
  pub memory : List ℕ

abbrev pub telling : Counted → List ℕ → Telling
telling n memory = record { count = n; memory = memory }

abbrev pub all_told : List Finding → List ℕ → Telling
all_told fs memory = telling (counted (length fs) (errors_in fs)) (laid_findings fs memory)
