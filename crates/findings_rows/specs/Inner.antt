-- The same as the code hands it on: an item in nine words, and the record of a row.
use Rattle.std.specs.Prelude.{ℕ, suc, ◌-◌, List, length, leb, if◌then◌else◌, None, Option, Some}
use Rattle.items.specs.Kinds as kind
use Rattle.items.specs.declared.Nine.{Nine}
use Rattle.items.specs.declared.Record.{Record}
use Rattle.meaning.specs.Records.{packed}
use Rattle.lexer.specs.Reading.{size_of, one_found}
use Rattle.lexer.specs.declared.Spot.{Spot}
use Rattle.lexer.specs.declared.Found.{Found}
use Rattle.findings_rows.specs.Mended.{closing_of, quote_of, spot_at, unclosed_at, mended_from}
use Rattle.findings_rows.specs.Rows.{rows_from}

-- the item with its extent up to another place
abbrev pub ended_nine : ℕ → Nine → Nine
ended_nine e r = record {
  kind = r.kind;
  detail = r.detail;
  start = r.start;
  «end» = e;
  from = r.from;
  to = r.to;
  source = r.source;
  first = r.first;
  past = r.past;
}

abbrev pub unclosed_nine : ℕ → ℕ → ℕ → Nine
unclosed_nine quote start e = packed 0 (unclosed_at quote start e)

-- a slip mended
abbrev pub mended_by : List ℕ → Nine → Spot → Option ℕ → Option Found
mended_by source r q (Some e) = one_found (ended_nine e r) (spot_at q e)
mended_by source r q None = one_found (unclosed_nine (quote_of source r.start) r.start (length source)) (spot_at q (length source))

abbrev pub mend_nine : List ℕ → Nine → Spot → Option Found
mend_nine source r q = mended_by source r q (closing_of source r.kind r.start q.at)

-- the record that has the words of a row
abbrev pub row_nine : ℕ → ℕ → Nine → ℕ → ℕ → Nine
row_nine k d r error more = record {
  kind = k;
  detail = d;
  start = r.start;
  «end» = r.end;
  from = r.from;
  to = r.to;
  source = error;
  first = more;
  past = 0;
}

abbrev pub row_record : ℕ → Nine → Record
row_record depth r = record {
  nine = if leb kind.first_error r.kind then row_nine kind.Identifier 0 r (r.kind - kind.first_error) r.detail else row_nine r.kind r.detail r 0 0;
  depth = depth;
}

-- the rows from a spot on
abbrev pub from_spot : List ℕ → Spot → List (List ℕ)
from_spot source p = rows_from 0 (mended_from (suc (size_of source p)) source p)
