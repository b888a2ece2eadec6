-- What the theorems of proofs/Singles say of the call: each part is as the whole-text call reads it alone.
use Rattle.std.specs.Prelude.{ℕ, ◌+◌, ◌*◌, ◌/◌, ◌≤◌, ◌≡◌, Bool, List, [], ◌∷◌, ◌++◌, length, take, drop, eqb, if◌then◌else◌, None, Option, Some}
use Rattle.laws.specs.Lent.{written}
use Rattle.refusal.specs.Refusals as refusal
use Rattle.chars.specs.Utf8.{first_bad}
use Rattle.items.specs.Items.{record_words}
use Rattle.items.specs.Whole.{Answer, served, refused, Call, call, read_of}
use Rattle.lexer_fields.specs.Fields.{row_words, FieldsCall, fields_call}

-- what the whole-text call gives for a part alone, by the part's mark, place, counts, records and texts: they are written, or it refuses with 21
abbrev pub alone : ℕ → ℕ → ℕ → ℕ → List ℕ → List ℕ → List ℕ → List ℕ → Call
alone mark place n t rs bs recs text = if eqb mark refusal.not_utf8 then call (refused refusal.not_utf8 place 0) recs text else call (served n t) (written rs recs) (written bs text)

-- a part's mark and place; a part that is not UTF-8 has no items
abbrev pub Marked : Option ℕ → ℕ → ℕ → ℕ → ℕ → Type 0
Marked None mark place items bytes = (mark ≡ 0) × (place ≡ 0)
Marked (Some p) mark place items bytes = (mark ≡ refusal.not_utf8) × (place ≡ p) × (items ≡ 0) × (bytes ≡ 0)

-- what a part's row says, and what the part's call alone gives; `count` is the number of parts, n and t are the answer's totals
pub record Single (mode : ℕ) (skip : Bool) (part : List ℕ) (out : FieldsCall) (count n t k : ℕ) : Type 0 where
  -- the part's row
  pub first : ℕ
  pub byte : ℕ
  pub mark : ℕ
  pub place : ℕ
  pub row : take row_words (drop (row_words * k) out.rows) ≡ first ∷ byte ∷ mark ∷ place ∷ []
  -- how many records and text bytes it has: the next row begins past them, and past the last part's are the totals
  pub items : ℕ
  pub bytes : ℕ
  pub next : take 2 (drop (row_words * (k + 1)) (take (row_words * count) out.rows ++ (n ∷ t ∷ []))) ≡ (first + items) ∷ (byte + bytes) ∷ []
  pub marked : Marked (first_bad part) mark place items bytes
  -- the whole-text call for the part alone, with that much memory or more, writes exactly those records and bytes, or refuses with 21
  pub same : (recs text : List ℕ) → items ≤ length recs / record_words → bytes ≤ length text
      → read_of part mode skip recs text
      ≡ alone mark place items bytes (take (record_words * items) (drop (record_words * first) out.records)) (take bytes (drop byte out.text)) recs text

-- the end before, or the place where the first part starts
abbrev pub end_after : ℕ → List ℕ → ℕ
end_after from [] = from
end_after from (e ∷ ends) = end_after e ends

-- the whole-text call as a call for one part: 21 is the part's mark, with nothing written but its row
abbrev pub one_by : Answer → List ℕ → List ℕ → List ℕ → FieldsCall
one_by (served n t) rows recs text = fields_call (served n t) (written (0 ∷ 0 ∷ 0 ∷ 0 ∷ []) rows) recs text
one_by (refused k a b) rows recs text =
    if eqb k refusal.not_utf8 then fields_call (served 0 0) (written (0 ∷ 0 ∷ refusal.not_utf8 ∷ a ∷ []) rows) recs text else fields_call (refused k a b) rows recs text

abbrev pub as_one : Call → List ℕ → FieldsCall
as_one c rows = one_by c.answer rows c.records c.text
