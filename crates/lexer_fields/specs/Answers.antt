-- What the answers of the call mean, and what its inner functions hand on and ask.
use Rattle.std.specs.Prelude.{ℕ, ◌*◌, ◌≤◌, ◌≡◌, Bool, true, false, List, [], ◌∷◌, length, get_or, if◌then◌else◌, None, Option, Some, Result, Ok, Err}
use Rattle.refusal.specs.Refusals as refusal
use Rattle.chars.specs.Utf8.{first_bad}
use Rattle.laws.specs.Quoted.{within}
use Rattle.items.specs.Items.{record_words, texts}
use Rattle.items.specs.Whole.{Answer, served, refused, limit, is_mode, in_report}
use Rattle.lexer.specs.declared.Spot.{Spot}
use Rattle.lexer_fields.specs.Fields.{Field, is_in_order, row_words, item_count, texts_in, fields_in}
use Rattle.lexer_fields.specs.declared.EndsCutting.{EndsCutting}
use Rattle.lexer_fields.specs.declared.EndsCutting.TheVariants as cutting
use Rattle.lexer_fields.specs.declared.PartAnswer.{PartAnswer}
use Rattle.lexer_fields.specs.declared.Total.{Total}
use Rattle.lexer_fields.specs.declared.FieldsError.{FieldsError}
use Rattle.lexer_fields.specs.declared.FieldsError.TheVariants as told

-- document 01's and 02's numbers and values
abbrev pub answer_of : Result Total FieldsError → Answer
answer_of (Ok done) = served done.items done.text
answer_of (Err (told.NoMode mode)) = refused refusal.no_such_mode mode 0
answer_of (Err told.BadEnds) = refused refusal.bad_ends 0 0
answer_of (Err told.TooLong) = refused refusal.over_long limit 0
answer_of (Err (told.NoRoom needed)) = refused refusal.too_few needed.items needed.text

-- a part, by its mark, its place and its counts
abbrev pub part_of : Field → PartAnswer
part_of f = record { mark = f.mark; place = f.place; items = length f.items; text = length (texts f.items) }

abbrev pub total_of : List Field → Total
total_of fs = record { items = item_count fs; text = length (texts_in fs) }

-- the call is not refused before its parts are read
abbrev pub Fine : List ℕ → List ℕ → ℕ → Type 0
Fine source ends mode = (is_mode mode ≡ true) × (is_in_order (length source) 0 ends ≡ true) × (length source ≤ limit)

-- there is room for what the parts give
abbrev pub Room : List ℕ → List ℕ → ℕ → Bool → List ℕ → List ℕ → List ℕ → Type 0
Room source ends mode skip rows recs text =
    (row_words * length ends ≤ length rows) × (record_words * item_count (fields_in source ends mode skip) ≤ length recs) × (length (texts_in (fields_in source ends mode skip)) ≤ length text)

-- the spot at a place, with no error range
abbrev pub spot_at : ℕ → ℕ → Bool → Spot
spot_at at mode skip = record { at = at; last = record { from = 0; to = 0 }; second = false; report = in_report mode; skip = skip }

-- ---- UTF-8 at once for all parts

-- whether the byte at a place goes on with a character: UTF8-tail of RFC 3629
abbrev pub continues : List ℕ → ℕ → Bool
continues source at = within 0x80 0xBF (get_or source at 0)

-- no end has such a byte after it
unfoldable pub between : List ℕ → List ℕ → Bool
between source [] = true
between source (e ∷ ends) = let more = between source ends in if continues source e then false else more

-- ends of which all but the source's length is known, and whether they lie between characters if it is UTF-8
abbrev pub IsCut : Bool → List ℕ → List ℕ → ℕ → Type 0
IsCut clean source ends mode = (is_mode mode ≡ true) × (is_in_order (length source) 0 ends ≡ true) × (clean ≡ between source ends)

abbrev pub cutting_of : Bool → Bool → EndsCutting
cutting_of ordered clean = if ordered then (if clean then cutting.Between else cutting.Inside) else cutting.Disordered

abbrev pub well_cut : Option ℕ → Bool → Bool
well_cut None cut = cut
well_cut (Some p) cut = false

-- where a part is known to be UTF-8, it is
abbrev pub Known : Bool → List ℕ → Type 0
Known known part = known ≡ true → first_bad part ≡ None

abbrev pub Unmarked : List Field → Type 0
Unmarked [] = Unit
Unmarked (f ∷ fs) = (f.mark ≡ 0) × Unmarked fs

-- where all are known to be, no part has a mark
abbrev pub AllKnown : Bool → List ℕ → List ℕ → ℕ → Bool → Type 0
AllKnown known source ends mode skip = known ≡ true → Unmarked (fields_in source ends mode skip)
