-- What is lent: records, of which the call looks at six words, the source and the text memory. 02 (viii), "Refusals": which records
-- are refused.
use Rattle.std.specs.Prelude.{ℕ, zero, suc, ◌+◌, ◌-◌, ◌*◌, ◌/◌, Bool, true, false, ◌&&◌, ◌||◌, List, [], ◌∷◌, length, get_or, eqb, leb, ltb, if◌then◌else◌, None, Option, Some, Result, Ok, Err}
use Rattle.chars.specs.Utf8.{first_bad}
use Rattle.items.specs.Kinds as kind
use Rattle.items.specs.Items.{record_words}
use Rattle.items_writing.specs.declared.WriteWords.{WriteWords}
use Rattle.items_writing.specs.declared.WriteError.{WriteError}
use Rattle.items_writing.specs.declared.WriteError.TheVariants.{Alien, Unwritten}
use Rattle.items_writing.specs.Written.{Entry, part}

-- ---- the records of some words

abbrev pub count_of : List ℕ → ℕ
count_of s = length s / record_words

-- the record at a place that is counted in records: kind, extent, text source and text places
abbrev pub words_at : List ℕ → ℕ → WriteWords
words_at s p = record {
  kind = get_or s (p * record_words) 0;
  start = get_or s (p * record_words + 2) 0;
  «end» = get_or s (p * record_words + 3) 0;
  origin = get_or s (p * record_words + 6) 0;
  first = get_or s (p * record_words + 7) 0;
  past = get_or s (p * record_words + 8) 0;
}

unfoldable pub records_from : ℕ → ℕ → List ℕ → List WriteWords
records_from zero p s = []
records_from (suc n) p s = words_at s p ∷ records_from n (p + 1) s

-- the records from a place on
abbrev pub rest : List ℕ → ℕ → List WriteWords
rest s p = records_from (count_of s - p) p s

-- all of them; words past the last whole record belong to none
abbrev pub records_in : List ℕ → List WriteWords
records_in s = rest s 0

-- ---- 48: "if its kind isn't 01's or its extent or text isn't whole characters of what is lent"

abbrev pub is_good : Option ℕ → Bool
is_good None = true
is_good (Some p) = false

-- whether the part of s from a to b is there and is whole characters; an empty part is
unfoldable pub is_whole : List ℕ → ℕ → ℕ → Bool
is_whole s a b = if leb a b then (if leb b (length s) then is_good (first_bad (part a b s)) else false) else false

-- 01: "Kinds 0 to 31 follow the order of `TokenType`"; "an error has kind 100 plus its number"
unfoldable pub is_kind : ℕ → Bool
is_kind k = leb k kind.Dot || (ltb kind.first_error k && leb k (kind.first_error + kind.last_error))

-- 01: "Identifiers, keywords and strings have text"
unfoldable pub has_text : ℕ → Bool
has_text k = eqb k kind.Identifier || eqb k kind.Keyword || eqb k kind.StringLiteral

-- 01: "text source (0 none, .. 1 the source, 2 the text memory)". None is right only where the kind has none
unfoldable pub text_right : List ℕ → List ℕ → WriteWords → Bool
text_right source text r =
    if eqb r.origin 1 then is_whole source r.first r.past
    else if eqb r.origin 2 then is_whole text r.first r.past
    else if eqb r.origin 0 then (if has_text r.kind then false else true)
    else false

unfoldable pub is_right : List ℕ → List ℕ → WriteWords → Bool
is_right source text r =
    if is_kind r.kind then (if is_whole source r.start r.«end» then text_right source text r else false) else false

-- ---- 47: "an error or comment item"

unfoldable pub is_left : ℕ → Bool
is_left k = ltb kind.first_error k || eqb k kind.Comment

-- ---- "at the first record concerned, 48 .., else 47": p is the place of the first of these

-- none is refused
abbrev pub fine : Result (Unit {0}) WriteError
fine = Ok tt

unfoldable pub judge : List ℕ → List ℕ → ℕ → List WriteWords → Result (Unit {0}) WriteError
judge source text p [] = fine
judge source text p (r ∷ rs) =
    let more = judge source text (p + 1) rs in
    if is_right source text r then (if is_left r.kind then Err (Unwritten p) else more) else Err (Alien p)

-- ---- the entries

-- the bytes of a record's text; none where it has none
unfoldable pub text_of : List ℕ → List ℕ → WriteWords → List ℕ
text_of source text r = if eqb r.origin 1 then part r.first r.past source else if eqb r.origin 2 then part r.first r.past text else []

abbrev pub entry_of : List ℕ → List ℕ → WriteWords → Entry
entry_of source text r = record { kind = r.kind; start = r.start; end = r.«end»; raw = part r.start r.«end» source; text = text_of source text r }

abbrev pub entries_of : List ℕ → List ℕ → List WriteWords → List Entry
entries_of source text [] = []
entries_of source text (r ∷ rs) = entry_of source text r ∷ entries_of source text rs
