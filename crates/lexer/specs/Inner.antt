-- What inner functions of the reader ask of their callers, so that every number fits its word.
use Rattle.std.specs.Prelude.{ℕ, ◌+◌, ◌-◌, ◌^◌, ◌≤◌, ◌<◌, ◌≡◌, Bool, false, List, [], ◌∷◌, length, take, drop, eqb, if◌then◌else◌}
use Rattle.chars.specs.Utf8.{chars}
use Rattle.chars.specs.Encode.{width}
use Rattle.chars.specs.Blank.{is_blank}
use Rattle.items.specs.declared.Outcome.{Outcome}
use Rattle.items.specs.Kinds as kind
use Rattle.items.specs.Meaning.{Meaning, meaning_of, unescape}
use Rattle.items.specs.declared.Quotes.{Quotes}
use Rattle.items.specs.declared.Quotes.TheVariants.{Double, Lines}
use Rattle.items.specs.declared.Nine.{Nine}
use Rattle.items.specs.declared.Record.{Record}
use Rattle.items.specs.Items.{Item, texts}
use Rattle.lexer.specs.declared.Needed.{Needed}
use Rattle.meaning.specs.Meant.{sized_text, error_of, last_error}
use Rattle.meaning.specs.Places.{reach, reach_from}
use Rattle.meaning.specs.Records.{TextFits}

-- the text places of an extent's items fit a word
abbrev pub TextsFit : ℕ → List Meaning → Type 0
TextsFit free [] = Unit
TextsFit free (m ∷ ms) = TextFits free (sized_text m.text) × TextsFit free ms

-- an extent that starts at a place, with its bytes and its outcome
pub record ExtentFits (report : Bool) (free start : ℕ) (raw : List ℕ) (what : Outcome) : Type 0 where
  pub some : 0 < length raw
  pub short : start + length raw < 2 ^ 32
  pub error : error_of what ≤ last_error
  pub from : reach_from what < 2 ^ 32
  pub to : reach what < 2 ^ 32
  pub texts : TextsFit free (meaning_of report what start (start + length raw) raw)

-- the character c, which is no blank, stands at a place, and `next` is the place past it
pub record First (source : List ℕ) (at c next : ℕ) : Type 0 where
  pub first : chars (drop at source) ≡ c ∷ chars (drop next source)
  pub on : next ≡ at + width c
  pub solid : is_blank c ≡ false

-- ---- what is written into the records

-- the record of an item by itself, at a depth
abbrev pub deep_at : ℕ → Nine → Record
deep_at depth nine = record { nine = nine; depth = depth }

-- ---- what is written into the text memory

-- the quotes that an item with a decoded text stood in: a string's, or an identifier's
abbrev pub quotes_of : ℕ → Quotes
quotes_of k = if eqb k kind.StringLiteral then Double else Lines

-- the bytes of an item's decoded text, by its nine words; none where its text is not in the text memory
abbrev pub bytes_for : List ℕ → Nine → List ℕ
bytes_for source r =
    if eqb r.source 2 then unescape (quotes_of r.kind) (drop 1 (take (r.end - r.start) (drop r.start source))) else []

-- the first free byte of the text memory after it
abbrev pub free_after : ℕ → Nine → ℕ
free_after free r = if eqb r.source 2 then r.past else free

-- ---- what items need

abbrev pub needed_of : List Item → Needed
needed_of is = record { items = length is; text = length (texts is) }

-- items that are no more than the bytes of their source, nor are their decoded texts
abbrev pub Few : List ℕ → List Item → Type 0
Few source is = (length is ≤ length source) × (length (texts is) ≤ length source)
