-- The mended reading of a plan: its items in report mode, comments skipped. One slip is one finding: after a bad escape the rest of its
-- string does not come as more errors.
use Rattle.std.specs.Prelude.{ℕ, zero, suc, ◌+◌, ◌-◌, Bool, true, false, not, ◌&&◌, List, [], ◌∷◌, length, drop, eqb, ltb, if◌then◌else◌, None, Option, Some}
use Rattle.laws.specs.Quoted.{code, one_of}
use Rattle.laws.specs.Texts.{starts}
use Rattle.items.specs.Kinds as kind
use Rattle.items.specs.Meaning.{none}
use Rattle.items.specs.Items.{range, Item}
use Rattle.items.specs.Whole.{limit}
use Rattle.lexer.specs.Opening.{opening}
use Rattle.lexer.specs.Reading.{Turn, gives, ends, next_at, size_of, and_then}
use Rattle.lexer.specs.declared.Spot.{Spot}

-- ---- slips

-- the kinds of the errors that an escape may be: `"\ a`, `"\q`, `"\x(`, `"\x;`, `"\xD800;`
abbrev pub escape_errors : List ℕ
escape_errors =
    (kind.first_error + kind.InvalidWhitespace)
    ∷ (kind.first_error + kind.InvalidStringEscape)
    ∷ (kind.first_error + kind.UnclosedHexEscape)
    ∷ (kind.first_error + kind.InvalidHexEscapeLiteral)
    ∷ (kind.first_error + kind.InvalidHexCodePoint)
    ∷ []

-- whether a character literal stands at a place: `#\xD800` has errors of that kind too, and is no slip
abbrev pub character_at : List ℕ → ℕ → Bool
character_at source at = starts (code "#") (drop at source) && starts (code "\\") (drop (at + 1) source)

-- a bad escape inside a string or an identifier in vertical lines: the item's kind and where its extent starts
unfoldable pub slips : List ℕ → ℕ → ℕ → Bool
slips source k start = one_of escape_errors k && not (character_at source start)

-- ---- the end of what a slip stands in

-- the quote that closes an extent that starts at a place: `"`, else `|`, as in `|a\q|` and in `-|a\q|`
abbrev pub quote_of : List ℕ → ℕ → ℕ
quote_of source start = if starts (code "\"") (drop start source) then code "\"" else code "|"

-- The place behind the first quote from the place `at` on, where these bytes stand. A backslash takes the next byte with it; `escaped`
-- says that one stands before
unfoldable pub closing : ℕ → Bool → ℕ → List ℕ → Option ℕ
closing quote escaped at [] = None
closing quote escaped at (b ∷ bs) =
    let past = closing quote false (at + 1) bs in
    let on = closing quote (eqb b (code "\\")) (at + 1) bs in
    if escaped then past else if eqb b quote then Some (at + 1) else on

-- Where the rest begins, by the error's kind and the place past its extent. What breaks off the digits of a hex escape belongs to the
-- extent, and may be the closing quote, `"\x4"`, or a backslash
abbrev pub rest_from : ℕ → ℕ → ℕ
rest_from k at = if eqb k (kind.first_error + kind.UnclosedHexEscape) then at - 1 else at

-- ---- a slip mended

-- the spot at another place
abbrev pub spot_at : Spot → ℕ → Spot
spot_at p at = record { at = at; last = p.last; second = p.second; report = p.report; skip = p.skip }

-- the item with its extent up to another place
abbrev pub ended_at : ℕ → Item → Item
ended_at e i = record { kind = i.kind; detail = i.detail; start = i.start; end = e; place = i.place; text = i.text }

-- the text ends in a string, error 2, or in an identifier in vertical lines, error 3
abbrev pub unclosed_kind : ℕ → ℕ
unclosed_kind quote = kind.first_error + (if eqb quote (code "\"") then kind.IncompleteString else kind.IncompleteIdentifier)

abbrev pub unclosed_at : ℕ → ℕ → ℕ → Item
unclosed_at quote start e = record { kind = unclosed_kind quote; detail = 0; start = start; end = e; place = range start e; text = none }

-- The error's extent goes up to behind the closing quote, and reading goes on there; its place stays. Where there is no closing quote,
-- that is the error, from the item's start to the end of the text
abbrev pub slip_turn : List ℕ → Item → Spot → Option ℕ → Turn
slip_turn source i q (Some e) = gives (ended_at e i) (spot_at q e)
slip_turn source i q None = gives (unclosed_at (quote_of source i.start) i.start (length source)) (spot_at q (length source))

abbrev pub closing_of : List ℕ → ℕ → ℕ → ℕ → Option ℕ
closing_of source k start at = closing (quote_of source start) false (rest_from k at) (drop (rest_from k at) source)

abbrev pub mend_turn : List ℕ → Turn → Turn
mend_turn source (gives i q) =
    if slips source i.kind i.start then slip_turn source i q (closing_of source i.kind i.start q.at) else gives i q
mend_turn source ends = ends

-- ---- all of them

-- the next item from a spot on
unfoldable pub mended_at : List ℕ → Spot → Turn
mended_at source p = mend_turn source (next_at source p)

-- each turn goes forward, so as many turns as the spot's size are enough
unfoldable pub mended_from : ℕ → List ℕ → Spot → List Item
mended_from zero source p = []
mended_from (suc n) source p = and_then (mended_at source p) (λ q. mended_from n source q)

-- where reading starts: report mode, comments skipped
abbrev pub opening_spot : List ℕ → Spot
opening_spot source = (opening source true true).spot

-- the items of a plan, its slips mended; a text over the limit has none
unfoldable pub mended_of : List ℕ → List Item
mended_of source =
    if ltb limit (length source) then [] else mended_from (suc (size_of source (opening_spot source))) source (opening_spot source)
