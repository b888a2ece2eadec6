-- A finding: what a foreman can act on. Seven words: severity, code, detail, place, second place.
use Rattle.std.specs.Prelude.{ℕ, List, [], ◌∷◌, None, Option, Some}
use Rattle.findings.specs.declared.Finding.{Finding}

-- ---- severities

abbrev pub warning : ℕ
warning = 1

abbrev pub error : ℕ
error = 2

-- ---- codes: the number after E or W. E01 to E13 are the errors of items, E20 and E21 the refusals of a text, E40 to E44 those of
-- nested lists, under their own numbers

-- W01, a comma in a number: 412,5
abbrev pub comma_number : ℕ
comma_number = 1

-- W02, begins like a number and is read as a name: 14.7m
abbrev pub number_name : ℕ
number_name = 2

-- W03, a typographic quote: “a”
abbrev pub typographic_quote : ℕ
typographic_quote = 3

-- W04, a typographic minus or dash: −5
abbrev pub typographic_dash : ℕ
typographic_dash = 4

-- W05, an invisible, control or direction-changing character
abbrev pub invisible : ℕ
invisible = 5

-- W06, a text that passes a line's end before a `(`
abbrev pub swallowing : ℕ
swallowing = 6

-- W07, plain and report mode read this otherwise: 14.7;gps
abbrev pub modes_differ : ℕ
modes_differ = 7

-- ---- details. E01 to E13 have the item's own, E21 the bad byte, E40 how many brackets are open at the end, W01 the length in bytes of what
-- stands before the comma, W03 to W05 the character, W07 the byte behind the number

abbrev pub no_detail : ℕ
no_detail = 0

-- E41: nothing is open; another bracket is, the second place
abbrev pub stray : ℕ
stray = 0

abbrev pub closes_another : ℕ
closes_another = 1

-- E42: the dot itself is refused; something behind a dot is, and the place is the dot all the same
abbrev pub at_dot : ℕ
at_dot = 0

abbrev pub behind_dot : ℕ
behind_dot = 1

-- ---- findings

abbrev pub finding_words : ℕ
finding_words = 7

-- the words of a finding, as they lie in lent memory
abbrev pub words_of : Finding → List ℕ
words_of f = f.severity ∷ f.code ∷ f.detail ∷ f.start ∷ f.end ∷ f.also ∷ f.past ∷ []

-- severity, code, detail, place, second place
abbrev pub both : ℕ → ℕ → ℕ → ℕ → ℕ → ℕ → ℕ → Finding
both s n d a b c e = record { severity = s; code = n; detail = d; start = a; end = b; also = c; past = e }

-- with no second place
abbrev pub single : ℕ → ℕ → ℕ → ℕ → ℕ → Finding
single s n d a b = both s n d a b 0 0

-- nothing, or one finding, as a list
abbrev pub listed : Option Finding → List Finding
listed None = []
listed (Some f) = f ∷ []
