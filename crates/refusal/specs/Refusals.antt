-- The numbers that calls answer, each once: what they give where they serve, and the refusals of document 01, "Refused calls", and of
-- document 02. src/lib.rt has the same numbers for the code.
-- Import as `use .. Refusals as refusal`, so that a rule reads `refusal.over_long`.
use Rattle.std.specs.Prelude.{ℕ}

-- ---- what a call answers that was not refused

-- what was asked for is done
abbrev pub served : ℕ
served = 0

-- an item is given
abbrev pub item : ℕ
item = 10

-- the piece was taken, and no item is ready
abbrev pub more : ℕ
more = 11

-- all items were given
abbrev pub finished : ℕ
finished = 12

-- ---- the reader: document 01, "Refused calls"

-- the text exceeds the limit; comes with it
abbrev pub over_long : ℕ
over_long = 20

-- bytes aren't UTF-8; with the start of the first bad sequence
abbrev pub not_utf8 : ℕ
not_utf8 = 21

-- records, words or text memory are too few; with what is needed
abbrev pub too_few : ℕ
too_few = 22

-- in pieces, an item grows too long; with its start
abbrev pub long_item : ℕ
long_item = 23

-- in pieces, the text memory is too short
abbrev pub little_text : ℕ
little_text = 24

-- the mode is neither plain nor report; with the mode
abbrev pub no_such_mode : ℕ
no_such_mode = 25

-- a piece after the declared end
abbrev pub after_end : ℕ
after_end = 26

-- a state, a position, a text, an extent or a table outside its bounds
abbrev pub out_of_bounds : ℕ
out_of_bounds = 27

-- How many bytes a text has at most.
abbrev pub limit : ℕ
limit = 4294967295

-- ---- coordinates

-- the text is not one decimal, or has too many digits or too large an exponent
abbrev pub no_coordinate : ℕ
no_coordinate = 28

-- ---- item files; the reader's with the number in the file, the writer's with the record

-- a number, or the item, is cut short
abbrev pub cut_short : ℕ
cut_short = 29

-- a number longer than needed, over 32 bits, or with a fifth group that goes on
abbrev pub wrong_number : ℕ
wrong_number = 30

-- a start or an end over 32 bits
abbrev pub over_sum : ℕ
over_sum = 31

-- an item that starts before the one before it, or whose extent, place or text ends before it starts
abbrev pub goes_back : ℕ
goes_back = 32

-- ---- line and column

-- the line starts, or the answers, don't fit; with the number needed
abbrev pub lines_no_room : ℕ
lines_no_room = 33

-- the place lies past the end or inside a character; with the place
abbrev pub no_place : ℕ
no_place = 34

-- ---- names

-- the party is neither 0 nor 1
abbrev pub no_party : ℕ
no_party = 35

-- the name is absent, and the party's own half lacks the entry or the bytes
abbrev pub no_room : ℕ
no_room = 36

-- there is no name of this number
abbrev pub no_name : ℕ
no_name = 37

-- ---- many fields in one call

-- the ends go back or pass the source; with 0
abbrev pub bad_ends : ℕ
bad_ends = 38

-- ---- the number call

-- the choice of reader is none
abbrev pub unknown_choice : ℕ
unknown_choice = 39

-- ---- nested lists; each with its record

-- the end with a bracket open: (
abbrev pub bracket_open : ℕ
bracket_open = 40

-- a wrong or stray close: )
abbrev pub wrong_close : ℕ
wrong_close = 41

-- a dot outside a round, square or curly list, a second one, or one without data on both sides: .
abbrev pub misplaced_dot : ℕ
misplaced_dot = 42

-- a close, a dot or the end where a mark waits for its datum: '
abbrev pub mark_waits : ℕ
mark_waits = 43

-- a level inside 64 others
abbrev pub too_deep : ℕ
too_deep = 44

-- an error item: ##
abbrev pub error_item : ℕ
error_item = 45

-- the nodes do not fit; with 0
abbrev pub few_nodes : ℕ
few_nodes = 46

-- ---- writing a plan back

-- an error or comment item, which is not written; with its record
abbrev pub unwritten : ℕ
unwritten = 47

-- ---- what is lent is not what it should be

-- a kind or a detail that no record has, an extent or a text that is not whole characters of what is lent; an index that is not the text's
abbrev pub alien : ℕ
alien = 48
