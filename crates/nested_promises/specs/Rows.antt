-- What the definition gives for a few records: the nodes, or the refusal and its record, by computation. A row has the kinds and details of its
-- records. `nested::build` ensures `outcome r nodes' ≡ nested_of records nodes`.
use Rattle.std.specs.Prelude.{ℕ, zero, suc, ◌+◌, ◌-◌, ◌≡◌, refl, List, [], ◌∷◌, ◌++◌, map, replicate}
use Rattle.laws.specs.Quoted.{within}
use Rattle.chars.specs.Encode.{is_scalar}
use Rattle.items.specs.Kinds as kind
use Rattle.items.specs.Items.{record_words}
use Rattle.nested.specs.Items.{last_error, boolean, number, character, string, symbol, plain_list, dotted_list, vector, byte_list}
use Rattle.nested.specs.Items.{abbreviation, has_detail, sort_of, class_of, items_from, items_of, count_of}
use Rattle.nested.specs.Grammar.{Node, node}
use Rattle.nested.specs.Reader.{Result, Nodes, No, run, read_on, give_in, start}
use Rattle.nested.specs.Lent.{words_of, nested_of, outcome, Built, Refused}

-- a record by its kind and its detail; its other words are 0
infix 80 ◌#◌
pub data Rec : Type 0 where
  ◌#◌ : ℕ → ℕ → Rec

unfoldable pub words_in : List Rec → List ℕ
words_in [] = []
words_in (k # d ∷ rs) = (k ∷ d ∷ replicate (record_words - 2) 0) ++ words_in rs

-- a
abbrev pub a : Rec
a = kind.Identifier # 0

-- if
abbrev pub word : Rec
word = kind.If # 0

-- 1
abbrev pub one : Rec
one = kind.Number # 0

-- ""
abbrev pub text : Rec
text = kind.StringLiteral # 0

-- #\a
abbrev pub letter : Rec
letter = kind.CharacterLiteral # 97

-- #t
abbrev pub yes : Rec
yes = kind.BooleanLiteral # 1

-- ;
abbrev pub comment : Rec
comment = kind.Comment # 0

-- '
abbrev pub quote : Rec
quote = kind.QuoteTick # 0

-- #,@
abbrev pub splice_syntax : Rec
splice_syntax = kind.UnquoteSpliceSyntax # 0

-- #;
abbrev pub drops : Rec
drops = kind.DatumComment # 0

-- .
abbrev pub dot : Rec
dot = kind.Dot # 0

-- (
abbrev pub opens : Rec
opens = kind.OpenParen # kind.Round

-- )
abbrev pub closes : Rec
closes = kind.CloseParen # kind.Round

-- [
abbrev pub open_square : Rec
open_square = kind.OpenParen # kind.Square

-- ]
abbrev pub close_square : Rec
close_square = kind.CloseParen # kind.Square

-- {
abbrev pub open_curly : Rec
open_curly = kind.OpenParen # kind.Curly

-- }
abbrev pub close_curly : Rec
close_curly = kind.CloseParen # kind.Curly

-- #(
abbrev pub open_vector : Rec
open_vector = kind.OpenParen # kind.Vector

-- #u8(
abbrev pub open_bytes : Rec
open_bytes = kind.OpenParen # kind.Bytes

-- a kind past the last token's
abbrev pub no_token : Rec
no_token = 32 # 0

-- the kind of an error with the number 0
abbrev pub no_error : Rec
no_error = kind.first_error # 0

-- the last error
abbrev pub last_one : Rec
last_one = (kind.first_error + last_error) # 77

-- past the last error
abbrev pub past_errors : Rec
past_errors = (kind.first_error + (last_error + 1)) # 0

infix 5 ◌gives◌
pub data Row : Type 0 where
  ◌gives◌ : List Rec → Result → Row

-- so many lists, one in another, from a place on
unfoldable pub tower : ℕ → ℕ → List Node
tower zero p = []
tower (suc n) p = node plain_list p n ∷ tower n (p + 1)

unfoldable pub table : List Row
table =
    -- nothing; a; ;comment a; (a b); [] ; #(1 {x}); #u8("s" #\a)
    ([] gives Nodes [])
    ∷ ((a ∷ []) gives Nodes (node symbol 0 0 ∷ []))
    ∷ ((comment ∷ a ∷ []) gives Nodes (node symbol 1 0 ∷ []))
    ∷ ((opens ∷ a ∷ a ∷ closes ∷ []) gives Nodes (node plain_list 0 2 ∷ node symbol 1 0 ∷ node symbol 2 0 ∷ []))
    ∷ ((open_square ∷ close_square ∷ []) gives Nodes (node plain_list 0 0 ∷ []))
    ∷ ((open_vector ∷ one ∷ open_curly ∷ a ∷ close_curly ∷ closes ∷ []) gives Nodes (node vector 0 3 ∷ node number 1 0 ∷ node plain_list 2 1 ∷ node symbol 3 0 ∷ []))
    ∷ ((open_bytes ∷ text ∷ letter ∷ closes ∷ []) gives Nodes (node byte_list 0 2 ∷ node string 1 0 ∷ node character 2 0 ∷ []))
    -- (a . b); (a . b #;c); (a . #;c b); (if . #t)
    ∷ ((opens ∷ a ∷ dot ∷ a ∷ closes ∷ []) gives Nodes (node dotted_list 0 2 ∷ node symbol 1 0 ∷ node symbol 3 0 ∷ []))
    ∷ ((opens ∷ a ∷ dot ∷ a ∷ drops ∷ a ∷ closes ∷ []) gives Nodes (node dotted_list 0 2 ∷ node symbol 1 0 ∷ node symbol 3 0 ∷ []))
    ∷ ((opens ∷ a ∷ dot ∷ drops ∷ a ∷ a ∷ closes ∷ []) gives Nodes (node dotted_list 0 2 ∷ node symbol 1 0 ∷ node symbol 5 0 ∷ []))
    ∷ ((opens ∷ word ∷ dot ∷ yes ∷ closes ∷ []) gives Nodes (node dotted_list 0 2 ∷ node symbol 1 0 ∷ node boolean 3 0 ∷ []))
    -- [a . b]; {a . b}
    ∷ ((open_square ∷ a ∷ dot ∷ a ∷ close_square ∷ []) gives Nodes (node dotted_list 0 2 ∷ node symbol 1 0 ∷ node symbol 3 0 ∷ []))
    ∷ ((open_curly ∷ a ∷ dot ∷ a ∷ close_curly ∷ []) gives Nodes (node dotted_list 0 2 ∷ node symbol 1 0 ∷ node symbol 3 0 ∷ []))
    -- 'a; #,@(a); '#;a b; #;#;a b c
    ∷ ((quote ∷ a ∷ []) gives Nodes (node abbreviation 0 1 ∷ node symbol 1 0 ∷ []))
    ∷ ((splice_syntax ∷ opens ∷ a ∷ closes ∷ []) gives Nodes (node abbreviation 0 2 ∷ node plain_list 1 1 ∷ node symbol 2 0 ∷ []))
    ∷ ((quote ∷ drops ∷ a ∷ a ∷ []) gives Nodes (node abbreviation 0 1 ∷ node symbol 3 0 ∷ []))
    ∷ ((drops ∷ drops ∷ a ∷ a ∷ a ∷ []) gives Nodes (node symbol 4 0 ∷ []))
    -- 64 levels, one in another
    ∷ ((replicate 64 opens ++ replicate 64 closes) gives Nodes (tower 64 0))
    -- 48: kind 32, kind 100, a kind past the last error, a boolean 2, an opening 4, a surrogate, an identifier 1; 45
    ∷ ((no_token ∷ []) gives No 48 0)
    ∷ ((a ∷ no_error ∷ []) gives No 48 1)
    ∷ ((past_errors ∷ []) gives No 48 0)
    ∷ ((kind.BooleanLiteral # 2 ∷ []) gives No 48 0)
    ∷ ((kind.OpenParen # 4 ∷ []) gives No 48 0)
    ∷ ((kind.CharacterLiteral # 0xD800 ∷ []) gives No 48 0)
    ∷ ((kind.Identifier # 1 ∷ []) gives No 48 0)
    ∷ ((last_one ∷ []) gives No 45 0)
    -- 43: ' and the end; #; and the end; (' ] ; (#;) ; (' . a)
    ∷ ((quote ∷ []) gives No 43 1)
    ∷ ((drops ∷ []) gives No 43 1)
    ∷ ((opens ∷ quote ∷ close_square ∷ []) gives No 43 2)
    ∷ ((opens ∷ drops ∷ closes ∷ []) gives No 43 2)
    ∷ ((opens ∷ quote ∷ dot ∷ a ∷ []) gives No 43 2)
    -- 42: . ; (. a) ; (#;a . b) ; (a . #;b) ; #(a . a) ; (a . ) ; (a . ] ; (a . a a) ; (a . a . a) ; (a . and the end
    ∷ ((dot ∷ []) gives No 42 0)
    ∷ ((opens ∷ drops ∷ a ∷ dot ∷ a ∷ closes ∷ []) gives No 42 3)
    ∷ ((opens ∷ a ∷ dot ∷ drops ∷ a ∷ closes ∷ []) gives No 42 5)
    ∷ ((opens ∷ dot ∷ a ∷ closes ∷ []) gives No 42 1)
    ∷ ((open_vector ∷ a ∷ dot ∷ a ∷ closes ∷ []) gives No 42 2)
    ∷ ((opens ∷ a ∷ dot ∷ closes ∷ []) gives No 42 3)
    ∷ ((opens ∷ a ∷ dot ∷ close_square ∷ []) gives No 42 3)
    ∷ ((opens ∷ a ∷ dot ∷ a ∷ a ∷ closes ∷ []) gives No 42 4)
    ∷ ((opens ∷ a ∷ dot ∷ a ∷ dot ∷ a ∷ closes ∷ []) gives No 42 4)
    ∷ ((opens ∷ a ∷ dot ∷ []) gives No 42 3)
    -- 41: ) ; (a] ; (a . a] ; 40: (a ; (a . (a
    ∷ ((closes ∷ []) gives No 41 0)
    ∷ ((opens ∷ a ∷ close_square ∷ []) gives No 41 2)
    ∷ ((opens ∷ a ∷ dot ∷ a ∷ close_square ∷ []) gives No 41 4)
    ∷ ((opens ∷ a ∷ []) gives No 40 2)
    ∷ ((opens ∷ a ∷ dot ∷ opens ∷ a ∷ []) gives No 40 5)
    -- 44: 65 brackets, 65 marks, 64 brackets and `#;`, none for 64 brackets closed
    ∷ ((replicate 65 opens) gives No 44 64)
    ∷ ((replicate 65 quote) gives No 44 64)
    ∷ ((replicate 64 opens ++ (drops ∷ [])) gives No 44 64)
    ∷ ((replicate 64 opens ++ (close_square ∷ [])) gives No 41 64)
    ∷ []

abbrev pub read : Row → Result
read (rs gives r) = run (count_of (words_in rs)) start (items_of (words_in rs))

abbrev pub wanted : Row → Result
wanted (rs gives r) = r

pub computed : map read table ≡ map wanted table
unfolding tower table words_in is_scalar within has_detail sort_of class_of items_from read_on give_in
computed = refl

-- ---- whole answers, with the memory

-- (a a): what lies beneath the list is its two data
pub list_row : nested_of (words_in (opens ∷ a ∷ a ∷ closes ∷ [])) (replicate 9 7) ≡ outcome (Built 3) (plain_list ∷ 0 ∷ 2 ∷ symbol ∷ 1 ∷ 0 ∷ symbol ∷ 2 ∷ 0 ∷ [])
unfolding words_in is_scalar within has_detail sort_of class_of items_from read_on give_in nested_of words_of
list_row = refl

-- #;#;a a a: two data are dropped
pub dropped_row : nested_of (words_in (drops ∷ drops ∷ a ∷ a ∷ a ∷ [])) (replicate 6 7) ≡ outcome (Built 1) (symbol ∷ 4 ∷ 0 ∷ 7 ∷ 7 ∷ 7 ∷ [])
unfolding words_in is_scalar within has_detail sort_of class_of items_from read_on give_in nested_of words_of
dropped_row = refl

-- (. a)
pub dot_row : nested_of (words_in (opens ∷ dot ∷ a ∷ closes ∷ [])) (replicate 6 7) ≡ outcome (Refused 42 1) (replicate 6 7)
unfolding words_in is_scalar within has_detail sort_of class_of items_from read_on give_in nested_of words_of
dot_row = refl

-- (a]
pub square_row : nested_of (words_in (opens ∷ a ∷ close_square ∷ [])) (replicate 6 7) ≡ outcome (Refused 41 2) (replicate 6 7)
unfolding words_in is_scalar within has_detail sort_of class_of items_from read_on give_in nested_of words_of
square_row = refl

-- 65 open brackets: the last is refused
pub deep_row : nested_of (words_in (replicate 65 opens)) (replicate 3 7) ≡ outcome (Refused 44 64) (replicate 3 7)
unfolding words_in is_scalar within has_detail sort_of class_of items_from read_on give_in nested_of words_of
deep_row = refl

-- (a) into seven words: six are written
pub written : nested_of (words_in (opens ∷ a ∷ closes ∷ [])) (7 ∷ 7 ∷ 7 ∷ 7 ∷ 7 ∷ 7 ∷ 7 ∷ []) ≡ outcome (Built 2) (plain_list ∷ 0 ∷ 1 ∷ symbol ∷ 1 ∷ 0 ∷ 7 ∷ [])
unfolding words_in is_scalar within has_detail sort_of class_of items_from read_on give_in nested_of words_of
written = refl

-- (a) into five: they do not fit, and nothing is written
pub unwritten : nested_of (words_in (opens ∷ a ∷ closes ∷ [])) (7 ∷ 7 ∷ 7 ∷ 7 ∷ 7 ∷ []) ≡ outcome (Refused 46 0) (7 ∷ 7 ∷ 7 ∷ 7 ∷ 7 ∷ [])
unfolding words_in is_scalar within has_detail sort_of class_of items_from read_on give_in nested_of words_of
unwritten = refl
