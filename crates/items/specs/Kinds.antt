-- The numbers of document 01: kinds in the order of `TokenType` in tokens.rs, errors by their table, details.
-- Import as `use .. Kinds as kind`, so that a rule reads `kind.Number`.
use Rattle.std.specs.Prelude.{ℕ}
use Rattle.numbers.specs.Call.{zero_denominator}

abbrev pub OpenParen : ℕ
OpenParen = 0

abbrev pub CloseParen : ℕ
CloseParen = 1

abbrev pub QuoteTick : ℕ
QuoteTick = 2

abbrev pub QuasiQuote : ℕ
QuasiQuote = 3

abbrev pub Unquote : ℕ
Unquote = 4

abbrev pub UnquoteSplice : ℕ
UnquoteSplice = 5

abbrev pub QuoteSyntax : ℕ
QuoteSyntax = 6

abbrev pub QuasiQuoteSyntax : ℕ
QuasiQuoteSyntax = 7

abbrev pub UnquoteSyntax : ℕ
UnquoteSyntax = 8

abbrev pub UnquoteSpliceSyntax : ℕ
UnquoteSpliceSyntax = 9

abbrev pub If : ℕ
If = 10

abbrev pub Define : ℕ
Define = 11

abbrev pub Let : ℕ
Let = 12

abbrev pub TestLet : ℕ
TestLet = 13

abbrev pub Return : ℕ
Return = 14

abbrev pub Begin : ℕ
Begin = 15

abbrev pub Lambda : ℕ
Lambda = 16

abbrev pub Quote : ℕ
Quote = 17

abbrev pub SyntaxRules : ℕ
SyntaxRules = 18

abbrev pub DefineSyntax : ℕ
DefineSyntax = 19

abbrev pub Ellipses : ℕ
Ellipses = 20

abbrev pub Set : ℕ
Set = 21

abbrev pub Require : ℕ
Require = 22

abbrev pub CharacterLiteral : ℕ
CharacterLiteral = 23

abbrev pub DatumComment : ℕ
DatumComment = 24

abbrev pub Comment : ℕ
Comment = 25

abbrev pub BooleanLiteral : ℕ
BooleanLiteral = 26

abbrev pub Identifier : ℕ
Identifier = 27

abbrev pub Keyword : ℕ
Keyword = 28

abbrev pub Number : ℕ
Number = 29

abbrev pub StringLiteral : ℕ
StringLiteral = 30

abbrev pub Dot : ℕ
Dot = 31

-- an error has kind 100 plus its number
abbrev pub first_error : ℕ
first_error = 100

-- ---- errors

abbrev pub UnexpectedChar : ℕ
UnexpectedChar = 1

abbrev pub IncompleteString : ℕ
IncompleteString = 2

abbrev pub IncompleteIdentifier : ℕ
IncompleteIdentifier = 3

abbrev pub IncompleteComment : ℕ
IncompleteComment = 4

abbrev pub InvalidWhitespace : ℕ
InvalidWhitespace = 5

abbrev pub InvalidStringEscape : ℕ
InvalidStringEscape = 6

abbrev pub InvalidCharacter : ℕ
InvalidCharacter = 7

abbrev pub ZeroDenominator : ℕ
ZeroDenominator = zero_denominator

abbrev pub UnclosedHexEscape : ℕ
UnclosedHexEscape = 9

abbrev pub InvalidCharName : ℕ
InvalidCharName = 10

abbrev pub InvalidHexEscapeLiteral : ℕ
InvalidHexEscapeLiteral = 11

abbrev pub InvalidHexCodePoint : ℕ
InvalidHexCodePoint = 12

-- in report mode only (02 (vii)): a character's name with a delimiter in it
abbrev pub InvalidCharDelimiter : ℕ
InvalidCharDelimiter = 13

-- no error has a greater number
abbrev pub last_error : ℕ
last_error = InvalidCharDelimiter

-- ---- the details of OpenParen and CloseParen: the bracket; a vector's and a byte list's opening bracket, both round

abbrev pub Round : ℕ
Round = 0

abbrev pub Square : ℕ
Square = 1

abbrev pub Curly : ℕ
Curly = 2

abbrev pub Vector : ℕ
Vector = 3

abbrev pub Bytes : ℕ
Bytes = 6
