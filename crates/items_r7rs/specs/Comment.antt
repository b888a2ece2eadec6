-- R7RS 7.1.1:
--   <comment> → ; <all subsequent characters up to a line ending> | <nested comment> | #; <intertoken space> <datum>
--   <nested comment> → #| <comment text> <comment cont>* |#
--   <comment text> → <character sequence not containing #| or |#>
--   <comment cont> → <nested comment> <comment text>
-- Of the third kind the lexer reads the `#;`; which datum follows is for who reads its items.
use Rattle.std.specs.Prelude.{ℕ, ◌≡◌, Bool, true, false, not, ◌&&◌, ◌||◌, List, [], ◌∷◌, ◌++◌, eqb}
use Rattle.laws.specs.Quoted.{codes, code, one_of}
use Rattle.items_r7rs.specs.Repeated.{Many}

-- neither <newline> nor <return>
abbrev pub InLine : ℕ → Type 0
InLine c = one_of (codes "\n\r") c ≡ false

pub data LineComment : List ℕ → Type 0 where
  line : {t : List ℕ} → Many InLine t → LineComment (code ";" ∷ t)

-- How a line comment may end, and what of that is its item's: the newline is. Departure: a lone <return> ends no line. `;\ra` is one
-- comment
pub data LineEnd : List ℕ → List ℕ → Type 0 where
  at_end_case : LineEnd [] []
  newline : {cs : List ℕ} → LineEnd (codes "\n") cs
  return_newline : {cs : List ℕ} → LineEnd (codes "\r\n") cs

-- whether two characters that stand side by side are #| or |#
abbrev pub mark : ℕ → ℕ → Bool
mark c d = (eqb c (code "#") && eqb d (code "|")) || (eqb c (code "|") && eqb d (code "#"))

-- a sequence that contains neither, after the character c
abbrev pub unmarked : ℕ → List ℕ → Bool
unmarked c [] = true
unmarked c (d ∷ t) = not (mark c d) && unmarked d t

-- <comment text>, with the character that follows it. That one is asked for because of #|#|#, which could be a comment with the text
-- #, or the start of a comment in a comment. Marks count from the left, so it is the latter
abbrev pub CommentText : List ℕ → ℕ → Type 0
CommentText t next = unmarked (code " ") (t ++ (next ∷ [])) ≡ true

-- <comment text> <comment cont>* |#, that is, what follows a #|
pub data NestedRest : List ℕ → Type 0 where
  closes : (t : List ℕ) → CommentText t (code "|") → NestedRest (t ++ codes "|#")
  continues : (t nested rest : List ℕ) → CommentText t (code "#") → NestedRest nested → NestedRest rest
      → NestedRest (t ++ (codes "#|" ++ (nested ++ rest)))

pub data NestedComment : List ℕ → Type 0 where
  nested : {t : List ℕ} → NestedRest t → NestedComment (codes "#|" ++ t)
