-- Comments: exactly the texts that are read as one, and which of the standard's are not among them. R7RS 7.1.1:
--   <comment> → ; <all subsequent characters up to a line ending> | <nested comment> | #; <intertoken space> <datum>
--   <line ending> → <newline> | <return> <newline> | <return>
--   <nested comment> → #| <comment text> <comment cont>* |#
--   <comment text> → <character sequence not containing #| or |#>
--   <comment cont> → <nested comment> <comment text>
use Rattle.std.specs.Prelude.{ℕ, ◌≡◌, true, false, List, [], ◌∷◌, ◌++◌, drop, eqb}
use Rattle.laws.specs.Quoted.{codes, code}
use Rattle.laws.specs.Texts.{starts}
use Rattle.chars.specs.Encode.{bytes_of}
use Rattle.items.specs.Items.{Item}
use Rattle.items.specs.Kinds as kind
use Rattle.items_r7rs.specs.Comment.{LineComment, LineEnd, unmarked, NestedComment}
use Rattle.items_r7rs.specs.Converse.{extent}

-- what is left of a line, its newline with it, before `rest`; or of the text, where no newline comes
pub data LineRest (rest : List ℕ) : List ℕ → Type 0 where
  text_over : rest ≡ [] → LineRest rest []
  newline : LineRest rest (codes "\n")
  more : {c : ℕ} {t : List ℕ} → eqb c (code "\n") ≡ false → LineRest rest t → LineRest rest (c ∷ t)

-- a text that is read as one comment before `rest`
pub data CommentRead (rest : List ℕ) : List ℕ → Type 0 where
  -- the standard's, and its line ending, but for a lone <return>: a newline is the comment's (B44)
  line : (t e : List ℕ) → LineComment t → LineEnd e rest → CommentRead rest (t ++ e)
  -- B43: a <return> that no <newline> follows, and the rest of the line
  past_return : (t u : List ℕ) → LineComment t → starts (code "\n") u ≡ false → LineRest rest u → CommentRead rest (t ++ (code "\r" ∷ u))
  -- the standard's, marks counted from the left
  nested : {t : List ℕ} → NestedComment t → CommentRead rest t

-- an item of kind Comment
abbrev pub CommentIn : List ℕ → Item → Type 0
CommentIn whole i =
    eqb i.kind kind.Comment ≡ true
    → (t rest : List ℕ) × (extent whole i ≡ bytes_of t) × (drop i.end whole ≡ bytes_of rest) × CommentRead rest t

-- ---- <nested comment>, as the standard has it

-- <comment text>
abbrev pub Unmarked : List ℕ → Type 0
Unmarked t = unmarked (code " ") t ≡ true

-- what follows a #|
pub data StandardRest : List ℕ → Type 0 where
  closes : (t : List ℕ) → Unmarked t → StandardRest (t ++ codes "|#")
  continues : (t nested rest : List ℕ) → Unmarked t → StandardRest nested → StandardRest rest → StandardRest (t ++ (codes "#|" ++ (nested ++ rest)))

-- B46: somewhere in it a <comment text> ends in # before |#, or in | before #|
pub data Touches : List ℕ → Type 0 where
  at_close : (t : List ℕ) → Unmarked (t ++ codes "#") → Touches (t ++ codes "#|#")
  at_open : (t nested rest : List ℕ) → Unmarked (t ++ codes "|") → StandardRest nested → StandardRest rest → Touches (t ++ (codes "|#|" ++ (nested ++ rest)))
  inner : (t nested rest : List ℕ) → Unmarked t → Touches nested → StandardRest rest → Touches (t ++ (codes "#|" ++ (nested ++ rest)))
  later : (t nested rest : List ℕ) → Unmarked t → StandardRest nested → Touches rest → Touches (t ++ (codes "#|" ++ (nested ++ rest)))
