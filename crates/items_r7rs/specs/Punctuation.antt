-- R7RS 7.1.1: <token> → <identifier> | <boolean> | <number> | <character> | <string> | ( | ) | #( | #u8( | ' | ` | , | ,@ | .
-- The tokens that this writes out, each with the kind and the detail of its item. Departures: `[`, `]`, `{` and `}`, which the standard
-- reserves, are brackets too; and `#U8(` is an identifier and a bracket
use Rattle.std.specs.Prelude.{ℕ, ◌≡◌, false, List}
use Rattle.laws.specs.Quoted.{codes, code}
use Rattle.laws.specs.Texts.{starts}
use Rattle.items.specs.Kinds as kind
use Rattle.items_r7rs.specs.Delimiter.{delimiters, Ends}

pub data Punctuation : List ℕ → ℕ → ℕ → Type 0 where
  open_list : Punctuation (codes "(") kind.OpenParen kind.Round
  close : Punctuation (codes ")") kind.CloseParen kind.Round
  open_vector_case : Punctuation (codes "#(") kind.OpenParen kind.Vector
  open_bytes_case : Punctuation (codes "#u8(") kind.OpenParen kind.Bytes
  quote : Punctuation (codes "'") kind.QuoteTick 0
  quasiquote : Punctuation (codes "`") kind.QuasiQuote 0
  unquote : Punctuation (codes ",") kind.Unquote 0
  unquote_splicing : Punctuation (codes ",@") kind.UnquoteSplice 0
  dot : Punctuation (codes ".") kind.Dot 0

-- what may follow: a dot ends at a delimiter; a comma and an at sign are one token; nothing else minds what follows it
abbrev pub MayFollow : {t : List ℕ} {k d : ℕ} → Punctuation t k d → List ℕ → Type 0
MayFollow open_list cs = Unit
MayFollow close cs = Unit
MayFollow open_vector_case cs = Unit
MayFollow open_bytes_case cs = Unit
MayFollow quote cs = Unit
MayFollow quasiquote cs = Unit
MayFollow unquote cs = starts (code "@") cs ≡ false
MayFollow unquote_splicing cs = Unit
MayFollow dot cs = Ends delimiters cs
