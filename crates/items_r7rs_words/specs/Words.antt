-- The other way, of the kinds that `Converse` of crate `items_r7rs` leaves out: what stands in the extent of an item. A condition stands for a row
-- of docs/DIFFERENCES.md, part B.
use Rattle.std.specs.Prelude.{ℕ, ◌≡◌, true, List, [], ◌∷◌, eqb}
use Rattle.laws.specs.Quoted.{one_of}
use Rattle.laws.specs.Texts.{begins}
use Rattle.chars.specs.Encode.{spelled}
use Rattle.items.specs.Items.{Item}
use Rattle.items.specs.Kinds as kind
use Rattle.items.specs.Meaning.{Row, row}
use Rattle.items_r7rs.specs.Converse.{extent}

-- a text and its kind stand in a table
pub data Among : List Row → List ℕ → ℕ → Type 0 where
  here : {r : Row} {rs : List Row} → Among (r ∷ rs) r.text r.number
  there : {r : Row} {rs : List Row} {raw : List ℕ} {k : ℕ} → Among rs raw k → Among (r ∷ rs) raw k

-- ---- words that have a kind of their own: the standard's dot, and its identifiers of B26, B27

abbrev pub own_words : List Row
own_words =
    row "." kind.Dot
    ∷ row "if" kind.If
    ∷ row "let" kind.Let
    ∷ row "define" kind.Define
    ∷ row "defn" kind.Define
    ∷ row "#%define" kind.Define
    ∷ row "%plain-let" kind.TestLet
    ∷ row "return!" kind.Return
    ∷ row "begin" kind.Begin
    ∷ row "lambda" kind.Lambda
    ∷ row "fn" kind.Lambda
    ∷ row "#%plain-lambda" kind.Lambda
    ∷ row "λ" kind.Lambda
    ∷ row "quote" kind.Quote
    ∷ row "syntax-rules" kind.SyntaxRules
    ∷ row "define-syntax" kind.DefineSyntax
    ∷ row "..." kind.Ellipses
    ∷ row "set!" kind.Set
    ∷ row "require" kind.Require
    ∷ []

abbrev pub own_kinds : List ℕ
own_kinds =
    kind.Dot ∷ kind.If ∷ kind.Define ∷ kind.Let ∷ kind.TestLet ∷ kind.Return ∷ kind.Begin ∷ kind.Lambda ∷ kind.Quote ∷ kind.SyntaxRules
    ∷ kind.DefineSyntax ∷ kind.Ellipses ∷ kind.Set ∷ kind.Require ∷ []

-- an item of one of these kinds is that word; so a Dot is `.`
abbrev pub WordIn : List ℕ → Item → Type 0
WordIn whole i = one_of own_kinds i.kind ≡ true → Among own_words (extent whole i) i.kind

-- ---- marks that the standard has not: B7, and `#;`, which it has not as a token (B45)

abbrev pub own_marks : List Row
own_marks =
    row "#'" kind.QuoteSyntax
    ∷ row "#`" kind.QuasiQuoteSyntax
    ∷ row "#," kind.UnquoteSyntax
    ∷ row "#,@" kind.UnquoteSpliceSyntax
    ∷ row "#;" kind.DatumComment
    ∷ []

abbrev pub mark_kinds : List ℕ
mark_kinds = kind.QuoteSyntax ∷ kind.QuasiQuoteSyntax ∷ kind.UnquoteSyntax ∷ kind.UnquoteSpliceSyntax ∷ kind.DatumComment ∷ []

abbrev pub OwnMarkIn : List ℕ → Item → Type 0
OwnMarkIn whole i = one_of mark_kinds i.kind ≡ true → Among own_marks (extent whole i) i.kind

-- ---- keywords: B7

abbrev pub KeywordIn : List ℕ → Item → Type 0
KeywordIn whole i = eqb i.kind kind.Keyword ≡ true → begins (spelled "#:") (extent whole i) ≡ true
