-- A text of four tokens and a blank, read by the theorem on tokens alone: `(#t 12)`.
use Prim.Native.Nat.{ℕ}
use mathlib.Core.Path.{◌≡◌, refl, ap}
use mathlib.Core.Bool.{false}
use mathlib.Core.List.{List, [], ◌∷◌, map}
use Rattle.laws.specs.Quoted.{codes}
use Rattle.laws.specs.Texts.{begins}
use Rattle.chars.specs.Blank.{is_blank}
use Rattle.chars.specs.Encode.{width}
use Rattle.items.specs.Items.{Item, items}
use Rattle.items.specs.Kinds as kind
use Rattle.items_r7rs.specs.Reading.{ends, blank, reads}
use Rattle.items_r7rs.specs.Repeated.{done, more, some}
use Rattle.items_r7rs.specs.Delimiter.{before}
use Rattle.items_r7rs.specs.Boolean.{short_true}
use Rattle.items_r7rs.specs.Punctuation.{open_list, close}
use Rattle.items_r7rs.specs.Number.{a_real, no_sign, is_integer}
use Rattle.items_r7rs.specs.Token as token
use Rattle.items_r7rs.proofs.Reading.{text_items}
use Rattle.items_r7rs.proofs.Token.{read_as}

-- an item's kind, detail and extent
abbrev shown : Item → List ℕ
shown i = i.kind ∷ i.detail ∷ i.start ∷ i.end ∷ []

example : map shown (items false (codes "(#t 12)"))
    ≡ (kind.OpenParen ∷ kind.Round ∷ 0 ∷ 1 ∷ [])
    ∷ (kind.BooleanLiteral ∷ 1 ∷ 1 ∷ 3 ∷ [])
    ∷ (kind.Number ∷ 0 ∷ 4 ∷ 6 ∷ [])
    ∷ (kind.CloseParen ∷ kind.Round ∷ 6 ∷ 7 ∷ [])
    ∷ []
unfolding begins is_blank width
example =
    ap (map shown)
    (text_items false (codes "(#t 12)") refl
    (reads [] (codes "#t 12)") (read_as false (codes "#t 12)") (token.punctuation open_list tt))
    (reads (codes "t") (codes " 12)") (read_as false (codes " 12)") (token.boolean short_true (before refl)))
    (blank refl
    (reads (codes "2") (codes ")") (read_as false (codes ")") (token.number (a_real [] (codes "12") no_sign (is_integer (some refl (more refl done)))) (before refl)))
    (reads [] [] (read_as false [] (token.punctuation close tt)) ends))))))
