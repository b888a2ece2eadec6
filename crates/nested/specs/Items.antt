-- What stands in a record, by 01's "An item": a record is `record_words` words, of which the first is the kind and the second the detail.
-- `has_detail`, `sort_of` and `class_of` are the one table of the kinds and details that the layout has.
use Rattle.std.specs.Prelude.{ℕ, zero, suc, ◌+◌, ◌*◌, ◌-◌, ◌/◌, Bool, true, cond, List, [], ◌∷◌, eqb, leb, ltb, length, get_or}
use Rattle.chars.specs.Encode.{is_scalar}
use Rattle.items.specs.Kinds as kind
use Rattle.items.specs.Items.{record_words}
use Rattle.nested.specs.declared.Class.{Class}
use Rattle.nested.specs.declared.Class.TheVariants.{Alien, Fails, Passes, Drops, Marks, Simple, Opens, Closes, Dots}

-- the number of the last error that there is
abbrev pub last_error : ℕ
last_error = kind.last_error

-- The kinds of nodes: the simple data of R7RS 7.1.2 and the compound ones.
abbrev pub boolean : ℕ
boolean = 0

abbrev pub number : ℕ
number = 1

abbrev pub character : ℕ
character = 2

abbrev pub string : ℕ
string = 3

-- identifiers, keywords, and word kinds such as If
abbrev pub symbol : ℕ
symbol = 4

abbrev pub plain_list : ℕ
plain_list = 5

abbrev pub dotted_list : ℕ
dotted_list = 6

abbrev pub vector : ℕ
vector = 7

abbrev pub byte_list : ℕ
byte_list = 8

-- one of the eight quoting marks with its datum
abbrev pub abbreviation : ℕ
abbreviation = 9

-- "Detail: the code point of a character; 0 or 1 for a boolean; for OpenParen the bracket (0 to 2), or 3 for Vector and
-- 6 for Bytes; for CloseParen the bracket; .. else 0."
unfoldable pub has_detail : ℕ → ℕ → Bool
has_detail k d =
    cond (eqb k kind.OpenParen) (cond (leb d kind.Vector) true (eqb d kind.Bytes))
    (cond (eqb k kind.CloseParen) (leb d kind.Curly)
    (cond (eqb k kind.CharacterLiteral) (is_scalar d)
    (cond (eqb k kind.BooleanLiteral) (leb d 1)
    (eqb d 0))))

-- the kinds of tokens, in the order of `TokenType`; QuoteTick to UnquoteSpliceSyntax are the eight quoting marks, If to Require the words
unfoldable pub sort_of : ℕ → ℕ → Class
sort_of k d =
    cond (eqb k kind.OpenParen) (Opens d)
    (cond (eqb k kind.CloseParen) (Closes d)
    (cond (leb k kind.UnquoteSpliceSyntax) Marks
    (cond (leb k kind.Require) (Simple symbol)
    (cond (eqb k kind.CharacterLiteral) (Simple character)
    (cond (eqb k kind.DatumComment) Drops
    (cond (eqb k kind.Comment) Passes
    (cond (eqb k kind.BooleanLiteral) (Simple boolean)
    (cond (leb k kind.Keyword) (Simple symbol)
    (cond (eqb k kind.Number) (Simple number)
    (cond (eqb k kind.StringLiteral) (Simple string)
    Dots))))))))))

-- "48 a kind, or on a kind below 100 a detail, that 01's layout doesn't have": Alien. An error item: Fails.
unfoldable pub class_of : ℕ → ℕ → Class
class_of k d =
    cond (leb k kind.Dot) (cond (has_detail k d) (sort_of k d) Alien)
    (cond (ltb kind.first_error k) (cond (leb k (kind.first_error + last_error)) Fails Alien) Alien)

-- A record at its place, counted in records.
pub data Item : Type 0 where
  item : ℕ → Class → Item

abbrev pub count_of : List ℕ → ℕ
count_of s = length s / record_words

-- the kind and the detail of the record at a place
abbrev pub kind_at : List ℕ → ℕ → ℕ
kind_at s p = get_or s (p * record_words) 0

abbrev pub detail_at : List ℕ → ℕ → ℕ
detail_at s p = get_or s (p * record_words + 1) 0

abbrev pub class_at : List ℕ → ℕ → Class
class_at s p = class_of (kind_at s p) (detail_at s p)

unfoldable pub items_from : ℕ → ℕ → List ℕ → List Item
items_from zero p s = []
items_from (suc n) p s = item p (class_at s p) ∷ items_from n (p + 1) s

-- the records from a place on
abbrev pub rest : List ℕ → ℕ → List Item
rest s p = items_from (count_of s - p) p s

-- all records; words past the last whole record are none
abbrev pub items_of : List ℕ → List Item
items_of s = rest s 0
