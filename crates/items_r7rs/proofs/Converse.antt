-- The other way. Crate items_numbers' `items_stand` says of which characters an item comes, and how; here each kind of item is looked up there.
use Prim.Native.Nat.{ℕ, ◌+◌}
use mathlib.Core.Path.{◌≡◌, refl, sym, subst}
use mathlib.Core.Bool.{Bool, true, false}
use mathlib.Core.List.{List, [], ◌∷◌, map}
use mathlib.Core.Logic.{◌⊎◌}
use lib.Dec.{eqb, ltb}
use native.Mathlib.Omega.{arith}
use borrow.Author.Tests.{ne_eqb, ltb-true}
use Rattle.laws.specs.Quoted.{codes, one_of}
use Rattle.chars.specs.Encode.{bytes_of}
use Rattle.items.specs.Items.{Item, items}
use Rattle.items.specs.Kinds as kind
use Rattle.items.specs.Meaning.{Meaning}
use Rattle.items.proofs.Every.{Every, every_then, every_any}
use Rattle.numbers_difference.specs.Conditions.{NumberText, SignBelowSlash}
use Rattle.items_numbers.proofs.Numbers.{number_meant}
use Rattle.items_numbers.proofs.Spelled.{Spelled}
use Rattle.items_numbers.proofs.Spelled as spelled
use Rattle.items_numbers.proofs.Stands.{Meant, token, string, here_string, character, number, word, error, word_kinds, other, none_of, Stands, items_stand}
use Rattle.items_r7rs.specs.Boolean as boolean
use Rattle.items_r7rs.specs.Converse.{BooleanBytes, BooleanIn, brackets, marks, Bracket, standard, BracketIn, MarkIn, NumberTextIn}
use Rattle.items_r7rs.specs.Converse as bracket
use Rattle.items_r7rs.specs.Punctuation.{Punctuation, open_list, close, open_vector_case, open_bytes_case, quote, quasiquote, unquote, unquote_splicing}
use Rattle.items_r7rs.proofs.Classes.{at_one_of}
use Rattle.items_r7rs.proofs.NoNumber.{number_back}

-- ---- every item

abbrev Any : ℕ → Type 0
Any c = Unit {0}

abbrev pub AnItem : Bool → List ℕ → Item → Type 0
AnItem report whole i = Stands report Any whole i

-- what holds of an item that stands in the text holds of every item
module _ (report : Bool) (P : List ℕ → Item → Type 0) (so : (whole : List ℕ) (i : Item) → AnItem report whole i → P whole i) where
  pub of_items : (cs : List ℕ) → Every (P (bytes_of cs)) (items report cs)
  of_items cs =
      every_then (AnItem report (bytes_of cs)) (P (bytes_of cs)) (so (bytes_of cs)) (items report cs) (items_stand report Any cs (every_any Any (λ c. tt) cs))

-- ---- tokens that have a spelling: booleans, brackets and marks

-- the kinds of all others but errors
abbrev other_kinds : List ℕ
other_kinds = kind.StringLiteral ∷ kind.CharacterLiteral ∷ kind.Number ∷ word_kinds

-- no error has one of the kinds ks
no_error_of : (ks : List ℕ) (n : ℕ) → map (λ k. ltb k kind.first_error) ks ≡ map (λ k. true) ks → one_of ks (kind.first_error + n) ≡ false
no_error_of [] n h = refl
no_error_of (k ∷ ks) n h =
    let below : ltb k kind.first_error ≡ true = cc in
    rw (ne_eqb (kind.first_error + n) k (λ e. omega (arith, ltb-true k kind.first_error below))) (no_error_of ks n (cc))

-- what is of one of the kinds ks has a spelling
module _ (ks : List ℕ) (apart : map (one_of ks) other_kinds ≡ map (λ k. false) other_kinds) (low : map (λ k. ltb k kind.first_error) ks ≡ map (λ k. true) ks) where
  not_other : {A : Type 0} (n : ℕ) → one_of other_kinds n ≡ true → one_of ks n ≡ true → A
  not_other n h k = other (at_one_of (one_of ks) false other_kinds n apart h) k

  spelled_meant : {report : Bool} {s e : ℕ} {t : List ℕ} {m : Meaning} → Meant report s e t m → one_of ks m.kind ≡ true → Spelled (bytes_of t) m.kind m.detail
  spelled_meant (token h) k = h
  spelled_meant (string h r) k = not_other kind.StringLiteral refl k
  spelled_meant (here_string h) k = not_other kind.StringLiteral refl k
  spelled_meant (character f g h) k = not_other kind.CharacterLiteral refl k
  spelled_meant (number p h) k = not_other kind.Number refl k
  spelled_meant (word {k = n} h) k = not_other n (at_one_of (one_of other_kinds) true word_kinds n refl h) k
  spelled_meant (error n d) k = other (no_error_of ks n low) k

abbrev BracketBytes : List ℕ → ℕ → ℕ → Type 0
BracketBytes raw k d = (t : List ℕ) × (raw ≡ bytes_of t) × Bracket t k d

abbrev MarkBytes : List ℕ → ℕ → ℕ → Type 0
MarkBytes raw k d = (t : List ℕ) × (raw ≡ bytes_of t) × Punctuation t k d

-- the kinds of tokens that the standard has not, or not as tokens
abbrev own_kinds : List ℕ
own_kinds = kind.DatumComment ∷ kind.QuoteSyntax ∷ kind.QuasiQuoteSyntax ∷ kind.UnquoteSyntax ∷ kind.UnquoteSpliceSyntax ∷ []

-- what a spelling is to the standard
data Known (raw : List ℕ) : ℕ → ℕ → Type 0 where
  a_boolean : {d : ℕ} → BooleanBytes raw d → Known raw kind.BooleanLiteral d
  a_bracket : {k d : ℕ} → one_of brackets k ≡ true → BracketBytes raw k d → Known raw k d
  a_mark : {k d : ℕ} → one_of marks k ≡ true → MarkBytes raw k d → Known raw k d
  no_token_case : {k d : ℕ} → one_of own_kinds k ≡ true → Known raw k d

known : {raw : List ℕ} {k d : ℕ} → Spelled raw k d → Known raw k d
known spelled.open_round = a_bracket refl (codes "(", refl, standard open_list)
known spelled.open_square_case = a_bracket refl (codes "[", refl, bracket.open_square_case)
known spelled.open_curly_case = a_bracket refl (codes "{", refl, bracket.open_curly_case)
known spelled.open_vector_case = a_bracket refl (codes "#(", refl, standard open_vector_case)
known spelled.open_bytes_case = a_bracket refl (codes "#u8(", refl, standard open_bytes_case)
known spelled.close_round = a_bracket refl (codes ")", refl, standard close)
known spelled.close_square_case = a_bracket refl (codes "]", refl, bracket.close_square_case)
known spelled.close_curly_case = a_bracket refl (codes "}", refl, bracket.close_curly_case)
known spelled.quote_tick = a_mark refl (codes "'", refl, quote)
known spelled.quasi_quote = a_mark refl (codes "`", refl, quasiquote)
known spelled.unquote = a_mark refl (codes ",", refl, unquote)
known spelled.unquote_splice = a_mark refl (codes ",@", refl, unquote_splicing)
known spelled.quote_syntax = no_token_case refl
known spelled.quasi_quote_syntax = no_token_case refl
known spelled.unquote_syntax = no_token_case refl
known spelled.unquote_splice_syntax = no_token_case refl
known spelled.datum_comment = no_token_case refl
known spelled.long_true = a_boolean (codes "#true", true, refl, boolean.long_true, refl)
known spelled.short_true = a_boolean (codes "#t", true, refl, boolean.short_true, refl)
known spelled.long_false = a_boolean (codes "#false", false, refl, boolean.long_false, refl)
known spelled.short_false = a_boolean (codes "#f", false, refl, boolean.short_false, refl)

boolean_known : {raw : List ℕ} {k d : ℕ} → Known raw k d → eqb k kind.BooleanLiteral ≡ true → BooleanBytes raw d
boolean_known (a_boolean h) e = h
boolean_known (a_bracket {k = k} f h) e = none_of brackets k kind.BooleanLiteral refl f e
boolean_known (a_mark {k = k} f h) e = none_of marks k kind.BooleanLiteral refl f e
boolean_known (no_token_case {k = k} f) e = none_of own_kinds k kind.BooleanLiteral refl f e

bracket_known : {raw : List ℕ} {k d : ℕ} → Known raw k d → one_of brackets k ≡ true → BracketBytes raw k d
bracket_known (a_boolean h) e = other refl e
bracket_known (a_bracket f h) e = h
bracket_known (a_mark {k = k} f h) e = other (at_one_of (one_of brackets) false marks k refl f) e
bracket_known (no_token_case {k = k} f) e = other (at_one_of (one_of brackets) false own_kinds k refl f) e

mark_known : {raw : List ℕ} {k d : ℕ} → Known raw k d → one_of marks k ≡ true → MarkBytes raw k d
mark_known (a_boolean h) e = other refl e
mark_known (a_bracket {k = k} f h) e = other (at_one_of (one_of marks) false brackets k refl f) e
mark_known (a_mark f h) e = h
mark_known (no_token_case {k = k} f) e = other (at_one_of (one_of marks) false own_kinds k refl f) e

only : (k n : ℕ) → eqb n k ≡ true → one_of (k ∷ []) n ≡ true
only k n e = rw e

-- of the items of a text, in both modes
pub boolean_items : (report : Bool) (cs : List ℕ) → Every (BooleanIn (bytes_of cs)) (items report cs)
boolean_items report cs = of_items report BooleanIn so cs
  where
    so : (whole : List ℕ) (i : Item) → AnItem report whole i → BooleanIn whole i
    so whole i z k =
        let h : Spelled (bytes_of z.chars) i.kind i.detail = spelled_meant (kind.BooleanLiteral ∷ []) refl refl z.meant (only kind.BooleanLiteral i.kind k) in
        subst (λ (l : List ℕ). BooleanBytes l i.detail) (sym z.bytes) (boolean_known (known h) k)

pub bracket_items : (report : Bool) (cs : List ℕ) → Every (BracketIn (bytes_of cs)) (items report cs)
bracket_items report cs = of_items report BracketIn so cs
  where
    so : (whole : List ℕ) (i : Item) → AnItem report whole i → BracketIn whole i
    so whole i z k =
        let h : Spelled (bytes_of z.chars) i.kind i.detail = spelled_meant brackets refl refl z.meant k in
        subst (λ (l : List ℕ). BracketBytes l i.kind i.detail) (sym z.bytes) (bracket_known (known h) k)

pub mark_items : (report : Bool) (cs : List ℕ) → Every (MarkIn (bytes_of cs)) (items report cs)
mark_items report cs = of_items report MarkIn so cs
  where
    so : (whole : List ℕ) (i : Item) → AnItem report whole i → MarkIn whole i
    so whole i z k =
        let h : Spelled (bytes_of z.chars) i.kind i.detail = spelled_meant marks refl refl z.meant k in
        subst (λ (l : List ℕ). MarkBytes l i.kind i.detail) (sym z.bytes) (mark_known (known h) k)

-- ---- numbers

pub number_text_items : (report : Bool) (cs : List ℕ) → Every (NumberTextIn (bytes_of cs)) (items report cs)
number_text_items report cs = of_items report NumberTextIn so cs
  where
    so : (whole : List ℕ) (i : Item) → AnItem report whole i → NumberTextIn whole i
    so whole i z k =
        let p = (number_meant z.meant k).1 in
        subst (λ (l : List ℕ). NumberText l ⊎ SignBelowSlash l) (sym z.bytes) (number_back (bytes_of z.chars) p.0 p.1)
