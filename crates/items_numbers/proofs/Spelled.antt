-- How what an item turned out to be comes of its bytes: of every outcome that has a kind of its own, which bytes it has; and what is asked of the
-- bytes where the end of an item decides.
use Rattle.items.specs.declared.HashKind.{HashKind}
use Rattle.items.specs.declared.HashKind.TheVariants.{Decided, Bracket, Undecided}
use Rattle.items.specs.declared.Outcome.{Outcome}
use Rattle.items.specs.declared.Outcome.TheVariants.{Token, Str, HereStr, Word, Run, Lined, Keyword, Character, Error, ErrorAt}
use Rattle.items.specs.declared.Quotes.{Quotes}
use Rattle.items.specs.declared.Quotes.TheVariants.{Double, Lines}
use Rattle.items.specs.Kinds as kind
use Rattle.items.specs.Readers.{first_is, bool_kind, quote_kind, form_kind, or_else}
use Rattle.items.specs.Readers.{hash_kind}
use Rattle.items.proofs.Walk.{KnownKind}
use Rattle.laws.specs.Quoted.{code, one_of}
use Rattle.laws.specs.Texts.{begins, same}
use Rattle.laws.proofs.Choice.{by_bool, if_all, if_is}
use Rattle.laws.proofs.Compared.{same_is}
use Rattle.chars.specs.Encode.{utf8, bytes_of, spelled}
use Prim.Native.Nat.{ℕ}
use mathlib.Core.Path.{◌≡◌, refl, sym, subst}
use mathlib.Core.Bool.{Bool, true, false}
use mathlib.Core.List.{List, [], ◌∷◌, ◌++◌}
use lib.ListN.{length}
use lib.Dec.{eqb, leb}

-- the tokens that have one spelling each, or some: bytes, kind and detail. Of all tokens a comment alone has none
pub data Spelled : List ℕ → ℕ → ℕ → Type 0 where
  open_round : Spelled (spelled "(") kind.OpenParen kind.Round
  open_square_case : Spelled (spelled "[") kind.OpenParen kind.Square
  open_curly_case : Spelled (spelled "{") kind.OpenParen kind.Curly
  open_vector_case : Spelled (spelled "#(") kind.OpenParen kind.Vector
  open_bytes_case : Spelled (spelled "#u8(") kind.OpenParen kind.Bytes
  close_round : Spelled (spelled ")") kind.CloseParen kind.Round
  close_square_case : Spelled (spelled "]") kind.CloseParen kind.Square
  close_curly_case : Spelled (spelled "}") kind.CloseParen kind.Curly
  quote_tick : Spelled (spelled "'") kind.QuoteTick 0
  quasi_quote : Spelled (spelled "`") kind.QuasiQuote 0
  unquote : Spelled (spelled ",") kind.Unquote 0
  unquote_splice : Spelled (spelled ",@") kind.UnquoteSplice 0
  quote_syntax : Spelled (spelled "#'") kind.QuoteSyntax 0
  quasi_quote_syntax : Spelled (spelled "#`") kind.QuasiQuoteSyntax 0
  unquote_syntax : Spelled (spelled "#,") kind.UnquoteSyntax 0
  unquote_splice_syntax : Spelled (spelled "#,@") kind.UnquoteSpliceSyntax 0
  datum_comment : Spelled (spelled "#;") kind.DatumComment 0
  long_true : Spelled (spelled "#true") kind.BooleanLiteral 1
  short_true : Spelled (spelled "#t") kind.BooleanLiteral 1
  long_false : Spelled (spelled "#false") kind.BooleanLiteral 0
  short_false : Spelled (spelled "#f") kind.BooleanLiteral 0

-- the kinds of those tokens
abbrev pub spelled_kinds : List ℕ
spelled_kinds =
    kind.OpenParen ∷ kind.CloseParen ∷ kind.QuoteTick ∷ kind.QuasiQuote ∷ kind.Unquote ∷ kind.UnquoteSplice ∷ kind.QuoteSyntax ∷ kind.QuasiQuoteSyntax
    ∷ kind.UnquoteSyntax ∷ kind.UnquoteSpliceSyntax ∷ kind.DatumComment ∷ kind.BooleanLiteral ∷ []

pub spelled_kind : {raw : List ℕ} {k d : ℕ} → Spelled raw k d → one_of spelled_kinds k ≡ true
spelled_kind open_round = refl
spelled_kind open_square_case = refl
spelled_kind open_curly_case = refl
spelled_kind open_vector_case = refl
spelled_kind open_bytes_case = refl
spelled_kind close_round = refl
spelled_kind close_square_case = refl
spelled_kind close_curly_case = refl
spelled_kind quote_tick = refl
spelled_kind quasi_quote = refl
spelled_kind unquote = refl
spelled_kind unquote_splice = refl
spelled_kind quote_syntax = refl
spelled_kind quasi_quote_syntax = refl
spelled_kind unquote_syntax = refl
spelled_kind unquote_splice_syntax = refl
spelled_kind datum_comment = refl
spelled_kind long_true = refl
spelled_kind short_true = refl
spelled_kind long_false = refl
spelled_kind short_false = refl

-- the bytes of an item, and its outcome
pub data Comes (raw : List ℕ) : Outcome → Type 0 where
  token : {k d : ℕ} → Spelled raw k d → Comes raw (Token k d)
  comment : Comes raw (Token kind.Comment 0)
  string : first_is (code "\"") raw ≡ true → Comes raw Str
  here_string : begins (spelled "#<<") raw ≡ true → Comes raw HereStr
  character : begins (spelled "#\\") raw ≡ true → leb (length raw) 2 ≡ false → Comes raw Character
  word : Comes raw Word
  run : Comes raw Run
  lined : Comes raw Lined
  keyword : Comes raw Keyword
  error : {n d : ℕ} → Comes raw (Error n d)
  error_at : {n d a b : ℕ} → Comes raw (ErrorAt n d a b)

-- the bytes of a word that starts with `#`, and its kind; a bracket's own byte is still to come
abbrev pub Kind : List ℕ → HashKind → Type 0
Kind raw = KnownKind (Comes raw) (λ d. Spelled (raw ++ utf8 (code "(")) kind.OpenParen d)

-- an item in double quotes starts with one
abbrev pub Opened : Quotes → List ℕ → Type 0
Opened Double raw = first_is (code "\"") raw ≡ true
Opened Lines raw = Unit {0}

-- ---- what is asked of the bytes

pub begins_on : (p raw l : List ℕ) → begins p raw ≡ true → begins p (raw ++ l) ≡ true
unfolding begins
begins_on [] raw l h = refl
begins_on (x ∷ p) [] l h = let z : ◌≡◌ {A = Bool} false true = h in cc
begins_on (x ∷ p) (y ∷ raw) l h =
    by_bool (eqb x y) (λ e. rw e (begins_on p raw l (rw e at h))) (λ e. let z : ◌≡◌ {A = Bool} false true = rw e at h in cc)

pub opened_on : (k : Quotes) (raw l : List ℕ) → Opened k raw → Opened k (raw ++ l)
opened_on Double [] l h = let z : ◌≡◌ {A = Bool} false true = h in cc
opened_on Double (b ∷ raw) l h = h
opened_on Lines raw l h = tt

-- a token's bytes are its spelling
module _ (raw : List ℕ) where
  spelt : {k d : ℕ} (w : List ℕ) → Spelled w k d → same raw w ≡ true → Comes raw (Token k d)
  spelt {k} {d} w s e = token (subst (λ (l : List ℕ). Spelled l k d) (sym (same_is raw w e)) s)

  opens : {d : ℕ} (w : List ℕ) → Spelled (w ++ utf8 (code "(")) kind.OpenParen d → same raw w ≡ true → Kind raw (Bracket d)
  opens {d} w s e = subst (λ (l : List ℕ). Spelled (l ++ utf8 (code "(")) kind.OpenParen d) (sym (same_is raw w e)) s

  kind_bool : Kind raw (bool_kind raw)
  unfolding bool_kind
  kind_bool =
      if_is (Kind raw) (same raw (spelled "#true")) (spelt (spelled "#true") long_true) (λ f.
      if_is (Kind raw) (same raw (spelled "#t")) (spelt (spelled "#t") short_true) (λ g.
      if_is (Kind raw) (same raw (spelled "#false")) (spelt (spelled "#false") long_false) (λ h.
      if_is (Kind raw) (same raw (spelled "#f")) (spelt (spelled "#f") short_false) (λ j. tt))))

  kind_quote : Kind raw (quote_kind raw)
  unfolding quote_kind
  kind_quote =
      if_is (Kind raw) (same raw (spelled "#'")) (spelt (spelled "#'") quote_syntax) (λ f.
      if_is (Kind raw) (same raw (spelled "#`")) (spelt (spelled "#`") quasi_quote_syntax) (λ g.
      if_is (Kind raw) (same raw (spelled "#,")) (spelt (spelled "#,") unquote_syntax) (λ h.
      if_is (Kind raw) (same raw (spelled "#,@")) (spelt (spelled "#,@") unquote_splice_syntax) (λ j. tt))))

  kind_form : Kind raw (form_kind raw)
  unfolding form_kind bytes_of utf8
  kind_form =
      if_all (Kind raw) (begins (spelled "#:") raw) keyword (
      if_is (Kind raw) (begins (spelled "#\\") raw) (λ f. if_is (Kind raw) (leb (length raw) 2) (λ g. error) (λ g. character f g)) (λ f.
      if_is (Kind raw) (same raw (spelled "#")) (opens (spelled "#") open_vector_case) (λ g.
      if_is (Kind raw) (same raw (spelled "#u8")) (opens (spelled "#u8") open_bytes_case) (λ h. tt))))

  kind_else : (j k : HashKind) → Kind raw j → Kind raw k → Kind raw (or_else j k)
  kind_else (Decided o) k p q = p
  kind_else (Bracket d) k p q = p
  kind_else Undecided k p q = q

  pub kind_hash : Kind raw (hash_kind raw)
  unfolding hash_kind
  kind_hash =
      kind_else (bool_kind raw) (or_else (quote_kind raw) (form_kind raw)) kind_bool (kind_else (quote_kind raw) (form_kind raw) kind_quote kind_form)
