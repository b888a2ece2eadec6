-- Every item's kind and detail are the layout's, so that nested lists never meet one that is alien: each token that the machine gives has them, and
-- then it holds of what an extent means.
use Rattle.std.proofs.Common.{Ok, Err, Result}
use Rattle.digits.specs.Hex.{Hex}
use Prim.Native.Nat.{ℕ, ◌≤◌, ◌<◌}
use mathlib.Core.Path.{◌≡◌, refl}
use mathlib.Core.Bool.{Bool, true}
use mathlib.Core.List.{List}
use lib.ListN.{length}
use lib.Dec.{eqb, leb}
use native.Mathlib.Omega.{arith}
use Rattle.laws.specs.Quoted.{code, within}
use Rattle.laws.specs.Texts.{begins, same}
use Rattle.laws.proofs.Choice.{by_bool, if_all, if_is}
use Rattle.chars.specs.Encode.{is_scalar, spelled}
use Rattle.items.specs.declared.Outcome.{Outcome}
use Rattle.items.specs.declared.Outcome.TheVariants.{Token, Str, HereStr, Word, Run, Lined, Keyword, Character, Error, ErrorAt}
use Rattle.items.specs.declared.HashKind.{HashKind}
use Rattle.items.specs.declared.HashKind.TheVariants.{Decided, Bracket, Undecided}
use Rattle.items.specs.declared.CharError.{CharError}
use Rattle.items.specs.declared.CharError.TheVariants.{Wrong, WrongAt}
use Rattle.items.specs.Kinds as kind
use Rattle.items.specs.Classes.{First, starts_run, first_of}
use Rattle.items.specs.Machine.{on_first}
use Rattle.items.specs.Readers.{scalar_of, bool_kind, quote_kind, form_kind, or_else, hash_kind, read_item, SoFar}
use Rattle.items.proofs.Phases.{Knows, KnownIn}
use Rattle.items.proofs.Walk.{KnownKind, WalkEnds, WalkSteps, walk_read}
use Rattle.nested.specs.Items.{has_detail}

-- a kind of the layout with a detail that it has
abbrev pub Sorted : ℕ → ℕ → Type 0
Sorted k d = (k ≤ kind.Dot) × (has_detail k d ≡ true)

-- every kind has the detail 0
pub zero_detail : (k : ℕ) → has_detail k 0 ≡ true
unfolding has_detail is_scalar within
zero_detail k =
    by_bool (eqb k kind.OpenParen) (λ a. rw a)
    (λ a. by_bool (eqb k kind.CloseParen) (λ b. rw (a, b))
    (λ b. by_bool (eqb k kind.CharacterLiteral) (λ c. rw (a, b, c))
    (λ c. by_bool (eqb k kind.BooleanLiteral) (λ d. rw (a, b, c, d)) (λ d. rw (a, b, c, d)))))

-- ---- outcomes

abbrev pub Sort : Outcome → Type 0
Sort (Token k d) = Sorted k d
Sort Str = Unit {0}
Sort HereStr = Unit {0}
Sort Word = Unit {0}
Sort Run = Unit {0}
Sort Lined = Unit {0}
Sort Keyword = Unit {0}
Sort Character = Unit {0}
Sort (Error n d) = 0 < n
Sort (ErrorAt n d a b) = 0 < n

abbrev SortKind : HashKind → Type 0
SortKind = KnownKind Sort (Sorted kind.OpenParen)

-- a character, or an error's number
abbrev pub SortValue : Result ℕ CharError → Type 0
SortValue (Ok c) = is_scalar c ≡ true
SortValue (Err (Wrong e d)) = 0 < e
SortValue (Err (WrongAt e d p)) = 0 < e

pub value_sort : (h : Hex) → SortValue (scalar_of h)
unfolding scalar_of
value_sort (Ok v) = if_is SortValue (is_scalar v) (λ b. b) (λ b. omega arith)
value_sort (Err w) = omega arith

plain_kind_lem : (k : ℕ) → k ≤ kind.Dot → Sorted k 0
plain_kind_lem k h = (h, zero_detail k)

-- ---- words that start with `#`

module _ (raw : List ℕ) where
  sort_bool : SortKind (bool_kind raw)
  unfolding bool_kind has_detail
  sort_bool =
      if_all SortKind (same raw (spelled "#true")) (omega arith, refl) (if_all SortKind (same raw (spelled "#t")) (omega arith, refl)
      (if_all SortKind (same raw (spelled "#false")) (omega arith, refl) (if_all SortKind (same raw (spelled "#f")) (omega arith, refl) tt)))

  sort_quote : SortKind (quote_kind raw)
  unfolding quote_kind
  sort_quote =
      if_all SortKind (same raw (spelled "#'")) (plain_kind_lem kind.QuoteSyntax (omega arith))
      (if_all SortKind (same raw (spelled "#`")) (plain_kind_lem kind.QuasiQuoteSyntax (omega arith))
      (if_all SortKind (same raw (spelled "#,")) (plain_kind_lem kind.UnquoteSyntax (omega arith))
      (if_all SortKind (same raw (spelled "#,@")) (plain_kind_lem kind.UnquoteSpliceSyntax (omega arith)) tt)))

  sort_form : SortKind (form_kind raw)
  unfolding form_kind has_detail
  sort_form =
      if_all SortKind (begins (spelled "#:") raw) tt
      (if_all SortKind (begins (spelled "#\\") raw) (if_all SortKind (leb (length raw) 2) (omega arith) tt)
      (if_all SortKind (same raw (spelled "#")) (omega arith, refl) (if_all SortKind (same raw (spelled "#u8")) (omega arith, refl) tt)))

  sort_else : (j k : HashKind) → SortKind j → SortKind k → SortKind (or_else j k)
  sort_else (Decided o) k p q = p
  sort_else (Bracket d) k p q = p
  sort_else Undecided k p q = q

  sort_kind : SortKind (hash_kind raw)
  unfolding hash_kind
  sort_kind = sort_else (bool_kind raw) (or_else (quote_kind raw) (form_kind raw)) sort_bool (sort_else (quote_kind raw) (form_kind raw) sort_quote sort_form)

-- ---- what is known in a phase: of what the item turned out to be alone

abbrev knows : Knows
knows = record {
  comma = Unit {0};
  hash = Unit {0};
  angle = Unit {0};
  here = Unit {0};
  bracket = Sorted kind.OpenParen;
  nest = λ d. Unit {0};
  quoted = λ k. Unit {0};
  closed = λ k. Unit {0};
  escape = λ k from. Unit {0};
  brace = λ k from. Unit {0};
  digits = λ k closer from m. Unit {0};
  done = Sort;
}

over : (raw : List ℕ) → WalkEnds knows raw Sort
over raw = record {
  word = tt;
  run = tt;
  comment = plain_kind_lem kind.Comment (omega arith);
  unquote = λ _. plain_kind_lem kind.Unquote (omega arith);
  here = λ _ _. tt;
  string = λ _. tt;
  lined = λ _ _. tt;
  open_string = omega arith;
  open_lined = omega arith;
  open_nest = λ _ _. omega arith;
  decided = sort_kind raw;
  done = λ _ h. h;
}

on : (report : Bool) (i : SoFar) (c : ℕ) → WalkSteps report i c knows knows Sort
on report i c = record {
  comment = plain_kind_lem kind.Comment (omega arith);
  splice = λ _ _. plain_kind_lem kind.UnquoteSplice (omega arith);
  datum = λ _ _. plain_kind_lem kind.DatumComment (omega arith);
  bracket = λ _ h _. h;
  unexpected = omega arith;
  opens_nest_holds = λ _ _. tt;
  nest = λ _ _ _ _. tt;
  carries = record {
    angle = λ _ _. tt;
    opens_here = λ _ _. tt;
    here = λ _. tt;
    opens_lined = λ _. tt;
    quoted = λ _ _. tt;
    escaped = λ _ _ _. tt;
    scalar = λ _ _ _ _ _. tt;
  };
  ends = λ _ _ _. tt;
  escapes = λ _ _ _. tt;
  solid = λ _ _. omega arith;
  invalid = λ _ _ _. omega arith;
  hex_x = λ _ _ _ _. tt;
  hex_u = λ _ _ _ _. tt;
  braced = λ _ _ _ _. tt;
  unbraced = λ _ _ _. tt;
  digit = λ _ _ _ _ _ _. tt;
  unclosed = λ _ _ _ _ _. omega arith;
  no_scalar = λ _ _ _ _ _ _ _. omega arith;
  fails = λ _ _ _ _ _ _ _ _ _ _ _. if_all Sort report (omega arith) (omega arith);
}

-- ---- the start, and the whole item

first_holds : (c : ℕ) → KnownIn knows (on_first (first_of c))
unfolding first_of has_detail
first_holds c =
    let P : First → Type 0 = λ f. KnownIn knows (on_first f) in
    if_all P (eqb c (code ";")) tt (if_all P (eqb c (code "\"")) tt (if_all P (eqb c (code ",")) tt (if_all P (eqb c (code "#")) tt
    (if_all P (eqb c (code "(")) (omega arith, refl) (if_all P (eqb c (code "[")) (omega arith, refl) (if_all P (eqb c (code "{")) (omega arith, refl)
    (if_all P (eqb c (code ")")) (omega arith, refl) (if_all P (eqb c (code "]")) (omega arith, refl) (if_all P (eqb c (code "}")) (omega arith, refl)
    (if_all P (eqb c (code "'")) (omega arith, refl) (if_all P (eqb c (code "`")) (omega arith, refl)
    (if_all P (starts_run c) tt (if_all P (eqb c (code "|")) tt (if_all P (eqb c (code "\\")) tt tt))))))))))))))

pub read_sort : (report : Bool) (at c : ℕ) (cs : List ℕ) → Sort (read_item report at c cs).what
read_sort report at c cs =
    walk_read report (λ _. knows) (λ _. Sort) (λ _ _. Unit {0}) (λ i _ _. over i.bytes) (λ i c _ _. (on report i c, tt)) at c cs (first_holds c) tt
