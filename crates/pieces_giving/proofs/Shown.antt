-- An item as the code gives it, by what crate `meaning` says of its extent, is the item as specs/Given has it.
use Prim.Native.Nat.{ℕ, ◌+◌}
use mathlib.Core.Path.{◌≡◌, refl, sym, ap, ◌∙◌}
use mathlib.Core.Bool.{Bool, ◌&&◌}
use mathlib.Core.List.{List, [], ◌∷◌}
use lib.ListN.{length, drop}
use lib.Dec.{eqb, ltb}
use native.Mathlib.Omega.{arith}
use Rattle.std.specs.Prelude.{if◌then◌else◌, Option, Ok, Err, Result}
use Rattle.laws.specs.Quoted.{code}
use Rattle.laws.proofs.Choice.{if_all}
use Rattle.items.specs.Kinds as kind
use Rattle.items.specs.declared.Quotes.TheVariants.{Lines}
use Rattle.items.specs.declared.Outcome.{Outcome}
use Rattle.items.specs.declared.Outcome.TheVariants.{Token, Str, HereStr, Word, Run, Lined, Keyword, Character, Error, ErrorAt}
use Rattle.numbers.specs.Grammar.{parse_number, Parsed}
use Rattle.numbers.specs.declared.ParseError.TheVariants as parsed
use Rattle.items.specs.declared.CharError.{CharError}
use Rattle.items.specs.declared.CharError.TheVariants.{Wrong, WrongAt}
use Rattle.items.specs.Readers.{first_is}
use Rattle.items.specs.Meaning.{Text, none, source, decoded, Meaning, meaning_of, word_means, word_kind, run_means, escaped, unescape}
use Rattle.items.specs.Meaning.{string_text, lined_text, here_text, character_of, char_inside, character_means}
use Rattle.items.specs.Items.{Place, item_of, items_of, range_after, standing, extent_items}
use Rattle.meaning.specs.declared.Means.{Means}
use Rattle.meaning.specs.declared.Meant.TheVariants.{One, Two}
use Rattle.meaning.specs.Meant.{sized, sized_all, meant}
use Rattle.pieces.specs.declared.Stage.TheVariants.{Waiting}
use Rattle.pieces.specs.declared.State.{State}
use Rattle.pieces.specs.Given.{Given, given}
use Rattle.pieces.specs.Calls.{on, off, item, item_so_far, last_of, gives, report, ends, beyond, becomes, deeper}
use Rattle.pieces_giving.specs.Copied.{quotes_of, given_by, one_given, pair_given}
use Rattle.pieces.proofs.Pairs.{Shape, alone, pair, shape}

-- ---- a decoded text is that between the quotes of its kind

abbrev QuotedText : List ℕ → ℕ → Text → Type 0
QuotedText raw k none = Unit {0}
QuotedText raw k (source a b) = Unit {0}
QuotedText raw k (decoded bs) = bs ≡ unescape (quotes_of k) (drop 1 raw)

abbrev QuotedAll : List ℕ → List Meaning → Type 0
QuotedAll raw [] = Unit {0}
QuotedAll raw (m ∷ ms) = QuotedText raw m.kind m.text × QuotedAll raw ms

module _ (s e : ℕ) (raw : List ℕ) where
  abbrev Q : List Meaning → Type 0
  Q = QuotedAll raw

  word_quoted : Q (word_means s e raw)
  unfolding word_means
  word_quoted =
      if_all Q (eqb (word_kind raw) kind.Identifier)
      (if_all Q (first_is (code "+") raw && ltb 1 (length raw)) (tt, (tt, tt)) (tt, tt))
      (tt, tt)

  run_quoted : (p : Parsed) → Q (run_means p s e raw)
  unfolding run_means
  run_quoted (Ok p) = (tt, tt)
  run_quoted (Err parsed.NoNumber) = word_quoted
  run_quoted (Err parsed.ZeroDenominator) = (tt, tt)

  string_quoted : QuotedText raw kind.StringLiteral (string_text s e raw)
  unfolding string_text
  string_quoted = if_all (QuotedText raw kind.StringLiteral) (escaped raw) refl tt

  lined_quoted : QuotedText raw kind.Identifier (lined_text s e raw)
  unfolding lined_text
  lined_quoted = if_all (QuotedText raw kind.Identifier) (escaped raw && ltb 0 (length (unescape Lines (drop 1 raw)))) refl tt

  here_quoted : QuotedText raw kind.StringLiteral (here_text s e raw)
  unfolding here_text
  here_quoted = tt

  char_quoted : (v : Result ℕ CharError) → Q (character_means v)
  char_quoted (Ok c) = (tt, tt)
  char_quoted (Err (Wrong n d)) = (tt, tt)
  char_quoted (Err (WrongAt n d p)) = (tt, tt)

  quoted : (report : Bool) (o : Outcome) → Q (meaning_of report o s e raw)
  quoted report (Token k d) = (tt, tt)
  quoted report Str = (string_quoted, tt)
  quoted report HereStr = (here_quoted, tt)
  quoted report Word = word_quoted
  quoted report Run = run_quoted (parse_number raw)
  quoted report Lined = (lined_quoted, tt)
  quoted report Keyword = (tt, tt)
  quoted report Character = char_quoted (character_of report (char_inside raw))
  quoted report (Error n d) = (tt, tt)
  quoted report (ErrorAt n d a b) = (tt, tt)

-- ---- an item

shown : (depth : ℕ) (report : Bool) (last : Place) (s e : ℕ) (raw : List ℕ) (k d : ℕ) (t : Text) → QuotedText raw k t
    → given_by depth report (sized (record { kind = k; detail = d; text = t })) last s e raw
    ≡ given depth raw (item_of report last s e (record { kind = k; detail = d; text = t }))
shown depth report last s e raw k d none q = refl
shown depth report last s e raw k d (source a b) q = refl
shown depth report last s e raw k d (decoded bs) q = rw (sym q)

shown_as : (depth : ℕ) (report : Bool) (last : Place) (s e : ℕ) (raw : List ℕ) (m : Meaning) (x : Means) → x ≡ sized m → QuotedText raw m.kind m.text
    → given_by depth report x last s e raw ≡ given depth raw (item_of report last s e m)
shown_as depth report last s e raw m x h q = ap (λ (y : Means). given_by depth report y last s e raw) h ∙ shown depth report last s e raw m.kind m.detail m.text q

-- ---- the items of an extent

module _ (s : State) (st : ℕ) (set last : Place) (b : Option ℕ) where
  abbrev raw : List ℕ
  raw = (item_so_far s).bytes

  one_shown : (ms : List Meaning) (x : Means) → Shape st s.marks.at raw ms → QuotedAll raw ms → meant (One x) ≡ sized_all ms
      → one_given s st set last b x ≡ gives s st last b (items_of (report s) set st s.marks.at ms)
  one_shown ms x (alone m) q h =
      let e : x ≡ sized m = cc in
      let g = shown_as s.marks.depth (report s) set st s.marks.at raw m x e q.0 in
      ap (λ (t : Given). if s.marks.skip && eqb x.kind kind.Comment then on (beyond s last b) else off (beyond (deeper x.kind s) last b) (item t)) g
      ∙ ap (λ (k : ℕ). if s.marks.skip && eqb k kind.Comment then on (beyond s last b) else off (beyond (deeper k s) last b)
      (item (given s.marks.depth raw (item_of (report s) set st s.marks.at m)))) (ap (λ (y : Means). y.kind) e)
  one_shown ms x (pair two) q h = absurd (let z : ◌≡◌ {A = ℕ} 1 2 = ap length h in omega arith)

  pair_shown : (ms : List Meaning) (x y : Means) → Shape st s.marks.at raw ms → QuotedAll raw ms → meant (Two x y) ≡ sized_all ms
      → pair_given s st set last b x ≡ gives s st last b (items_of (report s) set st s.marks.at ms)
  pair_shown ms x y (alone m) q h = absurd (let z : ◌≡◌ {A = ℕ} 2 1 = ap length h in omega arith)
  pair_shown ms x y (pair two) q h =
      let e : x ≡ sized (record { kind = kind.Identifier; detail = 0; text = source st (st + 1) }) = cc in
      ap (λ (t : Given). off (becomes s s.buf (Waiting st b) s.marks.at s.marks.len last) (item t))
      (shown_as s.marks.depth (report s) set st s.marks.at raw (record { kind = kind.Identifier; detail = 0; text = source st (st + 1) }) x e tt)

module _ (s : State) (st : ℕ) (o : Outcome) (b : Option ℕ) (e : ℕ) (at : e ≡ s.marks.at) where
  pub ends_one : (x : Means) → meant (One x) ≡ sized_all (meaning_of (report s) o st e (item_so_far s).bytes)
      → one_given s st (range_after (report s) (standing (report s) (last_of s)) st o (item_so_far s)) (range_after (report s) (last_of s) st o (item_so_far s)) b x ≡ ends s st o b
  unfolding extent_items
  ends_one x h =
      one_shown s st (range_after (report s) (standing (report s) (last_of s)) st o (item_so_far s))
      (range_after (report s) (last_of s) st o (item_so_far s)) b (meaning_of (report s) o st s.marks.at (item_so_far s).bytes) x
      (shape st s.marks.at (item_so_far s).bytes (report s) o) (quoted st s.marks.at (item_so_far s).bytes (report s) o)
      (h ∙ ap (λ (k : ℕ). sized_all (meaning_of (report s) o st k (item_so_far s).bytes)) at)

  pub ends_pair : (x y : Means) → meant (Two x y) ≡ sized_all (meaning_of (report s) o st e (item_so_far s).bytes)
      → pair_given s st (range_after (report s) (standing (report s) (last_of s)) st o (item_so_far s)) (range_after (report s) (last_of s) st o (item_so_far s)) b x ≡ ends s st o b
  unfolding extent_items
  ends_pair x y h =
      pair_shown s st (range_after (report s) (standing (report s) (last_of s)) st o (item_so_far s))
      (range_after (report s) (last_of s) st o (item_so_far s)) b (meaning_of (report s) o st s.marks.at (item_so_far s).bytes) x y
      (shape st s.marks.at (item_so_far s).bytes (report s) o) (quoted st s.marks.at (item_so_far s).bytes (report s) o)
      (h ∙ ap (λ (k : ℕ). sized_all (meaning_of (report s) o st k (item_so_far s).bytes)) at)
