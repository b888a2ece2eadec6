-- The other way, kind by kind (specs/Words): a word's kind is looked up in a table, a token's is its spelling's, keywords and comments begin as
-- `Begun` says, and an identifier's text is its extent, a part of that, or what stands between vertical lines.
use Rattle.std.proofs.Common.{Ok, Err, Result}
use Prim.Native.Nat.{ℕ, ◌+◌}
use mathlib.Core.Path.{◌≡◌, refl, sym, ap, subst, ◌∙◌}
use mathlib.Core.Bool.{Bool, true, false, ◌&&◌}
use mathlib.Core.List.{List, [], ◌∷◌, ◌++◌, map}
use mathlib.Core.Logic.{◌⊎◌, inl, inr}
use lib.ListN.{length}
use lib.Dec.{eqb, ltb}
use native.Mathlib.Omega.{arith}
use borrow.Author.Tests.{ne_eqb, eq-eqb, ltb-true}
use Rattle.laws.specs.Quoted.{code, one_of}
use Rattle.laws.specs.Texts.{begins, same}
use Rattle.laws.proofs.Choice.{by_bool, no_yes, if_is}
use Rattle.laws.proofs.Compared.{same_is}
use Rattle.chars.specs.Encode.{utf8, bytes_of, spelled}
use Rattle.numbers.specs.Grammar.{parse_number, Parsed}
use Rattle.numbers.specs.declared.ParseError.TheVariants as parsed
use Rattle.items.specs.Kinds as kind
use Rattle.items.specs.declared.Outcome.{Outcome}
use Rattle.items.specs.declared.Outcome.TheVariants.{Token, Str, HereStr, Word, Run, Lined, Keyword, Character, Error, ErrorAt}
use Rattle.items.specs.declared.CharError.{CharError}
use Rattle.items.specs.declared.CharError.TheVariants.{Wrong, WrongAt}
use Rattle.items.specs.Items.{Item, items}
use Rattle.items.specs.Meaning.{Text, source, Row, Meaning, means, lookup, words, word_kind, word_means, run_means, lined_text, character_of, char_inside}
use Rattle.items.specs.Meaning.{character_means, meaning_of}
use Rattle.items.specs.Readers.{Read, first_is}
use Rattle.items.proofs.Every.{Every}
use Rattle.items_numbers.proofs.Comes.{read_comes}
use Rattle.items_numbers.proofs.Spelled.{Spelled, spelled_kinds, spelled_kind, Comes}
use Rattle.items_numbers.proofs.Spelled as comes
use Rattle.items_r7rs.proofs.Classes.{at_one_of}
use Rattle.items_r7rs_words.specs.Words.{Among, here, there, own_words, own_kinds, own_marks, mark_kinds, WordIn, OwnMarkIn, KeywordIn}
use Rattle.items_r7rs_words.proofs.Begun.{CommentBegins, Begun, begun}
use Rattle.items_r7rs_words.proofs.Readings.{every_in, OneRead, of_reads}

-- what the text of an identifier is, whose extent goes from s to e and has the bytes raw
pub data NameText (s e : ℕ) (raw : List ℕ) : Text → Type 0 where
  whole : (first_is (code "+") raw && ltb 1 (length raw)) ≡ false → NameText s e raw (source s e)
  plus : (first_is (code "+") raw && ltb 1 (length raw)) ≡ true → NameText s e raw (source s (s + 1))
  behind_plus : (first_is (code "+") raw && ltb 1 (length raw)) ≡ true → NameText s e raw (source (s + 1) e)
  lined : first_is (code "|") raw ≡ true → NameText s e raw (lined_text s e raw)

-- what is known of what such an extent means
pub record Known (s e : ℕ) (raw : List ℕ) (m : Meaning) : Type 0 where
  pub word : one_of own_kinds m.kind ≡ true → Among own_words raw m.kind
  pub mark : one_of mark_kinds m.kind ≡ true → Among own_marks raw m.kind
  pub keyword : eqb m.kind kind.Keyword ≡ true → begins (spelled "#:") raw ≡ true
  pub comment : eqb m.kind kind.Comment ≡ true → CommentBegins raw
  pub name : eqb m.kind kind.Identifier ≡ true → (raw ≡ spelled "." → ⊥) × NameText s e raw m.text

-- a kind that is none of them
record Apart (k : ℕ) : Type 0 where
  word : one_of own_kinds k ≡ false
  mark : one_of mark_kinds k ≡ false
  keyword : eqb k kind.Keyword ≡ false
  comment : eqb k kind.Comment ≡ false
  identifier : eqb k kind.Identifier ≡ false

pub none : {A : Type 0} {b : Bool} → b ≡ false → b ≡ true → A
none f e = no_yes (sym f ∙ e)

apart : {s e : ℕ} {raw : List ℕ} (k d : ℕ) (x : Text) → Apart k → Known s e raw (means k d x)
apart k d x a = record {
  word = λ e. none a.word e;
  mark = λ e. none a.mark e;
  keyword = λ e. none a.keyword e;
  comment = λ e. none a.comment e;
  name = λ e. none a.identifier e;
}

-- no error's
pub error_not : (ks : List ℕ) (n : ℕ) → map (λ k. ltb k kind.first_error) ks ≡ map (λ k. true) ks → one_of ks (kind.first_error + n) ≡ false
error_not [] n h = refl
error_not (k ∷ ks) n h =
    let below : ltb k kind.first_error ≡ true = cc in
    rw (ne_eqb (kind.first_error + n) k (λ e. omega (arith, ltb-true k kind.first_error below))) (error_not ks n (cc))

error_apart : (n : ℕ) → Apart (kind.first_error + n)
error_apart n = record {
  word = error_not own_kinds n refl;
  mark = error_not mark_kinds n refl;
  keyword = ne_eqb (kind.first_error + n) kind.Keyword (λ e. omega arith);
  comment = ne_eqb (kind.first_error + n) kind.Comment (λ e. omega arith);
  identifier = ne_eqb (kind.first_error + n) kind.Identifier (λ e. omega arith);
}

-- an identifier that is no dot
named : {s e : ℕ} {raw : List ℕ} {x : Text} → (raw ≡ spelled "." → ⊥) → NameText s e raw x → Known s e raw (means kind.Identifier 0 x)
named n h = record { word = λ e. no_yes e; mark = λ e. no_yes e; keyword = λ e. no_yes e; comment = λ e. no_yes e; name = λ e. (n, h) }

-- ---- tokens

spelled_mark : {raw : List ℕ} {k d : ℕ} → Spelled raw k d → one_of mark_kinds k ≡ true → Among own_marks raw k
spelled_mark comes.open_round e = no_yes e
spelled_mark comes.open_square_case e = no_yes e
spelled_mark comes.open_curly_case e = no_yes e
spelled_mark comes.open_vector_case e = no_yes e
spelled_mark comes.open_bytes_case e = no_yes e
spelled_mark comes.close_round e = no_yes e
spelled_mark comes.close_square_case e = no_yes e
spelled_mark comes.close_curly_case e = no_yes e
spelled_mark comes.quote_tick e = no_yes e
spelled_mark comes.quasi_quote e = no_yes e
spelled_mark comes.unquote e = no_yes e
spelled_mark comes.unquote_splice e = no_yes e
spelled_mark comes.quote_syntax e = here
spelled_mark comes.quasi_quote_syntax e = there here
spelled_mark comes.unquote_syntax e = there (there here)
spelled_mark comes.unquote_splice_syntax e = there (there (there here))
spelled_mark comes.datum_comment e = there (there (there (there here)))
spelled_mark comes.long_true e = no_yes e
spelled_mark comes.short_true e = no_yes e
spelled_mark comes.long_false e = no_yes e
spelled_mark comes.short_false e = no_yes e

spelled_known : {s e : ℕ} {raw : List ℕ} {k d : ℕ} {x : Text} → Spelled raw k d → Known s e raw (means k d x)
spelled_known {k = k} h =
    let kinds : one_of spelled_kinds k ≡ true = spelled_kind h in
    record {
      word = λ e. none (at_one_of (one_of own_kinds) false spelled_kinds k refl kinds) e;
      mark = λ e. spelled_mark h e;
      keyword = λ e. none (at_one_of (λ n. eqb n kind.Keyword) false spelled_kinds k refl kinds) e;
      comment = λ e. none (at_one_of (λ n. eqb n kind.Comment) false spelled_kinds k refl kinds) e;
      name = λ e. none (at_one_of (λ n. eqb n kind.Identifier) false spelled_kinds k refl kinds) e;
    }

-- ---- words

-- the row of a table that gives a kind, if one does
among : (rows : List Row) (raw : List ℕ) (n : ℕ) → (lookup rows raw n ≡ n) ⊎ Among rows raw (lookup rows raw n)
unfolding lookup
among [] raw n = inl refl
among (r ∷ rs) raw n = by_bool (same raw r.text)
    (λ e. inr (rw (e, lookup) (subst (λ (l : List ℕ). Among (r ∷ rs) l r.number) (sym (same_is raw r.text e)) here)))
    (λ e. rw (e, lookup) (later (among rs raw n)))
  where
    later : (lookup rs raw n ≡ n) ⊎ Among rs raw (lookup rs raw n) → (lookup rs raw n ≡ n) ⊎ Among (r ∷ rs) raw (lookup rs raw n)
    later (inl e) = inl e
    later (inr h) = inr (there h)

-- the kinds of a table
abbrev all_own : List Row → Bool
all_own [] = true
all_own (r ∷ rs) = one_of own_kinds r.number && all_own rs

among_own : (rows : List Row) {raw : List ℕ} {k : ℕ} → all_own rows ≡ true → Among rows raw k → one_of own_kinds k ≡ true
among_own [] h a = elim a [ ]
among_own (r ∷ rs) h here = by_bool (one_of own_kinds r.number) (λ e. e) (λ e. no_yes (rw e at h))
among_own (r ∷ rs) h (there a) = among_own rs (by_bool (one_of own_kinds r.number) (λ e. rw e at h) (λ e. no_yes (rw e at h))) a

-- the table of words with a kind of their own is the reader's
own_words_lem : own_words ≡ words
unfolding words
own_words_lem = refl

-- a dot is a Dot
not_dot : (raw : List ℕ) → eqb (word_kind raw) kind.Identifier ≡ true → raw ≡ spelled "." → ⊥
unfolding word_kind words lookup same bytes_of utf8
not_dot raw e z = no_yes (sym (ap (λ (l : List ℕ). eqb (word_kind l) kind.Identifier) z) ∙ e)

-- a word that is no identifier has a kind of its own
pub word_own : (raw : List ℕ) → eqb (word_kind raw) kind.Identifier ≡ false → one_of own_kinds (word_kind raw) ≡ true
unfolding word_kind words
word_own raw n = go (among own_words raw kind.Identifier)
  where
    go : (lookup own_words raw kind.Identifier ≡ kind.Identifier) ⊎ Among own_words raw (lookup own_words raw kind.Identifier)
        → one_of own_kinds (lookup own_words raw kind.Identifier) ≡ true
    go (inl e) = no_yes (sym n ∙ eq-eqb (lookup own_words raw kind.Identifier) kind.Identifier e)
    go (inr a) = among_own own_words refl a

word_known : {s e : ℕ} (raw : List ℕ) {x : Text} → eqb (word_kind raw) kind.Identifier ≡ false → Known s e raw (means (word_kind raw) 0 x)
unfolding word_kind words
word_known {s} {e} raw {x} n = go (among own_words raw kind.Identifier)
  where
    go : (lookup own_words raw kind.Identifier ≡ kind.Identifier) ⊎ Among own_words raw (lookup own_words raw kind.Identifier)
        → Known s e raw (means (lookup own_words raw kind.Identifier) 0 x)
    go (inl e) = no_yes (sym n ∙ eq-eqb (lookup own_words raw kind.Identifier) kind.Identifier e)
    go (inr a) =
        let k : ℕ = lookup own_words raw kind.Identifier in
        let own : one_of own_kinds k ≡ true = among_own own_words refl a in
        record {
          word = λ _. a;
          mark = λ e. none (at_one_of (one_of mark_kinds) false own_kinds k refl own) e;
          keyword = λ e. none (at_one_of (λ m. eqb m kind.Keyword) false own_kinds k refl own) e;
          comment = λ e. none (at_one_of (λ m. eqb m kind.Comment) false own_kinds k refl own) e;
          name = λ e. none n e;
        }

pub word_among : (raw : List ℕ) → eqb (word_kind raw) kind.Identifier ≡ false → Among own_words raw (word_kind raw)
word_among raw n = (word_known {s = 0} {e = 0} raw {x = Text.none} n).word (word_own raw n)

-- ---- what one extent means

module _ (report : Bool) (s e : ℕ) (raw : List ℕ) where
  abbrev There : List Meaning → Type 0
  There ms = Every (Known s e raw) ms

  no_kind : Apart kind.StringLiteral
  no_kind = record { word = refl; mark = refl; keyword = refl; comment = refl; identifier = refl }

  word_there : There (word_means s e raw)
  unfolding word_means
  word_there =
      if_is There (eqb (word_kind raw) kind.Identifier)
      (λ f. let n : raw ≡ spelled "." → ⊥ = not_dot raw f in
      if_is There (first_is (code "+") raw && ltb 1 (length raw)) (λ g. (named n (plus g), (named n (behind_plus g), tt))) (λ g. (named n (whole g), tt)))
      (λ f. (word_known raw f, tt))

  run_there : (p : Parsed) → There (run_means p s e raw)
  unfolding run_means
  run_there (Ok p) = (apart kind.Number 0 _ (record { word = refl; mark = refl; keyword = refl; comment = refl; identifier = refl }), tt)
  run_there (Err parsed.NoNumber) = word_there
  run_there (Err parsed.ZeroDenominator) = (apart _ 0 _ (error_apart kind.ZeroDenominator), tt)

  character_there : (v : Result ℕ CharError) → There (character_means v)
  character_there (Ok c) = (apart kind.CharacterLiteral c _ (record { word = refl; mark = refl; keyword = refl; comment = refl; identifier = refl }), tt)
  character_there (Err (Wrong n d)) = (apart _ d _ (error_apart n), tt)
  character_there (Err (WrongAt n d p)) = (apart _ d _ (error_apart n), tt)

  bar_no_dot : first_is (code "|") raw ≡ true → raw ≡ spelled "." → ⊥
  unfolding bytes_of utf8
  bar_no_dot h z = no_yes (sym (ap (first_is (code "|")) z) ∙ h)

  known_there : (o : Outcome) → Comes raw o → Begun raw o → There (meaning_of report o s e raw)
  known_there (Token k d) (comes.token h) b = (spelled_known h, tt)
  known_there (Token k d) comes.comment b = (record { word = λ f. no_yes f; mark = λ f. no_yes f; keyword = λ f. no_yes f; comment = λ f. b f; name = λ f. no_yes f }, tt)
  known_there Str h b = (apart kind.StringLiteral 0 _ no_kind, tt)
  known_there HereStr h b = (apart kind.StringLiteral 0 _ no_kind, tt)
  known_there Word h b = word_there
  known_there Run h b = run_there (parse_number raw)
  known_there Lined h b = (named (bar_no_dot b) (lined b), tt)
  known_there Keyword h b = (record { word = λ f. no_yes f; mark = λ f. no_yes f; keyword = λ f. b; comment = λ f. no_yes f; name = λ f. no_yes f }, tt)
  known_there Character h b = character_there (character_of report (char_inside raw))
  known_there (Error n d) h b = (apart _ d _ (error_apart n), tt)
  known_there (ErrorAt n d a z) h b = (apart _ d _ (error_apart n), tt)

-- ---- every item

pub known : {report : Bool} {whole : List ℕ} {i : Item} (z : OneRead report whole i)
    → Known i.start i.end (bytes_of (z.first ∷ z.more)) (means i.kind i.detail i.text)
known {report} {whole} {i} z =
    let at : ℕ = i.start in
    let cs : List ℕ = z.more ++ z.rest in
    every_in (Known at i.end (bytes_of (z.first ∷ z.more)))
    (known_there report at i.end (bytes_of (z.first ∷ z.more)) z.what
    (subst (λ (r : Read). Comes r.item.bytes r.what) z.read (read_comes report at z.first cs))
    (subst (λ (r : Read). Begun r.item.bytes r.what) z.read (begun report at z.first cs)))
    z.meant

-- of the items of a text, in both modes
module _ (report : Bool) (cs : List ℕ) where
  pub word_items : Every (WordIn (bytes_of cs)) (items report cs)
  word_items =
      of_reads report cs (WordIn (bytes_of cs)) (λ i z e. subst (λ (l : List ℕ). Among own_words l i.kind) (sym z.bytes) ((known z).word e))

  pub own_mark_items : Every (OwnMarkIn (bytes_of cs)) (items report cs)
  own_mark_items =
      of_reads report cs (OwnMarkIn (bytes_of cs)) (λ i z e. subst (λ (l : List ℕ). Among own_marks l i.kind) (sym z.bytes) ((known z).mark e))

  pub keyword_items : Every (KeywordIn (bytes_of cs)) (items report cs)
  keyword_items =
      of_reads report cs (KeywordIn (bytes_of cs)) (λ i z e. subst (λ (l : List ℕ). begins (spelled "#:") l ≡ true) (sym z.bytes) ((known z).keyword e))
