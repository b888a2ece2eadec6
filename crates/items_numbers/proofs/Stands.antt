-- One law for every kind of item: an item's extent is the bytes of some characters of the text, and its kind, detail and text come of them as `Meant`
-- says. Who asks what an item of some kind is goes through the constructors of `Meant`, and need not walk over the readers.
use Rattle.std.proofs.Common.{Ok, Err, Result}
use Rattle.items.specs.declared.CharError.{CharError}
use Rattle.items.specs.declared.CharError.TheVariants.{Wrong, WrongAt}
use Rattle.items.specs.declared.Outcome.{Outcome}
use Rattle.items.specs.declared.Outcome.TheVariants.{Token, Str, HereStr, Word, Run, Lined, Keyword, Character, Error, ErrorAt}
use Rattle.items.specs.Items.{Place, Item, items_of, extent_items, items}
use Rattle.items.specs.Kinds as kind
use Rattle.items.specs.Meaning.{Text, none, Row, Meaning, means, lookup, words, word_kind, word_means, run_means, string_text, here_text, character_of, char_inside}
use Rattle.items.specs.Meaning.{character_means, meaning_of}
use Rattle.items.specs.Readers.{Read, read_item, first_is}
use Rattle.items.proofs.Every.{Every}
use Rattle.numbers.specs.declared.ParseError.TheVariants as parsed
use Rattle.numbers.specs.declared.Parts.{Parts}
use Rattle.numbers.specs.Grammar.{parse_number, Parsed}
use Rattle.laws.specs.Quoted.{code, one_of}
use Rattle.laws.specs.Texts.{begins, same}
use Rattle.laws.proofs.Choice.{if_all, and_true}
use Rattle.chars.specs.Encode.{bytes_of, spelled}
use Rattle.chars.proofs.Bytes.{bytes_append}
use Rattle.items_coverage.specs.Covered.{past}
use Rattle.items_coverage.proofs.Extents.{Taken, taken}
use Rattle.items_coverage.proofs.Located.{items_there, every_item}
use Rattle.items_numbers.specs.Parts.{between}
use Rattle.items_numbers.proofs.Spelled.{Spelled, Comes}
use Rattle.items_numbers.proofs.Spelled as comes
use Rattle.items_numbers.proofs.Comes.{read_comes}
use Prim.Native.Nat.{ℕ, ◌+◌, ◌-◌, ◌<◌}
use mathlib.Core.Path.{◌≡◌, refl, sym, ap, subst, ◌∙◌}
use mathlib.Core.Bool.{Bool, true, false, ◌&&◌, true≢false}
use mathlib.Core.List.{List, [], ◌∷◌, ◌++◌}
use lib.ListN.{length, drop}
use lib.Seq.{take-append_seam}
use lib.Dec.{eqb, leb, ltb}
use native.Mathlib.Omega.{arith}
use borrow.Author.Tests.{eqb-true}

-- ---- what an extent's characters mean

-- from the place `at` on, the characters t are what one item takes, and this is its outcome
pub data Takes (report : Bool) (at : ℕ) (o : Outcome) : List ℕ → Type 0 where
  takes : (c : ℕ) (more rest : List ℕ) → (read_item report at c (more ++ rest)).rest ≡ rest → (read_item report at c (more ++ rest)).what ≡ o
      → Takes report at o (c ∷ more)

-- the kinds of comments, words and keywords
abbrev pub word_kinds : List ℕ
word_kinds =
    kind.Comment ∷ kind.Identifier ∷ kind.Keyword ∷ kind.Dot ∷ kind.If ∷ kind.Define ∷ kind.Let ∷ kind.TestLet ∷ kind.Return ∷ kind.Begin ∷ kind.Lambda
    ∷ kind.Quote ∷ kind.SyntaxRules ∷ kind.DefineSyntax ∷ kind.Ellipses ∷ kind.Set ∷ kind.Require ∷ []

-- an extent from s to e of the characters t, and what it may mean
pub data Meant (report : Bool) (s e : ℕ) (t : List ℕ) : Meaning → Type 0 where
  token : {k d : ℕ} → Spelled (bytes_of t) k d → Meant report s e t (means k d none)
  string : first_is (code "\"") (bytes_of t) ≡ true → Takes report s Str t → Meant report s e t (means kind.StringLiteral 0 (string_text s e (bytes_of t)))
  here_string : begins (spelled "#<<") (bytes_of t) ≡ true → Meant report s e t (means kind.StringLiteral 0 (here_text s e (bytes_of t)))
  character : {c : ℕ} → begins (spelled "#\\") (bytes_of t) ≡ true → leb (length (bytes_of t)) 2 ≡ false
      → character_of report (char_inside (bytes_of t)) ≡ Ok c → Meant report s e t (means kind.CharacterLiteral c none)
  number : (p : Parts) → parse_number (bytes_of t) ≡ Ok p → Meant report s e t (means kind.Number 0 none)
  word : {k : ℕ} {x : Text} → one_of word_kinds k ≡ true → Meant report s e t (means k 0 x)
  error : (n d : ℕ) → Meant report s e t (means (kind.first_error + n) d none)

-- of another kind than the one that is asked for
pub other : {A : Type 0} {is : Bool} → is ≡ false → is ≡ true → A
other f e = absurd (true≢false (sym e ∙ f))

pub none_of : {A : Type 0} (ks : List ℕ) (k asked : ℕ) → one_of ks asked ≡ false → one_of ks k ≡ true → eqb k asked ≡ true → A
none_of ks k asked f h e = other f (subst (λ (n : ℕ). one_of ks n ≡ true) (eqb-true k asked e) h)

pub no_error_holds : {A : Type 0} (n asked : ℕ) → asked < kind.first_error → eqb (kind.first_error + n) asked ≡ true → A
no_error_holds n asked l e = absurd (omega (arith, eqb-true (kind.first_error + n) asked e))

abbrev all_words : List Row → Bool
all_words [] = true
all_words (r ∷ rs) = one_of word_kinds r.number && all_words rs

lookup_word : (rows : List Row) (raw : List ℕ) (n : ℕ) → all_words rows ≡ true → one_of word_kinds n ≡ true → one_of word_kinds (lookup rows raw n) ≡ true
unfolding lookup
lookup_word [] raw n h e = e
lookup_word (r ∷ rs) raw n h e =
    let f = and_true (one_of word_kinds r.number) (all_words rs) h in
    if_all (λ (k : ℕ). one_of word_kinds k ≡ true) (same raw r.text) f.0 (lookup_word rs raw n f.1 e)

kind_word_lem : (raw : List ℕ) → one_of word_kinds (word_kind raw) ≡ true
unfolding word_kind words
kind_word_lem raw = lookup_word words raw kind.Identifier refl refl

module _ (report : Bool) (s e : ℕ) (t : List ℕ) where
  abbrev M : List Meaning → Type 0
  M = Every (Meant report s e t)

  word_meant : M (word_means s e (bytes_of t))
  unfolding word_means
  word_meant =
      let raw : List ℕ = bytes_of t in
      if_all M (eqb (word_kind raw) kind.Identifier)
      (if_all M (first_is (code "+") raw && ltb 1 (length raw)) (word refl, (word refl, tt)) (word refl, tt))
      (word (kind_word_lem raw), tt)

  run_meant : (p : Parsed) → parse_number (bytes_of t) ≡ p → M (run_means p s e (bytes_of t))
  unfolding run_means
  run_meant (Ok p) f = (number p f, tt)
  run_meant (Err parsed.NoNumber) f = word_meant
  run_meant (Err parsed.ZeroDenominator) f = (error kind.ZeroDenominator 0, tt)

  character_meant : begins (spelled "#\\") (bytes_of t) ≡ true → leb (length (bytes_of t)) 2 ≡ false
      → (v : Result ℕ CharError) → character_of report (char_inside (bytes_of t)) ≡ v → M (character_means v)
  character_meant f g (Ok c) h = (character f g h, tt)
  character_meant f g (Err (Wrong n d)) h = (error n d, tt)
  character_meant f g (Err (WrongAt n d p)) h = (error n d, tt)

  all_meant : (o : Outcome) → Takes report s o t → Comes (bytes_of t) o → M (meaning_of report o s e (bytes_of t))
  all_meant (Token k d) r (comes.token h) = (token h, tt)
  all_meant (Token k d) r comes.comment = (word refl, tt)
  all_meant Str r (comes.string h) = (string h r, tt)
  all_meant HereStr r (comes.here_string h) = (here_string h, tt)
  all_meant Word r h = word_meant
  all_meant Run r h = run_meant (parse_number (bytes_of t)) refl
  all_meant Lined r h = (word refl, tt)
  all_meant Keyword r h = (word refl, tt)
  all_meant Character r (comes.character f g) = character_meant f g (character_of report (char_inside (bytes_of t))) refl
  all_meant (Error n d) r h = (error n d, tt)
  all_meant (ErrorAt n d a b) r h = (error n d, tt)

-- ---- where the characters stand

-- an item of a text with these bytes; D is what is known of a character
pub record Stands (report : Bool) (D : ℕ → Type 0) (whole : List ℕ) (i : Item) : Type 0 where
  pub chars : List ℕ
  pub bytes : between i.start i.end whole ≡ bytes_of chars
  pub known : Every D chars
  pub ends : i.end ≡ past i.start chars
  pub meant : Meant report i.start i.end chars (means i.kind i.detail i.text)

every_front : (D : ℕ → Type 0) (t u : List ℕ) → Every D (t ++ u) → Every D t
every_front D [] u h = tt
every_front D (c ∷ t) u h = (h.0, every_front D t u h.1)

module _ (report : Bool) (D : ℕ → Type 0) (whole : List ℕ) where
  all_stand : (last : Place) (s e : ℕ) (t : List ℕ) → between s e whole ≡ bytes_of t → Every D t → e ≡ past s t
      → (ms : List Meaning) → Every (Meant report s e t) ms → Every (Stands report D whole) (items_of report last s e ms)
  all_stand last s e t b d p [] h = tt
  all_stand last s e t b d p (m ∷ ms) h =
      (record { chars = t; bytes = b; known = d; ends = p; meant = h.0 }, all_stand last s e t b d p ms h.1)

  extent_stands : (last : Place) (at c : ℕ) (cs : List ℕ) → drop at whole ≡ bytes_of (c ∷ cs) → Every D (c ∷ cs)
      → Every (Stands report D whole) (items_there report last at c cs)
  unfolding extent_items
  extent_stands last at c cs e ds =
      let r : Read = read_item report at c cs in
      let k : Taken report at c cs = taken report at c cs in
      let t : List ℕ = c ∷ k.more in
      let here : drop at whole ≡ bytes_of t ++ bytes_of r.rest = e ∙ ap (λ (l : List ℕ). bytes_of (c ∷ l)) k.whole ∙ bytes_append t r.rest in
      let width : r.item.at - at ≡ length (bytes_of t) = omega (arith, k.end) in
      let stands : between at r.item.at whole ≡ bytes_of t = rw (width, here) (take-append_seam (bytes_of t) (bytes_of r.rest)) in
      let again : Takes report at r.what t
      = takes c k.more r.rest (ap (λ (l : List ℕ). (read_item report at c l).rest) (sym k.whole)) (ap (λ (l : List ℕ). (read_item report at c l).what) (sym k.whole)) in
      all_stand _ at r.item.at t stands (ds.0, every_front D k.more r.rest (subst (Every D) k.whole ds.1)) k.end
      (meaning_of report r.what at r.item.at r.item.bytes)
      (rw k.bytes (all_meant report at r.item.at t r.what again (rw k.bytes at (read_comes report at c cs))))

-- of the items of a text
pub items_stand : (report : Bool) (D : ℕ → Type 0) (cs : List ℕ) → Every D cs → Every (Stands report D (bytes_of cs)) (items report cs)
items_stand report D cs ds = every_item report (bytes_of cs) D (Stands report D (bytes_of cs)) (extent_stands report D (bytes_of cs)) cs refl ds
