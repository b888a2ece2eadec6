-- What an extent means has kinds and details of the layout, and so has every item of a text.
use Rattle.std.proofs.Common.{Ok, Err, Result}
use Prim.Native.Nat.{ℕ, suc, ◌+◌, ◌-◌, ◌≤◌, ◌<◌}
use mathlib.Core.Path.{◌≡◌, refl}
use mathlib.Core.Bool.{Bool, true, ◌&&◌, ◌||◌}
use mathlib.Core.List.{List, [], ◌∷◌, map}
use lib.ListN.{length, get_or, take, drop}
use lib.Dec.{eqb, ltb}
use native.Mathlib.Omega.{arith}
use Rattle.laws.specs.Quoted.{code, within}
use Rattle.laws.specs.Texts.{same}
use Rattle.laws.proofs.Choice.{if_all}
use Rattle.chars.specs.Encode.{is_scalar, bytes_of}
use Rattle.chars.specs.Utf8.{Front, front}
use Rattle.chars.specs.Utf8 as utf
use Rattle.chars.proofs.Spells.{Spells, spells}
use Rattle.digits.specs.Hex.{hex_value}
use Rattle.numbers.specs.Grammar.{parse_number, Parsed}
use Rattle.numbers.specs.declared.ParseError.TheVariants as parsed
use Rattle.items.specs.declared.Outcome.{Outcome}
use Rattle.items.specs.declared.Outcome.TheVariants.{Token, Str, HereStr, Word, Run, Lined, Keyword, Character, Error, ErrorAt}
use Rattle.items.specs.declared.CharError.{CharError}
use Rattle.items.specs.declared.CharError.TheVariants.{Wrong, WrongAt}
use Rattle.items.specs.Kinds as kind
use Rattle.items.specs.Readers.{first_is, last_is, scalar_of, read_item, SoFar}
use Rattle.items.specs.Meaning.{Row, Meaning, lookup, word_kind, word_means, run_means, lower, char_names, unnamed, nameless, only_one, later, hex_named, spelled_out}
use Rattle.items.specs.Meaning.{character_of, character_means, meaning_of, char_inside, before_delimiter}
use Rattle.items.specs.Items.{Place, Item, items_of, extent_items, items, range_after, standing}
use Rattle.items.proofs.Every.{Every, every_any}
use Rattle.items.proofs.Meanings.{word_le}
use Rattle.items_coverage.proofs.Located.{every_item}
use Rattle.nested.specs.Items.{has_detail}
use Rattle.findings_theorems.proofs.Sorts.{Sorted, zero_detail, Sort, SortValue, value_sort, read_sort}

-- an error, whose number is not 0, or a kind of the layout with a detail that it has
abbrev pub Laid : ℕ → ℕ → Type 0
Laid k d = (k < kind.first_error → Sorted k d) × (k ≡ kind.first_error → ⊥)

abbrev LaidMeaning : Meaning → Type 0
LaidMeaning m = Laid m.kind m.detail

plain_laid : (k : ℕ) → k ≤ kind.Dot → Laid k 0
plain_laid k h = ((λ l. (h, zero_detail k)), (λ e. omega arith))

pub error_laid : (n d : ℕ) → 0 < n → Laid (kind.first_error + n) d
error_laid n d h = ((λ l. absurd (omega arith)), (λ e. omega arith))

-- ---- characters

char_later : (n : ℕ) (v : Result ℕ CharError) → SortValue v → SortValue (later n v)
char_later n (Ok c) h = h
char_later n (Err (Wrong e d)) h = h
char_later n (Err (WrongAt e d p)) h = h

char_nameless : (report : Bool) (t : List ℕ) → SortValue (nameless report t)
unfolding nameless
char_nameless report t = if_all SortValue (report && ltb (suc (before_delimiter (drop 1 t))) (length t)) (omega arith) (omega arith)

char_only : (report : Bool) (f : Front) (t : List ℕ) → Spells t f → SortValue (only_one report f t)
char_only report (utf.char c n) t h = if_all SortValue (eqb n (length t)) h.1 (char_nameless report t)
char_only report (utf.bad n) t h = char_nameless report t
char_only report utf.cut t h = char_nameless report t
char_only report utf.none t h = char_nameless report t

char_named : (t : List ℕ) → SortValue (hex_named t)
unfolding hex_named
char_named t =
    if_all SortValue (first_is (code "u") t && eqb (get_or t 1 0) (code "{"))
    (if_all SortValue (last_is (code "}") t) (char_later 2 (scalar_of (hex_value (take (length t - 3) (drop 2 t)))) (value_sort (hex_value (take (length t - 3) (drop 2 t))))) (omega arith))
    (char_later 1 (scalar_of (hex_value (drop 1 t))) (value_sort (hex_value (drop 1 t))))

char_spelled : (report : Bool) (t : List ℕ) → SortValue (spelled_out report t)
unfolding spelled_out
char_spelled report t =
    if_all SortValue ((first_is (code "u") t || first_is (code "x") t) && ltb 1 (length t)) (char_named t) (char_only report (front t) t (spells t))

lookup_every : (P : ℕ → Type 0) (rows : List Row) (raw : List ℕ) (other : ℕ) → Every (λ (r : Row). P r.number) rows → P other → P (lookup rows raw other)
unfolding lookup
lookup_every P [] raw other h o = o
lookup_every P (r ∷ rs) raw other h o = if_all P (same raw r.text) h.0 (lookup_every P rs raw other h.1 o)

name_scalar : (raw : List ℕ) → is_scalar (lookup char_names raw unnamed) ≡ true
unfolding char_names is_scalar within
name_scalar raw =
    lookup_every (λ (n : ℕ). is_scalar n ≡ true) char_names raw unnamed (refl, (refl, (refl, (refl, (refl, (refl, (refl, (refl, (refl, tt))))))))) refl

char_of : (report : Bool) (t : List ℕ) → SortValue (character_of report t)
unfolding character_of
char_of report t = if_all SortValue (eqb (lookup char_names (map lower t) unnamed) unnamed) (char_spelled report t) (name_scalar (map lower t))

-- ---- meanings

laid_character : (v : Result ℕ CharError) → SortValue v → Every LaidMeaning (character_means v)
unfolding has_detail
laid_character (Ok c) h = (((λ l. (omega arith, h)), (λ e. omega arith)), tt)
laid_character (Err (Wrong e d)) h = (error_laid e d h, tt)
laid_character (Err (WrongAt e d p)) h = (error_laid e d h, tt)

laid_word : (s e : ℕ) (raw : List ℕ) → Every LaidMeaning (word_means s e raw)
unfolding word_means
laid_word s e raw =
    let P : List Meaning → Type 0 = Every LaidMeaning in
    let name : Laid kind.Identifier 0 = plain_laid kind.Identifier (omega arith) in
    if_all P (eqb (word_kind raw) kind.Identifier)
    (if_all P (first_is (code "+") raw && ltb 1 (length raw)) (name, (name, tt)) (name, tt))
    (plain_laid (word_kind raw) (word_le raw), tt)

laid_run : (p : Parsed) (s e : ℕ) (raw : List ℕ) → Every LaidMeaning (run_means p s e raw)
unfolding run_means
laid_run (Ok p) s e raw = (plain_laid kind.Number (omega arith), tt)
laid_run (Err parsed.NoNumber) s e raw = laid_word s e raw
laid_run (Err parsed.ZeroDenominator) s e raw = (error_laid kind.ZeroDenominator 0 (omega arith), tt)

laid_means : (report : Bool) (o : Outcome) (s e : ℕ) (raw : List ℕ) → Sort o → Every LaidMeaning (meaning_of report o s e raw)
laid_means report (Token k d) s e raw h = (((λ l. h), (λ e. omega (arith, h.0))), tt)
laid_means report Str s e raw h = (plain_laid kind.StringLiteral (omega arith), tt)
laid_means report HereStr s e raw h = (plain_laid kind.StringLiteral (omega arith), tt)
laid_means report Word s e raw h = laid_word s e raw
laid_means report Run s e raw h = laid_run (parse_number raw) s e raw
laid_means report Lined s e raw h = (plain_laid kind.Identifier (omega arith), tt)
laid_means report Keyword s e raw h = (plain_laid kind.Keyword (omega arith), tt)
laid_means report Character s e raw h = laid_character (character_of report (char_inside raw)) (char_of report (char_inside raw))
laid_means report (Error n d) s e raw h = (error_laid n d h, tt)
laid_means report (ErrorAt n d a b) s e raw h = (error_laid n d h, tt)

-- ---- items

abbrev pub LaidItem : Item → Type 0
LaidItem i = Laid i.kind i.detail

laid_items : (report : Bool) (last : Place) (s e : ℕ) (ms : List Meaning) → Every LaidMeaning ms → Every LaidItem (items_of report last s e ms)
laid_items report last s e [] h = tt
laid_items report last s e (m ∷ ms) h = (h.0, laid_items report last s e ms h.1)

pub laid_extent : (report : Bool) (last : Place) (s : ℕ) (o : Outcome) (i : SoFar) → Sort o → Every LaidItem (extent_items report last s o i)
unfolding extent_items
laid_extent report last s o i h =
    laid_items report (range_after report (standing report last) s o i) s i.at (meaning_of report o s i.at i.bytes)
    (laid_means report o s i.at i.bytes h)

pub read_laid : (report : Bool) (last : Place) (at c : ℕ) (cs : List ℕ)
    → Every LaidItem (extent_items report last at (read_item report at c cs).what (read_item report at c cs).item)
read_laid report last at c cs = laid_extent report last at (read_item report at c cs).what (read_item report at c cs).item (read_sort report at c cs)

pub items_laid : (report : Bool) (cs : List ℕ) → Every LaidItem (items report cs)
items_laid report cs =
    every_item report (bytes_of cs) (λ _. Unit {0}) LaidItem (λ last at c ds e h. read_laid report last at c ds) cs refl
    (every_any (λ _. Unit {0}) (λ _. tt) cs)
