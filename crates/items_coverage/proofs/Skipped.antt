-- Comments skipped: putting the comments back in gives what is read with comments kept, word for word. A comment has no text, so that it takes no
-- place in the text memory, and it is no bracket, so that no depth changes.
use Rattle.std.proofs.Common.{Ok, Err, Result}
use Rattle.items.specs.declared.CharError.{CharError}
use Rattle.items.specs.declared.CharError.TheVariants.{Wrong, WrongAt}
use Rattle.items.specs.declared.Outcome.{Outcome}
use Rattle.items.specs.declared.Outcome.TheVariants.{Token, Str, HereStr, Word, Run, Lined, Keyword, Character, Error, ErrorAt}
use Rattle.items.specs.Items.{Place, Item, items_of, extent_items, items, kept, depth_after, record_of, memory_of}
use Rattle.items.specs.Kinds as kind
use Rattle.items.specs.Meaning.{Meaning, word_kind, word_means, run_means, character_of, char_inside, character_means, meaning_of}
use Rattle.items.specs.Readers.{SoFar, read_item, first_is}
use Rattle.items.proofs.Depth.{comment_stays}
use Rattle.items.proofs.Every.{Every, every_any}
use Rattle.numbers.specs.declared.ParseError.TheVariants as parsed
use Rattle.numbers.specs.Grammar.{parse_number, Parsed}
use Rattle.laws.specs.Quoted.{code}
use Rattle.laws.proofs.Choice.{by_bool, if_all, no_yes}
use Rattle.chars.specs.Encode.{bytes_of}
use Rattle.pieces.specs.Given.{Given, given_all}
use Rattle.items_coverage.specs.Covered.{PutBack, none, other, comment}
use Rattle.items_coverage.specs.Records.{row_kind, given_kind}
use Rattle.items_coverage.proofs.Located.{every_item}
use Rattle.items_coverage.proofs.Records.{rows_from, rows_of}
use Prim.Native.Nat.{ℕ, ◌+◌}
use mathlib.Core.Path.{◌≡◌, refl, ap}
use mathlib.Core.Bool.{Bool, true, false, ◌&&◌}
use mathlib.Core.List.{List, [], ◌∷◌}
use lib.ListN.{length}
use lib.Dec.{eqb, ltb}
use native.Mathlib.Nat.{add-zero}

-- ---- a comment takes no text memory

abbrev Silent : Item → Type 0
Silent i = eqb i.kind kind.Comment ≡ true → memory_of i.text ≡ []

abbrev Quiet : Meaning → Type 0
Quiet m = eqb m.kind kind.Comment ≡ true → memory_of m.text ≡ []

quiet_word : (s e : ℕ) (raw : List ℕ) → Every Quiet (word_means s e raw)
unfolding word_means
quiet_word s e raw =
    let P : List Meaning → Type 0 = Every Quiet in
    if_all P (eqb (word_kind raw) kind.Identifier)
    (if_all P (first_is (code "+") raw && ltb 1 (length raw)) ((λ _. refl), ((λ _. refl), tt)) ((λ _. refl), tt))
    ((λ _. refl), tt)

quiet_run : (p : Parsed) (s e : ℕ) (raw : List ℕ) → Every Quiet (run_means p s e raw)
unfolding run_means
quiet_run (Ok p) s e raw = ((λ _. refl), tt)
quiet_run (Err parsed.NoNumber) s e raw = quiet_word s e raw
quiet_run (Err parsed.ZeroDenominator) s e raw = ((λ _. refl), tt)

quiet_character : (v : Result ℕ CharError) → Every Quiet (character_means v)
quiet_character (Ok c) = ((λ _. refl), tt)
quiet_character (Err (Wrong n d)) = ((λ _. refl), tt)
quiet_character (Err (WrongAt n d p)) = ((λ _. refl), tt)

quiet : (report : Bool) (o : Outcome) (s e : ℕ) (raw : List ℕ) → Every Quiet (meaning_of report o s e raw)
quiet report (Token k d) s e raw = ((λ _. refl), tt)
quiet report Str s e raw = (no_yes, tt)
quiet report HereStr s e raw = (no_yes, tt)
quiet report Word s e raw = quiet_word s e raw
quiet report Run s e raw = quiet_run (parse_number raw) s e raw
quiet report Lined s e raw = (no_yes, tt)
quiet report Keyword s e raw = (no_yes, tt)
quiet report Character s e raw = quiet_character (character_of report (char_inside raw))
quiet report (Error n d) s e raw = ((λ _. refl), tt)
quiet report (ErrorAt n d a b) s e raw = ((λ _. refl), tt)

silent_of : (report : Bool) (last : Place) (s e : ℕ) (ms : List Meaning) → Every Quiet ms → Every Silent (items_of report last s e ms)
silent_of report last s e [] h = tt
silent_of report last s e (m ∷ ms) h = (h.0, silent_of report last s e ms h.1)

silent_extent : (report : Bool) (last : Place) (s : ℕ) (o : Outcome) (i : SoFar) → Every Silent (extent_items report last s o i)
unfolding extent_items
silent_extent report last s o i = silent_of report _ s i.at (meaning_of report o s i.at i.bytes) (quiet report o s i.at i.bytes)

silent : (report : Bool) (cs : List ℕ) → Every Silent (items report cs)
silent report cs =
    every_item report (bytes_of cs) (λ _. Unit {0}) Silent
    (λ last at c ds e h. silent_extent report last at (read_item report at c ds).what (read_item report at c ds).item) cs refl (every_any (λ _. Unit {0}) (λ c. tt) cs)

-- ---- the comments put back in

-- kept, all are there
pub kept_all : (is : List Item) → kept false is ≡ is
unfolding kept
kept_all [] = refl
kept_all (i ∷ is) = ap (λ (l : List Item). i ∷ l) (kept_all is)

rows_again : (free depth : ℕ) (is : List Item) → Every Silent is
    → PutBack (List ℕ) row_kind (rows_from free depth (kept true is)) (rows_from free depth is)
unfolding kept
rows_again free depth [] h = none
rows_again free depth (i ∷ is) h = by_bool (eqb i.kind kind.Comment)
    (λ e. let same : free + length (memory_of i.text) ≡ free = rw (h.0 e) (add-zero free) in
    let level : depth_after i.kind depth ≡ depth = comment_stays i.kind depth e in
    let more : PutBack (List ℕ) row_kind (rows_from free depth (kept true is)) (rows_from (free + length (memory_of i.text)) (depth_after i.kind depth) is)
    = rw (same, level) (rows_again free depth is h.1) in
    rw (e, kept) (comment (record_of free depth i) e more))
    (λ e. rw (e, kept) (other (record_of free depth i) e (rows_again (free + length (memory_of i.text)) (depth_after i.kind depth) is h.1)))

-- of records, all their words
pub rows_put_back : (report : Bool) (cs : List ℕ) → PutBack (List ℕ) row_kind (rows_of (kept true (items report cs))) (rows_of (items report cs))
rows_put_back report cs = rows_again 0 0 (items report cs) (silent report cs)

-- of what the piece calls give, all their words and their texts
pub given_put_back : (bytes : List ℕ) (depth : ℕ) (is : List Item) → PutBack Given given_kind (given_all bytes depth (kept true is)) (given_all bytes depth is)
unfolding kept given_all
given_put_back bytes depth [] = none
given_put_back bytes depth (i ∷ is) = by_bool (eqb i.kind kind.Comment)
    (λ e. let more : PutBack Given given_kind (given_all bytes depth (kept true is)) (given_all bytes (depth_after i.kind depth) is)
    = rw (comment_stays i.kind depth e) (given_put_back bytes depth is) in
    rw (e, kept) (comment _ e more))
    (λ e. rw (e, kept) (other _ e (given_put_back bytes (depth_after i.kind depth) is)))
