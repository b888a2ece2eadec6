-- `places_in_text`, of what the call answers: the words of every finding that `find` writes which are its places stand between two characters of
-- the text. `places_answered`: so line and column answer each of them, and 34 is never refused.
use Prim.Native.Nat.{ℕ, zero, suc, ◌+◌, ◌*◌, ◌/◌, ◌≤◌, ◌<◌}
use mathlib.Core.Path.{◌≡◌, sym, ap}
use mathlib.Core.Bool.{true}
use mathlib.Core.List.{List, [], ◌∷◌}
use lib.ListN.{length, get_or, drop, length-drop, get_or-append}
use lib.Seq.{get_or-append-add}
use lib.Dec.{leb}
use native.Mathlib.Omega.{arith}
use borrow.Author.Tests.{le-leb}
use Rattle.laws.proofs.Choice.{by_bool, impossible}
use Rattle.items.specs.Items.{record_words}
use Rattle.items.proofs.Every.{Every}
use Rattle.lines.specs.Place.{is_index}
use Rattle.lines.proofs.Between.{Between, answered_between}
use Rattle.lines_theorems.proofs.Records.{Answered}
use Rattle.findings_rows.specs.Laid.{laid_rows}
use Rattle.findings.specs.Finding.{finding_words, words_of}
use Rattle.findings.specs.Laid.{counted, laid_findings}
use Rattle.findings.specs.Told.{errors_in}
use Rattle.findings.specs.Find.{find_of, needed_rows, found, too_few, call_of}
use Rattle.findings.specs.declared.Finding.{Finding}
use Rattle.findings.specs.declared.Counted.{Counted}
use Rattle.findings_theorems.proofs.Places.{BothPlaces}
use Rattle.findings_theorems.proofs.Characters.{BetweenBoth}
use Rattle.findings_theorems.proofs.PlacesBetween.{places_between}

-- the words of a finding from this one on are its places: start and end, start and end of the second
abbrev pub first_place : ℕ
first_place = 3

module _ (s : List ℕ) where
  abbrev Places : Finding → Type 0
  Places = BothPlaces (BetweenBoth s)

  word_between : (f : Finding) → Places f → (k : ℕ) → first_place ≤ k → k < finding_words → Between s (get_or (words_of f) k 0)
  word_between f h zero l m = absurd (omega arith)
  word_between f h (suc zero) l m = absurd (omega arith)
  word_between f h (suc (suc zero)) l m = absurd (omega arith)
  word_between f h (suc (suc (suc zero))) l m = h.0.0
  word_between f h (suc (suc (suc (suc zero)))) l m = h.0.1
  word_between f h (suc (suc (suc (suc (suc zero))))) l m = h.1.0
  word_between f h (suc (suc (suc (suc (suc (suc zero)))))) l m = h.1.1
  word_between f h (suc (suc (suc (suc (suc (suc (suc k))))))) l m = absurd (omega arith)

  -- finding j, where it fits, has its words from j times seven on
  laid_between : (fs : List Finding) → Every Places fs → (memory : List ℕ) (j k : ℕ) → j < length fs → j * finding_words + finding_words ≤ length memory
      → first_place ≤ k → k < finding_words → Between s (get_or (laid_findings fs memory) (j * finding_words + k) 0)
  unfolding laid_rows
  laid_between [] h memory j k l m a b = absurd (omega arith)
  laid_between (f ∷ fs) h memory zero k l m a b =
      let more : List ℕ = laid_findings fs (drop finding_words memory) in
      let place : 0 * finding_words + k ≡ k = omega arith in
      rw (le-leb finding_words (length memory) (omega arith))
      (rw (place, get_or-append (words_of f) more 0 k b) (word_between f h.0 k a b))
  laid_between (f ∷ fs) h memory (suc j) k l m a b =
      let more : List ℕ = laid_findings fs (drop finding_words memory) in
      let place : suc j * finding_words + k ≡ length (words_of f) + (j * finding_words + k) = omega arith in
      rw (le-leb finding_words (length memory) (omega arith))
      (rw (place, get_or-append-add (words_of f) more (j * finding_words + k) 0)
      (laid_between fs h.1 (drop finding_words memory) j k (omega arith) (omega (arith, length-drop finding_words memory)) a b))

  module _ (rows memory : List ℕ) (n errors : ℕ) (answered : (call_of s rows memory).answer ≡ found n errors) where
    served : (n ≡ length (find_of s)) × ((call_of s rows memory).findings ≡ laid_findings (find_of s) memory)
    unfolding call_of
    served = by_bool (leb (length (needed_rows s)) (length rows / record_words))
        (λ b. let z : found (length (find_of s)) (errors_in (find_of s)) ≡ found n errors = rw b at answered in let y : counted (length (find_of s)) (errors_in (find_of s)) ≡ counted n errors = cc in (ap (λ (k : Counted). k.findings) (sym y), rw b))
        (λ b. let z : too_few (length (needed_rows s)) ≡ found n errors = rw b at answered in impossible cc)

    -- finding j of those that are written, and its place in the word k
    module _ (j : ℕ) (there : j < n) (fits : j * finding_words + finding_words ≤ length memory) (k : ℕ) (from : first_place ≤ k) (to : k < finding_words) where
      abbrev pub place : ℕ
      place = get_or (call_of s rows memory).findings (j * finding_words + k) 0

      pub places_in_text : Between s place
      places_in_text = rw served.1 (laid_between (find_of s) (places_between s) memory j k (omega (arith, served.0)) fits from to)

      pub places_answered : (index : List ℕ) → is_index s index ≡ true → Answered s index place
      places_answered index e = answered_between s index place e places_in_text
