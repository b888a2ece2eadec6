-- Records one after another that can be stored: each starts no earlier than the one before it, and none of its ends lies before its start.
use Prim.Native.Nat.{ℕ, ◌+◌, ◌*◌, ◌%◌, ◌^◌, ◌≤◌, ◌<◌}
use mathlib.Core.Path.{◌≡◌, refl, sym, ap, subst, ◌∙◌}
use mathlib.Core.List.{List, [], ◌∷◌, ◌++◌}
use lib.ListN.{length, length-append}
use native.Mathlib.Omega.{arith}
use Rattle.items.specs.Items.{record_words, words_of}
use Rattle.items.specs.declared.Record.{Record}
use Rattle.items_files.specs.Groups.{most}
use Rattle.items_files.specs.Layout.{before}
use Rattle.items_files.specs.Write.{on, goes}
use Rattle.items_files.proofs.Records.{Onward, record_goes}
use Rattle.items_files.proofs.Round.{Writable}
use Rattle.items_files.proofs.Trips as trips
use Rattle.items_files_theorems.specs.Plans.{joined}

-- a record that starts at `start`, after one that starts at p
pub record Row (p start : ℕ) (words : List ℕ) : Type 0 where
  pub record_of : Record
  pub is : words ≡ words_of record_of
  pub starts : record_of.nine.start ≡ start
  pub onward : Onward p record_of.nine
  pub fits : trips.Words words

abbrev pub Chain : ℕ → List (List ℕ) → Type 0
Chain p [] = Unit {0}
Chain p (r ∷ rs) = (start : ℕ) × (Row p start r × Chain start rs)

-- a beginning of such records
pub chain_front : (p : ℕ) (xs ys : List (List ℕ)) → Chain p (xs ++ ys) → Chain p xs
chain_front p [] ys c = tt
chain_front p (x ∷ xs) ys c = (c.0, (c.1.0, chain_front c.0 xs ys c.1.1))

chain_goes : (p l j : ℕ) (rs : List (List ℕ)) → Chain p rs → goes (before 0 l p) j (joined rs) ≡ on
unfolding goes
chain_goes p l j [] c = refl
chain_goes p l j (r ∷ rs) c =
    let x : Row p c.0 r = c.1.0 in
    let next = chain_goes c.0 x.record_of.depth (j + record_words) rs c.1.1 in
    ap (λ (w : List ℕ). goes (before 0 l p) j (w ++ joined rs)) x.is
    ∙ record_goes x.record_of l p (joined rs) x.onward j
    ∙ ap (λ (s : ℕ). goes (before 0 x.record_of.depth s) (j + record_words) (joined rs)) x.starts
    ∙ next

words_append : (xs ys : List ℕ) → trips.Words xs → trips.Words ys → trips.Words (xs ++ ys)
words_append [] ys u v = v
words_append (x ∷ xs) ys (trips.some h u) v = trips.some h (words_append xs ys u v)

chain_words : (p : ℕ) (rs : List (List ℕ)) → Chain p rs → trips.Words (joined rs)
chain_words p [] c = trips.none
chain_words p (r ∷ rs) c = words_append r (joined rs) c.1.0.fits (chain_words c.0 rs c.1.1)

chain_tens : (p : ℕ) (rs : List (List ℕ)) → Chain p rs → length (joined rs) % record_words ≡ 0
chain_tens p [] c = refl
chain_tens p (r ∷ rs) c =
    let ten : length r ≡ record_words = ap length c.1.0.is in
    omega (arith, ten, length-append r (joined rs), chain_tens c.0 rs c.1.1)

pub chain_writable : (rs : List (List ℕ)) → Chain 0 rs → Writable (joined rs)
chain_writable rs c = record { tens = chain_tens 0 rs c; words = chain_words 0 rs c; onward = chain_goes 0 0 0 rs c }
