-- What C gets. `mihadrena_nest` ensures `r ≡ (nested_of records nodes).number`, `values' ≡ lay ((nested_of records nodes).value ∷ []) values` and
-- `nodes' ≡ (nested_of records nodes).memory`.
use Rattle.std.specs.Prelude.{ℕ, ◌≡◌, refl, List, [], ◌∷◌, replicate}
use Rattle.laws.specs.Quoted.{within}
use Rattle.chars.specs.Encode.{is_scalar, lay}
use Rattle.nested.specs.Items.{symbol, plain_list, has_detail, sort_of, class_of, items_from}
use Rattle.nested.specs.Reader.{read_on, give_in}
use Rattle.nested.specs.Lent.{words_of, nested_of}
use Rattle.nested_promises.specs.Rows.{words_in, opens, a, closes, close_square}

-- all that a call leaves: its result and the two memories lent
pub record Seen : Type 0 where
  pub number : ℕ
  pub values : List ℕ
  pub nodes : List ℕ

abbrev pub sees : ℕ → List ℕ → List ℕ → Seen
sees n v m = record { number = n; values = v; nodes = m }

abbrev pub seen : List ℕ → List ℕ → List ℕ → Seen
seen records nodes values =
    let o = nested_of records nodes in sees o.number (lay (o.value ∷ []) values) o.memory

-- (a) into six words: 0, how many nodes there are, and the value behind it stays
pub count_told : seen (words_in (opens ∷ a ∷ closes ∷ [])) (replicate 6 7) (9 ∷ 9 ∷ [])
    ≡ sees 0 (2 ∷ 9 ∷ []) (plain_list ∷ 0 ∷ 1 ∷ symbol ∷ 1 ∷ 0 ∷ [])
unfolding words_in is_scalar within has_detail sort_of class_of items_from read_on give_in nested_of words_of lay
count_told = refl

-- (a]: 41 and the record that it comes with
pub record_told : seen (words_in (opens ∷ a ∷ close_square ∷ [])) (replicate 6 7) (9 ∷ 9 ∷ []) ≡ sees 41 (2 ∷ 9 ∷ []) (replicate 6 7)
unfolding words_in is_scalar within has_detail sort_of class_of items_from read_on give_in nested_of words_of lay
record_told = refl

-- (a) into five words: 46 and 0, which is written too
pub few_told : seen (words_in (opens ∷ a ∷ closes ∷ [])) (replicate 5 7) (9 ∷ []) ≡ sees 46 (0 ∷ []) (replicate 5 7)
unfolding words_in is_scalar within has_detail sort_of class_of items_from read_on give_in nested_of words_of lay
few_told = refl

-- no room for the value: the nodes are written all the same
pub no_values : seen (words_in (opens ∷ a ∷ closes ∷ [])) (replicate 6 7) [] ≡ sees 0 [] (plain_list ∷ 0 ∷ 1 ∷ symbol ∷ 1 ∷ 0 ∷ [])
unfolding words_in is_scalar within has_detail sort_of class_of items_from read_on give_in nested_of words_of lay
no_values = refl
