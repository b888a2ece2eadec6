-- What the writer answers to records that can be stored: 22, or it serves; never 32.
use mathlib.Core.Path.{◌≡◌, sym, ap, ◌∙◌}
use mathlib.Core.List.{List, [], ◌∷◌}
use Prim.Native.Nat.{ℕ, ◌-◌, ◌*◌, ◌/◌, ◌≤◌}
use native.Mathlib.Omega.{arith}
use lib.ListN.{length, length-append}
use lib.Seq.{take_all}
use lib.Dec.{ltb}
use Rattle.std.specs.Prelude.{Ok}
use borrow.Author.Tests.{le-ltb}
use Rattle.laws.specs.Lent.{written}
use Rattle.laws.proofs.Choice.{if_all, impossible}
use Rattle.items.specs.Items.{record_words}
use Rattle.refusal.specs.Refusals.{too_few, goes_back}
use Rattle.items_files.specs.Groups.{image}
use Rattle.items_files.specs.Layout.{base, after, first}
use Rattle.items_files.specs.Answers.{served, refused, Outcome, outcome}
use Rattle.items_files.specs.Write.{whole_records, file, measured, store, write_of}
use Rattle.items_files.specs.declared.Before.{Before}
use Rattle.items_files.proofs.Groups.{groups_few}
use Rattle.items_files.proofs.Round.{Writable}

-- five bytes a word suffice
pub file_few : (b : Before) (ws : List ℕ) → length (file b ws) ≤ 5 * length ws
unfolding file
file_few b [] = omega arith
file_few b (w ∷ ws) =
    omega (arith, groups_few 4 (w - base b), file_few (after b w) ws, length-append (image (w - base b)) (file (after b w) ws))

module _ (ws out : List ℕ) (g : Writable ws) where
  whole_is : whole_records ws ≡ ws
  whole_is = take_all (length ws / record_words * record_words) ws (omega (arith, g.tens))

  pub stored : write_of ws out ≡ store (Ok (length (file first ws))) (file first ws) out
  unfolding write_of measured
  stored = rw (whole_is, g.onward)

  pub stored_fits : length (file first ws) ≤ length out → write_of ws out ≡ outcome (served (length (file first ws))) (written (file first ws) out)
  stored_fits h = stored ∙ rw (le-ltb (length out) (length (file first ws)) h)

  pub never_back : (k : ℕ) → (write_of ws out).answer ≡ refused goes_back k → ⊥
  never_back k e =
      let n : ℕ = length (file first ws) in
      if_all (λ (o : Outcome). o.answer ≡ refused goes_back k → ⊥) (ltb (length out) n)
      (λ q. let z : too_few ≡ goes_back = cc in omega (arith, z))
      (λ q. impossible cc)
      (sym (ap (λ (o : Outcome). o.answer) stored) ∙ e)
