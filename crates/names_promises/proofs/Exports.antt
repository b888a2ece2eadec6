-- Programs that meet no promise of the calls, whatever else they do: a row of specs/Opening, where the definition answers otherwise, contradicts each.
use Rattle.std.specs.Prelude.{ℕ, ◌+◌, ◌<◌, ◌≡◌, List, [], replicate}
use Rattle.std.proofs.Common.{arith, ap, ◌∙◌}
use Rattle.refusal.specs.Refusals.{out_of_bounds}
use Rattle.names.specs.Layout.{table_words, table_bytes}
use Rattle.names.specs.Call.{Opening, opening, open_of}
use Rattle.names_promises.specs.Opening.{cleared, too_little}

-- no program that refuses everything meets the promise
never_unopened : (k : ℕ) (w : List ℕ) → 0 < k → opening k w ≡ open_of (replicate (table_words + 1) 7) (replicate table_bytes 9) → ⊥
never_unopened k w l h = let e : k ≡ 0 = ap (λ (o : Opening). o.mark) (h ∙ cleared) in omega (arith, e, l)

-- nor does one that opens everything
never_opens_all : (w : List ℕ) → opening 0 w ≡ open_of [] [] → ⊥
never_opens_all w h = let e : 0 ≡ out_of_bounds = ap (λ (o : Opening). o.mark) (h ∙ too_little) in omega (arith, e)
