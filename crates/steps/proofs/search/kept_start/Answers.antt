-- Before the first byte that is no carriage return stand carriage returns alone (Delimiter).
use Rattle.std.proofs.Common.{rules, Bool, Option, Some, None}
use Prim.Native.Nat.{ℕ, ◌≤◌, ◌<◌}
use mathlib.Core.Bool.{not, cond}
use mathlib.Core.Path.{◌≡◌, sym, ap, subst, ◌∙◌}
use lib.Dec.{eqb, ltb}
use lib.ListN.{length, get_or, drop}
use borrow.Author.Tests.{tests, ltb-false}
use native.Mathlib.Omega.{arith}
use Rattle.std.specs.List.{position_or_len}
use Rattle.std.specs.Option.{unwrap_or}
use Rattle.std.proofs.lemmas.Iterator.{YieldsList-from_slice}
use Rattle.std.proofs.lemmas.Iterator.Search.{position_from_yields_List}
use Rattle.laws.specs.Quoted.{code}
use Rattle.laws.proofs.Choice.{by_bool}
use Rattle.items.specs.Readers.{unreturned}
use Rattle.steps.proofs.Delimiter.{first_kept}
use Rattle.steps.proofs.search.kept_start.Goals as goal

place_or_end : (n m : ℕ) → n ≤ m → unwrap_or (cond (ltb n m) (Some n) None) m ≡ n
place_or_end n m h = by_bool (ltb n m) (λ e. rw e) (λ e. rw e (omega (arith, ltb-false n m e)))

pub returns : goal.returns
returns c =
    let line = c.args.line.now in
    let test : ℕ → Bool = λ b. not (eqb b (code "\r")) in
    let k = first_kept line in
    let q = position_from_yields_List test _ _ c.position.result c.position.ensures.ran (YieldsList-from_slice line cc) (λ x b q k. search (rules, tests)) in
    let is = c.unwrap_or.ensures ∙ ap (λ (o : Option ℕ). unwrap_or o (length line)) q ∙ place_or_end (position_or_len test line) (length line) k.0 in
    subst (λ (n : ℕ). (n ≤ length line) × (unreturned (drop n line) ≡ unreturned line) × (n < length line → get_or line n 0 ≡ code "\r" → ⊥)) (sym is) k
