-- The text being good, the comment is passed up to the first vertical line or number sign (Apart); a line and a sign behind it close it
-- (Ended).
use native.Mathlib.Omega.{arith}
use Prim.Native.Nat.{ℕ, ◌+◌, ◌-◌, ◌≤◌}
use mathlib.Core.Path.{◌≡◌, sym, ◌∙◌}
use mathlib.Core.List.{List, [], ◌∷◌}
use lib.ListN.{length, take, drop}
use Rattle.std.proofs.Common.{None, Option}
use Rattle.laws.specs.Texts.{span}
use Rattle.byte_runs.specs.Runs.{apart}
use Rattle.chars.specs.Utf8.{first_bad}
use Rattle.std.proofs.lemmas.Slice.Eq.{starts_is}
use Rattle.std.proofs.lemmas.Bool.Decides.{Decides-eqb}
use Rattle.laws.specs.Quoted.{code}
use Rattle.laws.proofs.Lent.{part_rest}
use Rattle.items.specs.Readers.{comment}
use Rattle.items.specs.declared.Phase.TheVariants as ph
use Rattle.steps.specs.Scan.{Passes}
use Rattle.steps.specs.Ended.{EndsAs}
use Rattle.steps.proofs.Letters.{nest_holds}
use Rattle.steps.proofs.Apart.{passes_apart}
use Rattle.steps.proofs.Ended.{told, nested_sign}
use Rattle.steps.proofs.endings.nested_ending.Goals as goal

pass : (s : List ℕ) (from e : ℕ) → from ≤ length s → first_bad (drop from s) ≡ None → e ≡ from + span (apart (code "|") (code "#")) (drop from s)
    → Passes s (ph.Nest 1) from e
pass s from e = passes_apart s (ph.Nest 1) (code "|") (code "#") from e (nest_holds 1) (omega arith) (omega arith)

pub slice_bounds-starts_with-count : goal.slice_bounds-starts_with-count
slice_bounds-starts_with-count c = (pass _ _ _ c.requires.0 c.requires.1 c.apart_end-bar.ensures).1

pub slice_bounds-starts_with-start : goal.slice_bounds-starts_with-start
slice_bounds-starts_with-start c = (pass _ _ _ c.requires.0 c.requires.1 c.apart_end-bar.ensures).1

pub overflow_add-bar : goal.overflow_add-bar
overflow_add-bar c = omega (arith, (pass _ _ _ c.requires.0 c.requires.1 c.apart_end-bar.ensures).1)

pub returns : goal.returns
returns c report =
    let s = c.args.s.now in
    let e = c.apart_end-bar in
    told (λ (r : Option ℕ). EndsAs s report (ph.Nest 1) comment c.args.from r) tt _ _ _ c.then_some.ensures
    (λ t. let behind = take (length s - e.result) (drop e.result s) in
    nested_sign s c.args.from e.result (pass _ _ _ c.requires.0 c.requires.1 e.ensures) report (drop 2 behind)
    (sym (part_rest s e.result) ∙ (starts_is Decides-eqb behind (code "|" ∷ code "#" ∷ []) _ c.starts_with.ensures.value).0 t))
