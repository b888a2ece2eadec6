-- Where the first four bytes agree and the last four do, all do: of fewer than eight bytes none is left out.
use Prim.Native.Nat.{ℕ, ◌+◌, ◌-◌}
use native.Mathlib.Omega.{arith}
use mathlib.Core.Path.{sym, ◌∙◌}
use mathlib.Core.List.{List}
use lib.ListN.{length}
use Rattle.names.specs.Blocks.{four_at}
use Rattle.names.proofs.SeveralBytes.{same_not, same_by, agree_four}
use Rattle.names.proofs.blocks.equal_short.Goals as goal

pub returns-then-four : goal.returns-then-four
returns-then-four c = sym (same_not (λ (x : List ℕ). four_at x 0) _ _ (λ z. c.if-four.true (c.four.ensures.0 ∙ z ∙ sym c.four-2.ensures.0)))

pub returns : goal.returns
returns c =
    let s = c.args.s.now in
    let t = c.args.t.now in
    let more = agree_four s t (λ j. omega (arith, c.type_inv.s j))
    (λ j. omega (arith, c.type_inv.t j)) in
    let first = sym c.four.ensures.0 ∙ c.if-four.false ∙ c.four-2.ensures.0 in
    same_by (λ (x : List ℕ). four_at x (length s - 4)) s t c.requires.s_len
    (λ e j h. more (length s - 4) (0 + 4) (omega (arith, c.requires.s_len_bound)) e
    (more 0 0 (omega arith) first (λ k l. absurd (omega (arith, l)))) j (omega (arith, h, c.if-s-lt-FOUR.false)))
    c.four-3.ensures.0
    c.four-4.ensures.0
