-- The block holds the bytes of `raw`, and is copied whole (CopiedLines: through-block).
use native.Mathlib.Omega.{arith}
use mathlib.Core.Path.{refl, sym, ap, ◌∙◌}
use mathlib.Core.List.{List}
use Prim.Native.Nat.{ℕ}
use Rattle.laws.specs.Lent.{written}
use Rattle.pieces_spots.proofs.CopiedLines.{through_block}
use lib.ListN.{length-take}
use lib.Seq.{length-take-le}
use Rattle.byte_runs.specs.Runs.{block}
use Rattle.pieces_spots.proofs.comments.copy_block.Goals as goal

pub slice_bounds-copy_all-end : goal.slice_bounds-copy_all-end
slice_bounds-copy_all-end c = sym (length-take-le block c.args.raw.now c.requires.0)

pub copy_all-requires : goal.copy_all-requires
copy_all-requires c = omega (arith, length-take block c.args.raw.now)

pub returns : goal.returns
returns c =
    c.copy_all-2.ensures
    ∙ ap (λ (x : List ℕ). written x c.args.text.now) (through_block c.args.raw.now _ _ c.copy_all.ensures refl c.requires.0)
