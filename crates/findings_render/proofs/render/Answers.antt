-- Laid from the memory's start on, the bytes are over what was there.
use mathlib.Core.Path.{sym, ◌∙◌}
use native.Mathlib.Omega.{arith}
use Prim.Native.Nat.{◌≤◌}
use lib.ListN.{length}
use Rattle.findings_render_parts.specs.Laid.{top}
use Rattle.findings_render.specs.Called.{rendered}
use Rattle.findings_render_parts.proofs.OneByOne.{nothing, whole}
use Rattle.findings_render.proofs.render.Goals as goal

pub returns-then-not-is_told : goal.returns-then-not-is_told
unfolding rendered
returns-then-not-is_told c = rw (rw c.read_words-t.ensures.0 at (sym c.is_told.ensures ∙ c.if-not-is_told.true)) (whole (omega arith) nothing)

pub put_style-requires : goal.put_style-requires
put_style-requires c = record {
  place = (c.read_words-t.ensures.1, c.read_words-t.ensures.2);
  place_2 = c.read_words-t.ensures.3;
}

pub returns : goal.returns
unfolding rendered
returns c =
    let fit : length c.args.out.now ≤ top = omega arith in
    rw (rw c.read_words-t.ensures.0 at (sym c.is_told.ensures ∙ c.if-not-is_told.false))
    (whole fit (rw c.read_words-t.ensures.0 at c.put_style.ensures))
