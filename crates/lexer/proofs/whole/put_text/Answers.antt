-- Where the nine words say text memory, the decoder writes what stands between the quotes; else nothing is written.
use mathlib.Core.Path.{sym, ap, ◌∙◌}
use mathlib.Core.List.{List}
use Prim.Native.Nat.{ℕ}
use native.Mathlib.Omega.{arith}
use lib.ListN.{length}
use Rattle.laws.specs.Lent.{written}
use Rattle.lexer.proofs.Texts.{decodes, decodes_not, part_long}
use Rattle.lexer.proofs.whole.put_text.Goals as goal

pub slice_bounds-decode-count : goal.slice_bounds-decode-count
slice_bounds-decode-count c = omega (arith, c.requires)

pub slice_bounds-decode-start : goal.slice_bounds-decode-start
slice_bounds-decode-start c = omega (arith, c.requires)

pub slice_bounds-decode-end : goal.slice_bounds-decode-end
slice_bounds-decode-end c = omega (arith, c.requires)

pub decode-requires : goal.decode-requires
decode-requires c = (
  part_long c.args.source.now c.args.r.start c.args.r.end c.requires.0 c.requires.1,
  omega (
    arith,
    c.requires.2,
    ap length (decodes c.args.source.now
        c.args.r c.quotes.result c.if-r-eq-IN_MEMORY.true c.quotes.ensures),
  ),
)

pub returns-then-r-eq-IN_MEMORY : goal.returns-then-r-eq-IN_MEMORY
returns-then-r-eq-IN_MEMORY c =
    c.decode.ensures.1 ∙ ap (λ (l : List ℕ). written l c.args.free.now) (sym (decodes c.args.source.now
    c.args.r c.quotes.result c.if-r-eq-IN_MEMORY.true c.quotes.ensures))

pub returns-else-r-eq-IN_MEMORY : goal.returns-else-r-eq-IN_MEMORY
returns-else-r-eq-IN_MEMORY c =
    ap (λ (l : List ℕ). written l c.args.free.now) (sym (decodes_not c.args.source.now c.args.r c.if-r-eq-IN_MEMORY.false))
