-- The run ends the item (Tells), and its bytes tell the rest.
use Rattle.std.proofs.Common.{Option}
use native.Mathlib.Omega.{arith}
use mathlib.Core.Path.{refl, sym, subst}
use mathlib.Core.Bool.{false}
use Prim.Native.Nat.{ℕ, ◌+◌}
use Rattle.items.specs.declared.Outcome.TheVariants.{Word}
use Rattle.items.specs.declared.Phase.TheVariants as ph
use Rattle.steps.specs.Ended.{EndsAs}
use Rattle.lexer.proofs.Tells.{Spans, begins_inside, ends_here, spans, ended_told}
use Rattle.lexer.proofs.glance.quick_word.Tie as tie
use Rattle.lexer.proofs.glance.quick_word.Lts as lts
use Rattle.lexer.proofs.glance.quick_word.Reads as reads
use Rattle.lexer.proofs.glance.quick_word.Goals as goal

within : (c : lts.Past-After-known_told tie.the-claims reads.Pre reads.Post) → Spans c.args.source.now c.args.at c.in-Some.end
within c =
    spans c.args.source.now false c.args.at (c.args.at + 1) c.in-Some.end Word ph.InWord c.requires.1
    (ends_here c.args.source.now false c.args.at (c.args.at + 1) ph.InWord Word
    c.in-Some.end c.requires.1 (subst (λ (y : Option ℕ). EndsAs c.args.source.now false ph.InWord Word (c.args.at + 1) y)
    c.in-Some.is (c.word_ending.ensures false)))
    c.requires.0

pub overflow_add-at : goal.overflow_add-at
overflow_add-at c = omega (arith, c.requires.0, begins_inside c.args.source.now c.args.at (c.args.at + 1) ph.InWord c.requires.1)

pub word_ending-requires : goal.word_ending-requires
word_ending-requires c = omega (arith, begins_inside c.args.source.now c.args.at (c.args.at + 1) ph.InWord c.requires.1)

pub slice_bounds-tell_word-count : goal.slice_bounds-tell_word-count
slice_bounds-tell_word-count c = omega (arith, (within c.before).some)

pub slice_bounds-tell_word-start : goal.slice_bounds-tell_word-start
slice_bounds-tell_word-start c = omega (arith, (within c.before).some)

pub slice_bounds-tell_word-end : goal.slice_bounds-tell_word-end
slice_bounds-tell_word-end c = omega (arith, (within c.before).inside)

pub tell_word-requires : goal.tell_word-requires
tell_word-requires c = let w = within c.before.before in (omega (arith, w.some, w.long), sym w.long)

pub returns-in-Some : goal.returns-in-Some
returns-in-Some c report skip =
    ended_told c.args.source.now report c.args.at (c.args.at + 1) c.in-Some.end Word ph.InWord c.requires.1
    (ends_here c.args.source.now report c.args.at (c.args.at + 1) ph.InWord Word
    c.in-Some.end c.requires.1 (subst (λ (y : Option ℕ). EndsAs c.args.source.now report ph.InWord Word (c.args.at + 1) y)
    c.in-Some.is (c.word_ending.ensures report)))
    c.requires.0 (λ last i. refl) c.tell_word.result c.tell_word.ensures skip
