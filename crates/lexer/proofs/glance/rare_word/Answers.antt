-- The word ends as `rare_ending` says (Tells), and its bytes tell the rest.
use Rattle.std.proofs.Common.{Some}
use native.Mathlib.Omega.{arith}
use mathlib.Core.Path.{refl, sym, subst}
use mathlib.Core.Bool.{false}
use Rattle.items.specs.declared.Outcome.TheVariants.{Word}
use Rattle.items.specs.declared.Phase.TheVariants as ph
use Rattle.lexer.specs.Glance.{WordedTo}
use Rattle.lexer.proofs.Tells.{Spans, ends_here, spans, ended_told}
use Rattle.lexer.proofs.glance.rare_word.Tie as tie
use Rattle.lexer.proofs.glance.rare_word.Lts as lts
use Rattle.lexer.proofs.glance.rare_word.Reads as reads
use Rattle.lexer.proofs.glance.rare_word.Goals as goal

there : (c : lts.Past-After-known_told tie.the-claims reads.Pre reads.Post) → WordedTo c.args.source.now
    c.args.at (Some c.in-Some.end)
there c =
    subst (WordedTo c.args.source.now c.args.at) c.in-Some.is c.rare_ending.ensures

within : (c : lts.Past-After-known_told tie.the-claims reads.Pre reads.Post) → Spans c.args.source.now c.args.at c.in-Some.end
within c =
    let w = there c in
    spans c.args.source.now false c.args.at w.0 c.in-Some.end Word ph.InWord w.1.0.begins
    (ends_here c.args.source.now false c.args.at w.0 ph.InWord Word c.in-Some.end w.1.0.begins (w.1.1 false)) c.requires.0

pub slice_bounds-tell_word-count : goal.slice_bounds-tell_word-count
slice_bounds-tell_word-count c = omega (arith, (within c.before).some)

pub slice_bounds-tell_word-start : goal.slice_bounds-tell_word-start
slice_bounds-tell_word-start c = omega (arith, (within c.before).some)

pub slice_bounds-tell_word-end : goal.slice_bounds-tell_word-end
slice_bounds-tell_word-end c = omega (arith, (within c.before).inside)

pub tell_word-requires : goal.tell_word-requires
tell_word-requires c = let w = within c.before.before in (omega (arith, w.some, w.long), sym w.long)

pub returns-in-Some : goal.returns-in-Some
returns-in-Some c report skip =
    let e = c.in-Some.end in
    let w = there c.before.before.before in
    ended_told c.args.source.now report c.args.at w.0 e Word ph.InWord w.1.0.begins
    (ends_here c.args.source.now report c.args.at w.0 ph.InWord Word e w.1.0.begins (w.1.1 report))
    c.requires.0 (λ last i. refl) c.tell_word.result c.tell_word.ensures skip
