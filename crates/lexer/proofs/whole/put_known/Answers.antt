-- What one look told is written, then what another told, and so on: any writing that stood at the spot goes on past all of it (ToldTurns). Each
-- turn but the last writes a word at least, and the records have an end.
use mathlib.Core.Path.{refl}
use native.Mathlib.Omega.{arith}
use Rattle.lexer.specs.Writing.{ToldOn}
use Rattle.lexer.proofs.ToldTurns.{none_told, told-length, words_on, told_amid, told_more}
use Rattle.lexer.proofs.whole.put_known.Tie as tie
use Rattle.lexer.proofs.whole.put_known.Lts as lts
use Rattle.lexer.proofs.whole.put_known.Reads as reads
use Rattle.lexer.proofs.whole.put_known.Goals as goal

-- with what `put_told` wrote
told : (k : lts.After-put_told tie.the-claims reads.Pre reads.Post goal.the-invariant-loop-got goal.the-decreases-loop-got) → ToldOn k.args.source.now k.args.p k.args.recs.now
    k.args.free k.args.deep k.args.from
    k.put_told-told.result.at k.put_told-told.new.recs k.put_told-told.result.depth k.put_told-told.result.words
told k =
    let a = k.args in
    told_more a.source.now a.p a.recs.now a.free a.deep a.from k.loop-got.got.at k.loop-got.invariant
    k.spot_past.result k.spot_past.ensures k.put_told-told.result.at k.put_told-told.ensures

-- and with what `put_rare` wrote after it
rare : (k : lts.After-put_rare tie.the-claims reads.Pre reads.Post goal.the-invariant-loop-got goal.the-decreases-loop-got) → ToldOn k.args.source.now
    k.args.p k.args.recs.now
    k.args.free k.args.deep
    k.args.from
    k.put_rare-got.result.at k.put_rare-got.new.recs k.put_rare-got.result.depth k.put_rare-got.result.words
rare k =
    let a = k.args in
    told_more a.source.now a.p a.recs.now a.free a.deep a.from k.put_told-told.result.at (told k.before.before.before.before.before)
    k.spot_past-in-loop-got.result k.spot_past-in-loop-got.ensures k.put_rare-got.result.at k.put_rare-got.ensures

pub loop-got-init : goal.loop-got-init
loop-got-init c =
    let a = c.args in
    (omega arith, none_told a.source.now a.p a.recs.now a.free a.deep a.from a.p.at (omega arith, refl))

pub put_told-told-requires : goal.put_told-told-requires
put_told-told-requires c =
    let a = c.args in (
      c.requires.0,
      told_amid a.source.now a.p a.recs.now a.free a.deep a.from c.loop-got.got.at c.loop-got.invariant
          c.spot_past.result c.spot_past.ensures c.requires.1,
      c.requires.2,
    )

pub put_rare-got-requires : goal.put_rare-got-requires
put_rare-got-requires c =
    let a = c.args in (
      c.requires.0,
      told_amid a.source.now a.p a.recs.now a.free a.deep a.from c.put_told-told.result.at (told c.before.before.before.before.before)
          c.spot_past-in-loop-got.result c.spot_past-in-loop-got.ensures c.requires.1,
      c.requires.2,
    )

pub shape_of-recs-then-got-told : goal.shape_of-recs-then-got-told
shape_of-recs-then-got-told c =
    let a = c.args in
    told-length a.source.now a.p a.recs.now a.free a.deep a.from c.requires.1 c.put_rare-got.result.at (rare c.before.before.before.before.before.before).1

pub returns-then-got-told : goal.returns-then-got-told
returns-then-got-told c = rare c.before.before.before.before.before.before

pub loop-got-smaller : goal.loop-got-smaller
loop-got-smaller c =
    let a = c.args in
    omega (
      arith,
      words_on (rare c.before.before.before.before.before.before).1 c.requires.1,
      told-length a.source.now a.p a.recs.now a.free a.deep a.from c.requires.1 c.put_rare-got.result.at (rare c.before.before.before.before.before.before).1,
      c.put_rare-got.ensures.0,
      c.put_told-told.ensures.0,
      c.if-got-told.false,
    )

pub loop-got-preserved : goal.loop-got-preserved
loop-got-preserved c = rare c.before.before.before.before.before.before
