-- The loop keeps: the verdict on the text from place i on is that on the whole. What is passed by direct tests has no bad sequence (Wide,
-- Ascii, Pairs), and what `decode_at` answers at any other place says how the verdict goes on (Sequences).
use native.Mathlib.Omega.{arith}
use mathlib.Core.Path.{◌≡◌, sym, ◌∙◌}
use mathlib.Core.Logic.{⊎_elim}
use lib.ListN.{drop_of_length-le}
use Rattle.chars.specs.declared.Decoded.{Decoded}
use Rattle.chars.specs.Utf8.{sequences, first_bad}
use Rattle.chars.proofs.Ascii.{passed_run}
use Rattle.chars.proofs.Sequences.{said, turns, further}
use Rattle.chars.proofs.Wide.{passed_on, passed_wides}
use Rattle.chars.proofs.decode.first_bad.Tie as tie
use Rattle.chars.proofs.decode.first_bad.Lts as lts
use Rattle.chars.proofs.decode.first_bad.Reads as reads
use Rattle.chars.proofs.decode.first_bad.Goals as goal

-- what the answer says of the rest it says of the whole
turn : (c : lts.After-decode_at tie.the-claims reads.Pre reads.Post goal.the-invariant-loop-i goal.the-decreases-loop-i) {o : Decoded} → c.decode_at.result ≡ o
    → said c.args.s.now c.loop-i.i o ≡ first_bad c.args.s.now
turn c e = sym (turns c.args.s.now c.loop-i.i
    (sym e ∙ c.decode_at.ensures)) ∙ c.loop-i.invariant

pub loop-i-init : goal.loop-i-init
unfolding first_bad
loop-i-init c = c.past_long_blocks-i.ensures.1

pub loop-i-preserved-then-i-j : goal.loop-i-preserved-then-i-j
loop-i-preserved-then-i-j c =
    let s = c.args.s.now in
    let l = c.loop-i in
    let j = c.past_blocks in
    let k = c.run_end in
    (passed_on s l.i k.result c.wide_end-j.result
    (passed_on s l.i j.result k.result j.ensures (passed_run s j.result k.result k.ensures))
    (passed_wides s k.result c.wide_end-j.result c.wide_end-j.ensures)).1 ∙ l.invariant

pub loop-i-smaller : goal.loop-i-smaller
loop-i-smaller c = omega (arith, further c.args.s.now c.loop-i.i c.in-Char.code c.in-Char.next (sym c.in-Char.is ∙ c.decode_at.ensures))

pub loop-i-preserved : goal.loop-i-preserved
loop-i-preserved c = turn c.before.before c.in-Char.is

pub returns-in-Bad : goal.returns-in-Bad
returns-in-Bad c = ⊎_elim (λ e. turn c.before.before e) (λ e. turn c.before.before e) c.in-Bad.is

pub returns-in-End : goal.returns-in-End
returns-in-End c = turn c.before.before c.in-End.is

-- at the end nothing is bad
pub returns : goal.returns
unfolding sequences
returns c = rw (drop_of_length-le c.args.s.now c.loop-i-test.false) at c.loop-i.invariant
