-- In each phase the run is that of the phase's characters (Letters); in a here-string's body it is all up to its end; in a phase that has
-- none nothing is passed.
use native.Mathlib.Omega.{arith}
use Prim.Native.Nat.{ℕ}
use mathlib.Core.Path.{refl, sym, subst}
use Rattle.laws.specs.Quoted.{code}
use Rattle.items.specs.declared.Phase.TheVariants as ph
use Rattle.steps.specs.Held.{Holds}
use Rattle.steps.proofs.Kept.{passes}
use Rattle.steps.proofs.Letters.{passes_none, passes_as, passes_for, line_holds, nest_holds, quoted_holds}
use Rattle.steps.proofs.runs.run_end.Goals as goal

pub returns-in-InLine : goal.returns-in-InLine
returns-in-InLine c =
    passes_for _ _ _ _ _ _ c.requires.0 (sym c.in-InLine.is)
    (c.past_plain.ensures ph.InLine line_holds)

pub returns-in-Nest : goal.returns-in-Nest
returns-in-Nest c =
    let d = c.in-Nest.field-0 in
    passes_for _ _ _ _ _ _ c.requires.0 (sym c.in-Nest.is)
    (c.past_plain-in-Nest.ensures (ph.Nest d) (nest_holds d))

pub returns-in-Quoted : goal.returns-in-Quoted
returns-in-Quoted c =
    let k = c.in-Quoted.k in
    passes_for _ _ _ _ _ _ c.requires.0 (sym c.in-Quoted.is) (c.past_plain-in-Quoted.ensures (ph.Quoted k)
    (subst (λ (d : ℕ). Holds (ph.Quoted k) d (code "\\")) (sym c.delimiter.ensures) (quoted_holds k)))

pub returns-in-InWord : goal.returns-in-InWord
returns-in-InWord c =
    passes_for _ _ _ _ _ _ c.requires.0 (sym c.in-InWord.is) c.past_word.ensures.0

pub returns-in-InRun : goal.returns-in-InRun
returns-in-InRun c =
    passes_for _ _ _ _ _ _ c.requires.0 (sym c.in-InRun.is)
    (passes c.args.s.now c.args.at ph.InRun c.number_end.result c.requires.1 (omega (arith, c.number_end.ensures))
    (omega (arith, c.number_end.ensures)))

pub returns-in-InHash : goal.returns-in-InHash
returns-in-InHash c =
    passes_for _ _ _ _ _ _ c.requires.0 (sym c.in-InHash.is)
    (passes c.args.s.now c.args.at ph.InHash c.word_end.result c.requires.1 (omega (arith, c.word_end.ensures))
    (omega (arith, c.word_end.ensures)))

pub returns-in-HereBody : goal.returns-in-HereBody
returns-in-HereBody c = passes_as _ _ _ _ _ _ (sym c.in-HereBody.is) c.past_body.ensures

pub returns-in_default : goal.returns-in_default
returns-in_default c =
    let p = c.requires in passes_for _ _ _ _ _ _ p.0 refl (passes_none _ _ _ p.1)
