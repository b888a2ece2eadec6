-- The part is cut where two parts join, unless it is cut again; else it stands alone.
use Rattle.numbers.proofs.Grammars.{rectangular_past, rectangular_alone, rectangular_many, rectangular_pair}
use mathlib.Core.Path.{sym, ◌∙◌}
use Rattle.numbers.proofs.complexes.rectangular_at.Goals as goal

pub returns-then-t-from : goal.returns-then-t-from
returns-then-t-from g c = rectangular_past g.met.G.NumberGrammar.cutting _ _ _ _ c.if-t-from.true c.alone.ensures

pub returns-then-t-k : goal.returns-then-t-k
returns-then-t-k g c = rectangular_alone g.met.G.NumberGrammar.cutting _ _ _ _ c.joint_at-k.ensures _ c.if-t-k.true c.alone-then-t-k.ensures

pub returns-then-is_cut_again : goal.returns-then-is_cut_again
returns-then-is_cut_again g c =
    rectangular_many g.met.G.NumberGrammar.cutting _ _ _ _ c.joint_at-k.ensures c.if-t-k.false (sym c.if-is_cut_again.true ∙ c.is_cut_again.ensures)

pub returns-else-is_cut_again : goal.returns-else-is_cut_again
returns-else-is_cut_again g c =
    rectangular_pair g.met.G.NumberGrammar.cutting _ _ _ _ c.joint_at-k.ensures c.if-t-k.false _ (sym c.if-is_cut_again.false ∙ c.is_cut_again.ensures)
    c.pair.ensures
