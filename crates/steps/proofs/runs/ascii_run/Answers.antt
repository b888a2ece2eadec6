-- In each phase the run is that of the phase's characters; in a phase that has none nothing is passed.
use native.Mathlib.Omega.{arith}
use Prim.Native.Nat.{ℕ, ◌+◌}
use mathlib.Core.Path.{◌≡◌, sym, ap, ◌∙◌}
use mathlib.Core.Bool.{false}
use mathlib.Core.List.{List, [], ◌∷◌}
use lib.ListN.{drop}
use denote.Enum.Declared.{tag_of}
use types.Run.{OneOf, miss}
use borrow.Enum.Refused.{opened}
use Rattle.laws.specs.Quoted.{code}
use Rattle.laws.specs.Texts.{span}
use Rattle.byte_runs.specs.Runs.{plain}
use Rattle.items.specs.declared.Phase.{Phase}
use Rattle.items.specs.declared.Phase.TheVariants as ph
use Rattle.items.specs.contracts.Phase.{the_type}
use Rattle.steps.specs.Runs.{keeps}
use Rattle.steps.proofs.runs.ascii_run.Goals as goal

-- a run that is as long as the phase's
along : (p q : Phase) → q ≡ p → (at : ℕ) (l : List ℕ) {r : ℕ} → r ≡ at + span (keeps q) l → r ≡ at + span (keeps p) l
along p q e at l h = h ∙ ap (λ (x : Phase). at + span (keeps x) l) e

-- the tags of the phases without a run
abbrev others : List ℕ
others = 1 ∷ 2 ∷ 3 ∷ 4 ∷ 5 ∷ 6 ∷ 8 ∷ 11 ∷ 12 ∷ 13 ∷ 15 ∷ 16 ∷ 18 ∷ 19 ∷ 20 ∷ 21 ∷ 22 ∷ 23 ∷ 24 ∷ []

pass-none : (at : ℕ) (l : List ℕ) → at ≡ at + span (λ c. false) l
unfolding span
pass-none at [] = omega arith
pass-none at (c ∷ l) = omega arith

-- in one of them nothing is passed
none : (p : Phase) → OneOf others (tag_of the_type p) → (at : ℕ) (l : List ℕ) → at ≡ at + span (keeps p) l
none ph.InLine h at l = absurd (miss others 0 tt h)
none ph.AfterComma h at l = pass-none at l
none ph.AfterHash h at l = pass-none at l
none ph.AfterAngle h at l = pass-none at l
none ph.HereDelim h at l = pass-none at l
none ph.HereStart h at l = pass-none at l
none ph.HereBody h at l = pass-none at l
none ph.InWord h at l = absurd (miss others 7 tt h)
none ph.WordEscape h at l = pass-none at l
none ph.InRun h at l = absurd (miss others 9 tt h)
none ph.InHash h at l = absurd (miss others 10 tt h)
none ph.HashEscape h at l = pass-none at l
none ph.HashTick h at l = pass-none at l
none ph.HashComma h at l = pass-none at l
none (ph.Nest d) h at l = absurd (miss others 14 tt h)
none (ph.NestBar d) h at l = pass-none at l
none (ph.NestSharp d) h at l = pass-none at l
none (ph.Quoted k) h at l = absurd (miss others 17 tt h)
none (ph.Closed k) h at l = pass-none at l
none (ph.TrimBefore k) h at l = pass-none at l
none (ph.TrimAfter k) h at l = pass-none at l
none (ph.Escape k from) h at l = pass-none at l
none (ph.Brace k from) h at l = pass-none at l
none (ph.Hex k closer from n) h at l = pass-none at l
none (ph.Done o) h at l = pass-none at l

pub returns-in-InLine : goal.returns-in-InLine
returns-in-InLine c = along _ _ (sym c.in-InLine.is) _ _ c.plain_end.ensures

pub returns-in-Nest : goal.returns-in-Nest
returns-in-Nest c = along _ _ (sym c.in-Nest.is) _ _ c.plain_end-in-Nest.ensures

pub returns-in-Quoted : goal.returns-in-Quoted
returns-in-Quoted c =
    let f = c.args in
    along _ _ (sym c.in-Quoted.is) _ _
    (c.plain_end-in-Quoted.ensures ∙ ap (λ (d : ℕ). f.at + span (plain d (code "\\")) (drop f.at f.s.now)) c.delimiter.ensures)

pub returns-in-InWord : goal.returns-in-InWord
returns-in-InWord c = along _ _ (sym c.in-InWord.is) _ _ c.word_end.ensures

pub returns-in-InRun : goal.returns-in-InRun
returns-in-InRun c = along _ _ (sym c.in-InRun.is) _ _ c.number_end.ensures

pub returns-in-InHash : goal.returns-in-InHash
returns-in-InHash c = along _ _ (sym c.in-InHash.is) _ _ c.word_end-in-InHash.ensures

pub returns-in_default : goal.returns-in_default
returns-in_default c = let f = c.args in none f.phase (opened c.in_default.in_default-own.keys7) f.at (drop f.at f.s.now)
