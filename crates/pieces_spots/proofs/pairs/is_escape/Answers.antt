-- In quotes a backslash and any of these leave an item there (TwoBytes).
use native.Mathlib.Omega.{arith}
use mathlib.Core.Path.{refl, sym, subst}
use Prim.Native.Nat.{ℕ}
use Rattle.laws.specs.Quoted.{code}
use Rattle.laws.proofs.Choice.{no_yes}
use Rattle.items.specs.Classes.{after_backslash}
use Rattle.pieces_spots.specs.Spots.{Escapes}
use Rattle.pieces_spots.proofs.TwoBytes.{simple_escapes}
use Rattle.pieces_spots.proofs.pairs.is_escape.Goals as goal

pub returns-then-stage-ne-QUOTED : goal.returns-then-stage-ne-QUOTED
returns-then-stage-ne-QUOTED c = no_yes

pub returns-in-110 : goal.returns-in-110
unfolding after_backslash
returns-in-110 c = λ e which. subst (λ (b : ℕ). Escapes c.args.stage which b) (sym c.in-110.is) (simple_escapes _ which (omega arith) (code "n") 0x0A (omega arith) refl)

pub returns-in-34 : goal.returns-in-34
unfolding after_backslash
returns-in-34 c = λ e which. subst (λ (b : ℕ). Escapes c.args.stage which b) (sym c.in-34.is) (simple_escapes _ which (omega arith) (code "\"") 0x22 (omega arith) refl)

pub returns-in-92 : goal.returns-in-92
unfolding after_backslash
returns-in-92 c = λ e which. subst (λ (b : ℕ). Escapes c.args.stage which b) (sym c.in-92.is) (simple_escapes _ which (omega arith) (code "\\") 0x5C (omega arith) refl)

pub returns-in-116 : goal.returns-in-116
unfolding after_backslash
returns-in-116 c = λ e which. subst (λ (b : ℕ). Escapes c.args.stage which b) (sym c.in-116.is) (simple_escapes _ which (omega arith) (code "t") 0x09 (omega arith) refl)

pub returns-in-114 : goal.returns-in-114
unfolding after_backslash
returns-in-114 c = λ e which. subst (λ (b : ℕ). Escapes c.args.stage which b) (sym c.in-114.is) (simple_escapes _ which (omega arith) (code "r") 0x0D (omega arith) refl)

pub returns-in-124 : goal.returns-in-124
unfolding after_backslash
returns-in-124 c = λ e which. subst (λ (b : ℕ). Escapes c.args.stage which b) (sym c.in-124.is) (simple_escapes _ which (omega arith) (code "|") 0x7C (omega arith) refl)

pub returns-in-97 : goal.returns-in-97
unfolding after_backslash
returns-in-97 c = λ e which. subst (λ (b : ℕ). Escapes c.args.stage which b) (sym c.in-97.is) (simple_escapes _ which (omega arith) (code "a") 0x07 (omega arith) refl)

pub returns-in-98 : goal.returns-in-98
unfolding after_backslash
returns-in-98 c = λ e which. subst (λ (b : ℕ). Escapes c.args.stage which b) (sym c.in-98.is) (simple_escapes _ which (omega arith) (code "b") 0x08 (omega arith) refl)

pub returns-in-48 : goal.returns-in-48
unfolding after_backslash
returns-in-48 c = λ e which. subst (λ (b : ℕ). Escapes c.args.stage which b) (sym c.in-48.is) (simple_escapes _ which (omega arith) (code "0") 0x00 (omega arith) refl)

pub returns-in_default : goal.returns-in_default
returns-in_default c = no_yes
