-- Each of the bytes is an escape by its row of `after_backslash`.
use native.Mathlib.Omega.{arith}
use mathlib.Core.Path.{◌≡◌, refl, sym, subst}
use mathlib.Core.Logic.{⊎_elim}
use Prim.Native.Nat.{ℕ}
use Rattle.laws.proofs.Choice.{no_yes}
use Rattle.items.specs.Classes.{after_backslash}
use Rattle.items_telling.specs.Strings.{Short}
use Rattle.items_telling.proofs.strings.is_short.Goals as goal

-- by the byte that it is
by : (k c : ℕ) → Short k → c ≡ k → Short c
by k c S e = subst Short (sym e) S

pub returns-in-34 : goal.returns-in-34
unfolding after_backslash
returns-in-34 c t =
    ⊎_elim (λ e. by _ _ (omega arith, λ from i. refl) e)
    (λ f. ⊎_elim (λ e. by _ _ (omega arith, λ from i. refl) e) (λ e. by _ _ (omega arith, λ from i. refl) e) f) c.in-34.is

pub returns-in-97 : goal.returns-in-97
unfolding after_backslash
returns-in-97 c t =
    ⊎_elim (λ e. by _ _ (omega arith, λ from i. refl) e)
    (λ f. ⊎_elim (λ e. by _ _ (omega arith, λ from i. refl) e)
    (λ g. ⊎_elim (λ e. by _ _ (omega arith, λ from i. refl) e) (λ e. by _ _ (omega arith, λ from i. refl) e) g) f) c.in-97.is

pub returns-in-98 : goal.returns-in-98
unfolding after_backslash
returns-in-98 c t = ⊎_elim (λ e. by _ _ (omega arith, λ from i. refl) e) (λ e. by _ _ (omega arith, λ from i. refl) e) c.in-98.is

pub returns-in_default : goal.returns-in_default
returns-in_default c = no_yes
