-- Each of the bytes ends a word that starts with a number sign, by the definition's class of it.
use native.Mathlib.Omega.{arith}
use mathlib.Core.Path.{◌≡◌, refl, sym, subst}
use mathlib.Core.Logic.{◌⊎◌, inl, inr}
use Prim.Native.Nat.{ℕ, ◌<◌}
use Rattle.laws.proofs.Choice.{impossible}
use Rattle.chars.specs.Blank.{is_blank}
use Rattle.items.specs.Classes.{ends_hash, in_hash, stops_hash}
use Rattle.lexer.proofs.glance.ends_hash.Goals as goal

abbrev Ends : ℕ → Type 0
Ends b = (b < 0x80) × (in_hash b ≡ stops_hash)

ends : (b : ℕ) → (b ≡ 10) ⊎ ((b ≡ 32) ⊎ ((b ≡ 41) ⊎ (b ≡ 93))) → Ends b
unfolding in_hash ends_hash is_blank
ends b (inl e) = subst Ends (sym e) (omega arith, refl)
ends b (inr (inl e)) = subst Ends (sym e) (omega arith, refl)
ends b (inr (inr (inl e))) = subst Ends (sym e) (omega arith, refl)
ends b (inr (inr (inr e))) = subst Ends (sym e) (omega arith, refl)

pub returns-in-41 : goal.returns-in-41
returns-in-41 c e = ends c.args.b c.in-41.is

pub returns-in_default : goal.returns-in_default
returns-in_default c e = impossible cc
