-- The delimiter and the body of a here-string are parts of its extent.
use Rattle.laws.proofs.Choice.{by_bool}
use Rattle.laws.specs.Quoted.{code}
use Rattle.laws.specs.Texts.{before}
use Rattle.items.specs.Readers.{unreturned, line_of, after_line, here_inside}
use Prim.Native.Nat.{ℕ, ◌≤◌, ◌+◌}
use mathlib.Core.Path.{◌≡◌, ap, ◌∙◌}
use mathlib.Core.List.{List, [], ◌∷◌}
use lib.ListN.{length, take, drop, length-take, length-drop}
use lib.Seq.{drop-drop}
use lib.Dec.{eqb}
use native.Mathlib.Omega.{arith}
use native.Mathlib.Nat.{le_refl}

pub unreturned_le : (l : List ℕ) → length (unreturned l) ≤ length l
unfolding unreturned
unreturned_le [] = le_refl 0
unreturned_le (c ∷ l) = by_bool (eqb c (code "\r")) (λ e. rw (e, unreturned) (omega (arith, unreturned_le l))) (λ e. rw (e, unreturned) (omega (arith, unreturned_le l)))

pub body_within : (raw : List ℕ) → length (after_line (here_inside raw)) ≤ length raw
body_within raw = omega (arith, length-drop (before (code "\n") (here_inside raw) + 1) (here_inside raw), length-drop 3 raw)

pub delimiter_within : (raw : List ℕ) → length (line_of (here_inside raw)) ≤ length raw
delimiter_within raw =
    omega (arith, unreturned_le (take (before (code "\n") (here_inside raw)) (here_inside raw)), length-take (before (code "\n") (here_inside raw)) (here_inside raw), length-drop 3 raw)

-- what follows the line of what follows the mark, a step at a time
pub body_after : (raw a b d : List ℕ) (n : ℕ) → a ≡ drop 3 raw → n ≡ before (code "\n") (here_inside raw) → b ≡ drop n a → d ≡ drop 1 b
    → length d ≡ length (after_line (here_inside raw))
body_after raw a b d n ha hn hb hd =
    ap length (hd ∙ ap (drop 1) (hb ∙ ap (drop n) ha) ∙ drop-drop 1 n (drop 3 raw)) ∙ ap (λ (m : ℕ). length (drop (m + 1) (drop 3 raw))) hn
