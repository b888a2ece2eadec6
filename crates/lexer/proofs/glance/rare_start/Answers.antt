-- A capital letter and a character past ASCII that is no blank begin a word (telling, Firsts).
use native.Mathlib.Omega.{arith}
use Prim.Native.Nat.{ℕ, zero, suc, ◌≤◌}
use mathlib.Core.Path.{refl}
use mathlib.Core.List.{List}
use lib.ListN.{length, get_or, drop, length-drop}
use Rattle.chars.specs.Wide.{Wide}
use Rattle.chars.proofs.Wide.{is_past, past_fits}
use Rattle.items.specs.declared.Phase.TheVariants as ph
use Rattle.items_telling.proofs.Firsts.{capital_begins}
use Rattle.lexer.proofs.Glances.{begins, begins_past}
use Rattle.lexer.proofs.glance.rare_start.Goals as goal

fits : (l : List ℕ) (n : ℕ) → Wide l n → n ≤ length l
fits l zero w = omega arith
fits l (suc n) w = past_fits l (suc n) w

pub returns-then-source-at-lt-ASCII_END : goal.returns-then-source-at-lt-ASCII_END
returns-then-source-at-lt-ASCII_END c h =
    let b = get_or c.args.source.now c.args.at 0 in
    let k = capital_begins b c.requires.2.0 (c.requires.2.1 c.if-source-at-lt-ASCII_END.true) in
    record {
      begins = begins c.args.source.now c.args.at b ph.InWord c.requires.1 refl c.if-source-at-lt-ASCII_END.true k.0 k.1;
      other = λ e. omega (arith, e, c.requires.2.0);
    }

pub overflow_add-result-2 : goal.overflow_add-result-2
overflow_add-result-2 c =
    let s = c.args.source.now in
    omega (arith, c.requires.0, c.requires.1, fits (drop c.args.at s) c.letter_at.result c.letter_at.ensures.0, length-drop c.args.at s)

pub returns : goal.returns
returns c h =
    let s = c.args.source.now in
    let n = c.letter_at.result in
    record {
      begins = begins_past s c.args.at n (is_past (drop c.args.at s) n (omega arith) c.letter_at.ensures.0) c.letter_at.ensures.1;
      other = λ e. omega (arith, e, c.requires.2.0);
    }
