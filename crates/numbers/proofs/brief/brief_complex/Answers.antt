-- A real, a sign, and a real from the sign on that ends before the last byte, an `i`.
use Rattle.std.proofs.Common.{Some}
use Rattle.numbers.proofs.Outlines.{outline_real, outline_to, is_told_lem}
use Prim.Native.Nat.{ℕ, ◌-◌}
use mathlib.Core.Path.{◌≡◌, sym, ap, ◌∙◌}
use lib.ListN.{length, get_or}
use native.Mathlib.Omega.{arith}
use Rattle.numbers.proofs.brief.brief_complex.Goals as goal

pub returns : goal.returns
returns c =
    let two = c.outline_at-two.ensures in
    let begun = c.requires.0 in
    let end = begun.5 in
    let tail = c.if-end-t.false in
    let last : c.outline_at-two.result.end ≡ length c.args.t.now - 1 = omega arith in (
      c.args.one.end,
      begun.5,
      c.requires.1,
      ap (λ (n : ℕ). get_or c.args.t.now n 0) (sym last) ∙ c.if-t-end-ne105.false,
      ap Some c.real_of.ensures
          ∙ outline_real c.args.t.now 0 c.args.one begun.1 (omega arith) begun.2 (omega arith) begun.3 begun.4,
      ap Some c.real_of-2.ensures
          ∙ outline_to c.args.t.now _ c.outline_at-two.result two.0 two.3 two.1 _ (omega arith) two.2
          (is_told_lem _ c.if-not-is_sound.false-raw ∙ c.is_sound.ensures) last,
    )
