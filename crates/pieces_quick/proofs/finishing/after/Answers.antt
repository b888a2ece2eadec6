-- A blank leaves the reader between items, any other byte begins one (Giving).
use native.Mathlib.Omega.{arith}
use mathlib.Core.Path.{refl}
use Rattle.pieces_quick.proofs.Giving.{after_blank, after_solid}
use Rattle.pieces_quick.proofs.finishing.after.Goals as goal

pub returns-then-f-eq-IDLE : goal.returns-then-f-eq-IDLE
returns-then-f-eq-IDLE c =
    let told = c.requires.3.blank (omega arith) in (
      refl,
      λ w left k d R e. after_blank w left R c.args.s c.args.buf.now c.requires.0 c.args.b k d e told.0 told.1 _ refl,
    )

pub returns : goal.returns
returns c = (
  refl,
  λ w left k d R e. after_solid w left R c.args.s c.args.buf.now c.requires.0 c.args.b k d e c.args.f (c.requires.3.begins (omega arith)) _ refl,
)
