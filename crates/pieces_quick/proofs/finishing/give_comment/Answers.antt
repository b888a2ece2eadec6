-- A comment that is whole is a token without text, given as any other (Giving: nothing_copied, gives-item).
use borrow.Author.Tests.{ne_eqb}
use native.Mathlib.Omega.{arith}
use Prim.Native.Nat.{ℕ}
use mathlib.Core.Path.{◌≡◌, refl, ap, ◌∙◌, subst}
use mathlib.Core.Bool.{Bool, false, ◌&&◌}
use lib.Dec.{eqb}
use lib.ListN.{take}
use Rattle.items.specs.Kinds as kind
use Rattle.items.specs.Whole.{in_report}
use Rattle.items.specs.Items.{range}
use Rattle.meaning.specs.Meant.{means}
use Rattle.meaning.specs.declared.Means.{Means}
use Rattle.meaning.specs.declared.Text.TheVariants.{Nowhere}
use Rattle.pieces_spots.specs.Spots.{Ended}
use Rattle.pieces_spots.proofs.Ends.{token_ends}
use Rattle.pieces_quick.specs.Gives.{Finishes}
use Rattle.pieces_quick.proofs.Giving.{nothing_copied, gives_item}
use Rattle.pieces_quick.proofs.finishing.give_comment.Goals as goal

pub record_of-r-requires : goal.record_of-r-requires
record_of-r-requires c =
    let k = c.requires.0.held (omega (arith, c.requires.1)) in
    (omega (arith, k.0, c.requires.0.far), omega (arith, c.requires.0.far))

pub returns : goal.returns
returns c =
    let w = c.args.w in
    let s = c.args.s in
    let buf = c.args.buf.now in
    let f = c.first-f.result in
    let m : Means = means kind.Comment 0 Nowhere in
    let k = c.requires.0.held (omega (arith, c.requires.1)) in
    let is : means s.which s.detail Nowhere ≡ m =
    ap (λ (x : ℕ). means x s.detail Nowhere) c.requires.2 ∙ ap (λ (x : ℕ). means kind.Comment x Nowhere) c.requires.3 in
    let ended : Ended s.stage s.which s.detail c.args.b s.start (take s.len buf) m =
    subst (λ (x : Means). Ended s.stage s.which s.detail c.args.b s.start (take s.len buf) x) is
    (token_ends s.stage s.which s.detail c.args.b s.start (take s.len buf) 0 c.requires.1 (omega (arith, c.requires.2))) in
    let F : Finishes s c.args.b f buf m = record {
      held = k.0;
      some = k.1;
      ended = ended;
      firsts = c.first-f.ensures;
      told = omega (arith, c.if-f-lt-IDLE.false);
    } in
    let kept : (eqb w.skip 1 && eqb kind.Comment kind.Comment) ≡ false =
    ap (λ (x : Bool). x && eqb kind.Comment kind.Comment) (ne_eqb w.skip 1 c.if-w-eq-YES.false) in
    let text = c.args.text.now in
    let gave = nothing_copied w.depth m s (take s.len buf) text text c.record_of-r.result ended.fine refl refl refl
    c.record_of-r.ensures
    (in_report w.mode) (range w.from w.to) in
    let next = c.after-next in
    gives_item w s buf text c.requires.0 c.args.b f m F kept (range w.from w.to) _ _ gave.0 gave.1 next.result _ _ next.ensures.0
    (next.ensures.1 w c.requires.0.left kind.Comment w.depth c.requires.0.ready refl)
