-- What the first look does not tell leaves both memories as they were, and is asked again.
use Prim.Native.Nat.{ℕ}
use mathlib.Core.Path.{sym, subst}
use mathlib.Core.List.{List}
use Rattle.std.proofs.Common.{Option}
use Rattle.pieces_quick.specs.declared.QuickItem.{QuickItem}
use Rattle.pieces_quick.specs.Gives.{Held, Finished}
use Rattle.pieces_quick.proofs.finishing.give_item.Goals as goal

pub finish_decoded-requires : goal.finish_decoded-requires
finish_decoded-requires c =
    let w = c.args.w in
    let s = c.args.s in
    let first = c.finish in
    let same = subst (λ (q : Option QuickItem). Finished w s c.args.b c.args.buf.now first.new.buf c.args.text.now
    first.new.text q) c.in-None.is first.ensures in
    subst (λ (l : List ℕ). Held w s l first.new.text) (sym same.0) (subst (λ (l : List ℕ). Held w s c.args.buf.now l) (sym same.1) c.requires)

pub returns-in-Some : goal.returns-in-Some
returns-in-Some c =
    let first = c.finish in
    subst (λ (q : Option QuickItem). Finished c.args.w c.args.s c.args.b c.args.buf.now first.new.buf c.args.text.now
    first.new.text q) c.in-Some.is first.ensures

pub returns-in-None : goal.returns-in-None
returns-in-None c =
    let w = c.args.w in
    let s = c.args.s in
    let first = c.finish in
    let same = subst (λ (q : Option QuickItem). Finished w s c.args.b c.args.buf.now first.new.buf c.args.text.now
    first.new.text q) c.in-None.is first.ensures in
    let last = c.finish_decoded in
    subst (λ (l : List ℕ). Finished w s c.args.b l last.new.buf c.args.text.now last.new.text last.result) same.0
    (subst (λ (l : List ℕ). Finished w s c.args.b first.new.buf last.new.buf l last.new.text last.result) same.1 last.ensures)
