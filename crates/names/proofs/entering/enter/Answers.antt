-- Each return is one arm of `enter_of`; what is found bears the name, so that its number fits 32 bits.
use native.Mathlib.Omega.{arith}
use mathlib.Core.Path.{sym, ◌∙◌}
use Rattle.names.proofs.Gives.{enter_new, enter_outside, enter_party, enter_there, find_in, number_small}
use Rattle.names.proofs.Laws.{bounds, readable}
use Rattle.names.proofs.entering.enter.Goals as goal

pub returns-then-not-in_bounds : goal.returns-then-not-in_bounds
returns-then-not-in_bounds c = enter_outside _ _ _ _ (sym c.in_bounds.ensures ∙ c.if-not-in_bounds.true)

pub returns-then-party-ge-PARTIES : goal.returns-then-party-ge-PARTIES
returns-then-party-ge-PARTIES c = enter_party _ _ _ _ (sym c.in_bounds.ensures ∙ c.if-not-in_bounds.false) c.if-party-ge-PARTIES.true

pub find-found-requires : goal.find-found-requires
find-found-requires c =
    let B = bounds _ _ (sym c.in_bounds.ensures ∙ c.if-not-in_bounds.false) in record {
      h_value = c.hash-h.ensures;
      readable = readable _ _ B _ c.if-party-ge-PARTIES.false;
      readable_2 = readable _ _ B _ (omega arith);
    }

pub overflow_cast-result : goal.overflow_cast-result
overflow_cast-result c =
    omega (
      arith,
      number_small _ _ _ (bounds _ _ (sym c.in_bounds.ensures ∙ c.if-not-in_bounds.false)).few
          (find_in _ _ _ _ c.if-party-ge-PARTIES.false (sym c.find-found.ensures.0 ∙ c.in-Some.is)),
    )

pub add-requires : goal.add-requires
add-requires c =
    let B = bounds _ _ (sym c.in_bounds.ensures ∙ c.if-not-in_bounds.false) in
    let two = c.if-party-ge-PARTIES.false in record {
      slot_value = c.find-found.ensures.1;
      tag_value = c.tag_of.ensures ∙ rw c.hash-h.ensures;
      readable = readable _ _ B _ two;
      party_bound = B.short _ two;
    }

pub returns-in-Some : goal.returns-in-Some
returns-in-Some c =
    enter_there _ _ _ _ (sym c.in_bounds.ensures ∙ c.if-not-in_bounds.false)
    c.if-party-ge-PARTIES.false (sym c.find-found.ensures.0 ∙ c.in-Some.is)

pub returns-in-None : goal.returns-in-None
returns-in-None c =
    enter_new _ _ _ _ (sym c.in_bounds.ensures ∙ c.if-not-in_bounds.false)
    c.if-party-ge-PARTIES.false (sym c.find-found.ensures.0 ∙ c.in-None.is) c.add.ensures
