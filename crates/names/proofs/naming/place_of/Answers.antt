-- A number that has a name has an entry, and its place is that entry's; any other has none.
use mathlib.Core.Path.{sym, ◌∙◌}
use Rattle.names.proofs.Laws.{bounds, mark_facts, party_of, place_of_lem, place_none, place_there, refused_mark, served_mark}
use Rattle.names.proofs.naming.place_of.Goals as goal

pub returns-then-is_err : goal.returns-then-is_err
returns-then-is_err c =
    c.nowhere.ensures ∙ place_none _ _ _ (λ e. refused_mark c.name_mark.result (sym c.is_err.ensures.value ∙ c.if-is_err.true) (c.name_mark.ensures ∙ e))

pub place_at-requires : goal.place_at-requires
place_at-requires c = let f = mark_facts _ _ _ (sym c.name_mark.ensures ∙ served_mark c.name_mark.result (sym c.is_err.ensures.value ∙ c.if-is_err.false)) in record {
  table_words_in_bounds = (bounds _ _ f.0).words;
  party_bound = party_of _ f.1;
  k_lt_half_names = place_of_lem _;
}

pub returns : goal.returns
returns c =
    c.place_at.ensures ∙ place_there _ _ _ (sym c.name_mark.ensures ∙ served_mark c.name_mark.result (sym c.is_err.ensures.value ∙ c.if-is_err.false))
