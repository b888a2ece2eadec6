-- The ends by the tests of the code: those left say what all say.
use Rattle.laws.proofs.Places.{here}
use Rattle.lexer_fields.specs.Fields.{is_in_order}
use Prim.Native.Nat.{ℕ, ◌+◌, ◌≤◌, ◌<◌}
use mathlib.Core.Path.{◌≡◌, sym, ap, ◌∙◌}
use mathlib.Core.Bool.{true, false}
use mathlib.Core.List.{List, ◌∷◌}
use lib.ListN.{length, get_or, drop, drop_of_length-le}
use borrow.Author.Tests.{le-leb, lt-leb}

module _ (n : ℕ) (ends : List ℕ) (i from : ℕ) where
  pub ends_done : length ends ≤ i → true ≡ is_in_order n from (drop i ends)
  unfolding is_in_order
  ends_done h = sym (ap (is_in_order n from) (drop_of_length-le ends h))

  module _ (h : i < length ends) where
    next : is_in_order n from (drop i ends) ≡ is_in_order n from (get_or ends i 0 ∷ drop (i + 1) ends)
    next = ap (is_in_order n from) (here ends i h)

    pub goes_back : get_or ends i 0 < from → false ≡ is_in_order n from (drop i ends)
    unfolding is_in_order
    goes_back k = sym (next ∙ rw (lt-leb from (get_or ends i 0) k))

    module _ (k : from ≤ get_or ends i 0) where
      pub goes_past : n < get_or ends i 0 → false ≡ is_in_order n from (drop i ends)
      unfolding is_in_order
      goes_past l = sym (next ∙ rw (le-leb from (get_or ends i 0) k, lt-leb (get_or ends i 0) n l))

      pub end_follows : get_or ends i 0 ≤ n → is_in_order n (get_or ends i 0) (drop (i + 1) ends) ≡ is_in_order n from (drop i ends)
      unfolding is_in_order
      end_follows l = sym (next ∙ rw (le-leb from (get_or ends i 0) k, le-leb (get_or ends i 0) n l))
