-- A lent call does what the call by value does, `same_piece` and `same_end` of crate `pieces_lent`, so any lent calls add up to what those by value add
-- up to, with the state lent; and what crate `pieces_any_calls` says of these holds of them.
use Rattle.refusal.specs.Refusals as refusal
use Rattle.std.specs.Prelude.{if◌then◌else◌}
use Rattle.items.specs.Whole.{in_report}
use Rattle.pieces.specs.declared.State.{State as ByValue}
use Rattle.pieces.specs.Calls.{finished, refused}
use Rattle.pieces.specs.Expected.{expected, longest}
use Rattle.pieces.specs.Expected as word
use Rattle.pieces.specs.Produced.{Produced, opened, pieced, ended, given_by}
use Rattle.pieces_lent.specs.Calls.{Said, lend, worded}
use Rattle.pieces_lent.proofs.Same.{same_open, same_piece, same_end}
use Rattle.pieces.specs.Bounds.{Stops}
use Rattle.pieces_any_calls.specs.After.{Call, piece, end, memory, Begins, reply_to}
use Rattle.pieces_any_calls.specs.After as value
use Rattle.pieces_any_calls.proofs.After as by
use Rattle.exports_theorems.specs.After.{said_to, Sum, with, after, sum_of, Refusal, short, late, stops}
use Prim.Native.Nat.{ℕ, ◌<◌}
use mathlib.Core.Path.{◌≡◌, refl, sym, ap, subst, ◌∙◌}
use mathlib.Core.Bool.{Bool, true, false}
use mathlib.Core.List.{List, [], ◌∷◌, ◌++◌}
use lib.ListN.{length, take}
use lib.Dec.{leb}

-- a sum, its state lent
abbrev pub lends : value.Sum → Sum
lends h = record { taken = h.taken; items = h.items; ended = h.ended; state = lend h.state }

same_said : (s : ByValue) → Produced s → (c : Call) → said_to (lend s) c ≡ worded (reply_to s c)
same_said s made (piece bs room) = same_piece made bs room
same_said s made (end room) = same_end made room

same_with : (h : value.Sum) → Produced h.state → (c : Call) → with (lends h) c ≡ lends (value.with h c)
same_with h made (piece bs room) =
    ap (λ (r : Said). record { taken = h.taken ++ take r.taken bs; items = h.items ++ given_by r.what; ended = h.ended; state = r.state }) (same_piece made bs room)
same_with h made (end room) =
    ap (λ (r : Said). record { taken = h.taken; items = h.items ++ given_by r.what; ended = if leb longest room then true else h.ended; state = r.state }) (same_end made room)

made_with : (h : value.Sum) → Produced h.state → (c : Call) → Produced (value.with h c).state
made_with h made (piece bs room) = pieced made bs room
made_with h made (end room) = ended made room

made_after : (h : value.Sum) → Produced h.state → (calls : List Call) → Produced (value.after h calls).state
unfolding value.after
made_after h made [] = made
made_after h made (c ∷ calls) = made_after (value.with h c) (made_with h made c) calls

same_after : (h : value.Sum) → Produced h.state → (calls : List Call) → after (lends h) calls ≡ lends (value.after h calls)
unfolding after value.after
same_after h made [] = refl
same_after h made (c ∷ calls) = ap (λ (s : Sum). after s calls) (same_with h made c) ∙ same_after (value.with h c) (made_with h made c) calls

module _ (mode : ℕ) (skip : Bool) (buf : List ℕ) (full : length buf ≡ longest) where
  -- ANY LENT CALLS ADD UP TO WHAT THE CALLS BY VALUE ADD UP TO.
  pub same_calls : (calls : List Call) → sum_of mode skip buf calls ≡ lends (value.sum_of mode skip calls)
  same_calls calls =
      ap (λ (u : Said). after (record { taken = []; items = []; ended = false; state = u.state }) calls) (same_open mode skip buf full)
      ∙ same_after (value.opened mode skip) (opened mode skip) calls

  -- ANY LENT CALL ANSWERS WHAT THE CALL BY VALUE ANSWERS, whatever lent calls were made before.
  pub same_answer : (calls : List Call) (c : Call) → said_to (sum_of mode skip buf calls).state c ≡ worded (reply_to (value.sum_of mode skip calls).state c)
  same_answer calls c =
      ap (λ (h : Sum). said_to h.state c) (same_calls calls)
      ∙ same_said (value.sum_of mode skip calls).state (made_after (value.opened mode skip) (opened mode skip) calls) c

  module _ (is : mode < 2) where
    -- WHATEVER LENT CALLS WERE MADE, the items that they gave are a beginning of those of the text.
    pub items_begin_lent : (calls : List Call) (behind : List ℕ) → let h : Sum = sum_of mode skip buf calls in
        (h.ended ≡ true → behind ≡ []) → Begins h.items (expected (in_report mode) skip (h.taken ++ behind)).items
    items_begin_lent calls behind =
        subst (λ (h : Sum). (h.ended ≡ true → behind ≡ []) → Begins h.items (expected (in_report mode) skip (h.taken ++ behind)).items) (sym (same_calls calls))
        (by.items_begin mode skip is calls behind)

    -- WHATEVER LENT CALLS WERE MADE, when one says "finished" all items of the bytes taken were given, and the text has no stop.
    pub finished_all_lent : (calls : List Call) (c : Call) → let h : Sum = sum_of mode skip buf calls in
        (said_to h.state c).what ≡ finished → expected (in_report mode) skip h.taken ≡ record { items = h.items; last = word.finished }
    finished_all_lent calls c e =
        subst (λ (h : Sum). expected (in_report mode) skip h.taken ≡ record { items = h.items; last = word.finished }) (sym (same_calls calls))
        (by.finished_all mode skip is calls c (sym (ap (λ (u : Said). u.what) (same_answer calls c)) ∙ e))

    with_lent : (calls : List Call) (c : Call) → with (sum_of mode skip buf calls) c ≡ lends (value.with (value.sum_of mode skip calls) c)
    with_lent calls c =
        ap (λ (h : Sum). with h c) (same_calls calls)
        ∙ same_with (value.sum_of mode skip calls) (made_after (value.opened mode skip) (opened mode skip) calls) c

    -- WHATEVER LENT CALLS WERE MADE, when one says a stop all items before it were given.
    pub stop_all_lent : (calls : List Call) (c : Call) (n p : ℕ) (behind : List ℕ) → let h : Sum = sum_of mode skip buf calls in
        (said_to h.state c).what ≡ refused n p → Stops n → ((with h c).ended ≡ true → behind ≡ [])
        → expected (in_report mode) skip ((with h c).taken ++ behind) ≡ record { items = h.items; last = word.refused n p }
    stop_all_lent calls c n p behind e z f =
        ap (λ (h : Sum). expected (in_report mode) skip (h.taken ++ behind)) (with_lent calls c)
        ∙ by.stop_all mode skip is calls c n p behind (sym (ap (λ (u : Said). u.what) (same_answer calls c)) ∙ e) z
        (subst (λ (h : Sum). h.ended ≡ true → behind ≡ []) (with_lent calls c) f)
        ∙ ap (λ (h : Sum). record { items = h.items; last = word.refused n p }) (sym (same_calls calls))

    -- a call without memory enough is refused with 24
    pub short_refused_lent : (calls : List Call) (c : Call) → memory c < longest → (said_to (sum_of mode skip buf calls).state c).what ≡ refused refusal.little_text 0
    short_refused_lent calls c narrow = ap (λ (u : Said). u.what) (same_answer calls c) ∙ by.short_refused mode skip is calls c narrow

    -- WHATEVER LENT CALLS WERE MADE, a call is refused with 24, by its memory, or with 26, after the end, and then nothing changes; or by a stop.
    pub refusals_lent : (calls : List Call) (c : Call) (n p : ℕ) → let h : Sum = sum_of mode skip buf calls in
        (said_to h.state c).what ≡ refused n p → Refusal h c n
    refusals_lent calls c n p e = go (by.refusals mode skip is calls c n p (sym (ap (λ (u : Said). u.what) (same_answer calls c)) ∙ e))
      where
        same : value.with (value.sum_of mode skip calls) c ≡ value.sum_of mode skip calls
            → with (sum_of mode skip buf calls) c ≡ sum_of mode skip buf calls
        same f = with_lent calls c ∙ ap lends f ∙ sym (same_calls calls)

        go : value.Refusal (value.sum_of mode skip calls) c n → Refusal (sum_of mode skip buf calls) c n
        go (value.short a b f) = short a b (same f)
        go (value.late a b f) = late (ap (λ (h : Sum). h.ended) (same_calls calls) ∙ a) b (same f)
        go (value.stops z) = stops z
