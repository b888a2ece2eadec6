-- The calls, from what their parts find.
use Rattle.std.proofs.Common.{Option, None, Some}
use mathlib.Core.Path.{◌≡◌, refl, sym, ◌∙◌, subst}
use mathlib.Core.Bool.{Bool, true, false}
use mathlib.Core.List.{List, [], ◌∷◌}
use Prim.Native.Nat.{ℕ, ◌+◌, ◌-◌, ◌*◌, ◌≤◌, ◌<◌}
use native.Mathlib.Omega.{arith}
use lib.ListN.{length, drop, get_or, set}
use borrow.Author.Tests.{lt-ltb, le-ltb}
use Rattle.laws.specs.Lent.{written}
use Rattle.laws.specs.Texts.{same}
use Rattle.laws.proofs.Places.{past, here}
use Rattle.refusal.specs.Refusals.{over_long, not_utf8, lines_no_room, no_place, alien}
use Rattle.chars.specs.Utf8.{first_bad, sequences}
use Rattle.refusal.specs.Refusals.{limit}
use Rattle.lines.specs.Starts.{starts, outcome, build_of}
use Rattle.lines.specs.Starts as answer
use Rattle.lines.specs.Place.{Where, Refused, is_index, line_of, column, since, answered, place_of, locate_of, Search}
use Rattle.lines.specs.Many.{line_word, column_word, answers, locate_all_of}
use Rattle.lines.proofs.Line.{starts_search}
use Rattle.lines.proofs.Bounds.{since_line}
use Rattle.lines.proofs.Index.{index_is}
use Rattle.lines_calls.specs.Left.{stored}
use Rattle.lines_calls.proofs.Stored.{stored-written}

-- ---- building

module _ (s memory : List ℕ) where
  pub builds_long : limit < length s → outcome (answer.Refused over_long limit) memory ≡ build_of s memory
  unfolding build_of
  builds_long h = rw (lt-ltb limit (length s) h)

  module _ (h : length s ≤ limit) where
    pub builds_bad : {at : ℕ} → first_bad s ≡ Some at → outcome (answer.Refused not_utf8 at) memory ≡ build_of s memory
    unfolding build_of
    builds_bad e = rw (le-ltb limit (length s) h, e)

    pub builds_short : {n : ℕ} → first_bad s ≡ None → n ≡ length (starts s) → length memory < n → outcome (answer.Refused lines_no_room n) memory ≡ build_of s memory
    unfolding build_of
    builds_short {n} e c l = rw (le-ltb limit (length s) h, e, ← c, lt-ltb (length memory) n l)

    pub builds_all : {n : ℕ} {now : List ℕ} → first_bad s ≡ None → n ≡ length (starts s) → n ≤ length memory → now ≡ written (starts s) memory
        → outcome (answer.Served n) now ≡ build_of s memory
    unfolding build_of
    builds_all {n} e c l w = rw (w, le-ltb limit (length s) h, e, ← c, le-ltb (length memory) n l)

-- ---- whether an index is a text's

module _ (s index : List ℕ) where
  pub index_long : limit < length s → false ≡ is_index s index
  unfolding is_index
  index_long h = rw (lt-ltb limit (length s) h)

  pub index_bad : {at : ℕ} → length s ≤ limit → first_bad s ≡ Some at → false ≡ is_index s index
  unfolding is_index
  index_bad h e = rw (le-ltb limit (length s) h, e)

  pub index_good : {r : Bool} → length s ≤ limit → first_bad s ≡ None → r ≡ same (starts s) index → r ≡ is_index s index
  unfolding is_index
  index_good h e q = rw (le-ltb limit (length s) h, e) q

  pub index_search : (p : ℕ) → is_index s index ≡ true → Search index p
  index_search p e = rw (index_is s index e).2 (starts_search s p)

  -- ---- one place

  module _ (p : ℕ) where
    pub locates_other : is_index s index ≡ false → Refused alien 0 ≡ locate_of s index p
    unfolding locate_of
    locates_other e = rw e

    module _ (e : is_index s index ≡ true) where
      pub locates : {r : Where} → r ≡ place_of s index p → r ≡ locate_of s index p
      unfolding locate_of
      locates q = rw e q

      pub place_past : length s < p → Refused no_place p ≡ place_of s index p
      unfolding place_of
      place_past h = rw (lt-ltb (length s) p h)

      -- the characters since a line's start are those of the rest of the text
      line_since : (line : ℕ) → line < length index → since (get_or index line 0) (sequences 0 0 s) ≡ sequences 0 (get_or index line 0) (drop (get_or index line 0) s)
      line_since line h =
          subst
          (λ (l : List ℕ). line < length l → since (get_or l line 0) (sequences 0 0 s) ≡ sequences 0 (get_or l line 0) (drop (get_or l line 0) s))
          (sym (index_is s index e).2)
          (λ k. since_line s line (index_is s index e).1 k)
          h

      pub place_found : (line : ℕ) {o : Option ℕ} → p ≤ length s → line < length index → line + 1 ≡ line_of p index 1 0
          → column p 1 (sequences 0 (get_or index line 0) (drop (get_or index line 0) s)) ≡ o → answered p (line + 1) o ≡ place_of s index p
      unfolding place_of
      place_found line {o} h k l c =
          let d : line + 1 - 1 ≡ line = omega arith in
          rw (le-ltb (length s) p h, ← l, d, line_since line k, c)

  -- ---- many places

  pub answers_next : (places m : List ℕ) (k at : ℕ) {r : Where} → k < length places → r ≡ locate_of s index (get_or places k 0)
      → stored at (answers s index (drop k places)) m
      ≡ stored (at + 2) (answers s index (drop (k + 1) places)) (set (set m at (line_word r)) (at + 1) (column_word r))
  unfolding answers stored
  answers_next places m k at {r} h e = let z : at + 2 ≡ at + 1 + 1 = omega arith in rw (here places k h, z, e)

  length-answers : (places : List ℕ) → length (answers s index places) ≡ 2 * length places
  unfolding answers
  length-answers [] = refl
  length-answers (p ∷ ps) = omega (arith, length-answers ps)

  pub answers_all : (places old : List ℕ) (k at : ℕ) {out : List ℕ} → 2 * length places ≤ length old → length places ≤ k
      → stored 0 (answers s index places) old ≡ stored at (answers s index (drop k places)) out → out ≡ written (answers s index places) old
  unfolding answers stored
  answers_all places old k at {out} f h g =
      let done : stored 0 (answers s index places) old ≡ out = g ∙ rw (past places k h) in
      sym done ∙ stored-written (answers s index places) [] old (omega (arith, length-answers places))

  module _ (places memory : List ℕ) where
    pub all_other : is_index s index ≡ false → outcome (answer.Refused alien 0) memory ≡ locate_all_of s index places memory
    unfolding locate_all_of
    all_other e = rw e

    module _ (e : is_index s index ≡ true) where
      pub all_short : length memory < 2 * length places → outcome (answer.Refused lines_no_room (2 * length places)) memory ≡ locate_all_of s index places memory
      unfolding locate_all_of
      all_short h = rw (e, lt-ltb (length memory) (2 * length places) h)

      pub all_served : {now : List ℕ} → 2 * length places ≤ length memory → now ≡ written (answers s index places) memory
          → outcome (answer.Served (length places)) now ≡ locate_all_of s index places memory
      unfolding locate_all_of
      all_served h w = rw (e, le-ltb (length memory) (2 * length places) h, w)
