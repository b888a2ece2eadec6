-- The line that is rendered of a place is the one that a search in the index comes to: a start follows every newline byte before the place, and
-- all others lie past it. So it starts where the rendered line does.
use Prim.Native.Nat.{ℕ, zero, suc, ◌+◌, ◌≤◌, ◌<◌}
use mathlib.Core.Path.{◌≡◌, refl, sym, ap, ◌∙◌}
use mathlib.Core.Bool.{Bool, true, false}
use mathlib.Core.List.{List, [], ◌∷◌}
use lib.ListN.{length, get_or, drop}
use lib.Dec.{eqb}
use native.Mathlib.Omega.{arith}
use native.Mathlib.Numerals.{add-one}
use borrow.Author.Tests.{eqb-true, eqb-false, le-leb, lt-leb}
use Rattle.std.specs.Prelude.{if◌then◌else◌}
use Rattle.laws.specs.Quoted.{within}
use Rattle.laws.proofs.Choice.{by_bool, within_is}
use Rattle.laws.proofs.Places.{here}
use Rattle.items_coverage.proofs.Bytes.{passed}
use Rattle.lines.specs.Starts.{starts_from, starts}
use Rattle.lines.specs.Place.{line_of}
use Rattle.lines_theorems.proofs.Failing.{stands_at}
use Rattle.findings_render_parts.specs.Spots.{newline, count_in, start_of}

-- no start from a place on is as early as p
late : (p : ℕ) (l : List ℕ) (at j found : ℕ) → p ≤ at → line_of p (starts_from at l) j found ≡ found
unfolding line_of starts_from
late p [] at j found h = refl
late p (b ∷ l) at j found h =
    let more : List ℕ = starts_from (at + 1) l in
    by_bool (eqb b newline)
    (λ e. ap (λ (t : Bool). line_of p (if t then (at + 1) ∷ more else more) j found) e
    ∙ ap (λ (t : Bool). line_of p more (j + 1) (if t then j else found)) (lt-leb (at + 1) p (omega arith)) ∙ late p l (at + 1) (j + 1) found (omega arith))
    (λ e. ap (λ (t : Bool). line_of p (if t then (at + 1) ∷ more else more) j found) e ∙ late p l (at + 1) j found (omega arith))

is_newline : (b : ℕ) → eqb b newline ≡ true → within newline newline b ≡ true
unfolding within
is_newline b e = rw (eqb-true b newline e)

no_newline : (b : ℕ) → eqb b newline ≡ false → within newline newline b ≡ false
no_newline b e = by_bool (within newline newline b)
    (λ f. let h = within_is newline newline b f in absurd (eqb-false b newline e (omega (arith, h.0, h.1))))
    (λ f. f)

module _ (s : List ℕ) (p : ℕ) where
  abbrev passes : ℕ → ℕ
  passes at = count_in newline newline s 0 at

  -- the search has come to a place: the starts up to there are passed
  record Come (at : ℕ) : Type 0 where
    rest : drop (passes at + 1) (starts s) ≡ starts_from at (drop at s)
    last : get_or (starts s) (passes at) 0 ≡ start_of s at
    found : at ≤ p → line_of p (starts s) 1 0 ≡ line_of p (starts_from at (drop at s)) (passes at + 2) (passes at + 1)

  module _ (at : ℕ) (h : at < length s) (c : Come at) where
    abbrev b : ℕ
    b = get_or s (0 + at) 0

    byte : get_or s at 0 ≡ b
    byte = let z : at ≡ 0 + at = omega arith in ap (λ (n : ℕ). get_or s n 0) z

    next : starts_from at (drop at s) ≡ (if eqb b newline then (at + 1) ∷ starts_from (at + 1) (drop (at + 1) s) else starts_from (at + 1) (drop (at + 1) s))
    unfolding starts_from
    next = ap (starts_from at) (here s at h) ∙ ap (λ (x : ℕ). starts_from at (x ∷ drop (at + 1) s)) byte

    come_newline : eqb b newline ≡ true → Come (suc at)
    unfolding count_in start_of line_of
    come_newline e =
        let more : List ℕ = starts_from (at + 1) (drop (at + 1) s) in
        let list : starts_from at (drop at s) ≡ (at + 1) ∷ more = next ∙ ap (λ (t : Bool). if t then (at + 1) ∷ more else more) e in
        let start : drop (passes at + 1) (starts s) ≡ (at + 1) ∷ more = c.rest ∙ list in
        let count : passes (suc at) ≡ passes at + 1 = rw (is_newline b e) in
        let same : more ≡ starts_from (suc at) (drop (suc at) s) = ap (λ (n : ℕ). starts_from n (drop n s)) (add-one at) in
        let here-start : start_of s (suc at) ≡ suc at = ap (λ (x : ℕ). if eqb x newline then suc at else start_of s at) byte ∙ rw e in
        record {
          rest = ap (λ (n : ℕ). drop (n + 1) (starts s)) count ∙ passed (starts s) (passes at + 1) ((at + 1) ∷ []) more start ∙ same;
          last = ap (λ (n : ℕ). get_or (starts s) n 0) count ∙ (stands_at (passes at + 1) (starts s) (at + 1) more start).1 ∙ add-one at ∙ sym here-start;
          found = λ l.
              let step : line_of p (starts_from at (drop at s)) (passes at + 2) (passes at + 1) ≡ line_of p more (passes at + 2 + 1) (passes at + 2) =
              ap (λ (x : List ℕ). line_of p x (passes at + 2) (passes at + 1)) list
              ∙ ap (λ (t : Bool). line_of p more (passes at + 2 + 1) (if t then passes at + 2 else passes at + 1)) (le-leb (at + 1) p (omega arith)) in
              let j : passes at + 2 + 1 ≡ passes (suc at) + 2 = omega arith in
              let f : passes at + 2 ≡ passes (suc at) + 1 = omega arith in
              c.found (omega arith) ∙ step ∙ ap (λ (x : List ℕ). line_of p x (passes at + 2 + 1) (passes at + 2)) same
              ∙ ap (λ (n : ℕ). line_of p (starts_from (suc at) (drop (suc at) s)) n (passes at + 2)) j
              ∙ ap (line_of p (starts_from (suc at) (drop (suc at) s)) (passes (suc at) + 2)) f;
        }

    come_other : eqb b newline ≡ false → Come (suc at)
    unfolding count_in start_of
    come_other e =
        let more : List ℕ = starts_from (at + 1) (drop (at + 1) s) in
        let same : starts_from at (drop at s) ≡ starts_from (suc at) (drop (suc at) s) =
        next ∙ ap (λ (t : Bool). if t then (at + 1) ∷ more else more) e ∙ ap (λ (n : ℕ). starts_from n (drop n s)) (add-one at) in
        let none : passes (suc at) ≡ passes at + 0 = rw (no_newline b e) in
        let count : passes (suc at) ≡ passes at = omega arith in
        let there-start : start_of s (suc at) ≡ start_of s at = ap (λ (x : ℕ). if eqb x newline then suc at else start_of s at) byte ∙ rw e in
        record {
          rest = ap (λ (n : ℕ). drop (n + 1) (starts s)) count ∙ c.rest ∙ same;
          last = ap (λ (n : ℕ). get_or (starts s) n 0) count ∙ c.last ∙ sym there-start;
          found = λ l. c.found (omega arith) ∙ ap (λ (x : List ℕ). line_of p x (passes at + 2) (passes at + 1)) same
              ∙ ap (λ (n : ℕ). line_of p (starts_from (suc at) (drop (suc at) s)) (n + 2) (n + 1)) (sym count);
        }

  come : (at : ℕ) → at ≤ length s → Come at
  unfolding count_in start_of line_of
  come zero h = record {
    rest = refl;
    last = refl;
    found = λ l. ap (λ (t : Bool). line_of p (starts_from 0 s) (1 + 1) (if t then 1 else 0)) (le-leb 0 p l);
  }
  come (suc at) h = by_bool (eqb (get_or s (0 + at) 0) newline)
      (λ e. come_newline at (omega arith) (come at (omega arith)) e)
      (λ e. come_other at (omega arith) (come at (omega arith)) e)

  module _ (h : p ≤ length s) where
    pub line_count : line_of p (starts s) 1 0 ≡ passes p + 1
    line_count = (come p h).found (omega arith) ∙ late p (drop p s) p (passes p + 2) (passes p + 1) (omega arith)

    pub line_start_lem : get_or (starts s) (passes p) 0 ≡ start_of s p
    line_start_lem = (come p h).last
