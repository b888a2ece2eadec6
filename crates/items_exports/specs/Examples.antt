-- Worked examples of the questions, one table under one statement.
use Rattle.std.specs.Prelude.{◌≡◌, refl, Bool, true, false, List, [], ◌∷◌, ◌++◌, map, ℕ}
use Rattle.items_exports.specs.Records.{opens_inside, open_before, opener_of, text_fits, record_fits, first_fit, records_fit}
use Rattle.items_exports.specs.Nodes.{past_of, child_of, bound_of, sibling_of}

-- a record of the kind k at from..to with d brackets open, without text
abbrev at : ℕ → ℕ → ℕ → ℕ → List ℕ
at k from to d = k ∷ 0 ∷ from ∷ to ∷ from ∷ to ∷ 0 ∷ 0 ∷ 0 ∷ d ∷ []

-- the records of `(a(b)c)d`, kinds and depths
abbrev plan : List ℕ
plan = at 0 0 1 0 ++ at 27 1 2 1 ++ at 0 2 3 1 ++ at 27 3 4 2 ++ at 1 4 5 2 ++ at 27 5 6 1 ++ at 1 6 7 1 ++ at 27 7 8 0

-- its nodes: a list with three beneath it, of which the second is a list with one beneath it; then a symbol
abbrev tree : List ℕ
tree = 5 ∷ 0 ∷ 4 ∷ 4 ∷ 1 ∷ 0 ∷ 5 ∷ 2 ∷ 1 ∷ 4 ∷ 3 ∷ 0 ∷ 4 ∷ 5 ∷ 0 ∷ 4 ∷ 7 ∷ 0 ∷ []

-- a text at from..to, by its source
abbrev with : ℕ → ℕ → ℕ → List ℕ
with origin from to = 27 ∷ 0 ∷ 0 ∷ 2 ∷ 0 ∷ 2 ∷ origin ∷ from ∷ to ∷ 0 ∷ []

pub record Row : Type 0 where
  pub given : ℕ
  pub wanted : ℕ

abbrev row : ℕ → ℕ → Row
row g w = record { given = g; wanted = w }

unfoldable pub table : List Row
table =
    -- the first bracket lies in none; `a`, `(b)` and `c` lie in it; `b` and the bracket that closes it in record 2
    row (opener_of plan 0) 8
    ∷ row (opener_of plan 1) 0
    ∷ row (opener_of plan 2) 0
    ∷ row (opener_of plan 3) 2
    ∷ row (opener_of plan 4) 2
    ∷ row (opener_of plan 5) 0
    ∷ row (opener_of plan 6) 0
    ∷ row (opener_of plan 7) 8
    ∷ row (opener_of plan 8) 8
    -- a depth that no bracket before it has
    ∷ row (opener_of (at 27 0 1 3) 0) 1
    ∷ row (child_of tree 0) 1
    ∷ row (child_of tree 1) 6
    ∷ row (child_of tree 2) 3
    ∷ row (child_of tree 6) 6
    -- beside each other: nodes 1, 2 and 4 within node 0, and 0 and 5 within none
    ∷ row (sibling_of tree 0 1) 2
    ∷ row (sibling_of tree 0 2) 4
    ∷ row (sibling_of tree 0 4) 6
    ∷ row (sibling_of tree 2 3) 6
    ∷ row (sibling_of tree 6 0) 5
    ∷ row (sibling_of tree 6 5) 6
    -- a node that says that more lie beneath it than there are
    ∷ row (sibling_of (5 ∷ 0 ∷ 9 ∷ 4 ∷ 1 ∷ 0 ∷ []) 2 0) 2
    ∷ []

pub computed : map (λ r. r.given) table ≡ map (λ r. r.wanted) table
unfolding table opens_inside open_before opener_of past_of child_of bound_of sibling_of
computed = refl

pub record Fit : Type 0 where
  pub records : List ℕ
  pub source_length : ℕ
  pub text_length : ℕ
  pub wanted : Bool

abbrev fit : List ℕ → ℕ → ℕ → Bool → Fit
fit r n m w = record { records = r; source_length = n; text_length = m; wanted = w }

unfoldable pub fits : List Fit
fits =
    fit plan 8 0 true
    ∷ fit plan 7 0 false
    ∷ fit [] 0 0 true
    -- the extent goes back; the place passes the source
    ∷ fit (27 ∷ 0 ∷ 2 ∷ 1 ∷ 0 ∷ 1 ∷ 0 ∷ 0 ∷ 0 ∷ 0 ∷ []) 2 0 false
    ∷ fit (27 ∷ 0 ∷ 0 ∷ 1 ∷ 0 ∷ 3 ∷ 0 ∷ 0 ∷ 0 ∷ 0 ∷ []) 2 0 false
    ∷ fit (with 1 0 2) 2 0 true
    ∷ fit (with 1 0 3) 2 9 false
    ∷ fit (with 2 0 3) 2 3 true
    ∷ fit (with 2 0 3) 9 2 false
    -- there is no third place for a text
    ∷ fit (with 3 0 0) 9 9 false
    ∷ []

pub fits_computed : map (λ r. records_fit r.records r.source_length r.text_length) fits ≡ map (λ r. r.wanted) fits
unfolding fits text_fits record_fits first_fit
fits_computed = refl
