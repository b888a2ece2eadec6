-- Rows laid one after the other are all rows laid at once: a row more is written where it fits, and where one did not fit none after it does.
use Prim.Native.Nat.{ℕ, ◌+◌, ◌-◌, ◌≤◌, ◌<◌}
use mathlib.Core.Path.{◌≡◌, refl, sym, ap, ◌∙◌}
use mathlib.Core.List.{List, [], ◌∷◌, ◌++◌, append_assoc, append-nil}
use lib.ListN.{length, take, drop, length-append, length-drop, take-append-drop}
use lib.Seq.{take_at, drop-drop, drop-append-add, length-take-le}
use lib.Dec.{leb}
use native.Mathlib.Omega.{arith}
use borrow.Author.Tests.{le-leb, lt-leb, leb-true, leb-false}
use borrow.Rule.Slice.PartMut.{put_mid}
use Rattle.laws.specs.Lent.{written}
use Rattle.laws.proofs.Choice.{by_bool}
use Rattle.laws.proofs.Lent.{length-written, part_written}
use Rattle.findings_rows.specs.Laid.{flat, laid_rows, laid_at, laid_rows_from}

pub flat_append : (a b : List (List ℕ)) → flat (a ++ b) ≡ flat a ++ flat b
unfolding flat
flat_append [] b = refl
flat_append (x ∷ a) b = ap (λ (l : List ℕ). x ++ l) (flat_append a b) ∙ sym (append_assoc x (flat a) (flat b))

-- the words of some rows and of one more
pub flat_more : (rows : List (List ℕ)) (row : List ℕ) → flat (rows ++ (row ∷ [])) ≡ flat rows ++ row
unfolding flat
flat_more rows row = flat_append rows (row ∷ []) ∙ ap (λ (l : List ℕ). flat rows ++ l) (append-nil row)

laid_fits : (row : List ℕ) (rows : List (List ℕ)) (m : List ℕ) → length row ≤ length m → laid_rows (row ∷ rows) m ≡ row ++ laid_rows rows (drop (length row) m)
unfolding laid_rows
laid_fits row rows m h = rw (le-leb (length row) (length m) h)

laid_short : (row : List ℕ) (rows : List (List ℕ)) (m : List ℕ) → length m < length row → laid_rows (row ∷ rows) m ≡ m
unfolding laid_rows
laid_short row rows m h = rw (lt-leb (length row) (length m) h)

pub laid_length : (rows : List (List ℕ)) (m : List ℕ) → length (laid_rows rows m) ≡ length m
unfolding laid_rows
laid_length [] m = refl
laid_length (row ∷ rows) m =
    by_bool (leb (length row) (length m))
    (λ b. let h : length row ≤ length m = leb-true (length row) (length m) b in
    ap length (laid_fits row rows m h)
    ∙ omega (arith, length-append row (laid_rows rows (drop (length row) m)), laid_length rows (drop (length row) m), length-drop (length row) m))
    (λ b. ap length (laid_short row rows m (leb-false (length row) (length m) b)))

-- rows that all fit are written
pub laid_all : (rows : List (List ℕ)) (m : List ℕ) → length (flat rows) ≤ length m → laid_rows rows m ≡ written (flat rows) m
unfolding flat laid_rows
laid_all [] m h = refl
laid_all (row ∷ rows) m h =
    let n : length (row ++ flat rows) ≡ length row + length (flat rows) = length-append row (flat rows) in
    laid_fits row rows m (omega arith)
    ∙ ap (λ (l : List ℕ). row ++ l) (laid_all rows (drop (length row) m) (omega (arith, length-drop (length row) m)))
    ∙ ap (λ (l : List ℕ). row ++ (flat rows ++ l)) (drop-drop (length (flat rows)) (length row) m)
    ∙ ap (λ (k : ℕ). row ++ (flat rows ++ drop k m)) (sym n)
    ∙ sym (append_assoc row (flat rows) (drop (length (row ++ flat rows)) m))

-- a row that does not fit changes nothing
pub laid_full : (rows : List (List ℕ)) (row m : List ℕ) → length m < length (flat rows) + length row → laid_rows (rows ++ (row ∷ [])) m ≡ laid_rows rows m
unfolding flat laid_rows
laid_full [] row m h = laid_short row [] m (omega arith)
laid_full (x ∷ rows) row m h =
    by_bool (leb (length x) (length m))
    (λ b. let k : length x ≤ length m = leb-true (length x) (length m) b in
    laid_fits x (rows ++ (row ∷ [])) m k
    ∙ ap (λ (l : List ℕ). x ++ l) (laid_full rows row (drop (length x) m) (omega (arith, length-append x (flat rows), length-drop (length x) m)))
    ∙ sym (laid_fits x rows m k))
    (λ b. let k : length m < length x = leb-false (length x) (length m) b in laid_short x (rows ++ (row ∷ [])) m k ∙ sym (laid_short x rows m k))

-- ---- one row more, and some rows more

module _ (w : ℕ) (row m : List ℕ) where
  pub laid_at_fits : w + length row ≤ length m → laid_at w row m ≡ written (take w m ++ row) m
  laid_at_fits h = rw (le-leb (w + length row) (length m) h)

  pub laid_at_short : length m < w + length row → laid_at w row m ≡ m
  laid_at_short h = rw (lt-leb (w + length row) (length m) h)

pub laid_at_length : (w : ℕ) (row m : List ℕ) → length (laid_at w row m) ≡ length m
laid_at_length w row m =
    by_bool (leb (w + length row) (length m))
    (λ b. let h : w + length row ≤ length m = leb-true (w + length row) (length m) b in
    ap length (laid_at_fits w row m h)
    ∙ length-written (take w m ++ row) m (omega (arith, length-append (take w m) row, length-take-le w m (omega arith))))
    (λ b. ap length (laid_at_short w row m (leb-false (w + length row) (length m) b)))

pub laid_on : (rows : List (List ℕ)) (row m : List ℕ) (w : ℕ) → length (flat rows) ≡ w → laid_at w row (laid_rows rows m) ≡ laid_rows (rows ++ (row ∷ [])) m
laid_on rows row m w e =
    let same : length (laid_rows rows m) ≡ length m = laid_length rows m in
    by_bool (leb (w + length row) (length m))
    (λ b. let h : w + length row ≤ length m = leb-true (w + length row) (length m) b in
    laid_at_fits w row (laid_rows rows m) (omega arith)
    ∙ ap (λ (l : List ℕ). written (take w l ++ row) l) (laid_all rows m (omega arith))
    ∙ ap (λ (l : List ℕ). written (l ++ row) (written (flat rows) m)) (take_at (flat rows) (drop (length (flat rows)) m) w e)
    ∙ ap (λ (l : List ℕ). (flat rows ++ row) ++ l) (rest (length-append (flat rows) row))
    ∙ ap (λ (l : List ℕ). written l m) (sym (flat_more rows row))
    ∙ sym (laid_all (rows ++ (row ∷ [])) m (omega (arith, ap length (flat_more rows row), length-append (flat rows) row))))
    (λ b. let h : length m < w + length row = leb-false (w + length row) (length m) b in
    laid_at_short w row (laid_rows rows m) (omega arith) ∙ sym (laid_full rows row m (omega arith)))
  where
    rest : {n : ℕ} → n ≡ length (flat rows) + length row → drop n (written (flat rows) m) ≡ drop n m
    rest {n} k =
        ap (λ (j : ℕ). drop j (written (flat rows) m)) k
        ∙ drop-append-add (flat rows) (drop (length (flat rows)) m) (length row)
        ∙ drop-drop (length row) (length (flat rows)) m
        ∙ ap (λ (j : ℕ). drop j m) (sym k)

pub laid_from : (more rows : List (List ℕ)) (m : List ℕ) (w : ℕ) → length (flat rows) ≡ w → laid_rows_from w more (laid_rows rows m) ≡ laid_rows (rows ++ more) m
unfolding laid_rows_from
laid_from [] rows m w e = ap (λ (l : List (List ℕ)). laid_rows l m) (sym (append-nil rows))
laid_from (row ∷ more) rows m w e =
    ap (laid_rows_from (w + length row) more) (laid_on rows row m w e)
    ∙ laid_from more (rows ++ (row ∷ [])) m (w + length row) (ap length (flat_more rows row) ∙ length-append (flat rows) row ∙ ap (λ (k : ℕ). k + length row) e)
    ∙ ap (λ (l : List (List ℕ)). laid_rows l m) (append_assoc rows (row ∷ []) more)

pub laid_from_length : (w : ℕ) (rows : List (List ℕ)) (m : List ℕ) → length (laid_rows_from w rows m) ≡ length m
unfolding laid_rows_from
laid_from_length w [] m = refl
laid_from_length w (row ∷ rows) m = laid_from_length (w + length row) rows (laid_at w row m) ∙ laid_at_length w row m

-- ---- `&mut memory[w..]`, lent to a callee that writes a row from its start on

pub laid_part : (w : ℕ) (row m : List ℕ) {last : List ℕ} → w + length row ≤ length m → last ≡ written row (take (length m - w) (drop w m))
    → put_mid w (length m - w) m last ≡ laid_at w row m
laid_part w row m {last} h e =
    let n : length (take w m) ≡ w = length-take-le w m (omega arith) in
    let whole : m ≡ written (take w m) m = sym (take-append-drop w m) ∙ ap (λ (k : ℕ). take w m ++ drop k m) (sym n) in
    part_written (take w m) row m whole n (omega arith) e ∙ sym (laid_at_fits w row m h)
