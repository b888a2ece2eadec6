-- The pass that searches for a misfit: for each depth it keeps the line start and the offset of the last bracket that opens there, so that
-- its test is the definition's.
use Prim.Native.Nat.{ℕ, ◌+◌, ◌-◌, ◌≤◌, ◌<◌}
use mathlib.Core.Path.{◌≡◌, refl, sym, ap, ◌∙◌}
use mathlib.Core.Bool.{Bool, true, false, ◌&&◌}
use mathlib.Core.List.{List}
use native.Mathlib.Omega.{arith}
use lib.Dec.{eqb, ltb}
use lib.ListN.{length, get_or, set, replicate, get_or-replicate, length-replicate, length-set}
use lib.Seq.{get_or-set_same, get_or-set_other}
use borrow.Author.Tests.{eqb-true, eqb-false, lt-ltb}
use Rattle.std.specs.Prelude.{if◌then◌else◌}
use Rattle.laws.specs.Quoted.{within}
use Rattle.laws.proofs.Choice.{by_bool, within_is}
use Rattle.items.specs.Kinds as kind
use Rattle.nested.specs.Items.{count_of}
use Rattle.nested.specs.Grammar.{deepest}
use Rattle.findings.specs.Rows.{row_at, last_before, first_from, first_row}
use Rattle.findings.specs.Lines.{line_start, offset}
use Rattle.findings.specs.Lists.{is_open, open_start, is_misfit}
use Rattle.findings.specs.Misfits.{noted, misfit_by}
use Rattle.findings.specs.declared.Row.{Row}
use Rattle.findings.proofs.Searches.{last_now, last_old, first_start, first_end, first_hit, first_miss}

abbrev pub depths : ℕ
depths = 65

-- ---- what is kept

pub noted-length : (r : Row) (v : ℕ) (l : List ℕ) → length (noted r v l) ≡ length l
unfolding noted
noted-length r v l = by_bool (eqb r.kind kind.OpenParen && ltb r.depth (length l)) (λ e. rw e (length-set l r.depth v)) (λ e. rw e)

-- the value of a depth is the new one just if the row opens a bracket there
noted_at : (r : Row) (v : ℕ) (l : List ℕ) (d : ℕ) → d < length l
    → get_or (noted r v l) d 0 ≡ (if eqb r.kind kind.OpenParen && eqb r.depth d then v else get_or l d 0)
unfolding noted
noted_at r v l d h =
    by_bool (eqb r.kind kind.OpenParen)
    (λ e. by_bool (eqb r.depth d)
    (λ f. let q : r.depth ≡ d = eqb-true r.depth d f in
    rw (e, f, lt-ltb r.depth (length l) (omega arith)) (ap (λ (n : ℕ). get_or (set l n v) d 0) q ∙ get_or-set_same l d v 0 h))
    (λ f. rw (e, f) (other f)))
    (λ e. rw e)
  where
    other : eqb r.depth d ≡ false → get_or (if true && ltb r.depth (length l) then set l r.depth v else l) d 0 ≡ get_or l d 0
    other f =
        by_bool (ltb r.depth (length l))
        (λ g. rw g (get_or-set_other l r.depth d v 0 (λ q. eqb-false r.depth d f (sym q))))
        (λ g. rw g)

-- what a function says of the last bracket that opens inside d others, before row k
abbrev Kept : List ℕ → (ℕ → ℕ) → ℕ → List ℕ → Type 0
Kept rows g k kept = (d : ℕ) → d < depths → get_or kept d 0 ≡ g (open_start rows d k)

module _ (rows : List ℕ) (d k : ℕ) where
  open_here : is_open rows d k ≡ true → open_start rows d (k + 1) ≡ (row_at rows k).start
  open_here e = ap (λ (i : ℕ). (row_at rows i).start) (last_now (is_open rows d) k e)

  open_before_lem : is_open rows d k ≡ false → open_start rows d (k + 1) ≡ open_start rows d k
  open_before_lem e = ap (λ (i : ℕ). (row_at rows i).start) (last_old (is_open rows d) k e)

  open_is : is_open rows d k ≡ (eqb (row_at rows k).kind kind.OpenParen && eqb (row_at rows k).depth d)
  unfolding is_open
  open_is = refl

kept_next : (rows : List ℕ) (g : ℕ → ℕ) (k : ℕ) (kept : List ℕ) → length kept ≡ depths → Kept rows g k kept
    → Kept rows g (k + 1) (noted (row_at rows k) (g (row_at rows k).start) kept)
kept_next rows g k kept n old d h =
    noted_at (row_at rows k) (g (row_at rows k).start) kept d (omega arith)
    ∙ rw (← open_is rows d k)
    (by_bool (is_open rows d k)
    (λ e. rw e (sym (ap g (open_here rows d k e))))
    (λ e. rw e (old d h ∙ sym (ap g (open_before_lem rows d k e)))))

neither : (x a b : Bool) → (x && false && a) ≡ (x && false && b)
neither true a b = refl
neither false a b = refl

-- ---- the pass

pub record Passing (source rows : List ℕ) (at line : ℕ) (starts offsets : List ℕ) (k : ℕ) : Type 0 where
  pub inside : k ≤ count_of rows
  pub on : first_row (is_misfit source rows) rows ≡ first_from (is_misfit source rows) (count_of rows - k) k
  pub here : line ≡ line_start source at
  pub wide : length starts ≡ depths
  pub far : length offsets ≡ depths
  pub kept_starts : Kept rows (line_start source) k starts
  pub kept_offsets : Kept rows (offset source) k offsets

module _ (source rows : List ℕ) where
  pub passing_start : {at line : ℕ} → at ≡ (row_at rows 0).start → line ≡ line_start source at
      → Passing source rows at line (replicate depths line) (replicate depths (at - line)) 0
  unfolding last_before
  passing_start {at} {line} e l = record {
    inside = omega arith;
    on = first_start (is_misfit source rows) (count_of rows);
    here = l;
    wide = length-replicate depths line;
    far = length-replicate depths (at - line);
    kept_starts = λ d h. get_or-replicate depths d line 0 h ∙ l ∙ ap (line_start source) e;
    kept_offsets = λ d h. get_or-replicate depths d (at - line) 0 h ∙ ap (λ (n : ℕ). at - n) l ∙ ap (offset source) e;
  }

  module _ {at line : ℕ} {starts offsets : List ℕ} {k : ℕ} (p : Passing source rows at line starts offsets k) where
    pub passing_end : count_of rows ≤ k → count_of rows ≡ first_row (is_misfit source rows) rows
    passing_end h = first_end (is_misfit source rows) (count_of rows) k p.on h p.inside

    module _ (h : k < count_of rows) {r : Row} (e : r ≡ row_at rows k) {next : ℕ} (l : next ≡ line_start source r.start) where
      -- the test by what is kept is the definition's
      pub passing_test : misfit_by source r next starts offsets ≡ is_misfit source rows k
      unfolding misfit_by is_misfit
      passing_test =
          rw (← e)
          (by_bool (within 1 deepest r.depth)
          (λ w. let b = within_is 1 deepest r.depth w in
          rw (w, p.kept_starts (r.depth - 1) (omega arith), p.kept_offsets (r.depth - 1) (omega arith), l))
          (λ w. rw w (neither (eqb r.kind kind.OpenParen) _ _)))

      pub passing_hit : misfit_by source r next starts offsets ≡ true → k ≡ first_row (is_misfit source rows) rows
      passing_hit t = first_hit (is_misfit source rows) (count_of rows) k p.on h (sym passing_test ∙ t)

      pub passing_next : misfit_by source r next starts offsets ≡ false
          → Passing source rows r.start next (noted r next starts) (noted r (r.start - next) offsets) (k + 1)
      passing_next t = record {
        inside = omega arith;
        on = first_miss (is_misfit source rows) (count_of rows) k p.on h (sym passing_test ∙ t);
        here = l;
        wide = noted-length r next starts ∙ p.wide;
        far = noted-length r (r.start - next) offsets ∙ p.far;
        kept_starts = λ d b. rw (l, e) (kept_next rows (line_start source) k starts p.wide p.kept_starts d b);
        kept_offsets = λ d b. rw (l, e) (kept_next rows (offset source) k offsets p.far p.kept_offsets d b);
      }
