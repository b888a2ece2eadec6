-- The loop over the rows: what was told is laid, and what is still to tell follows it.
use Rattle.std.proofs.Common.{None, Option, Some}
use Prim.Native.Nat.{ℕ, suc, ◌+◌, ◌-◌, ◌*◌, ◌≤◌, ◌<◌}
use mathlib.Core.Path.{◌≡◌, refl, sym, ap, ◌∙◌}
use mathlib.Core.List.{List, [], ◌∷◌, ◌++◌, map, append_assoc, append-nil, map-append}
use native.Mathlib.Omega.{arith}
use lib.Dec.{eqb}
use lib.ListN.{length, length-append}
use Rattle.laws.proofs.Choice.{by_bool, if_all}
use Rattle.findings_rows.specs.Laid.{flat, laid_rows}
use Rattle.findings_rows.proofs.Laid.{laid_from}
use Rattle.findings.specs.Finding.{error, finding_words, words_of, listed}
use Rattle.findings.specs.Told.{told_from, errors_in}
use Rattle.findings.specs.Laid.{counted, count_on, laid_findings, laid_behind, Telling, telling, all_told}
use Rattle.findings.specs.declared.Finding.{Finding}
use Rattle.findings.specs.declared.Counted.{Counted}

errors_append : (a b : List Finding) → errors_in (a ++ b) ≡ errors_in a + errors_in b
unfolding errors_in
errors_append [] b = omega arith
errors_append (f ∷ a) b =
    by_bool (eqb f.severity error)
    (λ e. rw e (omega (arith, errors_append a b)))
    (λ e. rw e (errors_append a b))

errors_le : (fs : List Finding) → errors_in fs ≤ length fs
unfolding errors_in
errors_le [] = omega arith
errors_le (f ∷ fs) = if_all (λ (n : ℕ). n ≤ suc (length fs)) (eqb f.severity error) (omega (arith, errors_le fs)) (omega (arith, errors_le fs))

words_length : (fs : List Finding) → length (flat (map words_of fs)) ≡ length fs * finding_words
unfolding flat
words_length [] = omega arith
words_length (f ∷ fs) = length-append (words_of f) (flat (map words_of fs)) ∙ omega (arith, words_length fs)

pub listed_few : (t : Option Finding) → length (listed t) ≤ 1
listed_few None = omega arith
listed_few (Some f) = omega arith

-- ---- what was told so far

pub record Held (done : List Finding) (old now : List ℕ) (n : Counted) : Type 0 where
  pub found : n.findings ≡ length done
  pub bad : n.errors ≡ errors_in done
  pub lies : now ≡ laid_findings done old

module _ {done : List Finding} {old now : List ℕ} {n : Counted} (h : Held done old now n) where
  pub held_errors : n.errors ≤ n.findings
  held_errors = omega (arith, h.found, h.bad, errors_le done)

  pub held_more : (fs : List Finding) {next : List ℕ} {r : Counted} → telling r next ≡ telling (count_on n fs) (laid_behind n.findings fs now)
      → Held (done ++ fs) old next r
  held_more fs {next} {r} e = record {
    found = ap (λ (t : Telling). t.count.findings) e ∙ omega (arith, h.found, length-append done fs);
    bad = ap (λ (t : Telling). t.count.errors) e ∙ omega (arith, h.bad, errors_append done fs);
    lies =
        ap (λ (t : Telling). t.memory) e
        ∙ ap (laid_behind n.findings fs) h.lies
        ∙ laid_from (map words_of fs) (map words_of done) old (n.findings * finding_words) (words_length done ∙ ap (λ (k : ℕ). k * finding_words) (sym h.found))
        ∙ ap (λ (l : List (List ℕ)). laid_rows l old) (sym (map-append words_of done fs));
  }

  pub held_told : telling n now ≡ all_told done old
  held_told = ap (λ (m : List ℕ). telling n m) h.lies ∙ counts
    where
      counts : telling n (laid_findings done old) ≡ all_told done old
      counts = rw (← h.found, ← h.bad)

pub held_none : (old : List ℕ) → Held [] old old (counted 0 0)
unfolding errors_in laid_rows
held_none old = record { found = refl; bad = refl; lies = refl }

-- ---- the loop, before row p of some rows

pub record RowByRow (f : ℕ → List Finding) (count : ℕ) (old now : List ℕ) (n : Counted) (p : ℕ) : Type 0 where
  pub done : List Finding
  pub whole : told_from f count 0 ≡ done ++ told_from f (count - p) p
  pub inside : p ≤ count
  pub few : length done ≤ 2 * p
  pub held : Held done old now n

module _ (f : ℕ → List Finding) (count : ℕ) (old : List ℕ) where
  pub rows_start : RowByRow f count old old (counted 0 0) 0
  rows_start = record {
    done = [];
    whole = let z : count ≡ count - 0 = omega arith in ap (λ (k : ℕ). told_from f k 0) z;
    inside = omega arith;
    few = omega arith;
    held = held_none old;
  }

  module _ {now : List ℕ} {n : Counted} {p : ℕ} (g : RowByRow f count old now n p) where
    pub rows_end : count ≤ p → telling n now ≡ all_told (told_from f count 0) old
    unfolding told_from
    rows_end h =
        let z : count - p ≡ 0 = omega arith in
        let e : told_from f count 0 ≡ g.done = g.whole ∙ ap (λ (k : ℕ). g.done ++ told_from f k p) z ∙ append-nil g.done in
        rw e (held_told g.held)

    -- row p tells t, and then u
    pub rows_turn : (t u : Option Finding) {next : List ℕ} {r : Counted} → p < count → f p ≡ listed t ++ listed u
        → Held ((g.done ++ listed t) ++ listed u) old next r → RowByRow f count old next r (p + 1)
    unfolding told_from
    rows_turn t u h e held = record {
      done = (g.done ++ listed t) ++ listed u;
      whole =
          let z : count - p ≡ suc (count - (p + 1)) = omega arith in
          g.whole
          ∙ ap (λ (k : ℕ). g.done ++ told_from f k p) z
          ∙ ap (λ (l : List Finding). g.done ++ (l ++ told_from f (count - (p + 1)) (p + 1))) e
          ∙ sym (
          append_assoc (g.done ++ listed t) (listed u) (told_from f (count - (p + 1)) (p + 1))
          ∙ append_assoc g.done (listed t) (listed u ++ told_from f (count - (p + 1)) (p + 1))
          ∙ ap (λ (l : List Finding). g.done ++ l) (sym (append_assoc (listed t) (listed u) (told_from f (count - (p + 1)) (p + 1))))
          );
      inside = omega arith;
      few =
          omega (
            arith,
            g.few,
            length-append (g.done ++ listed t) (listed u),
            length-append g.done (listed t),
            listed_few t,
            listed_few u,
          );
      held = held;
    }
