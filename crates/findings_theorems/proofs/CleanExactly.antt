-- "`plancheck` says ok exactly when the reader and the nested lists have nothing to refuse": `clean_exactly`, of what the call answers.
use Prim.Native.Nat.{ℕ, ◌/◌, ◌≤◌, ◌<◌}
use mathlib.Core.Path.{◌≡◌, refl, sym, ap, ◌∙◌, subst}
use mathlib.Core.List.{List, [], ◌∷◌}
use lib.ListN.{length}
use lib.Dec.{eqb, leb, ltb}
use native.Mathlib.Omega.{arith}
use borrow.Author.Tests.{ltb-false, le-ltb}
use Rattle.std.specs.Prelude.{if◌then◌else◌, None, Option, Some}
use Rattle.laws.specs.Quoted.{code}
use Rattle.laws.proofs.Choice.{by_bool, if_all, impossible}
use Rattle.chars.specs.Utf8.{first_bad}
use Rattle.items.specs.Kinds as kind
use Rattle.items.specs.Items.{Item, records, record_words}
use Rattle.items.specs.Whole.{limit}
use Rattle.items.proofs.Every.{Every}
use Rattle.nested.specs.Lent.{Nested, Refused}
use Rattle.findings_rows.specs.Mended.{mended_of}
use Rattle.findings.specs.Finding.{error}
use Rattle.findings.specs.Told.{errors_in, told_of}
use Rattle.findings.specs.Find.{told_if, find_of, needed_rows, found, too_few, call_of}
use Rattle.findings.specs.Laid.{counted}
use Rattle.findings.specs.declared.Finding.{Finding}
use Rattle.findings.specs.declared.Counted.{Counted}
use Rattle.findings_theorems.proofs.Unmended.{Fine, reported, mended_clean, clean_same}
use Rattle.findings_theorems.proofs.Layouts.{LaidItem, error_laid, read_laid}
use Rattle.findings_theorems.proofs.Turns.{mended_every}
use Rattle.findings_theorems.proofs.Clean.{laid_words}
use Rattle.findings_theorems.proofs.Exactly.{Data, quiet_fine, quiet_data, data_quiet}
use Rattle.findings_theorems.proofs.Records.{same_nested}

-- what the reader and the nested lists have nothing to refuse of: within the limit, UTF-8, no error item in report mode, and the records,
-- comments skipped, form data
pub record Accepted (s : List ℕ) : Type 0 where
  pub short : length s ≤ limit
  pub utf8 : first_bad s ≡ None
  pub fine : Every Fine (reported s)
  pub data_formed : Data (records 0 0 (reported s))

module _ (s : List ℕ) where
  mended_laid : Every LaidItem (mended_of s)
  mended_laid =
      mended_every LaidItem read_laid s (λ e i h. h)
      (λ quote start e. error_laid (if eqb quote (code "\"") then kind.IncompleteString else kind.IncompleteIdentifier) 0
      (if_all (λ (n : ℕ). 0 < n) (eqb quote (code "\"")) (omega arith) (omega arith)))

  same_data : {a b : Nested} → a ≡ b → ((n p : ℕ) → a ≡ Refused n p → n ≡ 46) → (n p : ℕ) → b ≡ Refused n p → n ≡ 46
  same_data e h n p f = h n p (e ∙ f)

  module _ (short : length s ≤ limit) where
    told_only : errors_in (told_of s (laid_words (mended_of s))) ≡ 0 → Every Fine (reported s) × Data (records 0 0 (reported s))
    told_only quiet =
        let fine : Every Fine (mended_of s) = quiet_fine s (mended_of s) quiet mended_laid in
        let clean : Every Fine (reported s) = mended_clean s short fine in
        let formed : Data (laid_words (mended_of s)) = quiet_data s (mended_of s) fine mended_laid quiet in
        let there : Data (laid_words (reported s)) = subst (λ (l : List Item). Data (laid_words l)) (clean_same s short clean) formed in
        (clean, same_data (same_nested (reported s) clean) there)

    told_if_lem : Every Fine (reported s) → Data (records 0 0 (reported s)) → errors_in (told_of s (laid_words (mended_of s))) ≡ 0
    told_if_lem clean formed =
        let same : mended_of s ≡ reported s = clean_same s short clean in
        let fine : Every Fine (mended_of s) = subst (Every Fine) (sym same) clean in
        let there : Data (laid_words (reported s)) = same_data (sym (same_nested (reported s) clean)) formed in
        data_quiet s (mended_of s) fine mended_laid (subst (λ (l : List Item). Data (laid_words l)) (sym same) there)

  -- ---- of all findings

  one_error : {P : Type 0} (f : Finding) → f.severity ≡ error → errors_in (f ∷ []) ≡ 0 → P
  unfolding errors_in
  one_error f e h = let z : ◌≡◌ {A = ℕ} 1 0 = rw e at h in absurd (omega arith)

  find_only : (u : Option ℕ) → first_bad s ≡ u → length s ≤ limit → errors_in (told_if u s) ≡ 0 → Accepted s
  find_only (Some b) e short quiet = one_error _ refl quiet
  find_only None e short quiet = let r = told_only short quiet in record { short = short; utf8 = e; fine = r.0; data_formed = r.1 }

  pub accepted_if_quiet : errors_in (find_of s) ≡ 0 → Accepted s
  unfolding find_of
  accepted_if_quiet quiet = by_bool (ltb limit (length s))
      (λ b. one_error _ refl (rw b at quiet))
      (λ b. find_only (first_bad s) refl (ltb-false limit (length s) b) (rw b at quiet))

  pub quiet_if_accepted : Accepted s → errors_in (find_of s) ≡ 0
  unfolding find_of
  quiet_if_accepted a = rw (le-ltb limit (length s) a.short, a.utf8) (told_if_lem a.short a.fine a.data_formed)

  -- the call says that no finding is an error exactly if the plan is accepted
  module _ (rows findings : List ℕ) (n errors : ℕ) (answered : (call_of s rows findings).answer ≡ found n errors) where
    errors_are : errors ≡ errors_in (find_of s)
    unfolding call_of
    errors_are = by_bool (leb (length (needed_rows s)) (length rows / record_words))
        (λ b. let z : found (length (find_of s)) (errors_in (find_of s)) ≡ found n errors = rw b at answered in let y : counted (length (find_of s)) (errors_in (find_of s)) ≡ counted n errors = cc in ap (λ (k : Counted). k.errors) (sym y))
        (λ b. let z : too_few (length (needed_rows s)) ≡ found n errors = rw b at answered in impossible cc)

    pub clean_exactly : (errors ≡ 0 → Accepted s) × (Accepted s → errors ≡ 0)
    clean_exactly = ((λ e. accepted_if_quiet (sym errors_are ∙ e)), (λ a. errors_are ∙ quiet_if_accepted a))
