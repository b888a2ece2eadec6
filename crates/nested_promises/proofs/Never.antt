-- Two permitted answers coincide; and programs that do not meet the promise, whatever else they do: a row of specs/Rows, where the definition
-- answers otherwise, contradicts their habit.
use Rattle.std.proofs.Common.{Ok, Err}
use Rattle.std.specs.Prelude.{eqb, if◌then◌else◌}
use Prim.Native.Nat.{ℕ}
use mathlib.Core.Path.{◌≡◌, refl, sym, ap, ◌∙◌}
use mathlib.Core.List.{List, [], ◌∷◌}
use lib.ListN.{get_or}
use native.Mathlib.Omega.{arith}
use Rattle.nested.specs.Lent.{told_of, nest_number, nest_value, nested_of, outcome, Outcome, Nested, Built, Refused}
use Rattle.laws.proofs.Choice.{impossible}
use Rattle.refusal.specs.Refusals as refusal
use Rattle.nested.specs.Errors.{error_number, Answer}
use Rattle.nested.specs.declared.NestErrorKind.{NestErrorKind}
use Rattle.nested.specs.declared.NestErrorKind.TheVariants as kinds
use Rattle.nested_promises.specs.Rows.{words_in, opens, a, closes, written, unwritten}

-- which refusal a number is
abbrev kind_of_number : ℕ → NestErrorKind
kind_of_number n =
    if eqb n refusal.alien then kinds.Alien
    else if eqb n refusal.error_item then kinds.ErrorItem
    else if eqb n refusal.mark_waits then kinds.MarkWaits
    else if eqb n refusal.misplaced_dot then kinds.MisplacedDot
    else if eqb n refusal.wrong_close then kinds.WrongClose
    else if eqb n refusal.bracket_open then kinds.BracketOpen
    else if eqb n refusal.too_deep then kinds.TooDeep
    else kinds.FewNodes

back : (k : NestErrorKind) → kind_of_number (error_number k) ≡ k
back kinds.Alien = refl
back kinds.ErrorItem = refl
back kinds.MarkWaits = refl
back kinds.MisplacedDot = refl
back kinds.WrongClose = refl
back kinds.BracketOpen = refl
back kinds.TooDeep = refl
back kinds.FewNodes = refl

same_kind : (j k : NestErrorKind) → error_number j ≡ error_number k → j ≡ k
same_kind j k e = sym (back j) ∙ ap kind_of_number e ∙ back k

-- two answers that mean the same are the same
same_told : (q r : Answer ℕ) → told_of q ≡ told_of r → q ≡ r
same_told (Ok n) (Ok m) e = cc
same_told (Ok n) (Err y) e = impossible cc
same_told (Err x) (Ok m) e = impossible cc
same_told (Err x) (Err y) e = rw (same_kind x.kind y.kind (ap nest_number e), ap nest_value e)

-- the answer and the memory are fixed by the records and the memory before
pub one_answer : (records before : List ℕ) (q r : Answer ℕ) (m n : List ℕ) → outcome (told_of q) m ≡ nested_of records before
    → outcome (told_of r) n ≡ nested_of records before
    → (q ≡ r) × (m ≡ n)
one_answer records before q r m n e f =
    (same_told q r (ap (λ (o : Outcome). o.answer) (e ∙ sym f)), ap (λ (o : Outcome). o.memory) (e ∙ sym f))

-- whether it is a refusal
abbrev refuses : Nested → ℕ
refuses (Built n) = 0
refuses (Refused n p) = 1

abbrev seven : List ℕ
seven = 7 ∷ 7 ∷ 7 ∷ 7 ∷ 7 ∷ 7 ∷ 7 ∷ []

abbrev five : List ℕ
five = 7 ∷ 7 ∷ 7 ∷ 7 ∷ 7 ∷ []

module _ (call : List ℕ → List ℕ → Outcome) (meets : (records nodes : List ℕ) → call records nodes ≡ nested_of records nodes) where
  -- it refuses everything
  pub never_refuses : ((records nodes : List ℕ) → refuses (call records nodes).answer ≡ 1) → ⊥
  never_refuses h = omega (arith, h (words_in (opens ∷ a ∷ closes ∷ [])) seven, ap (λ (o : Outcome). refuses o.answer) (meets (words_in (opens ∷ a ∷ closes ∷ [])) seven ∙ written))

  -- it refuses nothing
  pub never_accepts : ((records nodes : List ℕ) → refuses (call records nodes).answer ≡ 0) → ⊥
  never_accepts h = omega (arith, h (words_in (opens ∷ a ∷ closes ∷ [])) five, ap (λ (o : Outcome). refuses o.answer) (meets (words_in (opens ∷ a ∷ closes ∷ [])) five ∙ unwritten))

  -- it writes nothing
  pub never_unwritten : ((records nodes : List ℕ) → (call records nodes).memory ≡ nodes) → ⊥
  never_unwritten h =
      omega (
        arith,
        ap (λ (m : List ℕ). get_or m 0 0) (h (words_in (opens ∷ a ∷ closes ∷ [])) seven),
        ap (λ (o : Outcome). get_or o.memory 0 0) (meets (words_in (opens ∷ a ∷ closes ∷ [])) seven ∙ written),
      )
