-- Programs that do not meet the promises, whatever else they do: a row of specs/, where the definition answers otherwise, contradicts their
-- habit. And what the calls for C leave is one thing.
use Prim.Native.Nat.{ℕ}
use mathlib.Core.Path.{◌≡◌, sym, ap, ◌∙◌}
use mathlib.Core.List.{List, [], ◌∷◌, ◌++◌}
use lib.ListN.{get_or, replicate}
use native.Mathlib.Omega.{arith}
use Rattle.items_files.specs.Answers.{Answer, served, refused, Outcome}
use Rattle.items_files.specs.Write.{write_of}
use Rattle.items_files.specs.Read.{read_of}
use Rattle.items_files_promises.specs.Rows.{closes, closes_file, written, unwritten, loaded, unloaded}
use Rattle.items_files_promises.specs.Told.{Seen, write_seen, read_seen}

pub one_answer_write_told : (records out values : List ℕ) (x y : Seen) → x ≡ write_seen records out values → y ≡ write_seen records out values → x ≡ y
one_answer_write_told records out values x y e f = e ∙ sym f

pub one_answer_read_told : (file records values : List ℕ) (x y : Seen) → x ≡ read_seen file records values → y ≡ read_seen file records values → x ≡ y
one_answer_read_told file records values x y e f = e ∙ sym f

-- whether it is a refusal
abbrev refuses : Answer → ℕ
refuses (served n) = 0
refuses (refused k n) = 1

module _ (call : List ℕ → List ℕ → Outcome) where
  module _ (meets : (records out : List ℕ) → call records out ≡ write_of records out) where
    -- it refuses everything, it refuses nothing, it writes nothing
    pub never_refuses_write : ((records out : List ℕ) → refuses (call records out).answer ≡ 1) → ⊥
    never_refuses_write h =
        omega (arith, h closes (replicate 22 9), ap (λ (o : Outcome). refuses o.answer) (meets closes (replicate 22 9) ∙ written))

    pub never_serves_write : ((records out : List ℕ) → refuses (call records out).answer ≡ 0) → ⊥
    never_serves_write h =
        omega (arith, h closes (replicate 19 9), ap (λ (o : Outcome). refuses o.answer) (meets closes (replicate 19 9) ∙ unwritten))

    pub never_unwritten : ((records out : List ℕ) → (call records out).memory ≡ out) → ⊥
    never_unwritten h =
        omega (
          arith,
          ap (λ (m : List ℕ). get_or m 0 0) (h closes (replicate 22 9)),
          ap (λ (o : Outcome). get_or o.memory 0 0) (meets closes (replicate 22 9) ∙ written),
        )

  module _ (meets : (file records : List ℕ) → call file records ≡ read_of file records) where
    pub never_refuses_read : ((file records : List ℕ) → refuses (call file records).answer ≡ 1) → ⊥
    never_refuses_read h =
        omega (arith, h closes_file (replicate 21 9), ap (λ (o : Outcome). refuses o.answer) (meets closes_file (replicate 21 9) ∙ loaded))

    pub never_serves_read : ((file records : List ℕ) → refuses (call file records).answer ≡ 0) → ⊥
    never_serves_read h =
        omega (arith, h closes_file (replicate 19 9), ap (λ (o : Outcome). refuses o.answer) (meets closes_file (replicate 19 9) ∙ unloaded))

    pub never_unloaded : ((file records : List ℕ) → (call file records).memory ≡ records) → ⊥
    never_unloaded h =
        omega (
          arith,
          ap (λ (m : List ℕ). get_or m 0 0) (h closes_file (replicate 21 9)),
          ap (λ (o : Outcome). get_or o.memory 0 0) (meets closes_file (replicate 21 9) ∙ loaded),
        )
