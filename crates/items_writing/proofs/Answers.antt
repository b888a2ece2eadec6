-- What each answer of the call says.
use Prim.Native.Nat.{ℕ, ◌≤◌, ◌<◌}
use mathlib.Core.Path.{◌≡◌, sym, ap, ◌∙◌}
use mathlib.Core.Bool.{true, false}
use mathlib.Core.List.{List}
use lib.ListN.{length}
use lib.Dec.{ltb}
use native.Mathlib.Omega.{arith}
use borrow.Author.Tests.{lt-ltb, le-ltb}
use Rattle.laws.specs.Lent as lent
use Rattle.refusal.specs.Refusals as refusal
use Rattle.std.specs.Prelude.{Err}
use Rattle.items_writing.specs.declared.WriteError.{WriteError}
use Rattle.items_writing.specs.Records.{records_in, fine, judge}
use Rattle.items_writing.specs.Call.{refused_by, served, refused, call, deliver, write_within, write_of}
use Rattle.items_writing.specs.Pieces.{AllRight, onward, Measured}
use Rattle.items_writing.proofs.RightRecords.{all_right}

pub answer_refused : (records source text out : List ℕ) (e : WriteError) → Err e ≡ judge source text 0 (records_in records)
    → call (refused_by e) out ≡ write_of records source text out
unfolding write_within
answer_refused records source text out e q = rw (← q)

module _ (records source text out : List ℕ) (q : fine ≡ judge source text 0 (records_in records)) where
  pub answer_right : AllRight source text (records_in records)
  answer_right = all_right records source text (sym q)

  delivered : deliver refusal.limit (onward records source text true 0) out ≡ write_of records source text out
  unfolding write_within
  delivered = rw (← q)

  module _ {n : ℕ} (m : Measured (onward records source text true 0) n) where
    pub answer_long : refusal.limit < n → call (refused refusal.over_long refusal.limit) out ≡ write_of records source text out
    unfolding deliver
    answer_long h = rw (lt-ltb refusal.limit (length (onward records source text true 0)) (m.past h)) at delivered

    module _ (h : n ≤ refusal.limit) where
      size : n ≡ length (onward records source text true 0)
      size = m.within h

      pub answer_room : n ≤ length out → length (onward records source text true 0) ≤ length out
      answer_room g = omega (arith, size)

      fits : ltb refusal.limit (length (onward records source text true 0)) ≡ false
      fits = le-ltb refusal.limit (length (onward records source text true 0)) (omega (arith, size))

      pub answer_few : length out < n → call (refused refusal.too_few n) out ≡ write_of records source text out
      unfolding deliver
      answer_few g =
          ap (λ (x : ℕ). call (refused refusal.too_few x) out) size
          ∙ rw (fits, lt-ltb (length out) (length (onward records source text true 0)) (omega (arith, size))) at delivered

      pub answer_written : {after : List ℕ} → n ≤ length out → after ≡ lent.written (onward records source text true 0) out
          → call (served n) after ≡ write_of records source text out
      unfolding deliver
      answer_written {after} g w =
          ap (λ (x : ℕ). call (served x) after) size
          ∙ (ap (λ (o : List ℕ). call (served (length (onward records source text true 0))) o) w
          ∙ rw (fits, le-ltb (length out) (length (onward records source text true 0)) (omega (arith, size))) at delivered)
