-- The promise leaves one answer; and programs that do not meet it, whatever else they do: each has one bad habit, and a row of
-- specs/Rows contradicts it.
use Prim.Native.Nat.{ℕ}
use mathlib.Core.Path.{◌≡◌, refl, sym, ap, ◌∙◌}
use mathlib.Core.List.{List}
use lib.Dec.{eqb}
use native.Mathlib.Omega.{arith}
use Rattle.refusal.specs.Refusals as refusal
use Rattle.std.specs.Prelude.{if◌then◌else◌, Ok, Err}
use Rattle.laws.proofs.Choice.{impossible}
use Rattle.refusal.specs.Refusals.{over_long, unknown_choice}
use Rattle.chars.specs.Encode.{spelled}
use Rattle.numbers.specs.declared.NumberError.TheVariants as answer
use Rattle.numbers.specs.Call.{Answer, parts, no_number, error, refused}
use Rattle.numbers_standard.specs.declared.NumberByError.TheVariants.{Number, UnknownChoice}
use Rattle.numbers_standard.specs.Call.{NumberByAnswer, bought, standard, answered_by, number_by}
use Rattle.numbers_promises.specs.Rows.{bad, unknown, computed}

-- two answers that the contract permits for one choice and text coincide
pub one_answer : (a b : NumberByAnswer) → answered_by a ≡ answered_by b → a ≡ b
one_answer a b e = sym (back-answered a) ∙ ap back e ∙ back-answered b
  where
    back : Answer → NumberByAnswer
    back (parts p) = Ok p
    back no_number = Err (Number answer.NoNumber)
    back (error n) = Err (Number answer.ZeroDenominator)
    back (refused n m) = if eqb n unknown_choice then Err UnknownChoice else if eqb n over_long then Err (Number answer.TooLong) else Err (Number (answer.NotUtf8 m))

    back-answered : (a : NumberByAnswer) → back (answered_by a) ≡ a
    back-answered (Ok p) = refl
    back-answered (Err (Number answer.NoNumber)) = refl
    back-answered (Err (Number answer.ZeroDenominator)) = refl
    back-answered (Err (Number answer.TooLong)) = refl
    back-answered (Err (Number (answer.NotUtf8 at))) = refl
    back-answered (Err UnknownChoice) = refl

-- what tells two answers apart: 0 for a number, 1 for none, else the error's or the refusal's number
abbrev kind : Answer → ℕ
kind (parts p) = 0
kind no_number = 1
kind (error n) = n
kind (refused n m) = n

-- a program that meets the promise
module _ (call : ℕ → List ℕ → Answer) (meets : (choice : ℕ) (t : List ℕ) → call choice t ≡ number_by choice t) where
  -- it refuses every text
  pub never_refuses_all : ((choice : ℕ) (t : List ℕ) → (n : ℕ) × (m : ℕ) × (call choice t ≡ refused n m)) → ⊥
  never_refuses_all h =
      let r = h standard (spelled "1@1/-2") in
      let z : no_number ≡ refused r.0 r.1 = sym computed.slash_standard ∙ sym (meets standard (spelled "1@1/-2")) ∙ r.2 in
      impossible cc

  -- it gives one reader's answers by both choices
  pub never_one_reader : ((t : List ℕ) → call standard t ≡ call bought t) → ⊥
  never_one_reader h =
      let e = sym computed.odd_standard ∙ sym (meets standard (spelled "#xe+1i")) ∙ h (spelled "#xe+1i") ∙ meets bought (spelled "#xe+1i") ∙ computed.odd_bought in
      let z : ◌≡◌ {A = ℕ} 0 1 = ap kind e in
      omega arith

  -- it refuses choice 1 as unknown
  pub never_unknown_standard : ((t : List ℕ) → call standard t ≡ refused unknown_choice 0) → ⊥
  never_unknown_standard h =
      let z : ◌≡◌ {A = ℕ} refusal.unknown_choice refusal.not_utf8 = ap kind (sym (h bad) ∙ meets standard bad ∙ computed.bad-standard) in
      omega arith

  -- it takes an unknown choice for the bought reader
  pub never_unknown-bought : ((t : List ℕ) → call unknown t ≡ call bought t) → ⊥
  never_unknown-bought h =
      let z : ◌≡◌ {A = ℕ} refusal.unknown_choice refusal.not_utf8 = ap kind (sym computed.unknown_first ∙ sym (meets unknown bad) ∙ h bad ∙ meets bought bad ∙ computed.bad-bought) in
      omega arith

  -- it looks at the text before the choice
  pub never_text_first : call unknown bad ≡ refused refusal.not_utf8 0 → ⊥
  never_text_first h =
      let z : ◌≡◌ {A = ℕ} refusal.not_utf8 refusal.unknown_choice = ap kind (sym h ∙ meets unknown bad ∙ computed.unknown_first) in
      omega arith
