-- What C gets. `mihadrena_names_open` ensures `opening r words' ≡ open_of words bytes`, `mihadrena_names_enter` that
-- `entered r number' words' bytes' ≡ entered_of (enter_of words bytes party name)`, and `mihadrena_names_place` that
-- `r ≡ mark_of words bytes number` and `placed start' end' ≡ place_of words bytes number`.
use Rattle.std.specs.Prelude.{ℕ, ◌+◌, ◌<◌, ◌≡◌, refl, List, []}
use Rattle.std.proofs.Common.{arith, sym, ap, ◌∙◌, ne_eqb}
use Rattle.laws.specs.Quoted.{codes}
use Rattle.laws.specs.Texts.{same}
use Rattle.names.specs.Layout.{half_names, placed, nowhere, place_at, name_at, bears, half_bounds, is_in_bounds}
use Rattle.names.specs.Call.{rest, mix, proposes, probe, scan, lookup_of, find_of, new_words, laid, new_of, enter_of}
use Rattle.names.specs.Call.{mark_of, place_of}
use Rattle.names.specs.declared.Place.{Place}
use Rattle.names.specs.Answers.{Told, Number, Refused}
use Rattle.names_exports.specs.Marks.{Marked, entered, marked, entered_of}
use Rattle.names_promises.specs.Entering.{words, bytes}

-- ---- entering

-- two permitted answers coincide
enter_one_answer : (w b : List ℕ) (p : ℕ) (n : List ℕ) (x y : Marked)
    → x ≡ entered_of (enter_of w b p n) → y ≡ entered_of (enter_of w b p n) → x ≡ y
enter_one_answer w b p n x y e f = e ∙ sym f

-- the first name of party 1: the mark is 0, the number 512
mark_told : (entered_of (enter_of words bytes 1 (codes "a"))).mark ≡ 0
unfolding entered_of enter_of is_in_bounds half_bounds find_of lookup_of probe scan proposes bears name_at place_at same mix rest new_of new_words laid
mark_told = refl

number_told_lem : (entered_of (enter_of words bytes 1 (codes "a"))).number ≡ half_names
unfolding entered_of enter_of is_in_bounds half_bounds find_of lookup_of probe scan proposes bears name_at place_at same mix rest new_of new_words laid
number_told_lem = refl

-- no memory: 27, and nothing is written
refusal_told : entered_of (enter_of [] [] 0 (codes "a")) ≡ entered 27 0 [] []
unfolding entered_of enter_of is_in_bounds
refusal_told = refl

-- no program that marks every call as served meets the promise
never_marked : (n : ℕ) (w b : List ℕ) → entered 0 n w b ≡ entered_of (enter_of [] [] 0 (codes "a")) → ⊥
never_marked n w b h = let e : ◌≡◌ {A = ℕ} 0 27 = ap (λ (m : Marked). m.mark) (h ∙ refusal_told) in omega (arith, e)

-- a mark other than 0 comes with the number 0
refused_zero : (a : Told) (w b : List ℕ) (mark number : ℕ) (w' b' : List ℕ)
    → entered mark number w' b' ≡ marked a w b → 0 < mark → number ≡ 0
refused_zero (Number n) w b mark number w' b' e l = let z : mark ≡ 0 = ap (λ (m : Marked). m.mark) e in omega (arith, z, l)
refused_zero (Refused k) w b mark number w' b' e l = ap (λ (m : Marked). m.number) e

-- nor does one that gives another number than 0 with a refusal, as the one that stood there before, whatever is asked
never_numbered : (w b : List ℕ) (p : ℕ) (name : List ℕ) (mark number : ℕ) (w' b' : List ℕ)
    → entered mark number w' b' ≡ entered_of (enter_of w b p name) → 0 < mark → 0 < number → ⊥
unfolding entered_of
never_numbered w b p name mark number w' b' e l k =
    let o = enter_of w b p name in let z = refused_zero o.answer o.words o.bytes mark number w' b' e l in omega (arith, z, k)

-- ---- placing

-- no program that gives another place than 0 with a refusal, as the one that stood there before, meets the promise, whatever is asked
never_placed : (w b : List ℕ) (n mark start end : ℕ)
    → mark ≡ mark_of w b n → placed start end ≡ place_of w b n → 0 < mark → 0 < start + end → ⊥
unfolding place_of
never_placed w b n mark start end m e l k =
    let z : place_of w b n ≡ nowhere = simp (ne_eqb (mark_of w b n) 0 (λ z. omega (arith, z, m, l))) in
    omega (arith, k, ap (λ (q : Place). q.start) (e ∙ z), ap (λ (q : Place). q.end) (e ∙ z))
