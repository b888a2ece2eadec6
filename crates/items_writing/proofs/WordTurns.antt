-- One turn of the loop over a word.
use Rattle.std.proofs.Common.{None, Option, Some, Ok, Err}
use Prim.Native.Nat.{ℕ, zero, suc, ◌+◌, ◌-◌, ◌≤◌, ◌<◌}
use mathlib.Core.Path.{◌≡◌, refl, sym, ap, ◌∙◌}
use mathlib.Core.Bool.{Bool, true, false, not, ◌&&◌}
use mathlib.Core.List.{List, [], ◌∷◌, ◌++◌}
use lib.ListN.{length, get_or, take, drop, length-drop}
use lib.Dec.{eqb, ltb}
use borrow.Author.Tests.{eq-eqb, ne_eqb, le-ltb, lt-ltb, ltb-true}
use lib.Seq.{take-add, take_all, length-take-le}
use native.Mathlib.Omega.{arith}
use denote.Enum.Declared.{tag_of}
use types.Run.{OneOf, miss}
use Rattle.laws.specs.Quoted.{code}
use Rattle.laws.specs.Texts.{span}
use Rattle.laws.proofs.Choice.{by_bool}
use Rattle.laws.proofs.Places.{past}
use Rattle.laws.proofs.Runs.{span_le, span_hit, span_stop}
use Rattle.chars.specs.Encode.{utf8}
use Rattle.chars.specs.Utf8.{sequences, chars}
use Rattle.chars.proofs.Chars.{CharAt, char_at}
use Rattle.chars.proofs.Width.{wide}
use Rattle.items.specs.declared.Outcome.{Outcome}
use Rattle.items.specs.declared.Phase.{Phase}
use Rattle.items.specs.declared.Next.TheVariants.{Eat, Stop}
use Rattle.numbers.specs.declared.Parts.{Parts}
use Rattle.numbers.specs.declared.ParseError.TheVariants as parsed
use Rattle.numbers.specs.Grammar.{parse_number, Parsed}
use Rattle.items.specs.declared.Outcome.TheVariants.{Token, Str, HereStr, Word, Run, Lined, Keyword, Character, Error, ErrorAt}
use Rattle.items.specs.declared.Phase.TheVariants as ph
use Rattle.items.specs.Classes.{in_word, breaks_word, in_run, stays_run, ends_run}
use Rattle.chars.specs.Blank.{is_blank}
use Rattle.items.specs.Readers.{SoFar, so_far, first_is}
use Rattle.items.specs.Meaning.{word_kind}
use Rattle.items.specs.Kinds as kind
use Rattle.items.specs.Machine.{step_of, finish_of, depth_of}
use Rattle.items.proofs.Deep.{deep_eat}
use Rattle.items.specs.contracts.Outcome.{the_type}
use Rattle.steps.specs.Runs.{keeps}
use Rattle.steps.proofs.Kept.{kept_ascii, kept_stays, ascii_found}
use Rattle.items_writing.specs.Decide.{close_of, stand_from, name_word, is_name, is_pair_of}

-- ---- the end of the word

pub close_last : (last : Bool) (p : Phase) (raw : List ℕ) (n : ℕ) {o : Outcome} → last ≡ true → o ≡ finish_of p raw → Some o ≡ close_of last p (so_far raw n)
close_last last p raw n e f = rw (e, f)

pub close_eat : (last : Bool) (p q : Phase) (raw : List ℕ) (n : ℕ) → last ≡ false → step_of true p (so_far raw n) (code " ") ≡ Eat q → None ≡ close_of last p (so_far raw n)
close_eat last p q raw n e f = rw (e, f)

pub close_stop : (last : Bool) (p : Phase) (raw : List ℕ) (n : ℕ) (o : Outcome) → last ≡ false → step_of true p (so_far raw n) (code " ") ≡ Stop o → Some o ≡ close_of last p (so_far raw n)
close_stop last p raw n o e f = rw (e, f)

-- a word, and a run, end in both ways alike
pub word_closes : (last : Bool) (p : Phase) (i : SoFar) → p ≡ ph.InWord → Some Word ≡ close_of last p i
unfolding in_word breaks_word is_blank
word_closes true p i e = rw e
word_closes false p i e = rw e

pub run_closes : (last : Bool) (p : Phase) (i : SoFar) → p ≡ ph.InRun → Some Run ≡ close_of last p i
unfolding in_run stays_run ends_run is_blank
run_closes true p i e = rw e
run_closes false p i e = rw e

-- ---- the word from a place on

module _ (t : List ℕ) (last : Bool) where
  abbrev pub onward : Phase → ℕ → Option Outcome
  onward p at = stand_from last p (so_far (take at t) at) (chars (drop at t))

  module _ (p : Phase) (at c next : ℕ) (k : CharAt t at c next) where
    front_more : take next t ≡ take at t ++ utf8 c
    front_more =
        let e : next ≡ at + (next - at) = omega (arith, k.on) in
        ap (λ (n : ℕ). take n t) e ∙ (take-add at (next - at) t ∙ ap (λ (l : List ℕ). take at t ++ l) k.bytes)

    pub go_eat : (q : Phase) → step_of true p (so_far (take at t) at) c ≡ Eat q → onward p at ≡ onward q next
    unfolding stand_from
    go_eat q e = rw k.first (rw (e, stand_from) (rw (← front_more, ← k.on)))

    pub go_stop : (o : Outcome) → step_of true p (so_far (take at t) at) c ≡ Stop o → onward p at ≡ None
    unfolding stand_from
    go_stop o e = rw k.first (rw (e, stand_from))

    pub go_deep : (q : Phase) → depth_of p ≤ at → step_of true p (so_far (take at t) at) c ≡ Eat q → depth_of q ≤ next
    go_deep q h e = omega (arith, deep_eat true p (so_far (take at t) at) c q e, k.on, wide c)

  -- a run of characters that leave the word in its phase
  runs : (p : Phase) (n at : ℕ) → n ≤ span (keeps p) (drop at t) → onward p at ≡ onward p (at + n)
  runs p zero at h = let e : at + 0 ≡ at = omega arith in rw e
  runs p (suc n) at h =
      let inside : at < length t = omega (arith, span_le (keeps p) (drop at t), length-drop at t) in
      by_bool (keeps p (get_or t at 0))
      (λ e. let on = span_hit (keeps p) t at inside e in
      let j : at + suc n ≡ at + 1 + n = omega arith in
      let k = char_at t at (get_or t at 0) (at + 1) (ascii_found t at inside (ltb-true (get_or t at 0) 0x80 (kept_ascii p (get_or t at 0) e))) (omega arith) in
      rw j (go_eat p at (get_or t at 0) (at + 1) k p (kept_stays true p _ (get_or t at 0) e) ∙ runs p n (at + 1) (omega (arith, on))))
      (λ e. absurd (omega (arith, span_stop (keeps p) t at inside e)))

  pub go_run : (p : Phase) (at r : ℕ) → at ≤ length t → r ≡ at + span (keeps p) (drop at t) → (at ≤ r) × (r ≤ length t) × (onward p at ≡ onward p r)
  go_run p at r h e =
      (omega arith, omega (arith, span_le (keeps p) (drop at t), length-drop at t), rw e (runs p (span (keeps p) (drop at t)) at (omega arith)))

  pub go_last : (p : Phase) (at : ℕ) → chars (drop at t) ≡ [] → onward p at ≡ close_of last p (so_far (take at t) at)
  unfolding stand_from
  go_last p at e = rw e

  no_chars : chars [] ≡ []
  unfolding chars sequences
  no_chars = refl

  pub go_out : (p : Phase) (at : ℕ) → at ≤ length t → length t ≤ at → onward p at ≡ close_of last p (so_far t (length t))
  go_out p at h g =
      let e : at ≡ length t = omega arith in
      go_last p at (rw (past t at g) no_chars) ∙ rw (take_all at t g, e)

  -- the part up to a place, closed
  pub go_closed : (p : Phase) (at : ℕ) → at ≤ length t → chars (drop at t) ≡ [] → close_of last p (so_far (take at t) (length (take at t))) ≡ onward p at
  go_closed p at h e = sym (go_last p at e ∙ rw (length-take-le at t h))

  pub front_length : (at : ℕ) → at ≤ length t → length (take at t) ≡ at
  front_length at h = length-take-le at t h

-- ---- one identifier

module _ (raw : List ℕ) {k : ℕ} (q : k ≡ word_kind raw) where
  pub name_kind : (k ≡ kind.Identifier → ⊥) → false ≡ name_word raw
  name_kind h = let e : eqb (word_kind raw) kind.Identifier ≡ false = ne_eqb _ _ (λ f. h (q ∙ f)) in rw e

  pub name_short : k ≡ kind.Identifier → length raw ≤ 1 → true ≡ name_word raw
  name_short h l =
      let e : eqb (word_kind raw) kind.Identifier ≡ true = eq-eqb _ _ (sym q ∙ h) in
      let f : ltb 1 (length raw) ≡ false = le-ltb 1 (length raw) l in
      rw (e, f) (sym (not_and_false (first_is (code "+") raw)))
    where
      not_and_false : (x : Bool) → not (x && false) ≡ true
      not_and_false true = refl
      not_and_false false = refl

  pub name_long : k ≡ kind.Identifier → 1 < length raw → not (eqb (get_or raw 0 0) (code "+")) ≡ name_word raw
  name_long h l =
      let e : eqb (word_kind raw) kind.Identifier ≡ true = eq-eqb _ _ (sym q ∙ h) in
      let f : ltb 1 (length raw) ≡ true = lt-ltb 1 (length raw) l in
      rw (e, f) (not_and_true (first_is (code "+") raw))
    where
      not_and_true : (x : Bool) → not x ≡ not (x && true)
      not_and_true true = refl
      not_and_true false = refl

-- by outcome
pub name_number : (raw : List ℕ) {p : Parsed} (parts : Parts) → p ≡ parse_number raw → p ≡ Ok parts → false ≡ is_name Run raw
unfolding is_name
name_number raw parts e f = rw (← e, f)

pub name_none : (raw : List ℕ) {p : Parsed} {r : Bool} → p ≡ parse_number raw → p ≡ Err parsed.NoNumber → r ≡ name_word raw → r ≡ is_name Run raw
unfolding is_name
name_none raw e f g = rw (← e, f) g

pub name_zero : (raw : List ℕ) {p : Parsed} → p ≡ parse_number raw → p ≡ Err parsed.ZeroDenominator → false ≡ is_name Run raw
unfolding is_name
name_zero raw e f = rw (← e, f)

-- What is neither a word nor a run is no name, nor a pair. The tags of these outcomes
abbrev pub others : List ℕ
others = 0 ∷ 1 ∷ 2 ∷ 5 ∷ 6 ∷ 7 ∷ 8 ∷ 9 ∷ []

pub other_none : (o : Outcome) → OneOf others (tag_of the_type o) → (raw : List ℕ) → (false ≡ is_name o raw) × (false ≡ is_pair_of o raw)
unfolding is_name is_pair_of
other_none (Token k d) h raw = (refl, refl)
other_none Str h raw = (refl, refl)
other_none HereStr h raw = (refl, refl)
other_none Word h raw = absurd (miss others 3 tt h)
other_none Run h raw = absurd (miss others 4 tt h)
other_none Lined h raw = (refl, refl)
other_none Keyword h raw = (refl, refl)
other_none Character h raw = (refl, refl)
other_none (Error n d) h raw = (refl, refl)
other_none (ErrorAt n d a b) h raw = (refl, refl)
