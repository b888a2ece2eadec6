-- A run of characters that leave an item in its phase: the scan answers past it what it answers before it.
use Prim.Native.Nat.{ℕ, zero, suc, ◌+◌, ◌-◌, ◌≤◌, ◌<◌}
use mathlib.Core.Path.{◌≡◌, refl, sym, ap, ◌∙◌}
use mathlib.Core.Bool.{Bool, true, false, not, ◌&&◌}
use mathlib.Core.List.{List, [], ◌∷◌, ◌++◌}
use mathlib.Core.Logic.{◌⊎◌, inl, inr, ⊎_elim}
use lib.Dec.{eqb, ltb}
use lib.ListN.{length, get_or, drop, length-drop}
use lib.Seq.{drop-cons}
use native.Mathlib.Omega.{arith}
use borrow.Author.Tests.{ltb-true, lt-ltb, ne_eqb, not-true, eqb-true}
use Rattle.laws.specs.Quoted.{code, codes, one_of, within}
use Rattle.laws.specs.Texts.{span}
use Rattle.laws.proofs.Choice.{by_bool, yes_no, no_yes, if_all, and_true, within_is}
use Rattle.laws.proofs.Runs.{span_le, span_hit, span_stop}
use Rattle.chars.proofs.Round.{one_read}
use Rattle.chars.proofs.Blanks.{between_blanks, low_run}
use Rattle.chars.specs.Blank.{is_blank}
use Rattle.chars.specs.Utf8.{front, placed}
use Rattle.chars.specs.declared.Decoded.TheVariants as decoded
use Rattle.chars.proofs.Chars.{char_at}
use Rattle.byte_runs.specs.Runs.{plain, blank}
use Rattle.items.specs.declared.Outcome.{Outcome}
use Rattle.items.specs.declared.Phase.{Phase}
use Rattle.items.specs.declared.Phase.TheVariants as ph
use Rattle.items.specs.declared.Next.TheVariants.{Eat}
use Rattle.items.specs.Classes.{delim_of, breaks_word, stays_run, in_nest, in_quotes, in_word, in_run, ends_hash, in_hash, stays_hash}
use Rattle.items.specs.Readers.{SoFar}
use Rattle.items.specs.Machine.{step_of, scan_of}
use Rattle.steps.specs.Scan.{scanned, answer, Passes}
use Rattle.steps.specs.Runs.{keeps, of_word, of_run}
use Rattle.steps.proofs.Turn.{turn_eat}
use Rattle.steps.proofs.Characters.{upto, in_run_lem}

-- a plain character is neither of two
module _ (a b c : ℕ) (e : plain a b c ≡ true) where
  both : (not (eqb c a) ≡ true) × (not (eqb c b) ≡ true)
  both = and_true (not (eqb c a)) (not (eqb c b)) (and_true (ltb c 0x80) (not (eqb c a) && not (eqb c b)) e).1

  plain_a : eqb c a ≡ false
  plain_a = not-true (eqb c a) both.0

  plain_b : eqb c b ≡ false
  plain_b = not-true (eqb c b) both.1

-- ---- a character that is passed

pub kept_ascii : (p : Phase) (c : ℕ) → keeps p c ≡ true → ltb c 0x80 ≡ true
kept_ascii ph.InLine c e = (and_true _ _ e).0
kept_ascii ph.AfterComma c e = no_yes e
kept_ascii ph.AfterHash c e = no_yes e
kept_ascii ph.AfterAngle c e = no_yes e
kept_ascii ph.HereDelim c e = no_yes e
kept_ascii ph.HereStart c e = no_yes e
kept_ascii ph.HereBody c e = no_yes e
kept_ascii ph.InWord c e = (and_true _ _ e).0
kept_ascii ph.WordEscape c e = no_yes e
kept_ascii ph.InRun c e = (and_true _ _ e).0
kept_ascii ph.InHash c e = (and_true _ _ e).0
kept_ascii ph.HashEscape c e = no_yes e
kept_ascii ph.HashTick c e = no_yes e
kept_ascii ph.HashComma c e = no_yes e
kept_ascii (ph.Nest d) c e = (and_true _ _ e).0
kept_ascii (ph.NestBar d) c e = no_yes e
kept_ascii (ph.NestSharp d) c e = no_yes e
kept_ascii (ph.Quoted k) c e = (and_true _ _ e).0
kept_ascii (ph.Closed k) c e = no_yes e
kept_ascii (ph.TrimBefore k) c e = no_yes e
kept_ascii (ph.TrimAfter k) c e = no_yes e
kept_ascii (ph.Escape k from) c e = no_yes e
kept_ascii (ph.Brace k from) c e = no_yes e
kept_ascii (ph.Hex k closer from n) c e = no_yes e
kept_ascii (ph.Done o) c e = no_yes e

-- a word goes on with a character that neither breaks it nor is a backslash
word_goes_on : (c : ℕ) → of_word c ≡ true → (breaks_word c ≡ false) × (eqb c (code "\\") ≡ false)
word_goes_on c e =
    let f = and_true (not (breaks_word c)) (not (eqb c (code "\\"))) (and_true (ltb c 0x80) (not (breaks_word c) && not (eqb c (code "\\"))) e).1 in
    (not-true (breaks_word c) f.0, not-true (eqb c (code "\\")) f.1)

-- so does one that starts with `#`
word_in_hash : (c : ℕ) → of_word c ≡ true → in_hash c ≡ stays_hash
unfolding breaks_word in_hash ends_hash
word_in_hash c e =
    let w = word_goes_on c e in
    let other : (k : ℕ) → breaks_word k ≡ true → eqb c k ≡ false = λ k t. ne_eqb c k (λ f. yes_no (sym t ∙ ap breaks_word (sym f) ∙ w.0)) in
    let solid : is_blank c ≡ false =
    by_bool (is_blank c) (λ b. yes_no (sym (if_all (λ (x : Bool). x ≡ true) (one_of (codes "([)]{}'\"`;,") c) refl b) ∙ w.0)) (λ b. b) in
    rw (
      w.1,
      other (code "'") refl,
      other (code "`") refl,
      other (code ",") refl,
      other (code "(") refl,
      other (code "[") refl,
      other (code ")") refl,
      other (code "]") refl,
      solid,
    )

pub kept_stays : (report : Bool) (p : Phase) (i : SoFar) (c : ℕ) → keeps p c ≡ true → step_of report p i c ≡ Eat p
unfolding in_nest in_quotes in_word in_run
kept_stays report ph.InLine i c e = rw (plain_a (code "\n") (code "\n") c e)
kept_stays report ph.AfterComma i c e = no_yes e
kept_stays report ph.AfterHash i c e = no_yes e
kept_stays report ph.AfterAngle i c e = no_yes e
kept_stays report ph.HereDelim i c e = no_yes e
kept_stays report ph.HereStart i c e = no_yes e
kept_stays report ph.HereBody i c e = no_yes e
kept_stays report ph.InWord i c e = let w = word_goes_on c e in rw (w.0, w.1)
kept_stays report ph.WordEscape i c e = no_yes e
kept_stays report ph.InRun i c e = rw (and_true (ltb c 0x80) (stays_run c) e).1
kept_stays report ph.InHash i c e = rw (word_in_hash c e)
kept_stays report ph.HashEscape i c e = no_yes e
kept_stays report ph.HashTick i c e = no_yes e
kept_stays report ph.HashComma i c e = no_yes e
kept_stays report (ph.Nest d) i c e = rw (plain_a (code "|") (code "#") c e, plain_b (code "|") (code "#") c e)
kept_stays report (ph.NestBar d) i c e = no_yes e
kept_stays report (ph.NestSharp d) i c e = no_yes e
kept_stays report (ph.Quoted k) i c e = rw (plain_a (delim_of k) (code "\\") c e, plain_b (delim_of k) (code "\\") c e)
kept_stays report (ph.Closed k) i c e = no_yes e
kept_stays report (ph.TrimBefore k) i c e = no_yes e
kept_stays report (ph.TrimAfter k) i c e = no_yes e
kept_stays report (ph.Escape k from) i c e = no_yes e
kept_stays report (ph.Brace k from) i c e = no_yes e
kept_stays report (ph.Hex k closer from n) i c e = no_yes e
kept_stays report (ph.Done o) i c e = no_yes e

-- ---- a run of them

-- a character of ASCII is one byte
space_blank : is_blank 0x20 ≡ true
unfolding is_blank
space_blank = refl

-- a blank of ASCII is a blank
pub blank_ascii : (c : ℕ) → blank c ≡ true → (c < 0x80) × (is_blank c ≡ true)
blank_ascii c e =
    by_bool (eqb c 0x20)
    (λ f. let d = eqb-true c 0x20 f in (omega arith, ap is_blank d ∙ space_blank))
    (λ f. let h = within_is 0x09 0x0D c (rw f at e) in (omega arith, low_run c h.0 h.1))

pub ascii_found : (s : List ℕ) (at : ℕ) → at < length s → get_or s at 0 < 0x80 → decoded.Char (get_or s at 0) (at + 1) ≡ placed at (front (drop at s))
ascii_found s at h k = rw (drop-cons s at 0 h) (rw (one_read (get_or s at 0) _ k))

module _ (s : List ℕ) (report : Bool) (a : ℕ) (p : Phase) where
  steps : (n at : ℕ) → a ≤ at → n ≤ span (keeps p) (drop at s) → answer s report a p at ≡ answer s report a p (at + n)
  steps zero at h k = let e : at + 0 ≡ at = omega arith in rw e
  steps (suc n) at h k =
      let inside : at < length s = omega (arith, span_le (keeps p) (drop at s), length-drop at s) in
      by_bool (keeps p (get_or s at 0))
      (λ e. let on = span_hit (keeps p) s at inside e in
      let j : at + suc n ≡ at + 1 + n = omega arith in
      rw j (turn_eat s report a p at (get_or s at 0) (at + 1) (char_at s at (get_or s at 0) (at + 1) (ascii_found s at inside
      (ltb-true (get_or s at 0) 0x80 (kept_ascii p (get_or s at 0) e))) (omega arith)) p h (kept_stays report p _ (get_or s at 0) e)
      ∙ steps n (at + 1) (omega arith) (omega (arith, on))))
      (λ e. absurd (omega (arith, span_stop (keeps p) s at inside e)))

  pub run_on : (at : ℕ) → a ≤ at → answer s report a p at ≡ answer s report a p (at + span (keeps p) (drop at s))
  run_on at h = steps (span (keeps p) (drop at s)) at h (omega arith)

pub passes : (s : List ℕ) (at : ℕ) (p : Phase) (r : ℕ) → at ≤ length s → at ≤ r → r ≤ at + span (keeps p) (drop at s) → Passes s p at r
passes s at p r h low high = (
  low,
  omega (arith, span_le (keeps p) (drop at s), length-drop at s),
  λ report a k. let e : at + (r - at) ≡ r = omega arith in steps s report a p (r - at) at k (omega arith) ∙ ap (answer s report a p) e,
)

-- ---- an item that is at its end

pub done_scan : (report : Bool) (o : Outcome) (i : SoFar) (cs : List ℕ) → record { what = o; end = i.at } ≡ scanned (scan_of report (ph.Done o) i cs)
unfolding scan_of
done_scan report o i [] = refl
done_scan report o i (c ∷ cs) = refl

-- ---- the bytes that most words and numbers are made of

module _ (c : ℕ) where
  -- a character of the second of three lists is one of them all
  in_second : (ks ls ms : List ℕ) → one_of ls c ≡ true → one_of (ks ++ (ls ++ ms)) c ≡ true
  in_second (k ∷ ks) ls ms e = by_bool (eqb c k) (λ f. rw f) (λ f. rw f (in_second ks ls ms e))
  in_second [] (l ∷ ls) ms e = by_bool (eqb c l) (λ f. rw f) (λ f. rw f (in_second [] ls ms (rw f at e)))
  in_second [] [] ms e = no_yes e

  pub digit_runs : within 0x30 0x39 c ≡ true → of_run c ≡ true
  unfolding stays_run
  digit_runs e =
      let h = within_is 0x30 0x39 c e in
      rw (lt-ltb c 0x80 (omega arith)) (in_second (codes "+-./@") (upto 10 0x30) (codes "aAbBcCdDeEfFin") (in_run_lem 10 0x30 c h.0 (omega arith)))

  pub letter_words : within 0x61 0x7A c ≡ true → of_word c ≡ true
  unfolding breaks_word
  letter_words e =
      let h = within_is 0x61 0x7A c e in
      let other : (k : ℕ) → (k < 0x61) ⊎ (0x7A < k) → eqb c k ≡ false = λ k d. ne_eqb c k (λ f. ⊎_elim (λ x. omega arith) (λ x. omega arith) d) in
      rw (
        lt-ltb c 0x80 (omega arith),
        other (code "(") (inl (omega arith)),
        other (code "[") (inl (omega arith)),
        other (code ")") (inl (omega arith)),
        other (code "]") (inl (omega arith)),
        other (code "{") (inr (omega arith)),
        other (code "}") (inr (omega arith)),
        other (code "'") (inl (omega arith)),
        other (code "\"") (inl (omega arith)),
        other (code "`") (inl (omega arith)),
        other (code ";") (inl (omega arith)),
        other (code ",") (inl (omega arith)),
        other (code "\\") (inl (omega arith)),
        between_blanks c (omega arith) (omega arith) (λ f. omega arith) (λ f. omega arith) (λ f. omega arith) (λ f. omega arith),
      )

  -- what comes before the plus is in no number run
  pub early_stops : c < 0x2B → stays_run c ≡ false
  unfolding stays_run
  early_stops h =
      let other : (k : ℕ) → 0x2B ≤ k → eqb c k ≡ false = λ k d. ne_eqb c k (λ f. omega arith) in
      rw (
        other (code "+") (omega arith),
        other (code "-") (omega arith),
        other (code ".") (omega arith),
        other (code "/") (omega arith),
        other (code "@") (omega arith),
        other (code "0") (omega arith),
        other (code "1") (omega arith),
        other (code "2") (omega arith),
        other (code "3") (omega arith),
        other (code "4") (omega arith),
        other (code "5") (omega arith),
        other (code "6") (omega arith),
        other (code "7") (omega arith),
        other (code "8") (omega arith),
        other (code "9") (omega arith),
        other (code "a") (omega arith),
        other (code "A") (omega arith),
        other (code "b") (omega arith),
        other (code "B") (omega arith),
        other (code "c") (omega arith),
        other (code "C") (omega arith),
        other (code "d") (omega arith),
        other (code "D") (omega arith),
        other (code "e") (omega arith),
        other (code "E") (omega arith),
        other (code "f") (omega arith),
        other (code "F") (omega arith),
        other (code "i") (omega arith),
        other (code "n") (omega arith),
      )
