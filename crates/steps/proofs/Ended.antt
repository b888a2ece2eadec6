-- An item whose run of characters ends at the end of the text, or before a character of ASCII that stops it there, ends there.
use Rattle.std.proofs.Common.{None, Option, Some}
use Prim.Native.Nat.{ℕ, suc, ◌+◌, ◌-◌, ◌≤◌, ◌<◌}
use mathlib.Core.Path.{◌≡◌, refl, sym, ap, subst, ◌∙◌}
use Rattle.std.specs.Bool.{then_some}
use mathlib.Core.Bool.{Bool, true, false, not}
use mathlib.Core.List.{List, [], ◌∷◌}
use lib.Dec.{eqb}
use lib.ListN.{length, get_or, take, drop, length-drop}
use lib.Seq.{get_or-drop}
use native.Mathlib.Omega.{arith}
use borrow.Author.Tests.{lt-ltb, eq-eqb, ne_eqb, not-true}
use Rattle.laws.specs.Quoted.{code}
use Rattle.laws.specs.Texts.{span}
use Rattle.laws.proofs.Choice.{by_bool, impossible, and_true}
use Rattle.byte_runs.specs.Runs.{apart}
use Rattle.chars.specs.Blank.{is_blank}
use Rattle.chars.proofs.Chars.{char_at}
use Rattle.items.specs.declared.Outcome.{Outcome}
use Rattle.items.specs.declared.Outcome.TheVariants.{Word, Run}
use Rattle.items.specs.declared.Quotes.{Quotes}
use Rattle.items.specs.declared.Quotes.TheVariants.{Double, Lines}
use Rattle.items.specs.declared.Phase.{Phase}
use Rattle.items.specs.declared.Phase.TheVariants as ph
use Rattle.items.specs.declared.Next.TheVariants.{Eat, Stop}
use Rattle.items.specs.Classes.{delim_of, in_nest, in_quotes, breaks_word, stays_run, ends_run, in_word, in_run}
use Rattle.items.specs.Readers.{SoFar, comment, closed}
use Rattle.items.specs.Meaning.{escaped}
use Rattle.items.specs.Machine.{step_of, finish_of, scan_of}
use Rattle.steps.specs.Scan.{part, scanned, answer, Passes}
use Rattle.steps.specs.Runs.{keeps, of_word, of_run}
use Rattle.steps.specs.Ended.{EndsAs, ClosesAt}
use Rattle.steps.proofs.Turn.{turn_eat, turn_stop, turn_out}
use Rattle.steps.proofs.Kept.{ascii_found, done_scan}
use Rattle.steps.proofs.Letters.{passes_none}

-- what is told where a test passes, and of nothing else
pub told : (P : Option ℕ → Type 0) → P None → (b : Bool) (e : ℕ) (r : Option ℕ) → r ≡ then_some b e → (b ≡ true → P (Some e)) → P r
told P n true e r q h = subst P (sym q) (h refl)
told P n false e r q h = subst P (sym q) n

-- where a run ends before the text does, its test fails
span_fails : (f : ℕ → Bool) (t : List ℕ) → span f t < length t → f (get_or t (span f t) 0) ≡ false
unfolding span
span_fails f [] h = absurd (omega arith)
span_fails f (c ∷ t) h = by_bool (f c)
    (λ e. let k : suc (suc (span f t)) ≤ suc (length t) = rw e at h in rw e (span_fails f t (omega arith)))
    (λ e. rw e e)

pub run_fails : (f : ℕ → Bool) (s : List ℕ) (from e : ℕ) → e ≡ from + span f (drop from s) → e < length s → f (get_or s e 0) ≡ false
run_fails f s from e ends h =
    let n : span f (drop from s) < length (drop from s) = omega (arith, length-drop from s) in
    rw ends (rw (← (get_or-drop from s (span f (drop from s)) 0)) (span_fails f (drop from s) n))

pub not_kept : (s : List ℕ) (from : ℕ) (p : Phase) (e : ℕ) → e ≡ from + span (keeps p) (drop from s) → e < length s → keeps p (get_or s e 0) ≡ false
not_kept s from p e = run_fails (keeps p) s from e

-- up to what ends such a run, and with it, there is no backslash
apart_unescaped : (q : ℕ) (t : List ℕ) → (q ≡ code "\\" → ⊥) → span (apart q (code "\\")) t < length t → get_or t (span (apart q (code "\\")) t) 0 ≡ q
    → escaped (take (span (apart q (code "\\")) t + 1) t) ≡ false
unfolding span escaped
apart_unescaped q [] n h e = absurd (omega arith)
apart_unescaped q (c ∷ t) n h e =
    by_bool (apart q (code "\\") c)
    (λ f. let m = span (apart q (code "\\")) t in
    let more : suc m + 1 ≡ suc (m + 1) = omega arith in
    let k : suc (suc m) ≤ suc (length t) = rw f at h in
    let g : get_or t m 0 ≡ q = rw f at e in
    let other : eqb c (code "\\") ≡ false = not-true (eqb c (code "\\")) (and_true (not (eqb c q)) (not (eqb c (code "\\"))) f).1 in
    rw (f, more, other) (apart_unescaped q t n (omega arith) g))
    (λ f. let g : c ≡ q = rw f at e in
    rw (f, ne_eqb c (code "\\") (λ x. n (sym g ∙ x))))

pub run_unescaped : (s : List ℕ) (q from e : ℕ) → (q ≡ code "\\" → ⊥) → e ≡ from + span (apart q (code "\\")) (drop from s) → e < length s → get_or s e 0 ≡ q
    → escaped (part s from (e + 1)) ≡ false
run_unescaped s q from e n ends h f =
    let m = span (apart q (code "\\")) (drop from s) in
    let long : e + 1 - from ≡ m + 1 = omega arith in
    rw long (apart_unescaped q (drop from s) n (omega (arith, length-drop from s)) (get_or-drop from s m 0 ∙ ap (λ (i : ℕ). get_or s i 0) (sym ends) ∙ f))

-- ---- an item that is passed up to the place e

module _ (s : List ℕ) (report : Bool) (from : ℕ) (p : Phase) (e : ℕ) (pass : Passes s p from e) (a : ℕ) (before : a ≤ from) where
  ended_out : length s ≤ e → answer s report a p from ≡ record { what = finish_of p (part s a e); end = e }
  ended_out h = pass.2 report a before ∙ turn_out s report a p e h

  ended_stop : (o : Outcome) → e < length s → get_or s e 0 < 0x80 → ((i : SoFar) → step_of report p i (get_or s e 0) ≡ Stop o)
      → answer s report a p from ≡ record { what = o; end = e }
  ended_stop o h k st =
      pass.2 report a before
      ∙ turn_stop s report a p e (get_or s e 0) (e + 1) (char_at s e (get_or s e 0) (e + 1) (ascii_found s e h k) (omega arith)) o (st _)

  -- before a character that is eaten into another phase
  eaten : (q : Phase) → e < length s → get_or s e 0 < 0x80 → ((i : SoFar) → step_of report p i (get_or s e 0) ≡ Eat q)
      → answer s report a p from ≡ answer s report a q (e + 1)
  eaten q h k st =
      pass.2 report a before
      ∙ turn_eat s report a p e (get_or s e 0) (e + 1) (char_at s e (get_or s e 0) (e + 1) (ascii_found s e h k) (omega arith)) q (omega (arith, pass.0)) (st _)

  -- from which the item is whole, whatever follows
  ended_eat : (o : Outcome) (q : Phase) → e < length s → get_or s e 0 < 0x80 → ((i : SoFar) → step_of report p i (get_or s e 0) ≡ Eat q)
      → ((i : SoFar) (cs : List ℕ) → scanned (scan_of report q i cs) ≡ record { what = o; end = i.at })
      → answer s report a p from ≡ record { what = o; end = e + 1 }
  ended_eat o q h k st fin = eaten q h k st ∙ fin _ _

-- ---- what closes quotes and a comment

pub delim_small : (k : Quotes) → delim_of k < 0x80
delim_small Double = omega arith
delim_small Lines = omega arith

pub delim_other : (k : Quotes) → delim_of k ≡ code "\\" → ⊥
delim_other Double e = omega arith
delim_other Lines e = omega arith

quote_closes : (report : Bool) (k : Quotes) (c : ℕ) → c ≡ delim_of k → (i : SoFar) → step_of report (ph.Quoted k) i c ≡ Eat (ph.Closed k)
unfolding in_quotes
quote_closes report k c e i = rw (eq-eqb c (delim_of k) e)

closed_whole : (report : Bool) (k : Quotes) (i : SoFar) (cs : List ℕ) → scanned (scan_of report (ph.Closed k) i cs) ≡ record { what = closed k i.bytes; end = i.at }
unfolding scan_of
closed_whole report k i [] = refl
closed_whole report k i (c ∷ cs) = refl

newline_closes : (report : Bool) (c : ℕ) → c ≡ code "\n" → (i : SoFar) → step_of report ph.InLine i c ≡ Eat (ph.Done comment)
newline_closes report c e i = rw e

bar_opens : (report : Bool) (d c : ℕ) → c ≡ code "|" → (i : SoFar) → step_of report (ph.Nest d) i c ≡ Eat (ph.NestBar d)
unfolding in_nest
bar_opens report d c e i = rw e

sharp_closes : (report : Bool) (c : ℕ) → c ≡ code "#" → (i : SoFar) → step_of report (ph.NestBar 1) i c ≡ Eat (ph.Done comment)
unfolding in_nest
sharp_closes report c e i = rw e

-- ---- what stops a word, and a number run

-- a character of ASCII with which a word does not go on, and which is no backslash
word_stops : (report : Bool) (c : ℕ) → c < 0x80 → (c ≡ code "\\" → ⊥) → of_word c ≡ false → (i : SoFar) → step_of report ph.InWord i c ≡ Stop Word
unfolding in_word
word_stops report c h n e i = by_bool (breaks_word c)
    (λ b. rw b)
    (λ b. let z : true ≡ false = sym (rw (lt-ltb c 0x80 h, b, ne_eqb c (code "\\") n)) ∙ e in impossible cc)

run_stops : (report : Bool) (c : ℕ) → c < 0x80 → ends_run report c ≡ true → of_run c ≡ false → (i : SoFar) → step_of report ph.InRun i c ≡ Stop Run
unfolding in_run
run_stops report c h f e i = let z : stays_run c ≡ false = rw (lt-ltb c 0x80 h) at e in rw (z, f)

-- a space ends a run
pub space_ends : (report : Bool) → ends_run report (code " ") ≡ true
unfolding ends_run is_blank
space_ends report = refl

-- ---- a word, a number run, quotes and the comments

module _ (s : List ℕ) (from e : ℕ) where
  module _ (pass : Passes s ph.InWord from e) (report : Bool) where
    pub word_out : length s ≤ e → EndsAs s report ph.InWord Word from (Some e)
    word_out h a k = ended_out s report from ph.InWord e pass a k h

    pub word_before : e < length s → get_or s e 0 < 0x80 → (get_or s e 0 ≡ code "\\" → ⊥) → of_word (get_or s e 0) ≡ false → EndsAs s report ph.InWord Word from (Some e)
    word_before h l n f a k = ended_stop s report from ph.InWord e pass a k Word h l (word_stops report (get_or s e 0) l n f)

  module _ (pass : Passes s ph.InRun from e) (report : Bool) where
    pub run_out : length s ≤ e → EndsAs s report ph.InRun Run from (Some e)
    run_out h a k = ended_out s report from ph.InRun e pass a k h

    pub run_before : e < length s → get_or s e 0 < 0x80 → ends_run report (get_or s e 0) ≡ true → of_run (get_or s e 0) ≡ false → EndsAs s report ph.InRun Run from (Some e)
    run_before h l n f a k = ended_stop s report from ph.InRun e pass a k Run h l (run_stops report (get_or s e 0) l n f)

  module _ (k : Quotes) (pass : Passes s (ph.Quoted k) from e) (h : e < length s) (q : get_or s e 0 ≡ delim_of k) where
    pub closed_before : (report : Bool) (a : ℕ) → a ≤ from → answer s report a (ph.Quoted k) from ≡ record { what = closed k (part s a (e + 1)); end = e + 1 }
    closed_before report a l =
        eaten s report from (ph.Quoted k) e pass a l (ph.Closed k) h (omega (arith, q, delim_small k)) (quote_closes report k _ q)
        ∙ closed_whole report k _ _

    pub quoted_before : escaped (part s from (e + 1)) ≡ false → ClosesAt s k from (e + 1)
    quoted_before bare =
        let back : e + 1 - 1 ≡ e = omega arith in
        record { some = omega (arith, pass.0); inside = omega arith; last = rw back q; unescaped = bare; is = closed_before }

  module _ (pass : Passes s ph.InLine from e) (report : Bool) where
    pub line_out : length s ≤ e → EndsAs s report ph.InLine comment from (Some e)
    line_out h a k = ended_out s report from ph.InLine e pass a k h

    pub line_before : e < length s → get_or s e 0 ≡ code "\n" → EndsAs s report ph.InLine comment from (Some (e + 1))
    line_before h q a k =
        ended_eat s report from ph.InLine e pass a k comment (ph.Done comment) h (omega (arith, q)) (newline_closes report _ q)
        (λ i cs. sym (done_scan report comment i cs))

  pub nested_before : Passes s (ph.Nest 1) from e → (report : Bool) → e + 1 < length s → get_or s e 0 ≡ code "|" → get_or s (e + 1) 0 ≡ code "#"
      → EndsAs s report (ph.Nest 1) comment from (Some (e + 1 + 1))
  nested_before pass report h b q a k =
      eaten s report from (ph.Nest 1) e pass a k (ph.NestBar 1) (omega arith) (omega (arith, b)) (bar_opens report 1 _ b)
      ∙ ended_eat s report (e + 1) (ph.NestBar 1) (e + 1) (passes_none s (ph.NestBar 1) (e + 1) (omega arith)) a (omega (arith, pass.0)) comment (ph.Done comment)
      h (omega (arith, q)) (sharp_closes report _ q) (λ i cs. sym (done_scan report comment i cs))

  pub nested_sign : Passes s (ph.Nest 1) from e → (report : Bool) (rest : List ℕ) → drop e s ≡ code "|" ∷ code "#" ∷ rest
      → EndsAs s report (ph.Nest 1) comment from (Some (e + 2))
  nested_sign pass report rest q =
      let more : e + 1 + 1 ≡ e + 2 = omega arith in
      let here : e ≡ e + 0 = omega arith in
      rw (← more) (nested_before pass report (omega (arith, ap length q, length-drop e s))
      (ap (λ (i : ℕ). get_or s i 0) here ∙ sym (get_or-drop e s 0 0) ∙ ap (λ (l : List ℕ). get_or l 0 0) q)
      (sym (get_or-drop e s 1 0) ∙ ap (λ (l : List ℕ). get_or l 1 0) q))

-- ---- past a part of the run

pub ends_past : (s : List ℕ) (report : Bool) (p : Phase) (o : Outcome) (from e : ℕ) (r : Option ℕ) → Passes s p from e → EndsAs s report p o e r → EndsAs s report p o from r
ends_past s report p o from e (Some x) pass k = λ a h. pass.2 report a h ∙ k a (omega (arith, pass.0))
ends_past s report p o from e None pass k = tt
