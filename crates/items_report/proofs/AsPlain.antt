-- Report mode reads every item as plain mode does, but for numbers (specs/AsPlain): each step of the machine is the same in both modes, or
-- differs in the place of an error, or ends a number run.
use Prim.Native.Nat.{ℕ}
use mathlib.Core.Path.{◌≡◌, refl, sym, ap, subst}
use mathlib.Core.Bool.{Bool, true, false}
use mathlib.Core.List.{List, [], ◌∷◌, map}
use lib.ListN.{drop}
use lib.Dec.{eqb}
use borrow.Author.Tests.{eqb-true}
use Rattle.std.specs.Prelude.{if◌then◌else◌, Ok, Err, Result}
use Rattle.laws.specs.Quoted.{code, codes, one_of}
use Rattle.laws.proofs.Choice.{by_bool}
use Rattle.chars.specs.Blank.{is_blank}
use Rattle.digits.specs.Hex.{hex_value}
use Rattle.numbers.specs.Grammar.{parse_number, numeric, Parsed}
use Rattle.numbers.specs.declared.ParseError.TheVariants as parsed
use Rattle.items.specs.declared.CharError.{CharError}
use Rattle.items.specs.declared.CharError.TheVariants.{Wrong, WrongAt}
use Rattle.items.specs.declared.Next.{Next}
use Rattle.items.specs.declared.Next.TheVariants.{Eat, Stop}
use Rattle.items.specs.declared.Outcome.{Outcome}
use Rattle.items.specs.declared.Outcome.TheVariants.{Word, Run, ErrorAt}
use Rattle.items.specs.declared.Phase.{Phase}
use Rattle.items.specs.declared.Phase.TheVariants as ph
use Rattle.items.specs.declared.Quotes.{Quotes}
use Rattle.items.specs.Classes.{first_of, breaks_word, in_word, InHex, in_hex, closes, stops, digit, InRun, stays, stops_run, leaves, stays_run, ends_run, in_run}
use Rattle.items.specs.Machine.{close_hex, on_brace, on_hex, enter_word, on_run, step_of, on_first, scan_of}
use Rattle.items.specs.Readers.{SoFar, so_far, eat, got, scalar_of, read_item, Read}
use Rattle.items.proofs.Same.{item_same}
use Rattle.items_report.specs.AsPlain.{same, error, word, AsPlain, alike, ends}

-- ---- characters by lists of them

-- a function that is a at each of the characters ks is a at one of them
pub at_one_of : {A : Type 0} (f : ℕ → A) (a : A) (ks : List ℕ) (c : ℕ) → map f ks ≡ map (λ k. a) ks → one_of ks c ≡ true → f c ≡ a
at_one_of f a [] c e h = cc
at_one_of f a (k ∷ ks) c e h =
    by_bool (eqb c k)
    (λ g. let i : c ≡ k = eqb-true c k g in rw i (cc))
    (λ g. at_one_of f a ks c (cc) (rw g at h))

-- ---- one step, in report mode and in plain mode

data Step (i : SoFar) (c : ℕ) : Next → Next → Type 0 where
  both : (n : Next) → Step i c n n
  failing : (n d a b from to : ℕ) → Step i c (Eat (ph.Done (ErrorAt n d a b))) (Eat (ph.Done (ErrorAt n d from to)))
  worded : parse_number i.bytes ≡ Err parsed.NoNumber → Step i c (Stop Run) (Stop Word)
  ended : (n : Next) → numeric (parse_number i.bytes) ≡ true → one_of (codes ";\"|") c ≡ true → Step i c (Stop Run) n

-- the class of a character in a run, by the tests that it is made of
abbrev classed : Bool → Bool → Bool → Bool → Bool → Bool → Parsed → InRun
classed report s b q k l n =
    if s then stays
    else if (if b then true else if q then report else k) then stops_run
    else if (if l then (if report then numeric n else false) else false) then stops_run
    else leaves

module _ (i : SoFar) (c : ℕ) where
  if_step : (b : Bool) (n m l : Next) → Step i c m l → Step i c (if b then n else m) (if b then n else l)
  if_step true n m l s = both n
  if_step false n m l s = s

  run_left : (l : Bool) (n : Parsed) → parse_number i.bytes ≡ n → one_of (codes ";\"|") c ≡ true → enter_word c ≡ Stop Word
      → Step i c (Stop Run) (on_run (if (if l then false else false) then stops_run else leaves) c)
  run_left true (Ok p) e h w = ended _ (ap numeric e) h
  run_left true (Err parsed.NoNumber) e h w = subst (λ (m : Next). Step i c (Stop Run) m) (sym w) (worded e)
  run_left true (Err parsed.ZeroDenominator) e h w = ended _ (ap numeric e) h
  run_left false (Ok p) e h w = ended _ (ap numeric e) h
  run_left false (Err parsed.NoNumber) e h w = subst (λ (m : Next). Step i c (Stop Run) m) (sym w) (worded e)
  run_left false (Err parsed.ZeroDenominator) e h w = ended _ (ap numeric e) h

  run_step : (s b q k l : Bool) (n : Parsed) → parse_number i.bytes ≡ n → (q ≡ true → (one_of (codes ";\"|") c ≡ true) × (enter_word c ≡ Stop Word))
      → (l ≡ true → one_of (codes ";\"|") c ≡ true) → Step i c (on_run (classed true s b q k l n) c) (on_run (classed false s b q k l n) c)
  run_step true b q k l n e f g = both _
  run_step false true q k l n e f g = both _
  run_step false false true k l n e f g = run_left l n e (f refl).0 (f refl).1
  run_step false false false true l n e f g = both _
  run_step false false false false true (Ok p) e f g = ended _ (ap numeric e) (g refl)
  run_step false false false false true (Err parsed.NoNumber) e f g = both _
  run_step false false false false true (Err parsed.ZeroDenominator) e f g = ended _ (ap numeric e) (g refl)
  run_step false false false false false n e f g = both _

  quote_breaks : one_of (codes ";\"") c ≡ true → (one_of (codes ";\"|") c ≡ true) × (enter_word c ≡ Stop Word)
  unfolding in_word breaks_word
  quote_breaks h = (at_one_of (λ k. one_of (codes ";\"|") k) true (codes ";\"") c refl h, at_one_of enter_word (Stop Word) (codes ";\"") c refl h)

  line_one : eqb c (code "|") ≡ true → one_of (codes ";\"|") c ≡ true
  line_one h = let e : c ≡ code "|" = eqb-true c (code "|") h in rw e

  run_both : Step i c (step_of true ph.InRun i c) (step_of false ph.InRun i c)
  unfolding in_run ends_run
  run_both =
      run_step (stays_run c) (one_of (codes "()[]") c) (one_of (codes ";\"") c) (is_blank c) (eqb c (code "|")) (parse_number i.bytes) refl quote_breaks line_one

  brace_step : (k : InHex) (q : Quotes) (from : ℕ) → Step i c (on_brace true k q from i c) (on_brace false k q from i c)
  brace_step closes q from = failing _ _ _ _ _ _
  brace_step stops q from = both _
  brace_step digit q from = both _

  close_step : (v : Result ℕ CharError) (q : Quotes) (from n to : ℕ) → Step i c (close_hex true v q from n to i) (close_hex false v q from n to i)
  close_step (Ok v) q from n to = both _
  close_step (Err (Wrong e d)) q from n to = both _
  close_step (Err (WrongAt e d p)) q from n to = failing _ _ _ _ _ _

  hex_step : (k : InHex) (q : Quotes) (closer from n : ℕ) → Step i c (on_hex true k q closer from n i c) (on_hex false k q closer from n i c)
  hex_step closes q closer from n = close_step (scalar_of (hex_value (drop n i.bytes))) q from n (eat i c).at
  hex_step stops q closer from n = both _
  hex_step digit q closer from n = both _

  step : (p : Phase) → Step i c (step_of true p i c) (step_of false p i c)
  step ph.InLine = both _
  step ph.AfterComma = both _
  step ph.AfterHash = both _
  step ph.AfterAngle = both _
  step ph.HereDelim = both _
  step ph.HereStart = both _
  step ph.HereBody = both _
  step ph.InWord = both _
  step ph.WordEscape = both _
  step ph.InRun = run_both
  step ph.InHash = both _
  step ph.HashEscape = both _
  step ph.HashTick = both _
  step ph.HashComma = both _
  step (ph.Nest d) = both _
  step (ph.NestBar d) = both _
  step (ph.NestSharp d) = both _
  step (ph.Quoted k) = both _
  step (ph.Closed k) = both _
  step (ph.TrimBefore k) = both _
  step (ph.TrimAfter k) = both _
  step (ph.Escape k from) = both _
  step (ph.Brace k from) = if_step (eqb c (code "{")) _ _ _ (brace_step (in_hex k (code ";") c) k from)
  step (ph.Hex k closer from n) = hex_step (in_hex k closer c) k closer from n
  step (ph.Done o) = both _

-- ---- an item

done_plain : (n d a b from to : ℕ) (i : SoFar) (cs : List ℕ) → AsPlain (scan_of true (ph.Done (ErrorAt n d a b)) i cs) (scan_of false (ph.Done (ErrorAt n d from to)) i cs)
unfolding scan_of
done_plain n d a b from to i [] = alike refl refl (error n d a b from to)
done_plain n d a b from to i (c ∷ cs) = alike refl refl (error n d a b from to)

-- what a step makes of the item
abbrev after : Bool → Next → SoFar → ℕ → List ℕ → Read
after report n i c cs = elim n [ Eat q ↦ scan_of report q (eat i c) cs | Stop o ↦ got o i (c ∷ cs) ]

after_plain : (i : SoFar) (c : ℕ) (cs : List ℕ) (n m : Next) → Step i c n m
    → ((q : Phase) → AsPlain (scan_of true q (eat i c) cs) (scan_of false q (eat i c) cs)) → AsPlain (after true n i c cs) (after false m i c cs)
after_plain i c cs n m (both (Eat q)) more = more q
after_plain i c cs n m (both (Stop o)) more = alike refl refl (same o)
after_plain i c cs n m (failing e d a b from to) more = done_plain e d a b from to (eat i c) cs
after_plain i c cs n m (worded h) more = alike refl refl (word h)
after_plain i c cs n m (ended l h o) more = ends refl h c cs refl o

scan_plain : (p : Phase) (i : SoFar) (cs : List ℕ) → AsPlain (scan_of true p i cs) (scan_of false p i cs)
unfolding scan_of
scan_plain p i [] = alike refl refl (same _)
scan_plain p i (c ∷ cs) = after_plain i c cs (step_of true p i c) (step_of false p i c) (step i c p) (λ q. scan_plain q (eat i c) cs)

-- where both modes begin an item, they read it alike, or it is a number that ends before `;`, `"` or `|`
pub report_plain : (at c : ℕ) (cs : List ℕ) → AsPlain (read_item true at c cs) (read_item false at c cs)
report_plain at c cs =
    subst (λ (r : Read). AsPlain r (read_item false at c cs)) (item_same true at c cs)
    (subst (λ (r : Read). AsPlain (scan_of true (on_first (first_of c)) (eat (so_far [] at) c) cs) r) (item_same false at c cs)
    (scan_plain (on_first (first_of c)) (eat (so_far [] at) c) cs))
