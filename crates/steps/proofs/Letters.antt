-- A character past ASCII leaves a word, quotes and a comment in their phases, so that the scan may go on past it.
use Prim.Native.Nat.{ℕ, ◌+◌, ◌≤◌, ◌<◌}
use native.Mathlib.Omega.{arith}
use mathlib.Core.Path.{◌≡◌, refl, subst, ◌∙◌}
use mathlib.Core.Bool.{Bool, false}
use mathlib.Core.List.{List}
use lib.Dec.{eqb}
use lib.ListN.{length, drop}
use borrow.Author.Tests.{ne_eqb}
use Rattle.laws.specs.Quoted.{code}
use Rattle.laws.specs.Texts.{span}
use Rattle.chars.specs.Blank.{is_blank}
use Rattle.chars.specs.Wide.{PastAscii, Wides, empty, longer}
use Rattle.chars.proofs.Chars.{char_at}
use Rattle.byte_runs.specs.Runs.{plain}
use Rattle.items.specs.declared.Phase.{Phase}
use Rattle.items.specs.declared.Phase.TheVariants as ph
use Rattle.items.specs.declared.Quotes.{Quotes}
use Rattle.items.specs.declared.Quotes.TheVariants.{Double, Lines}
use Rattle.items.specs.declared.Next.TheVariants.{Eat}
use Rattle.items.specs.Classes.{delim_of, breaks_word, in_nest, in_quotes, in_word}
use Rattle.items.specs.Readers.{SoFar}
use Rattle.items.specs.Machine.{step_of}
use Rattle.steps.specs.Scan.{Passes, PassesFor}
use Rattle.steps.specs.Held.{Lasts, Holds}
use Rattle.steps.proofs.Turn.{turn_eat}
use Rattle.steps.proofs.Kept.{passes}

-- ---- passing

pub passes_none : (s : List ℕ) (p : Phase) (at : ℕ) → at ≤ length s → Passes s p at at
passes_none s p at h = (omega arith, h, λ report a k. refl)

pub passes_on : (s : List ℕ) (p : Phase) (at m r : ℕ) → Passes s p at m → Passes s p m r → Passes s p at r
passes_on s p at m r x y = (omega (arith, x.0, y.0), y.1, λ report a k. x.2 report a k ∙ y.2 report a (omega (arith, x.0)))

pub passes_letter : (s : List ℕ) (p : Phase) (at n : ℕ) → at ≤ length s → (w : PastAscii (drop at s) n)
    → ((report : Bool) (i : SoFar) → step_of report p i w.letter ≡ Eat p) → Passes s p at (at + n)
passes_letter s p at n h w stays =
    let k = char_at s at w.letter (at + n) (rw w.reads) h in
    (omega arith, k.inside, λ report a b. turn_eat s report a p at w.letter (at + n) k p b (stays report _))

pub passes_wides : (s : List ℕ) (p : Phase) (at r : ℕ) → Lasts p → at ≤ length s → Wides s at r → Passes s p at r
passes_wides s p at r k h empty = passes_none s p at h
passes_wides s p at r k h (longer {m} {n} x w) =
    let y = passes_wides s p at m k h x in
    passes_on s p at m (m + n) y (passes_letter s p m n y.1 w (λ report i. k report i w.letter w.past))

pub passes_plain : (s : List ℕ) (p : Phase) (a b at r : ℕ) → Holds p a b → at ≤ length s → r ≡ at + span (plain a b) (drop at s) → Passes s p at r
passes_plain s p a b at r holds h e =
    passes s at p r h (omega (arith, e)) (omega (arith, e, holds.runs (drop at s)))

-- of one item
pub passes_as : (s : List ℕ) (a at r : ℕ) (p q : Phase) → q ≡ p → PassesFor s a q at r → PassesFor s a p at r
passes_as s a at r p q e w = subst (λ (x : Phase). PassesFor s a x at r) e w

pub passes_for : (s : List ℕ) (a at r : ℕ) (p q : Phase) → a ≤ at → q ≡ p → Passes s q at r → PassesFor s a p at r
passes_for s a at r p q l e w = passes_as s a at r p q e (w.0, w.1, λ report. w.2 report a l)

-- ---- the phases

other : (c k : ℕ) → 0x80 ≤ c → k < 0x80 → eqb c k ≡ false
other c k h l = ne_eqb c k (λ e. omega arith)

pub line_lasts : Lasts ph.InLine
line_lasts report i c h = rw (other c (code "\n") h (omega arith))

nest_lasts : (d : ℕ) → Lasts (ph.Nest d)
unfolding in_nest
nest_lasts d report i c h = rw (other c (code "|") h (omega arith), other c (code "#") h (omega arith))

quoted_lasts : (k : Quotes) → Lasts (ph.Quoted k)
unfolding in_quotes
quoted_lasts Double report i c h = rw (other c (code "\"") h (omega arith), other c (code "\\") h (omega arith))
quoted_lasts Lines report i c h = rw (other c (code "|") h (omega arith), other c (code "\\") h (omega arith))

pub line_holds : Holds ph.InLine (code "\n") (code "\n")
line_holds = record { lasts = line_lasts; runs = λ t. refl }

pub nest_holds : (d : ℕ) → Holds (ph.Nest d) (code "|") (code "#")
nest_holds d = record { lasts = nest_lasts d; runs = λ t. refl }

pub quoted_holds : (k : Quotes) → Holds (ph.Quoted k) (delim_of k) (code "\\")
quoted_holds k = record { lasts = quoted_lasts k; runs = λ t. refl }

-- a word goes on with it where it is no blank
pub word_stays : (c : ℕ) → 0x80 ≤ c → is_blank c ≡ false → (report : Bool) (i : SoFar) → step_of report ph.InWord i c ≡ Eat ph.InWord
unfolding in_word breaks_word
word_stays c h e report i =
    rw (
      other c (code "(") h (omega arith),
      other c (code "[") h (omega arith),
      other c (code ")") h (omega arith),
      other c (code "]") h (omega arith),
      other c (code "{") h (omega arith),
      other c (code "}") h (omega arith),
      other c (code "'") h (omega arith),
      other c (code "\"") h (omega arith),
      other c (code "`") h (omega arith),
      other c (code ";") h (omega arith),
      other c (code ",") h (omega arith),
      e,
      other c (code "\\") h (omega arith),
    )
