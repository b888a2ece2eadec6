-- What ends an item in a phase: a space that ends it leaves it what the end of the text leaves it.
use Rattle.std.proofs.Common.{Err, Ok, Result}
use Prim.Native.Nat.{ℕ}
use mathlib.Core.Path.{◌≡◌, refl, sym, ◌∙◌}
use mathlib.Core.Bool.{true}
use mathlib.Core.List.{List}
use lib.ListN.{drop}
use lib.Dec.{eqb, leb}
use Rattle.laws.specs.Quoted.{code}
use Rattle.laws.proofs.Choice.{by_bool, impossible}
use Rattle.chars.specs.Blank.{is_blank}
use Rattle.digits.specs.Hex.{hex_value}
use Rattle.items.specs.declared.Quotes.{Quotes}
use Rattle.items.specs.declared.Outcome.{Outcome}
use Rattle.items.specs.declared.Outcome.TheVariants.{Word}
use Rattle.items.specs.declared.Phase.{Phase}
use Rattle.items.specs.declared.Phase.TheVariants as ph
use Rattle.items.specs.declared.Next.TheVariants.{Eat, Stop}
use Rattle.items.specs.declared.HashKind.{HashKind}
use Rattle.items.specs.declared.HashKind.TheVariants.{Decided, Bracket, Undecided}
use Rattle.items.specs.declared.CharError.{CharError}
use Rattle.items.specs.declared.CharError.TheVariants.{Wrong, WrongAt}
use Rattle.items.specs.Classes.{InQuotes, in_quotes, ends, escapes, plain, after_backslash}
use Rattle.items.specs.Classes.{InHex, in_hex, closes, stops, digit, InTrim, in_trim, space, line, solid, InNest, in_nest, bar, sharp, inside}
use Rattle.items.specs.Classes.{in_word, in_run, after_hash}
use Rattle.items.specs.Classes.{in_hash, InDelim, in_delim, ends_delim, returns, blank_delim, of_delim}
use Rattle.items.specs.Classes.{breaks_word, stays_run, ends_run, ends_hash}
use Rattle.items.specs.Machine.{step_of, finish_of, on_nest, on_bar, on_sharp, on_quoted, on_brace, close_hex, on_hex, on_trim_after}
use Rattle.items.specs.Machine.{enter_word, hash_then, hash_last, on_delim}
use Rattle.items.specs.Readers.{SoFar, eat, scalar_of, hash_kind, here_ends}

-- a step that eats does not stop
pub eats_on : {q : Phase} {o : Outcome} → Eat q ≡ Stop o → ⊥
eats_on e = impossible cc

pub stop_is : {o w : Outcome} → Stop o ≡ Stop w → o ≡ w
stop_is e = cc

-- ---- phases that no character stops

pub nest_eats : (x : InNest) (d : ℕ) {o : Outcome} → on_nest x d ≡ Stop o → ⊥
nest_eats bar d e = eats_on e
nest_eats sharp d e = eats_on e
nest_eats inside d e = eats_on e

pub bar_eats : (x : InNest) (d : ℕ) {o : Outcome} → on_bar x d ≡ Stop o → ⊥
bar_eats bar d e = eats_on e
bar_eats sharp d e = by_bool (leb d 1) (λ f. eats_on (rw f at e)) (λ f. eats_on (rw f at e))
bar_eats inside d e = eats_on e

pub sharp_eats : (x : InNest) (d : ℕ) {o : Outcome} → on_sharp x d ≡ Stop o → ⊥
sharp_eats bar d e = eats_on e
sharp_eats sharp d e = eats_on e
sharp_eats inside d e = eats_on e

pub quoted_eats : (x : InQuotes) (k : Quotes) (i : SoFar) (c : ℕ) {o : Outcome} → on_quoted x k i c ≡ Stop o → ⊥
quoted_eats ends k i c e = eats_on e
quoted_eats escapes k i c e = eats_on e
quoted_eats plain k i c e = eats_on e

pub trim_eats : (x : InTrim) (k : Quotes) (i : SoFar) (c : ℕ) {o : Outcome} → on_trim_after x k i c ≡ Stop o → ⊥
trim_eats space k i c e = eats_on e
trim_eats line k i c e = eats_on e
trim_eats solid k i c e = quoted_eats (in_quotes k c) k i c e

close_eats : (v : Result ℕ CharError) (k : Quotes) (from n to : ℕ) (i : SoFar) {o : Outcome} → close_hex true v k from n to i ≡ Stop o → ⊥
close_eats (Ok v) k from n to i e = eats_on e
close_eats (Err (Wrong x d)) k from n to i e = eats_on e
close_eats (Err (WrongAt x d p)) k from n to i e = eats_on e

pub hex_eats : (x : InHex) (k : Quotes) (closer from n : ℕ) (i : SoFar) (c : ℕ) {o : Outcome} → on_hex true x k closer from n i c ≡ Stop o → ⊥
hex_eats closes k closer from n i c e = close_eats (scalar_of (hex_value (drop n i.bytes))) k from n (eat i c).at i e
hex_eats stops k closer from n i c e = eats_on e
hex_eats digit k closer from n i c e = eats_on e

brace_on : (x : InHex) (k : Quotes) (from : ℕ) (i : SoFar) (c : ℕ) {o : Outcome} → on_brace true x k from i c ≡ Stop o → ⊥
brace_on closes k from i c e = eats_on e
brace_on stops k from i c e = eats_on e
brace_on digit k from i c e = eats_on e

pub brace_eats : (k : Quotes) (from : ℕ) (i : SoFar) (c : ℕ) {o : Outcome} → step_of true (ph.Brace k from) i c ≡ Stop o → ⊥
brace_eats k from i c e = by_bool (eqb c (code "{"))
    (λ f. eats_on (rw f at e))
    (λ f. brace_on (in_hex k (code ";") c) k from i c (rw f at e))

pub delim_eats : (x : InDelim) (c : ℕ) {o : Outcome} → on_delim x c ≡ Stop o → ⊥
delim_eats ends_delim c e = eats_on e
delim_eats returns c e = eats_on e
delim_eats blank_delim c e = eats_on e
delim_eats of_delim c e = eats_on e

pub line_eats : (c : ℕ) {o : Outcome} (i : SoFar) → step_of true ph.InLine i c ≡ Stop o → ⊥
line_eats c i e = by_bool (eqb c (code "\n")) (λ f. eats_on (rw f at e)) (λ f. eats_on (rw f at e))

-- ---- words that start with `#`

pub enter_space : enter_word (code " ") ≡ Stop Word
unfolding in_word breaks_word is_blank
enter_space = refl

pub then_space : (k : HashKind) → hash_then k (code " ") ≡ Stop (hash_last k)
unfolding in_word breaks_word is_blank
then_space (Decided o) = refl
then_space (Bracket d) = refl
then_space Undecided = refl

here_end : (raw : List ℕ) {o : Outcome} (i : SoFar) (c : ℕ) → step_of true ph.HereBody i c ≡ Stop o → finish_of ph.HereBody i.bytes ≡ o
here_end raw i c e = by_bool (here_ends i.bytes)
    (λ f. rw f (stop_is (rw f at e)))
    (λ f. absurd (eats_on (rw f at e)))

-- ---- a space

pub space_end : (q : Phase) (i : SoFar) {o : Outcome} → step_of true q i (code " ") ≡ Stop o → finish_of q i.bytes ≡ o
unfolding in_word breaks_word is_blank in_run stays_run ends_run after_hash in_hash ends_hash in_trim after_backslash
space_end ph.InLine i e = absurd (line_eats (code " ") i e)
space_end ph.AfterComma i e = stop_is e
space_end ph.AfterHash i e = stop_is (sym (then_space (hash_kind i.bytes)) ∙ e)
space_end ph.AfterAngle i e = stop_is e
space_end ph.HereDelim i e = absurd (delim_eats (in_delim (code " ")) (code " ") e)
space_end ph.HereStart i e = absurd (eats_on e)
space_end ph.HereBody i e = here_end i.bytes i (code " ") e
space_end ph.InWord i e = stop_is e
space_end ph.WordEscape i e = absurd (eats_on e)
space_end ph.InRun i e = stop_is e
space_end ph.InHash i e = stop_is (sym (then_space (hash_kind i.bytes)) ∙ e)
space_end ph.HashEscape i e = absurd (eats_on e)
space_end ph.HashTick i e = stop_is (sym (then_space (hash_kind i.bytes)) ∙ e)
space_end ph.HashComma i e = stop_is (sym (then_space (hash_kind i.bytes)) ∙ e)
space_end (ph.Nest d) i e = absurd (nest_eats (in_nest (code " ")) d e)
space_end (ph.NestBar d) i e = absurd (bar_eats (in_nest (code " ")) d e)
space_end (ph.NestSharp d) i e = absurd (sharp_eats (in_nest (code " ")) d e)
space_end (ph.Quoted k) i e = absurd (quoted_eats (in_quotes k (code " ")) k i (code " ") e)
space_end (ph.Closed k) i e = stop_is e
space_end (ph.TrimBefore k) i e = absurd (eats_on e)
space_end (ph.TrimAfter k) i e = absurd (trim_eats (in_trim (code " ")) k i (code " ") e)
space_end (ph.Escape k from) i e = absurd (eats_on e)
space_end (ph.Brace k from) i e = absurd (brace_eats k from i (code " ") e)
space_end (ph.Hex k closer from n) i e = absurd (hex_eats (in_hex k closer (code " ")) k closer from n i (code " ") e)
space_end (ph.Done o) i e = stop_is e
