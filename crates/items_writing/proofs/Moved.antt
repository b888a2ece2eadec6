-- An item is read alike wherever it stands: of places, a reader keeps only those of an error's range. `bald` and `flat` leave these out.
use Rattle.std.proofs.Common.{Err, Ok, Result}
use Prim.Native.Nat.{ℕ, ◌+◌, ◌-◌}
use mathlib.Core.Path.{◌≡◌, refl, sym, ap, subst, ◌∙◌}
use mathlib.Core.Bool.{Bool, true, false}
use mathlib.Core.List.{List, [], ◌∷◌}
use lib.ListN.{length, drop}
use lib.Dec.{eqb}
use Rattle.laws.proofs.Choice.{by_bool, impossible}
use Rattle.laws.specs.Quoted.{code}
use Rattle.digits.specs.Hex.{hex_value, empty}
use Rattle.items.specs.declared.Quotes.{Quotes}
use Rattle.items.specs.declared.Outcome.{Outcome}
use Rattle.items.specs.declared.Outcome.TheVariants.{Token, Str, HereStr, Word, Run, Lined, Keyword, Character, Error, ErrorAt}
use Rattle.items.specs.declared.Phase.{Phase}
use Rattle.items.specs.declared.Phase.TheVariants as ph
use Rattle.items.specs.declared.Next.{Next}
use Rattle.items.specs.declared.Next.TheVariants.{Eat, Stop}
use Rattle.items.specs.declared.CharError.{CharError}
use Rattle.items.specs.declared.CharError.TheVariants.{Wrong, WrongAt}
use Rattle.items.specs.Classes.{first_of, InQuotes, in_quotes, ends, escapes, plain, AfterBackslash, after_backslash, simple, hex_x, hex_u, blank, newline, invalid}
use Rattle.items.specs.Classes.{InHex, in_hex, closes, stops, digit, InTrim, in_trim, space, line, solid}
use Rattle.items.specs.Machine.{step_of, finish_of, on_first, scan_of, on_quoted, on_escape, on_brace, close_hex, on_hex, on_trim_before, on_trim_after}
use Rattle.items.specs.Readers.{SoFar, so_far, eat, Read, got, read_item, scalar_of, failing}
use Rattle.items.specs.Kinds as kind
use Rattle.items.specs.Items.{byte_count}
use Rattle.items.proofs.Cases.{by_next}
use Rattle.items.proofs.Same.{item_same}
use Rattle.items.proofs.Splits.{read_at, length_bytes}
use Rattle.items_r7rs.proofs.Reading.{whole}

abbrev pub bald : Outcome → Outcome
bald (Token k d) = Token k d
bald Str = Str
bald HereStr = HereStr
bald Word = Word
bald Run = Run
bald Lined = Lined
bald Keyword = Keyword
bald Character = Character
bald (Error n d) = Error n d
bald (ErrorAt n d a b) = ErrorAt n d 0 0

abbrev pub flat : Phase → Phase
flat ph.InLine = ph.InLine
flat ph.AfterComma = ph.AfterComma
flat ph.AfterHash = ph.AfterHash
flat ph.AfterAngle = ph.AfterAngle
flat ph.HereDelim = ph.HereDelim
flat ph.HereStart = ph.HereStart
flat ph.HereBody = ph.HereBody
flat ph.InWord = ph.InWord
flat ph.WordEscape = ph.WordEscape
flat ph.InRun = ph.InRun
flat ph.InHash = ph.InHash
flat ph.HashEscape = ph.HashEscape
flat ph.HashTick = ph.HashTick
flat ph.HashComma = ph.HashComma
flat (ph.Nest d) = ph.Nest d
flat (ph.NestBar d) = ph.NestBar d
flat (ph.NestSharp d) = ph.NestSharp d
flat (ph.Quoted k) = ph.Quoted k
flat (ph.Closed k) = ph.Closed k
flat (ph.TrimBefore k) = ph.TrimBefore k
flat (ph.TrimAfter k) = ph.TrimAfter k
flat (ph.Escape k from) = ph.Escape k 0
flat (ph.Brace k from) = ph.Brace k 0
flat (ph.Hex k closer from n) = ph.Hex k closer 0 n
flat (ph.Done o) = ph.Done (bald o)

abbrev pub next : Next → Next
next (Eat q) = Eat (flat q)
next (Stop o) = Stop (bald o)

-- the item with its place left out
abbrev pub still : SoFar → SoFar
still i = so_far i.bytes 0

bald_again : (o : Outcome) → bald o ≡ bald (bald o)
bald_again (Token k d) = refl
bald_again Str = refl
bald_again HereStr = refl
bald_again Word = refl
bald_again Run = refl
bald_again Lined = refl
bald_again Keyword = refl
bald_again Character = refl
bald_again (Error n d) = refl
bald_again (ErrorAt n d a b) = refl

-- ---- a step

step_quoted : (x : InQuotes) (k : Quotes) (i : SoFar) (c : ℕ) → next (on_quoted x k i c) ≡ next (on_quoted x k (still i) c)
step_quoted ends k i c = refl
step_quoted escapes k i c = refl
step_quoted plain k i c = refl

step_before : (x : InTrim) (k : Quotes) (i : SoFar) (c : ℕ) → next (on_trim_before x k i c) ≡ next (on_trim_before x k (still i) c)
step_before space k i c = refl
step_before line k i c = refl
step_before solid k i c = refl

step_trim : (x : InTrim) (k : Quotes) (i : SoFar) (c : ℕ) → next (on_trim_after x k i c) ≡ next (on_trim_after x k (still i) c)
step_trim space k i c = refl
step_trim line k i c = refl
step_trim solid k i c = step_quoted (in_quotes k c) k i c

step_escape : (x : AfterBackslash) (k : Quotes) (from : ℕ) (i : SoFar) (c : ℕ) → next (on_escape x k from i c) ≡ next (on_escape x k 0 (still i) c)
step_escape (simple y) k from i c = refl
step_escape hex_x k from i c = refl
step_escape hex_u k from i c = refl
step_escape blank k from i c = refl
step_escape newline k from i c = refl
step_escape invalid k from i c = refl

-- an escape that fails sets a place in either mode
failing_flat : (report : Bool) (e d from to at : ℕ) (rest : List ℕ) (from' to' at' : ℕ) (rest' : List ℕ)
    → bald (failing report e d from to at rest) ≡ bald (failing report e d from' to' at' rest')
failing_flat true e d from to at rest from' to' at' rest' = refl
failing_flat false e d from to at rest from' to' at' rest' = refl

module _ (report : Bool) where
  step_brace : (x : InHex) (k : Quotes) (from : ℕ) (i : SoFar) (c : ℕ) → next (on_brace report x k from i c) ≡ next (on_brace report x k 0 (still i) c)
  step_brace closes k from i c =
      ap (λ (o : Outcome). Eat (ph.Done o)) (failing_flat report kind.InvalidHexEscapeLiteral empty from (eat i c).at i.at [] 0 (eat (still i) c).at 0 [])
  step_brace stops k from i c = refl
  step_brace digit k from i c = refl

  step_close : (v : Result ℕ CharError) (k : Quotes) (from n to at : ℕ) (i : SoFar) → next (close_hex report v k from n to i) ≡ next (close_hex report v k 0 n at (still i))
  step_close (Ok v) k from n to at i = refl
  step_close (Err (Wrong e d)) k from n to at i = refl
  step_close (Err (WrongAt e d p)) k from n to at i =
      let rest : List ℕ = drop p (drop n i.bytes) in
      ap (λ (o : Outcome). Eat (ph.Done o)) (failing_flat report e d from to (i.at - length rest) rest 0 at (0 - length rest) rest)

  step_hex : (x : InHex) (k : Quotes) (closer from n : ℕ) (i : SoFar) (c : ℕ) → next (on_hex report x k closer from n i c) ≡ next (on_hex report x k closer 0 n (still i) c)
  step_hex closes k closer from n i c = step_close (scalar_of (hex_value (drop n i.bytes))) k from n (eat i c).at (eat (still i) c).at i
  step_hex stops k closer from n i c = refl
  step_hex digit k closer from n i c = refl

step_flat : (report : Bool) (p : Phase) (i : SoFar) (c : ℕ) → next (step_of report p i c) ≡ next (step_of report (flat p) (still i) c)
step_flat report ph.InLine i c = refl
step_flat report ph.AfterComma i c = refl
step_flat report ph.AfterHash i c = refl
step_flat report ph.AfterAngle i c = refl
step_flat report ph.HereDelim i c = refl
step_flat report ph.HereStart i c = refl
step_flat report ph.HereBody i c = refl
step_flat report ph.InWord i c = refl
step_flat report ph.WordEscape i c = refl
step_flat report ph.InRun i c = refl
step_flat report ph.InHash i c = refl
step_flat report ph.HashEscape i c = refl
step_flat report ph.HashTick i c = refl
step_flat report ph.HashComma i c = refl
step_flat report (ph.Nest d) i c = refl
step_flat report (ph.NestBar d) i c = refl
step_flat report (ph.NestSharp d) i c = refl
step_flat report (ph.Quoted k) i c = step_quoted (in_quotes k c) k i c
step_flat report (ph.Closed k) i c = refl
step_flat report (ph.TrimBefore k) i c = step_before (in_trim c) k i c
step_flat report (ph.TrimAfter k) i c = step_trim (in_trim c) k i c
step_flat report (ph.Escape k from) i c = step_escape (after_backslash c) k from i c
step_flat report (ph.Brace k from) i c = by_bool (eqb c (code "{")) (λ e. rw e) (λ e. rw e (step_brace report (in_hex k (code ";") c) k from i c))
step_flat report (ph.Hex k closer from n) i c = step_hex report (in_hex k closer c) k closer from n i c
step_flat report (ph.Done o) i c = ap Stop (bald_again o)

pub finish_flat : (p : Phase) (raw : List ℕ) → bald (finish_of p raw) ≡ bald (finish_of (flat p) raw)
finish_flat ph.InLine raw = refl
finish_flat ph.AfterComma raw = refl
finish_flat ph.AfterHash raw = refl
finish_flat ph.AfterAngle raw = refl
finish_flat ph.HereDelim raw = refl
finish_flat ph.HereStart raw = refl
finish_flat ph.HereBody raw = refl
finish_flat ph.InWord raw = refl
finish_flat ph.WordEscape raw = refl
finish_flat ph.InRun raw = refl
finish_flat ph.InHash raw = refl
finish_flat ph.HashEscape raw = refl
finish_flat ph.HashTick raw = refl
finish_flat ph.HashComma raw = refl
finish_flat (ph.Nest d) raw = refl
finish_flat (ph.NestBar d) raw = refl
finish_flat (ph.NestSharp d) raw = refl
finish_flat (ph.Quoted k) raw = refl
finish_flat (ph.Closed k) raw = refl
finish_flat (ph.TrimBefore k) raw = refl
finish_flat (ph.TrimAfter k) raw = refl
finish_flat (ph.Escape k from) raw = refl
finish_flat (ph.Brace k from) raw = refl
finish_flat (ph.Hex k closer from n) raw = refl
finish_flat (ph.Done o) raw = bald_again o

-- ---- a scan

-- two readings that differ in places alone
pub record Alike (r s : Read) : Type 0 where
  pub what : bald r.what ≡ bald s.what
  pub bytes : r.item.bytes ≡ s.item.bytes
  pub rest : r.rest ≡ s.rest

module _ (report : Bool) where
  pub steps_alike : (p q : Phase) (i j : SoFar) (c : ℕ) → flat p ≡ flat q → i.bytes ≡ j.bytes → next (step_of report p i c) ≡ next (step_of report q j c)
  steps_alike p q i j c e f =
      step_flat report p i c ∙ (ap (λ (x : Phase). next (step_of report x (still i) c)) e
      ∙ (ap (λ (b : List ℕ). next (step_of report (flat q) (so_far b 0) c)) f ∙ sym (step_flat report q j c)))

  scans_alike : (p q : Phase) (i j : SoFar) (cs : List ℕ) → flat p ≡ flat q → i.bytes ≡ j.bytes → Alike (scan_of report p i cs) (scan_of report q j cs)
  unfolding scan_of
  scans_alike p q i j [] e f = record {
    what = finish_flat p i.bytes ∙ (ap (λ (x : Phase). bald (finish_of x i.bytes)) e ∙ (ap (λ (b : List ℕ). bald (finish_of (flat q) b)) f ∙ sym (finish_flat q j.bytes)));
    bytes = f;
    rest = refl;
  }
  scans_alike p q i j (c ∷ cs) e f =
      let s : next (step_of report p i c) ≡ next (step_of report q j c) = steps_alike p q i j c e f in
      by_next (step_of report p i c)
      (λ x g. by_next (step_of report q j c)
      (λ y h. rw (g, h, scan_of) (scans_alike x y (eat i c) (eat j c) cs (let z : next (Eat x) ≡ next (Eat y) = rw (g, h) at s in cc) (rw f)))
      (λ y h. let z : next (Eat x) ≡ next (Stop y) = rw (g, h) at s in impossible cc))
      (λ x g. by_next (step_of report q j c)
      (λ y h. let z : next (Stop x) ≡ next (Eat y) = rw (g, h) at s in impossible cc)
      (λ y h. rw (g, h, scan_of) (record { what = (let z : next (Stop x) ≡ next (Stop y) = rw (g, h) at s in cc); bytes = f; rest = refl })))

-- ---- an item

-- it sets no range of its own
abbrev pub Placeless : Outcome → Type 0
Placeless (Token k d) = Unit {0}
Placeless Str = Unit {0}
Placeless HereStr = Unit {0}
Placeless Word = Unit {0}
Placeless Run = Unit {0}
Placeless Lined = Unit {0}
Placeless Keyword = Unit {0}
Placeless Character = Unit {0}
Placeless (Error n d) = Unit {0}
Placeless (ErrorAt n d a b) = ⊥

bald_is : (o : Outcome) → Placeless o → o ≡ bald o
bald_is (Token k d) h = refl
bald_is Str h = refl
bald_is HereStr h = refl
bald_is Word h = refl
bald_is Run h = refl
bald_is Lined h = refl
bald_is Keyword h = refl
bald_is Character h = refl
bald_is (Error n d) h = refl
bald_is (ErrorAt n d a b) h = absurd h

same_bald : (o w : Outcome) → Placeless o → bald o ≡ bald w → o ≡ w
same_bald o (Token k d) h e = bald_is o h ∙ e
same_bald o Str h e = bald_is o h ∙ e
same_bald o HereStr h e = bald_is o h ∙ e
same_bald o Word h e = bald_is o h ∙ e
same_bald o Run h e = bald_is o h ∙ e
same_bald o Lined h e = bald_is o h ∙ e
same_bald o Keyword h e = bald_is o h ∙ e
same_bald o Character h e = bald_is o h ∙ e
same_bald o (Error n d) h e = bald_is o h ∙ e
same_bald o (ErrorAt n d a b) h e = absurd (subst Placeless (bald_is o h ∙ e) h)

pub read_eq : (r : Read) {o : Outcome} {b : List ℕ} {n : ℕ} {l : List ℕ} → r.what ≡ o → r.item.bytes ≡ b → r.item.at ≡ n → r.rest ≡ l → r ≡ got o (so_far b n) l
read_eq r e f g h = λ i. got (e i) (so_far (f i) (g i)) (h i)

-- an item that is read at one place is read at any other
pub read_moved : (report : Bool) (at to c : ℕ) (t cs rest : List ℕ) (o : Outcome) → Placeless o
    → read_item report at c cs ≡ got o (whole at (c ∷ t)) rest → read_item report to c cs ≡ got o (whole to (c ∷ t)) rest
read_moved report at to c t cs rest o h e =
    let p : Phase = on_first (first_of c) in
    let a : Alike (read_item report at c cs) (read_item report to c cs)
    = rw (← item_same report at c cs, ← item_same report to c cs) (scans_alike report p p (eat (so_far [] at) c) (eat (so_far [] to) c) cs refl refl) in
    let r : Read = read_item report to c cs in
    let b : Alike (got o (whole at (c ∷ t)) rest) r = rw e at a in
    let w : o ≡ r.what = same_bald o r.what h b.what in
    let g : r.item.at ≡ to + byte_count (c ∷ t) = read_at report to c cs ∙ rw (← b.bytes, length_bytes (c ∷ t)) in
    read_eq r (sym w) (sym b.bytes) g (sym b.rest)
