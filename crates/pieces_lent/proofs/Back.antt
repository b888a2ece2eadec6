-- Words and marks: every marks come back from their words, and words that are a code are the words of what they stand for. So a state
-- loses nothing by being kept as numbers, and a refused call leaves each word as it was.
use Rattle.std.proofs.Common.{None, Some}
use Prim.Native.Nat.{ℕ, zero, suc, ◌^◌}
use mathlib.Core.Path.{◌≡◌, refl, sym, ap, ◌∙◌}
use mathlib.Core.Bool.{Bool, true, false, ◌&&◌}
use native.Mathlib.Omega.{arith}
use lib.Dec.{eqb, leb, ltb}
use borrow.Author.Tests.{ltb-true, leb-true, eqb-true, eq-eqb}
use Rattle.laws.proofs.Choice.{and_true}
use Rattle.items.specs.declared.Quotes.{Quotes}
use Rattle.items.specs.declared.Quotes.TheVariants.{Double, Lines}
use Rattle.items.specs.declared.Outcome.{Outcome}
use Rattle.items.specs.declared.Outcome.TheVariants.{Token, Str, HereStr, Word, Run, Lined, Keyword, Character, Error, ErrorAt}
use Rattle.items.specs.declared.Phase.{Phase}
use Rattle.items.specs.declared.Phase.TheVariants as ph
use Rattle.pieces.specs.declared.Stage.{Stage}
use Rattle.pieces.specs.declared.Stage.TheVariants.{Opening, Pound, FirstLine, Idle, Busy, Waiting, Stopped}
use Rattle.pieces.specs.declared.Marks.{Marks}
use Rattle.pieces.proofs.Kept.{both}
use Rattle.pieces_lent.specs.declared.Words.{Words}
use Rattle.pieces_lent.specs.declared.StageRow.{StageRow}
use Rattle.pieces_lent.specs.Coding.{stage_of, row, row_of, standing, bit, quotes_of, quotes_code, outcome_row, phase_row, stage_row, coded}
use Rattle.pieces_lent.specs.Coding.{narrow, is_row, is_same_row, is_code, stage_count, Narrowed}

-- ---- numbers

module _ (w : Words) where
  pub narrowed : narrow w ≡ true → Narrowed w
  unfolding narrow
  narrowed e =
      let depth = and_true _ _ e in
      let code = and_true _ _ depth.0 in
      let high = and_true _ _ code.0 in
      let low = and_true _ _ high.0 in
      let need = and_true _ _ low.0 in
      let detail = and_true _ _ need.0 in
      let which = and_true _ _ detail.0 in
      record {
        mode = ltb-true w.mode (2 ^ 32) which.0;
        row = record { which = ltb-true w.which (2 ^ 32) which.1; detail = ltb-true w.detail (2 ^ 32) detail.1 };
        need = ltb-true w.need (2 ^ 8) need.1;
        low = ltb-true w.low (2 ^ 8) low.1;
        high = ltb-true w.high (2 ^ 8) high.1;
        code = ltb-true w.code (2 ^ 32) code.1;
        depth = ltb-true w.depth (2 ^ 32) depth.1;
      }

  -- the code's comparison of a row with its stage's
  pub rows_compared : {m : Marks} {a b : StageRow} {t : Bool} → m ≡ standing w → a ≡ row_of w → b ≡ stage_row m.stage → t ≡ is_same_row a b
      → is_same_row (row_of w) (stage_row (stage_of (row_of w))) ≡ t
  unfolding standing
  rows_compared {m} {a} {b} {t} p q r s =
      sym (s ∙ ap (λ (x : StageRow). is_same_row x b) q ∙ ap (is_same_row (row_of w)) (r ∙ ap (λ (x : Marks). stage_row x.stage) p))

-- ---- from marks to words and back

quotes_back : (k : Quotes) → quotes_of (quotes_code k) ≡ k
quotes_back Double = refl
quotes_back Lines = refl

outcome_back : (st : ℕ) (o : Outcome) → stage_of (outcome_row st o) ≡ Busy st (ph.Done o)
unfolding stage_of
outcome_back st (Token k d) = refl
outcome_back st Str = refl
outcome_back st HereStr = refl
outcome_back st Word = refl
outcome_back st Run = refl
outcome_back st Lined = refl
outcome_back st Keyword = refl
outcome_back st Character = refl
outcome_back st (Error n d) = refl
outcome_back st (ErrorAt n d a b) = refl

phase_back : (st : ℕ) (p : Phase) → stage_of (phase_row st p) ≡ Busy st p
unfolding stage_of
phase_back st ph.InLine = refl
phase_back st ph.AfterComma = refl
phase_back st ph.AfterHash = refl
phase_back st ph.AfterAngle = refl
phase_back st ph.HereDelim = refl
phase_back st ph.HereStart = refl
phase_back st ph.HereBody = refl
phase_back st ph.InWord = refl
phase_back st ph.WordEscape = refl
phase_back st ph.InRun = refl
phase_back st ph.InHash = refl
phase_back st ph.HashEscape = refl
phase_back st ph.HashTick = refl
phase_back st ph.HashComma = refl
phase_back st (ph.Nest d) = refl
phase_back st (ph.NestBar d) = refl
phase_back st (ph.NestSharp d) = refl
phase_back st (ph.Quoted k) = ap (λ (q : Quotes). Busy st (ph.Quoted q)) (quotes_back k)
phase_back st (ph.Closed k) = ap (λ (q : Quotes). Busy st (ph.Closed q)) (quotes_back k)
phase_back st (ph.TrimBefore k) = ap (λ (q : Quotes). Busy st (ph.TrimBefore q)) (quotes_back k)
phase_back st (ph.TrimAfter k) = ap (λ (q : Quotes). Busy st (ph.TrimAfter q)) (quotes_back k)
phase_back st (ph.Escape k from) = ap (λ (q : Quotes). Busy st (ph.Escape q from)) (quotes_back k)
phase_back st (ph.Brace k from) = ap (λ (q : Quotes). Busy st (ph.Brace q from)) (quotes_back k)
phase_back st (ph.Hex k closer from n) = ap (λ (q : Quotes). Busy st (ph.Hex q closer from n)) (quotes_back k)
phase_back st (ph.Done o) = outcome_back st o

stage_back : (g : Stage) → stage_of (stage_row g) ≡ g
unfolding stage_of
stage_back Opening = refl
stage_back Pound = refl
stage_back FirstLine = refl
stage_back Idle = refl
stage_back (Busy st p) = phase_back st p
stage_back (Waiting st None) = refl
stage_back (Waiting st (Some c)) = refl
stage_back (Stopped n p) = refl

bit_back : (b : Bool) → eqb (bit b) 1 ≡ b
bit_back true = refl
bit_back false = refl

-- the marks m with other answers to the two questions, and another stage
abbrev with : Marks → Bool → Bool → Stage → Marks
with m skip ended stage =
    record {
      mode = m.mode;
      skip = skip;
      ended = ended;
      stage = stage;
      at = m.at;
      part = m.part;
      from = m.from;
      to = m.to;
      len = m.len;
      depth = m.depth;
    }

pub standing-coded : (m : Marks) → standing (coded m) ≡ m
unfolding standing coded
standing-coded m =
    ap (λ (g : Stage). with m (eqb (bit m.skip) 1) (eqb (bit m.ended) 1) g) (stage_back m.stage)
    ∙ ap (λ (b : Bool). with m b (eqb (bit m.ended) 1) m.stage) (bit_back m.skip)
    ∙ ap (λ (b : Bool). with m m.skip b m.stage) (bit_back m.ended)

-- ---- from words to marks and back

bit_same : (n : ℕ) → leb n 1 ≡ true → bit (eqb n 1) ≡ n
bit_same zero h = refl
bit_same (suc zero) h = refl
bit_same (suc (suc n)) h = absurd (let z = leb-true (suc (suc n)) 1 h in omega arith)

same_row : {a b : StageRow} → is_same_row a b ≡ true → a ≡ b
unfolding is_same_row
same_row {a} {b} e =
    let two = and_true _ _ e in
    let one = and_true _ _ two.0 in
    let detail = and_true _ _ one.0 in
    let which = and_true _ _ detail.0 in
    let start = and_true _ _ which.0 in
    let e1 = eqb-true _ _ start.0 in
    let e2 = eqb-true _ _ start.1 in
    let e3 = eqb-true _ _ which.1 in
    let e4 = eqb-true _ _ detail.1 in
    let e5 = eqb-true _ _ one.1 in
    let e6 = eqb-true _ _ two.1 in
    ap (λ (x : ℕ). row x a.start a.which a.detail a.one a.two) e1
    ∙ ap (λ (x : ℕ). row b.stage x a.which a.detail a.one a.two) e2
    ∙ ap (λ (x : ℕ). row b.stage b.start x a.detail a.one a.two) e3
    ∙ ap (λ (x : ℕ). row b.stage b.start b.which x a.one a.two) e4
    ∙ ap (λ (x : ℕ). row b.stage b.start b.which b.detail x a.two) e5
    ∙ ap (λ (x : ℕ). row b.stage b.start b.which b.detail b.one x) e6

-- words w with other answers to the two questions, and another row
abbrev words_with_lem : Words → ℕ → ℕ → StageRow → Words
words_with_lem w skip ended r =
    record {
      mode = w.mode;
      skip = skip;
      ended = ended;
      stage = r.stage;
      start = r.start;
      which = r.which;
      detail = r.detail;
      one = r.one;
      two = r.two;
      at = w.at;
      count = w.count;
      need = w.need;
      low = w.low;
      high = w.high;
      code = w.code;
      from = w.from;
      to = w.to;
      len = w.len;
      depth = w.depth;
    }

pub coded-standing : (w : Words) → is_code w ≡ true → coded (standing w) ≡ w
unfolding standing coded is_code
coded-standing w e =
    let rows = and_true (narrow w && leb w.skip 1 && leb w.ended 1) (is_row (row_of w)) e in
    let ended = and_true (narrow w && leb w.skip 1) (leb w.ended 1) rows.0 in
    let skip = and_true (narrow w) (leb w.skip 1) ended.0 in
    let known = and_true (ltb w.stage stage_count) (is_same_row (row_of w) (stage_row (stage_of (row_of w)))) rows.1 in
    ap (λ (r : StageRow). words_with_lem w (bit (eqb w.skip 1)) (bit (eqb w.ended 1)) r) (sym (same_row known.1))
    ∙ ap (λ (n : ℕ). words_with_lem w n (bit (eqb w.ended 1)) (row_of w)) (bit_same w.skip skip.1)
    ∙ ap (λ (n : ℕ). words_with_lem w w.skip n (row_of w)) (bit_same w.ended ended.1)

-- ---- the words of marks are a code, where the marks' narrower numbers are narrow

bit_small : (b : Bool) → leb (bit b) 1 ≡ true
bit_small true = refl
bit_small false = refl

outcome_known : (st : ℕ) (o : Outcome) → ltb (outcome_row st o).stage stage_count ≡ true
outcome_known st (Token k d) = refl
outcome_known st Str = refl
outcome_known st HereStr = refl
outcome_known st Word = refl
outcome_known st Run = refl
outcome_known st Lined = refl
outcome_known st Keyword = refl
outcome_known st Character = refl
outcome_known st (Error n d) = refl
outcome_known st (ErrorAt n d a b) = refl

phase_known : (st : ℕ) (p : Phase) → ltb (phase_row st p).stage stage_count ≡ true
phase_known st ph.InLine = refl
phase_known st ph.AfterComma = refl
phase_known st ph.AfterHash = refl
phase_known st ph.AfterAngle = refl
phase_known st ph.HereDelim = refl
phase_known st ph.HereStart = refl
phase_known st ph.HereBody = refl
phase_known st ph.InWord = refl
phase_known st ph.WordEscape = refl
phase_known st ph.InRun = refl
phase_known st ph.InHash = refl
phase_known st ph.HashEscape = refl
phase_known st ph.HashTick = refl
phase_known st ph.HashComma = refl
phase_known st (ph.Nest d) = refl
phase_known st (ph.NestBar d) = refl
phase_known st (ph.NestSharp d) = refl
phase_known st (ph.Quoted k) = refl
phase_known st (ph.Closed k) = refl
phase_known st (ph.TrimBefore k) = refl
phase_known st (ph.TrimAfter k) = refl
phase_known st (ph.Escape k from) = refl
phase_known st (ph.Brace k from) = refl
phase_known st (ph.Hex k closer from n) = refl
phase_known st (ph.Done o) = outcome_known st o

stage_known : (g : Stage) → ltb (stage_row g).stage stage_count ≡ true
stage_known Opening = refl
stage_known Pound = refl
stage_known FirstLine = refl
stage_known Idle = refl
stage_known (Busy st p) = phase_known st p
stage_known (Waiting st None) = refl
stage_known (Waiting st (Some c)) = refl
stage_known (Stopped n p) = refl

row_itself : (r : StageRow) → is_same_row r r ≡ true
unfolding is_same_row
row_itself r =
    both (both (both (both (both (itself r.stage) (itself r.start)) (itself r.which)) (itself r.detail)) (itself r.one)) (itself r.two)
  where
    itself : (n : ℕ) → eqb n n ≡ true
    itself n = eq-eqb n n refl

pub coded_is_code : (m : Marks) → narrow (coded m) ≡ true → is_code (coded m) ≡ true
unfolding coded is_code
coded_is_code m h =
    let r : StageRow = stage_row m.stage in
    let same : is_same_row r (stage_row (stage_of r)) ≡ true = ap (λ (g : Stage). is_same_row r (stage_row g)) (stage_back m.stage) ∙ row_itself r in
    both (both (both h (bit_small m.skip)) (bit_small m.ended)) (both (stage_known m.stage) same)
