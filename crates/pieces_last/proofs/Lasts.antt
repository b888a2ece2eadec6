-- What an item is that ends with the text, by the number of its stage: what its bytes tell before a byte that ends it they tell at the end.
use Prim.Native.Nat.{ℕ, ◌≤◌}
use mathlib.Core.Path.{◌≡◌, refl, sym, ap, subst}
use mathlib.Core.Bool.{false}
use mathlib.Core.List.{List, [], ◌∷◌}
use native.Mathlib.Omega.{arith}
use Rattle.items.specs.Kinds as kind
use Rattle.items.specs.declared.Phase.{Phase}
use Rattle.items.specs.declared.Phase.TheVariants as ph
use Rattle.items.specs.declared.Outcome.{Outcome}
use Rattle.items.specs.declared.Outcome.TheVariants.{Token, Word, Run}
use Rattle.items.specs.declared.Next.{Next}
use Rattle.items.specs.declared.Next.TheVariants.{Stop}
use Rattle.items.specs.Readers.{so_far, closed, comment}
use Rattle.items.specs.Machine.{step_of, finish_of}
use Rattle.meaning.specs.Meant.{means}
use Rattle.meaning.specs.declared.Means.{Means}
use Rattle.meaning.specs.declared.Text.TheVariants.{Nowhere}
use Rattle.items_telling.specs.Tells.{Tells}
use Rattle.items_telling.specs.declared.Quick.{Quick}
use Rattle.items_telling.specs.declared.Quick.TheVariants.{Item, Bracket, Other}
use Rattle.pieces.specs.declared.Stage.{Stage}
use Rattle.pieces.specs.declared.Stage.TheVariants.{Busy}
use Rattle.pieces_lent.specs.Coding.{quotes_of, stage_of}
use Rattle.pieces_spots.specs.Spots.{TellsAt, TellsSign, Ended}
use Rattle.pieces_last.specs.Lasts.{Lasts, TellsLast}

-- quotes that are closed end with the text as before a byte
closed_ends : (which detail c at : ℕ) (raw : List ℕ) (m : Means) (e : Ended 25 which detail c at raw m) → finish_of e.phase raw ≡ e.what
unfolding stage_of
closed_ends which detail c at raw m e =
    let here : ◌≡◌ {A = Stage} (Busy 0 (ph.Closed (quotes_of which))) (Busy 0 e.phase) = e.stands 0 in
    let same : ◌≡◌ {A = Phase} (ph.Closed (quotes_of which)) e.phase = cc in
    let stop : ◌≡◌ {A = Next} (Stop (closed (quotes_of which) raw)) (Stop e.what) =
    subst (λ (p : Phase). step_of false p (so_far raw 0) c ≡ Stop e.what) (sym same) (e.stops false (so_far raw 0) refl) in
    let told : ◌≡◌ {A = Outcome} (closed (quotes_of which) raw) e.what = cc in
    subst (λ (p : Phase). finish_of p raw ≡ e.what) same told

module _ (stage which detail at : ℕ) (raw : List ℕ) where
  abbrev T : Quick → Type 0
  T = TellsLast stage which detail at raw

  line : (e : ℕ) → stage ≡ 7 → T (Item (means kind.Comment 0 Nowhere) at e)
  unfolding stage_of
  line e k = record {
    phase = ph.InLine;
    what = comment;
    stands = λ start. rw k;
    ends = refl;
    quiet = λ report last i. refl;
    means = λ report. refl;
    fine = omega arith;
  }

  pub line_lasts : (e : ℕ) (q : Quick) → q ≡ Item (means kind.Comment 0 Nowhere) at e → stage ≡ 7 → T q
  line_lasts e q f k = subst T (sym f) (line e k)

  token : (e : ℕ) → stage ≡ 31 → which ≤ 31 → T (Item (means which detail Nowhere) at e)
  unfolding stage_of
  token e k h = record {
    phase = ph.Done (Token which detail);
    what = Token which detail;
    stands = λ start. rw k;
    ends = refl;
    quiet = λ report last i. refl;
    means = λ report. refl;
    fine = omega arith;
  }

  pub token_lasts : (e : ℕ) (q : Quick) → q ≡ Item (means which detail Nowhere) at e → stage ≡ 31 → which ≤ 31 → T q
  token_lasts e q f k h = subst T (sym f) (token e k h)

  pub word_lasts : stage ≡ 14 → (q : Quick) → Tells Word at raw q → T q
  unfolding stage_of
  word_lasts k (Item m a e) t = record {
    phase = ph.InWord;
    what = Word;
    stands = λ start. rw k;
    ends = refl;
    quiet = λ report last i. refl;
    means = t.4.means;
    fine = t.3;
  }
  word_lasts k (Bracket m a e) t = tt
  word_lasts k Other t = tt

  pub run_lasts : stage ≡ 16 → (q : Quick) → Tells Run at raw q → T q
  unfolding stage_of
  run_lasts k (Item m a e) t = record {
    phase = ph.InRun;
    what = Run;
    stands = λ start. rw k;
    ends = refl;
    quiet = λ report last i. refl;
    means = t.4.means;
    fine = t.3;
  }
  run_lasts k (Bracket m a e) t = tt
  run_lasts k Other t = tt

  pub boolean_lasts : stage ≡ 17 → (q : Quick) → TellsSign raw q → T q
  unfolding stage_of
  boolean_lasts k (Item m a e) t = record {
    phase = ph.InHash;
    what = Token kind.BooleanLiteral m.detail;
    stands = λ start. rw k;
    ends = rw t.0;
    quiet = λ report last i. refl;
    means = λ report. ap (λ (x : Means). x ∷ []) t.1;
    fine = rw t.1 (omega arith);
  }
  boolean_lasts k (Bracket m a e) t = tt
  boolean_lasts k Other t = tt

  pub closed_lasts : (c : ℕ) → stage ≡ 25 → (q : Quick) → TellsAt 25 which detail c at raw q → T q
  closed_lasts c k (Item m a e) t = record {
    phase = t.phase;
    what = t.what;
    stands = rw k t.stands;
    ends = closed_ends which detail c at raw m t;
    quiet = t.quiet;
    means = t.means;
    fine = t.fine;
  }
  closed_lasts c k (Bracket m a e) t = tt
  closed_lasts c k Other t = tt

-- a string with an escape that is closed, whose text is decoded
pub decoded_lasts : (stage which detail at : ℕ) (raw : List ℕ) (m : Means) → stage ≡ 25 → Ended stage which detail 0 at raw m → Lasts stage which detail at raw m
decoded_lasts stage which detail at raw m k e = closed_lasts stage which detail at raw 0 k (Item m at at) (rw k at e)
