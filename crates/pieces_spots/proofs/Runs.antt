-- The runs that are passed and the bytes that close an item, by the number of the stage.
use Prim.Native.Nat.{ℕ, ◌+◌, ◌-◌, ◌≤◌, ◌<◌}
use mathlib.Core.Path.{◌≡◌, refl, ap, ◌∙◌}
use mathlib.Core.List.{List, [], ◌∷◌}
use lib.ListN.{length, get_or, take, drop, length-take, length-drop}
use native.Mathlib.Omega.{arith}
use Rattle.laws.specs.Quoted.{code}
use Rattle.laws.specs.Texts.{span, same, begins}
use Rattle.chars.specs.Blank.{is_blank}
use Rattle.chars.specs.Encode.{bytes_of, utf8}
use Rattle.laws.proofs.Runs.{span_le}
use Rattle.items.specs.Kinds as kind
use Rattle.items.specs.Classes.{in_quotes, after_hash, in_hash, ends_hash}
use Rattle.items.specs.Readers.{comment, hash_kind, bool_kind, quote_kind, form_kind}
use Rattle.items.specs.Machine.{on_after_hash}
use Rattle.items.specs.declared.HashKind.TheVariants.{Bracket}
use Rattle.items.specs.declared.Next.TheVariants.{Eat}
use Rattle.items.specs.declared.Outcome.TheVariants.{Token}
use Rattle.items.specs.declared.Quotes.{Quotes}
use Rattle.items.specs.declared.Quotes.TheVariants.{Double, Lines}
use Rattle.items.specs.declared.Phase.{Phase}
use Rattle.items.specs.declared.Phase.TheVariants as ph
use Rattle.steps.specs.Runs.{keeps}
use Rattle.pieces.specs.declared.Stage.TheVariants.{Busy}
use Rattle.pieces_lent.specs.Coding.{row, quotes_of, stage_of}
use Rattle.pieces_spots.specs.Spots.{Keeps, Closes}

module _ (stage which n : ℕ) (bytes : List ℕ) where
  abbrev Kept : Type 0
  Kept = (n ≤ length bytes) × (0 < n → Keeps stage which n bytes)

  kept_as : (p : Phase) → ((start detail : ℕ) → stage_of (row stage start which detail 0 0) ≡ Busy start p) → n ≡ 0 + span (keeps p) (drop 0 bytes) → Kept
  kept_as p s e = (omega (arith, e, span_le (keeps p) bytes), λ h. record { phase = p; stands = s; run = omega (arith, e) })

  pub word_kept : stage ≡ 14 → n ≡ 0 + span (keeps ph.InWord) (drop 0 bytes) → Kept
  unfolding stage_of
  word_kept k e = kept_as ph.InWord (λ start detail. rw k) e

  pub run_kept : stage ≡ 16 → n ≡ 0 + span (keeps ph.InRun) (drop 0 bytes) → Kept
  unfolding stage_of
  run_kept k e = kept_as ph.InRun (λ start detail. rw k) e

  pub line_kept : stage ≡ 7 → n ≡ 0 + span (keeps ph.InLine) (drop 0 bytes) → Kept
  unfolding stage_of
  line_kept k e = kept_as ph.InLine (λ start detail. rw k) e

  pub quotes_kept : stage ≡ 24 → (k : Quotes) → quotes_of which ≡ k → n ≡ 0 + span (keeps (ph.Quoted k)) (drop 0 bytes) → Kept
  unfolding stage_of
  quotes_kept s k w e = kept_as (ph.Quoted k) (λ start detail. rw (s, w)) e

-- nothing is passed
pub none_kept : (stage which : ℕ) (bytes : List ℕ) → (0 ≤ length bytes) × (0 < 0 → Keeps stage which 0 bytes)
none_kept stage which bytes = (omega arith, λ h. absurd (omega arith))

module _ (stage which c : ℕ) (raw : List ℕ) where
  pub quote_closes : stage ≡ 24 → which ≡ 0 → c ≡ code "\"" → Closes stage which c 25 raw
  unfolding stage_of in_quotes
  quote_closes k w e = record {
    item = omega (arith, k);
    small = omega (arith, e);
    phase = ph.Quoted Double;
    next = ph.Closed Double;
    stands = λ start detail. rw (k, w);
    eats = λ report i h. rw e;
    then = λ start. refl;
    rows = λ start. refl;
    few = omega arith;
  }

  pub line_closes : stage ≡ 24 → quotes_of which ≡ Lines → c ≡ code "|" → Closes stage which c 89 raw
  unfolding stage_of in_quotes
  line_closes k w e = record {
    item = omega (arith, k);
    small = omega (arith, e);
    phase = ph.Quoted Lines;
    next = ph.Closed Lines;
    stands = λ start detail. rw (k, w);
    eats = λ report i h. rw e;
    then = λ start. refl;
    rows = λ start. refl;
    few = omega arith;
  }

  pub newline_closes : stage ≡ 7 → c ≡ code "\n" → Closes stage which c 1631 raw
  unfolding stage_of
  newline_closes k e = record {
    item = omega (arith, k);
    small = omega (arith, e);
    phase = ph.InLine;
    next = ph.Done comment;
    stands = λ start detail. rw k;
    eats = λ report i h. rw e;
    then = λ start. refl;
    rows = λ start. refl;
    few = omega arith;
  }

-- one byte, and two
pub one_byte : (raw : List ℕ) (c : ℕ) → length raw ≡ 1 → get_or raw 0 0 ≡ c → raw ≡ c ∷ []
one_byte [] c h e = absurd (omega arith)
one_byte (x ∷ []) c h e = ap (λ (y : ℕ). y ∷ []) e
one_byte (x ∷ y ∷ l) c h e = absurd (omega arith)

pub two_bytes : (raw : List ℕ) (c d : ℕ) → length raw ≡ 2 → get_or raw 0 0 ≡ c → get_or raw 1 0 ≡ d → raw ≡ c ∷ d ∷ []
two_bytes [] c d h e f = absurd (omega arith)
two_bytes (x ∷ []) c d h e f = absurd (omega arith)
two_bytes (x ∷ y ∷ []) c d h e f = ap (λ (z : ℕ). z ∷ y ∷ []) e ∙ ap (λ (z : ℕ). c ∷ z ∷ []) f
two_bytes (x ∷ y ∷ z ∷ l) c d h e f = absurd (omega arith)

-- after a number sign alone: a bracket opens a vector, any other of these letters goes on
module _ (which c : ℕ) (raw : List ℕ) where
  sign_kind : hash_kind (code "#" ∷ []) ≡ Bracket kind.Vector
  unfolding hash_kind bool_kind quote_kind form_kind same begins bytes_of utf8
  sign_kind = refl

  pub vector_closes : raw ≡ code "#" ∷ [] → c ≡ code "(" → Closes 9 which c 6175 raw
  unfolding stage_of after_hash in_hash ends_hash
  vector_closes sign e = record {
    item = omega arith;
    small = omega (arith, e);
    phase = ph.AfterHash;
    next = ph.Done (Token kind.OpenParen kind.Vector);
    stands = λ start detail. refl;
    eats = λ report i h. rw (e, h, sign, sign_kind);
    then = λ start. refl;
    rows = λ start. refl;
    few = omega arith;
  }

  letter_closes : (d : ℕ) → d < 0x80 → ((raw : List ℕ) → on_after_hash (after_hash d) raw d ≡ Eat ph.InHash) → c ≡ d → Closes 9 which c 17 raw
  unfolding stage_of
  letter_closes d small goes e = record {
    item = omega arith;
    small = omega (arith, e);
    phase = ph.AfterHash;
    next = ph.InHash;
    stands = λ start detail. refl;
    eats = λ report i h. rw e (goes i.bytes);
    then = λ start. refl;
    rows = λ start. refl;
    few = omega arith;
  }

  pub t_closes : c ≡ code "t" → Closes 9 which c 17 raw
  unfolding after_hash in_hash ends_hash is_blank
  t_closes e = letter_closes (code "t") (omega arith) (λ l. refl) e

  pub f_closes : c ≡ code "f" → Closes 9 which c 17 raw
  unfolding after_hash in_hash ends_hash is_blank
  f_closes e = letter_closes (code "f") (omega arith) (λ l. refl) e

-- a count of bytes that were looked at
pub looked : (i k n : ℕ) (piece : List ℕ) → i ≤ length piece → n ≤ length (take (i + k - i) (drop i piece)) → (n ≤ k) × (i + n ≤ length piece)
looked i k n piece h e =
    (omega (arith, length-take (i + k - i) (drop i piece), length-drop i piece, e), omega (arith, length-take (i + k - i) (drop i piece), length-drop i piece, e))
