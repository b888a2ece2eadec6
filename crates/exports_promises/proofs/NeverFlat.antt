-- Programs that meet no promise of module `flat` of crate `exports`, nor of `mihadrena_open`, `mihadrena_piece` and `mihadrena_end`, which promise the same: each has one
-- bad habit, and a row of specs/Flat contradicts it.
use Prim.Native.Nat.{ℕ, ◌≤◌}
use mathlib.Core.Path.{◌≡◌, ap, ◌∙◌}
use mathlib.Core.Bool.{Bool, true, false}
use mathlib.Core.List.{List, [], ◌∷◌}
use lib.ListN.{get_or}
use native.Mathlib.Omega.{arith}
use Rattle.refusal.specs.Refusals as refusal
use Rattle.chars.specs.Encode.{spelled, lay}
use Rattle.exports.specs.Piece.{Opened, open_left, Memory, Left, piece_left, end_left}
use Rattle.exports_promises.specs.Flat.{computed, bytes, some_words, holding, halted}
use Rattle.exports_promises.specs.Lent.{new, after_error}

-- ---- pieces

module _ (call : Memory → List ℕ → Left) (meets : (m : Memory) (piece : List ℕ) → call m piece ≡ piece_left m piece) where
  given : (f : Left → ℕ) → f (call (holding new) (spelled "(ab")) ≡ f (piece_left (holding new) (spelled "(ab"))
  given f = ap f (meets (holding new) (spelled "(ab"))

  -- it says "more" to every piece
  pub never_nods : ((m : Memory) (piece : List ℕ) → (call m piece).answer ≡ refusal.more) → ⊥
  never_nods h = omega (arith, h (holding new) (spelled "(ab"), given (λ l. l.answer), ap (λ (l : Left). l.answer) computed.piece)

  -- it refuses everything, just the words of a record and two values among it
  pub never_refuses : ((m : Memory) (piece : List ℕ) → 20 ≤ (call m piece).answer) → ⊥
  never_refuses h = omega (arith, h (holding new) (spelled "(ab"), given (λ l. l.answer), ap (λ (l : Left). l.answer) computed.piece)

  -- it tells no byte taken
  pub never_untold : ((m : Memory) (piece : List ℕ) → get_or (call m piece).memory.values 1 0 ≡ 0) → ⊥
  never_untold h =
      omega (arith, h (holding new) (spelled "(ab"), given (λ l. get_or l.memory.values 1 0), ap (λ (l : Left). get_or l.memory.values 1 0) computed.piece)

  -- it writes no record
  pub never_unwritten : ((m : Memory) (piece : List ℕ) → (call m piece).memory.item ≡ m.item) → ⊥
  never_unwritten h =
      omega (arith, ap (λ (i : List ℕ). get_or i 0 0) (h (holding new) (spelled "(ab")), given (λ l. get_or l.memory.item 0 0), ap (λ (l : Left). get_or l.memory.item 0 0) computed.piece)

  -- it leaves the state as it was
  pub never_unstored : ((m : Memory) (piece : List ℕ) → (call m piece).memory.words ≡ m.words) → ⊥
  never_unstored h =
      omega (arith, ap (λ (w : List ℕ). get_or w 3 0) (h (holding new) (spelled "(ab")), given (λ l. get_or l.memory.words 3 0), ap (λ (l : Left). get_or l.memory.words 3 0) computed.piece)

  -- its refusals come without their place
  pub never_placeless : ((m : Memory) (piece : List ℕ) → get_or (call m piece).memory.values 0 0 ≡ 0) → ⊥
  never_placeless h =
      omega (arith, h (holding halted) (spelled "a"), ap (λ (l : Left). get_or l.memory.values 0 0) (meets (holding halted) (spelled "a") ∙ computed.placed))

-- ---- the end

module _ (call : Memory → Left) (meets : (m : Memory) → call m ≡ end_left m) where
  -- it has nothing left to give
  pub never_finished : ((m : Memory) → (call m).answer ≡ refusal.finished) → ⊥
  never_finished h = omega (arith, h (holding after_error), ap (λ (l : Left). l.answer) (meets (holding after_error) ∙ computed.end_placed_holds))

  -- it never says that it has: it asks for more
  pub never_unfinished : ((m : Memory) → (call m).answer ≡ refusal.finished → ⊥) → ⊥
  never_unfinished h = h (holding new) (ap (λ (l : Left). l.answer) (meets (holding new) ∙ computed.finished))

-- ---- opening

module _ (call : ℕ → Bool → List ℕ → List ℕ → Opened)
    (meets : (mode : ℕ) (skip : Bool) (buf words : List ℕ) → call mode skip buf words ≡ open_left mode skip buf words) where
  -- it skips comments unasked, or never
  pub never_skips : ((mode : ℕ) (skip : Bool) (buf words : List ℕ) → get_or (call mode skip buf words).words 1 0 ≡ 1) → ⊥
  never_skips h = omega (arith, h 0 false bytes some_words, ap (λ (o : Opened). get_or o.words 1 0) (meets 0 false bytes some_words ∙ computed.opened_kept))

  pub never_keeps : ((mode : ℕ) (skip : Bool) (buf words : List ℕ) → get_or (call mode skip buf words).words 1 0 ≡ 0) → ⊥
  never_keeps h = omega (arith, h 1 true bytes some_words, ap (λ (o : Opened). get_or o.words 1 0) (meets 1 true bytes some_words ∙ computed.opened_skipped))

  -- it opens nothing, or every mode
  pub never_opens_none : ((mode : ℕ) (skip : Bool) (buf words : List ℕ) → (call mode skip buf words).answer ≡ 0 → ⊥) → ⊥
  never_opens_none h = h 0 false bytes some_words (ap (λ (o : Opened). o.answer) (meets 0 false bytes some_words ∙ computed.opened_kept))

  pub never_opens_all : ((mode : ℕ) (skip : Bool) (buf words : List ℕ) → (call mode skip buf words).answer ≡ 0) → ⊥
  never_opens_all h = omega (arith, h 2 false bytes some_words, ap (λ (o : Opened). o.answer) (meets 2 false bytes some_words ∙ computed.no_mode))

-- ---- two values: `put_values`

module _ (put : List ℕ → ℕ → ℕ → List ℕ) (meets : (values : List ℕ) (a b : ℕ) → put values a b ≡ lay (a ∷ b ∷ []) values) where
  -- it writes nothing where there is room for just two
  pub never_unput : (put (7 ∷ 7 ∷ []) 1 2 ≡ 7 ∷ 7 ∷ []) → ⊥
  never_unput h =
      omega (arith, ap (λ (l : List ℕ). get_or l 0 0) h, ap (λ (l : List ℕ). get_or l 0 0) (meets (7 ∷ 7 ∷ []) 1 2 ∙ computed.values))

  -- it puts the second first
  pub never_swapped : (put (7 ∷ 7 ∷ []) 1 2 ≡ 2 ∷ 1 ∷ []) → ⊥
  never_swapped h =
      omega (arith, ap (λ (l : List ℕ). get_or l 0 0) h, ap (λ (l : List ℕ). get_or l 0 0) (meets (7 ∷ 7 ∷ []) 1 2 ∙ computed.values))
