-- Programs that meet no promise of crate `pieces_lent`, whatever else they do: each has one bad habit, and a row of specs/Lent contradicts it.
use Prim.Native.Nat.{ℕ}
use mathlib.Core.Path.{◌≡◌, sym, ap, ◌∙◌}
use mathlib.Core.Bool.{Bool, false}
use mathlib.Core.List.{List, [], ◌∷◌}
use lib.ListN.{replicate, get_or}
use native.Mathlib.Omega.{arith}
use Rattle.refusal.specs.Refusals as refusal
use Rattle.chars.specs.Encode.{spelled}
use Rattle.pieces.specs.Calls.{What, item, more, finished, refused}
use Rattle.pieces.specs.Expected.{longest}
use Rattle.pieces_lent.specs.declared.LentState.{LentState}
use Rattle.pieces_lent.specs.Calls.{Said, open_for, piece_for, end_for}
use Rattle.exports_promises.specs.Lent.{computed, new, in_word_a, unused, unknown}

-- what is given, told apart by a number
abbrev sort : What → ℕ
sort (item g) = 0
sort more = 1
sort finished = 2
sort (refused n p) = 3

-- ---- piece calls: `calls::piece_words`, `lending::piece_mut`

module _ (call : LentState → List ℕ → ℕ → Said) (meets : (s : LentState) (bs : List ℕ) (room : ℕ) → call s bs room ≡ piece_for s bs room) where
  given : (f : Said → ℕ) → f (call new (spelled "(ab") longest) ≡ f (piece_for new (spelled "(ab") longest)
  given f = ap f (meets new (spelled "(ab") longest)

  -- it leaves the state as it was
  pub never_unstored : ((s : LentState) (bs : List ℕ) (room : ℕ) → (call s bs room).state ≡ s) → ⊥
  never_unstored h =
      omega (arith, ap (λ (s : LentState). s.words.at) (h new (spelled "(ab") longest), given (λ r. r.state.words.at), ap (λ (r : Said). r.state.words.at) computed.piece)

  -- it tells no byte taken
  pub never_takes_none : ((s : LentState) (bs : List ℕ) (room : ℕ) → (call s bs room).taken ≡ 0) → ⊥
  never_takes_none h = omega (arith, h new (spelled "(ab") longest, given (λ r. r.taken), ap (λ (r : Said). r.taken) computed.piece)

  -- it declares the end
  pub never_ends : ((s : LentState) (bs : List ℕ) (room : ℕ) → (call s bs room).state.words.ended ≡ 1) → ⊥
  never_ends h =
      omega (arith, h new (spelled "(ab") longest, given (λ r. r.state.words.ended), ap (λ (r : Said). r.state.words.ended) computed.piece)

  pub never_refuses : ((s : LentState) (bs : List ℕ) (room : ℕ) → sort (call s bs room).what ≡ 3) → ⊥
  never_refuses h = omega (arith, h new (spelled "(ab") longest, given (λ r. sort r.what), ap (λ (r : Said). sort r.what) computed.piece)

  pub never_nods : ((s : LentState) (bs : List ℕ) (room : ℕ) → (call s bs room).what ≡ more) → ⊥
  never_nods h =
      omega (arith, ap sort (h new (spelled "(ab") longest), given (λ r. sort r.what), ap (λ (r : Said). sort r.what) computed.piece)

  -- it reads on with a word that its stage does not use, or with a stage that there is not
  pub never_lets_unused_through : ((call unused (spelled "a") longest).what ≡ refused refusal.out_of_bounds 0 → ⊥) → ⊥
  never_lets_unused_through h = h (ap (λ (r : Said). r.what) (meets unused (spelled "a") longest ∙ computed.unused_word))

  pub never_lets_unknown_through : ((call unknown (spelled "a") longest).what ≡ refused refusal.out_of_bounds 0 → ⊥) → ⊥
  never_lets_unknown_through h = h (ap (λ (r : Said). r.what) (meets unknown (spelled "a") longest ∙ computed.unknown_stage))

-- ---- end calls: `calls::end_words`, `lending::end_mut`

module _ (call : LentState → ℕ → Said) (meets : (s : LentState) (room : ℕ) → call s room ≡ end_for s room) where
  pub never_unstored_end : ((s : LentState) (room : ℕ) → (call s room).state ≡ s) → ⊥
  never_unstored_end h =
      omega (arith, ap (λ (s : LentState). s.words.ended) (h in_word_a longest), ap (λ (r : Said). r.state.words.ended) (meets in_word_a longest ∙ computed.end))

  -- it has nothing left to give
  pub never_finished : ((s : LentState) (room : ℕ) → (call s room).what ≡ finished) → ⊥
  never_finished h = omega (arith, ap sort (h in_word_a longest), ap (λ (r : Said). sort r.what) (meets in_word_a longest ∙ computed.end))

  -- it reads on with a stage that there is not
  pub never_lets_unknown_through_end : ((call unknown longest).what ≡ refused refusal.out_of_bounds 0 → ⊥) → ⊥
  never_lets_unknown_through_end h = h (ap (λ (r : Said). r.what) (meets unknown longest ∙ computed.unknown_stage_end))

  -- it serves without room for a text
  pub never_roomless : ((call in_word_a 4095).what ≡ refused refusal.little_text 0 → ⊥) → ⊥
  never_roomless h = h (ap (λ (r : Said). r.what) (meets in_word_a 4095 ∙ computed.end_no_room))

-- ---- opening: `calls::open_words`; `opening::open` is the same with a buffer of its own

module _ (call : ℕ → Bool → List ℕ → Said) (meets : (mode : ℕ) (skip : Bool) (buf : List ℕ) → call mode skip buf ≡ open_for mode skip buf) where
  -- it opens every mode, or none
  pub never_opens_all : ((mode : ℕ) (skip : Bool) (buf : List ℕ) → (call mode skip buf).what ≡ more) → ⊥
  never_opens_all h =
      let buf : List ℕ = replicate longest 7 in
      omega (arith, ap sort (h 2 false buf), ap (λ (r : Said). sort r.what) (meets 2 false buf ∙ computed.no_mode))

  -- it refuses a mode that there is not with another number than 25
  pub never_refuses_otherwise : ((call 2 false (replicate longest 7)).what ≡ refused refusal.no_such_mode 2 → ⊥) → ⊥
  never_refuses_otherwise h = h (ap (λ (r : Said). r.what) (meets 2 false (replicate longest 7) ∙ computed.no_mode))

  pub never_opens_none : ((mode : ℕ) (skip : Bool) (buf : List ℕ) → sort (call mode skip buf).what ≡ 3) → ⊥
  never_opens_none h =
      let buf : List ℕ = replicate longest 7 in
      omega (arith, h 0 false buf, ap (λ (r : Said). sort r.what) (meets 0 false buf ∙ computed.opened))

  -- it leaves the buffer's bytes as they were
  pub never_uncleared : ((mode : ℕ) (skip : Bool) (buf : List ℕ) → (call mode skip buf).state.buf ≡ buf) → ⊥
  never_uncleared h =
      let buf : List ℕ = replicate longest 7 in
      let e : get_or buf 0 0 ≡ 0 =
      ap (λ (l : List ℕ). get_or l 0 0) (sym (h 0 false buf)) ∙ ap (λ (r : Said). get_or r.state.buf 0 0) (meets 0 false buf ∙ computed.opened) in
      omega (arith, e)
