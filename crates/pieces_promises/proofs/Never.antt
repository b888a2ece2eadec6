-- Programs that meet no promise of a piece call, an end call or the opening call, whatever else they do. Each theorem takes a program that
-- answers as the definition says and has one bad habit; a row of specs/Rows, where the definition answers otherwise, contradicts the habit.
use Prim.Native.Nat.{ℕ, ◌<◌}
use mathlib.Core.Path.{◌≡◌, sym, ap, ◌∙◌}
use mathlib.Core.Bool.{Bool, true, false}
use mathlib.Core.List.{List}
use lib.ListN.{length, get_or}
use native.Mathlib.Omega.{arith}
use Rattle.chars.specs.Encode.{utf8, bytes_of, spelled}
use Rattle.pieces.specs.declared.State.{State}
use Rattle.pieces.specs.Calls.{What, item, more, finished, refused, Reply, text_after, piece_of, end_of, open_of}
use Rattle.pieces.specs.Expected.{longest}
use Rattle.pieces_promises.specs.Rows.{computed, new, in_word_a, lent}

-- what is given, told apart by a number
abbrev sort : What → ℕ
sort (item g) = 0
sort more = 1
sort finished = 2
sort (refused n p) = 3

abbrev bit : Bool → ℕ
bit true = 1
bit false = 0

-- ---- piece calls

module _ (call : State → List ℕ → ℕ → Reply) (meets : (s : State) (bs : List ℕ) (room : ℕ) → call s bs room ≡ piece_of s bs room) where
  gives_first : {A : Type 0} (f : Reply → A) → f (call new (spelled "(ab") longest) ≡ f (piece_of new (spelled "(ab") longest)
  gives_first f = ap f (meets new (spelled "(ab") longest)

  gives_later : {A : Type 0} (f : Reply → A) → f (call in_word_a (spelled "b)") longest) ≡ f (piece_of in_word_a (spelled "b)") longest)
  gives_later f = ap f (meets in_word_a (spelled "b)") longest)

  -- it refuses everything
  pub never_refuses : ((s : State) (bs : List ℕ) (room : ℕ) → sort (call s bs room).what ≡ 3) → ⊥
  never_refuses h =
      let e = gives_first (λ r. sort r.what) ∙ ap (λ (r : Reply). sort r.what) computed.first_call in
      omega (arith, h new (spelled "(ab") longest, e)

  -- it does its reading in the first call: of every piece that comes first, it takes all
  pub never_reads_all : ((bs : List ℕ) (room : ℕ) → (call new bs room).taken ≡ length bs) → ⊥
  unfolding utf8 bytes_of
  never_reads_all h =
      let e = gives_first (λ r. r.taken) ∙ ap (λ (r : Reply). r.taken) computed.first_call in
      omega (arith, h (spelled "(ab") longest, e)

  -- it merely nods later: once a byte was taken, it says "more" to every piece
  pub never_nods : ((s : State) (bs : List ℕ) (room : ℕ) → 0 < s.marks.at → (call s bs room).what ≡ more) → ⊥
  never_nods h =
      let e = gives_later (λ r. sort r.what) ∙ ap (λ (r : Reply). sort r.what) computed.later_call in
      omega (arith, ap sort (h in_word_a (spelled "b)") longest (omega arith)), e)

  -- it reads no more later: once a byte was taken, it takes none
  pub never_takes_none : ((s : State) (bs : List ℕ) (room : ℕ) → 0 < s.marks.at → (call s bs room).taken ≡ 0) → ⊥
  never_takes_none h =
      let e = gives_later (λ r. r.taken) ∙ ap (λ (r : Reply). r.taken) computed.later_call in
      omega (arith, h in_word_a (spelled "b)") longest (omega arith), e)

  -- it gives the same to everything
  pub never_fixed : (w : What) → ((s : State) (bs : List ℕ) (room : ℕ) → (call s bs room).what ≡ w) → ⊥
  never_fixed w h =
      let one = gives_first (λ r. kind_of r.what) ∙ ap (λ (r : Reply). kind_of r.what) computed.first_call in
      let two = gives_later (λ r. kind_of r.what) ∙ ap (λ (r : Reply). kind_of r.what) computed.later_call in
      omega (arith, ap kind_of (h new (spelled "(ab") longest), ap kind_of (h in_word_a (spelled "b)") longest), one, two)
    where
      kind_of : What → ℕ
      kind_of (item g) = get_or g.words 0 0
      kind_of more = 100
      kind_of finished = 100
      kind_of (refused n p) = 100

-- a program that writes no text: the text memory is as it was
pub never_unwritten : (memory : State → List ℕ → List ℕ → List ℕ)
    → ((s : State) (bs old : List ℕ) → memory s bs old ≡ text_after (piece_of s bs (length old)).what old)
    → ((s : State) (bs old : List ℕ) → memory s bs old ≡ old) → ⊥
unfolding utf8 bytes_of
never_unwritten memory meets h =
    let e : get_or lent 0 0 ≡ get_or (spelled "ab") 0 0 =
    ap (λ (l : List ℕ). get_or l 0 0) (sym (h in_word_a (spelled "b)") lent) ∙ meets in_word_a (spelled "b)") lent ∙ computed.later_text) in
    omega (arith, e)

-- ---- end calls

module _ (call : State → ℕ → Reply) (meets : (s : State) (room : ℕ) → call s room ≡ end_of s room) where
  gives_end : {A : Type 0} (f : Reply → A) → f (call in_word_a longest) ≡ f (end_of in_word_a longest)
  gives_end f = ap f (meets in_word_a longest)

  -- it has nothing left to give
  pub never_finished : ((s : State) (room : ℕ) → (call s room).what ≡ finished) → ⊥
  never_finished h =
      let e = gives_end (λ r. sort r.what) ∙ ap (λ (r : Reply). sort r.what) computed.end_call in
      omega (arith, ap sort (h in_word_a longest), e)

  pub never_refuses_end : ((s : State) (room : ℕ) → sort (call s room).what ≡ 3) → ⊥
  never_refuses_end h =
      let e = gives_end (λ r. sort r.what) ∙ ap (λ (r : Reply). sort r.what) computed.end_call in
      omega (arith, h in_word_a longest, e)

  -- it forgets that the end was declared
  pub never_undeclared : ((s : State) (room : ℕ) → (call s room).state.marks.ended ≡ s.marks.ended) → ⊥
  never_undeclared h =
      let e = gives_end (λ r. bit r.state.marks.ended) ∙ ap (λ (r : Reply). bit r.state.marks.ended) computed.end_call in
      omega (arith, ap bit (h in_word_a longest), e)

-- ---- opening

module _ (call : ℕ → Bool → Reply) (meets : (mode : ℕ) (skip : Bool) → call mode skip ≡ open_of mode skip) where
  -- it opens nothing
  pub never_refuses_open : ((mode : ℕ) (skip : Bool) → sort (call mode skip).what ≡ 3) → ⊥
  never_refuses_open h =
      let e = ap (λ (r : Reply). sort r.what) (meets 1 false ∙ computed.opened false) in
      omega (arith, h 1 false, e)

  -- it opens every mode
  pub never_opens_all : ((mode : ℕ) (skip : Bool) → (call mode skip).what ≡ more) → ⊥
  never_opens_all h =
      let e = ap (λ (r : Reply). sort r.what) (meets 2 false ∙ computed.opening false) in
      omega (arith, ap sort (h 2 false), e)
