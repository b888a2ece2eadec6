-- Crate `pieces_lent`: two answers that a contract permits coincide, and so do the states and memories after them.
use Prim.Native.Nat.{ℕ}
use mathlib.Core.Path.{◌≡◌, sym, ap, ◌∙◌}
use mathlib.Core.Bool.{Bool}
use mathlib.Core.List.{List, []}
use lib.ListN.{length}
use Rattle.pieces.specs.declared.Got.{Got}
use Rattle.std.proofs.Common.{Result}
use Rattle.pieces.specs.declared.OpenError.{OpenError}
use Rattle.pieces.specs.Calls.{text_after, open_of}
use Rattle.pieces_lent.specs.declared.LentState.{LentState}
use Rattle.pieces_lent.specs.declared.Fresh.{Fresh}
use Rattle.pieces_lent.specs.declared.Told.{Told}
use Rattle.pieces_lent.specs.declared.Taken.{Taken}
use Rattle.pieces_lent.specs.Calls.{Said, lent, worded, freshly, said, said_of, open_for, piece_for, end_for}
use Rattle.exports_promises.proofs.Pieces.{got_of, got_back, started_by, start_back}

-- ---- answers read back

abbrev fresh_by : Said → Fresh
fresh_by s = record { state = s.state; start = started_by s.what }

abbrev told_by : Said → Told
told_by s = record { words = s.state.words; taken = s.taken; got = got_of s.what }

abbrev taken_by : Said → Taken
taken_by s = record { taken = s.taken; got = got_of s.what }

fresh_back : (f : Fresh) → fresh_by (freshly f) ≡ f
fresh_back f = ap (λ (s : Result (Unit {0}) OpenError). record { state = f.state; start = s }) (start_back f.start)

told_back : (t : Told) (buf text : List ℕ) → told_by (said t buf text) ≡ t
told_back t buf text = ap (λ (g : Got). record { words = t.words; taken = t.taken; got = g }) (got_back t.got text)

taken_back : (t : Taken) (s : LentState) (text : List ℕ) → taken_by (said_of t s text) ≡ t
taken_back t s text = ap (λ (g : Got). record { taken = t.taken; got = g }) (got_back t.got text)

-- ---- opening

-- `opening::open`
pub open_one_answer : (mode : ℕ) (skip : Bool) (a b : Fresh) → freshly a ≡ worded (open_of mode skip) → freshly b ≡ worded (open_of mode skip) → a ≡ b
open_one_answer mode skip a b p q = sym (fresh_back a) ∙ ap fresh_by (p ∙ sym q) ∙ fresh_back b

one_told : (s : Said) (a b : Told) (buf buf' t u : List ℕ) → said a buf t ≡ s → said b buf' u ≡ s → (a ≡ b) × (buf ≡ buf')
one_told s a b buf buf' t u p q =
    (sym (told_back a buf t) ∙ ap told_by (p ∙ sym q) ∙ told_back b buf' u, ap (λ (z : Said). z.state.buf) (p ∙ sym q))

-- `calls::open_words`
pub open_words_one_answer : (mode : ℕ) (skip : Bool) (old : List ℕ) (a b : Told) (buf buf' : List ℕ) → said a buf [] ≡ open_for mode skip old
    → said b buf' [] ≡ open_for mode skip old → (a ≡ b) × (buf ≡ buf')
open_words_one_answer mode skip old a b buf buf' = one_told (open_for mode skip old) a b buf buf' [] []

-- ---- pieces and the end, with words by value and the buffer lent

-- what a call may answer, with the buffer and the text memory after it, where the definition says s and the text memory was `old`
abbrev Permits : Said → List ℕ → Told → List ℕ → List ℕ → Type 0
Permits s old t buf text = (said t buf text ≡ s) × (text ≡ text_after s.what old)

one_words : (s : Said) (old : List ℕ) (a b : Told) (buf buf' t u : List ℕ) → Permits s old a buf t → Permits s old b buf' u
    → (a ≡ b) × (buf ≡ buf') × (t ≡ u)
one_words s old a b buf buf' t u p q =
    let z = one_told s a b buf buf' t u p.0 q.0 in (z.0, z.1, p.1 ∙ sym q.1)

-- `calls::piece_words`
pub piece_words_one_answer : (s : LentState) (piece old : List ℕ) (a b : Told) (buf buf' t u : List ℕ) → Permits (piece_for s piece (length old)) old a buf t
    → Permits (piece_for s piece (length old)) old b buf' u → (a ≡ b) × (buf ≡ buf') × (t ≡ u)
piece_words_one_answer s piece old = one_words (piece_for s piece (length old)) old

-- `calls::end_words`
pub end_words_one_answer : (s : LentState) (old : List ℕ) (a b : Told) (buf buf' t u : List ℕ) → Permits (end_for s (length old)) old a buf t
    → Permits (end_for s (length old)) old b buf' u → (a ≡ b) × (buf ≡ buf') × (t ≡ u)
end_words_one_answer s old = one_words (end_for s (length old)) old

-- ---- pieces and the end, with the state lent

abbrev PermitsLent : Said → List ℕ → Taken → LentState → List ℕ → Type 0
PermitsLent s old t state text = (said_of t state text ≡ s) × (text ≡ text_after s.what old)

one_lent : (s : Said) (old : List ℕ) (a b : Taken) (z z' : LentState) (t u : List ℕ) → PermitsLent s old a z t → PermitsLent s old b z' u
    → (a ≡ b) × (z ≡ z') × (t ≡ u)
one_lent s old a b z z' t u p q = (
  sym (taken_back a z t) ∙ ap taken_by (p.0 ∙ sym q.0) ∙ taken_back b z' u,
  ap (λ (r : Said). r.state) (p.0 ∙ sym q.0),
  p.1 ∙ sym q.1,
)

-- `lending::piece_mut`
pub piece_mut_one_answer : (s : LentState) (piece old : List ℕ) (a b : Taken) (z z' : LentState) (t u : List ℕ) → PermitsLent (piece_for s piece (length old)) old a z t
    → PermitsLent (piece_for s piece (length old)) old b z' u → (a ≡ b) × (z ≡ z') × (t ≡ u)
piece_mut_one_answer s piece old = one_lent (piece_for s piece (length old)) old

-- `lending::end_mut`
pub end_mut_one_answer : (s : LentState) (old : List ℕ) (a b : Taken) (z z' : LentState) (t u : List ℕ) → PermitsLent (end_for s (length old)) old a z t
    → PermitsLent (end_for s (length old)) old b z' u → (a ≡ b) × (z ≡ z') × (t ≡ u)
end_mut_one_answer s old = one_lent (end_for s (length old)) old
