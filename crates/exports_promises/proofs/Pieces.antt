-- Crate `pieces_calls`: two answers that a contract permits coincide, and so do the memories after them. The numbers and values that stand for
-- an answer can be read back: from a record's words its struct, from what is given the case of the enum.
use Prim.Native.Nat.{ℕ}
use mathlib.Core.Path.{◌≡◌, refl, sym, ap, ◌∙◌}
use mathlib.Core.Bool.{Bool, false}
use mathlib.Core.List.{List, []}
use lib.ListN.{length, get_or}
use lib.Dec.{eqb}
use Rattle.refusal.specs.Refusals as refusal
use Rattle.items.specs.declared.Record.{Record}
use Rattle.items.specs.Items.{own_words}
use Rattle.pieces.specs.declared.Marks.{Marks}
use Rattle.pieces.specs.declared.State.{State}
use Rattle.pieces.specs.declared.Got.{Got}
use Rattle.pieces.specs.declared.Got.TheVariants.{Item, More, Finished, Refused}
use Rattle.pieces.specs.declared.OpenError.{OpenError}
use Rattle.pieces.specs.declared.OpenError.TheVariants.{NoMode}
use Rattle.std.proofs.Common.{Result, Ok, Err}
use Rattle.pieces.specs.declared.Opened.{Opened}
use Rattle.pieces.specs.declared.Answer.{Answer}
use Rattle.pieces.specs.declared.Pieced.{Pieced}
use Rattle.pieces.specs.Calls.{What, item, more, finished, refused, Reply, reply, text_after, open_of, piece_of, end_of}
use Rattle.pieces.specs.Expected.{longest}
use Rattle.pieces_calls.specs.Answers.{what_of, start_of, answered, opened, pieced, state_of, piece_in, end_in}

-- ---- answers read back

abbrev record_in : List ℕ → Record
record_in l =
    record {
      nine =
          record {
            kind = get_or l 0 0;
            detail = get_or l 1 0;
            start = get_or l 2 0;
            end = get_or l 3 0;
            from = get_or l 4 0;
            to = get_or l 5 0;
            source = get_or l 6 0;
            first = get_or l 7 0;
            past = get_or l 8 0;
          };
      depth = get_or l own_words 0;
    }

abbrev pub got_of : What → Got
got_of (item g) = Item (record_in g.words)
got_of more = More
got_of finished = Finished
got_of (refused n p) = Refused n p

pub got_back : (g : Got) (text : List ℕ) → got_of (what_of g text) ≡ g
got_back (Item r) text = refl
got_back More text = refl
got_back Finished text = refl
got_back (Refused n p) text = refl

abbrev pub started_by : What → Result (Unit {0}) OpenError
started_by (item g) = Ok tt
started_by more = Ok tt
started_by finished = Ok tt
started_by (refused n p) = Err (NoMode p)

pub start_back : (s : Result (Unit {0}) OpenError) → started_by (start_of s) ≡ s
start_back (Ok u) = refl
start_back (Err (NoMode mode)) = refl

abbrev opened_by : Reply → Opened
opened_by r = record { state = r.state; start = started_by r.what }

abbrev answer_by : Reply → Answer
answer_by r = record { state = r.state; taken = r.taken; got = got_of r.what }

abbrev pieced_by : Reply → Pieced
pieced_by r = record { marks = r.state.marks; taken = r.taken; got = got_of r.what }

opened_back : (o : Opened) → opened_by (opened o) ≡ o
opened_back o = ap (λ (s : Result (Unit {0}) OpenError). record { state = o.state; start = s }) (start_back o.start)

answer_back : (a : Answer) (text : List ℕ) → answer_by (answered a text) ≡ a
answer_back a text = ap (λ (g : Got). record { state = a.state; taken = a.taken; got = g }) (got_back a.got text)

pieced_back : (p : Pieced) (buf text : List ℕ) → pieced_by (pieced p buf text) ≡ p
pieced_back p buf text = ap (λ (g : Got). record { marks = p.marks; taken = p.taken; got = g }) (got_back p.got text)

-- ---- the calls by value

-- `opening::open`
pub open_one_answer : (mode : ℕ) (skip : Bool) (a b : Opened) → opened a ≡ open_of mode skip → opened b ≡ open_of mode skip → a ≡ b
open_one_answer mode skip a b p q = sym (opened_back a) ∙ ap opened_by (p ∙ sym q) ∙ opened_back b

-- what a call by value may answer, with the text memory after it, where the definition says r and the text memory was `old`
abbrev Permits : Reply → List ℕ → Answer → List ℕ → Type 0
Permits r old a text = (answered a text ≡ r) × (text ≡ text_after r.what old)

one_answer : (r : Reply) (old : List ℕ) (a b : Answer) (t u : List ℕ) → Permits r old a t → Permits r old b u → (a ≡ b) × (t ≡ u)
one_answer r old a b t u p q = (sym (answer_back a t) ∙ ap answer_by (p.0 ∙ sym q.0) ∙ answer_back b u, p.1 ∙ sym q.1)

-- `calls::piece`
pub piece_one_answer : (s : State) (piece old : List ℕ) (a b : Answer) (t u : List ℕ) → Permits (piece_of s piece (length old)) old a t
    → Permits (piece_of s piece (length old)) old b u → (a ≡ b) × (t ≡ u)
piece_one_answer s piece old = one_answer (piece_of s piece (length old)) old

-- `calls::end`
pub end_one_answer : (s : State) (old : List ℕ) (a b : Answer) (t u : List ℕ) → Permits (end_of s (length old)) old a t → Permits (end_of s (length old)) old b u
    → (a ≡ b) × (t ≡ u)
end_one_answer s old = one_answer (end_of s (length old)) old

-- ---- the calls with the buffer lent

-- the same, with the buffer after the call
abbrev PermitsIn : Reply → List ℕ → Pieced → List ℕ → List ℕ → Type 0
PermitsIn r old p buf text = (pieced p buf text ≡ r) × (text ≡ text_after r.what old)

one_lent : (r : Reply) (old : List ℕ) (a b : Pieced) (buf buf' t u : List ℕ) → PermitsIn r old a buf t → PermitsIn r old b buf' u
    → (a ≡ b) × (buf ≡ buf') × (t ≡ u)
one_lent r old a b buf buf' t u p q = (
  sym (pieced_back a buf t) ∙ ap pieced_by (p.0 ∙ sym q.0) ∙ pieced_back b buf' u,
  ap (λ (z : Reply). z.state.buf) (p.0 ∙ sym q.0),
  p.1 ∙ sym q.1,
)

-- `calls::piece_call`
pub piece_call_one_answer : (m : Marks) (bytes piece old : List ℕ) (a b : Pieced) (buf buf' t u : List ℕ)
    → PermitsIn (piece_in m bytes piece (length old)) old a buf t → PermitsIn (piece_in m bytes piece (length old)) old b buf' u
    → (a ≡ b) × (buf ≡ buf') × (t ≡ u)
piece_call_one_answer m bytes piece old = one_lent (piece_in m bytes piece (length old)) old

-- `calls::end_call`
pub end_call_one_answer : (m : Marks) (bytes old : List ℕ) (a b : Pieced) (buf buf' t u : List ℕ) → PermitsIn (end_in m bytes (length old)) old a buf t
    → PermitsIn (end_in m bytes (length old)) old b buf' u → (a ≡ b) × (buf ≡ buf') × (t ≡ u)
end_call_one_answer m bytes old = one_lent (end_in m bytes (length old)) old

-- a buffer of another length than a state's is 27, whatever the piece, the marks and the text memory: nothing is taken, and all of it stays
pub other_buffer : (m : Marks) (buf bs : List ℕ) (room : ℕ) → eqb (length buf) longest ≡ false
    → piece_in m buf bs room ≡ reply 0 (refused refusal.out_of_bounds 0) (state_of m buf)
other_buffer m buf bs room h = rw h

pub other_buffer_end : (m : Marks) (buf : List ℕ) (room : ℕ) → eqb (length buf) longest ≡ false
    → end_in m buf room ≡ reply 0 (refused refusal.out_of_bounds 0) (state_of m buf)
other_buffer_end m buf room h = rw h
