-- The loops over the records: what was counted or laid so far, and what is still to be written.
use Rattle.std.proofs.Common.{Option}
use Rattle.items.specs.declared.Quotes.{Quotes}
use Prim.Native.Nat.{ℕ, ◌+◌, ◌-◌, ◌*◌, ◌≤◌, ◌<◌}
use mathlib.Core.Path.{◌≡◌, refl, sym, ap, ◌∙◌}
use mathlib.Core.Bool.{Bool, true, false, not}
use mathlib.Core.List.{List, [], ◌++◌, append_assoc, append-nil}
use lib.ListN.{length, take, drop, length-append}
use native.Mathlib.Omega.{arith}
use borrow.Rule.Slice.PartMut.{put_mid}
use Rattle.laws.specs.Quoted.{code}
use Rattle.laws.specs.Lent as lent
use Rattle.laws.proofs.Lent.{length-written, length_part, part_written}
use Rattle.refusal.specs.Refusals as refusal
use Rattle.items_writing.specs.declared.WriteWords.{WriteWords}
use Rattle.items_writing.specs.declared.WriteTurn.{WriteTurn}
use Rattle.items_writing.specs.Records.{count_of, words_at, is_right, entry_of}
use Rattle.items_writing.specs.Pieces.{body_of, lone, shown, piece, onward, TurnSaid, TakenSaid, Measured}
use Rattle.items_writing.proofs.RightRecords.{body_short}
use Rattle.items_writing.proofs.QuotedBytes.{lone_few, shown_few}
use Rattle.items_writing.proofs.PieceByPiece.{at_end_case}

pub piece_few : (first pair : Bool) (f : Option Quotes) (t : List ℕ) → length (piece first pair f t) ≤ 2 * length t + 4
unfolding piece
piece_few first pair f t =
    omega (
      arith,
      length-append (lone (not first) (code " ")) (lone pair (code "+") ++ shown f t),
      length-append (lone pair (code "+")) (shown f t),
      lone_few (not first) (code " "),
      lone_few pair (code "+"),
      shown_few f t,
    )

module _ {records source text : List ℕ} {first : Bool} {p : ℕ} {t : WriteTurn} (said : TurnSaid records source text first p t) {w : WriteWords} (e : w ≡ words_at records t.last) where
  pub turn_right : is_right source text w ≡ true
  turn_right = ap (is_right source text) e ∙ said.body_right

  pub turn_taken : {b : List ℕ} → b ≡ body_of (entry_of source text w) → w.past ≤ refusal.limit → w.«end» ≤ refusal.limit
      → TakenSaid records source text first p t b
  turn_taken {b} y l g = record {
    turn = said;
    body = y ∙ ap (λ (u : WriteWords). body_of (entry_of source text u)) e;
    short = omega (arith, ap length y, body_short source text w turn_right refusal.limit l g);
  }

module _ {records source text : List ℕ} {first : Bool} {p : ℕ} {t : WriteTurn} {b : List ℕ} (said : TakenSaid records source text first p t b) where
  pub turn_fits : {r : ℕ} → r ≡ length (piece first t.pair t.form b) → r ≤ 2 * refusal.limit + 4
  turn_fits q = omega (arith, said.short, piece_few first t.pair t.form b)

  pub turn_goes : onward records source text first p ≡ piece first t.pair t.form b ++ onward records source text false (t.last + 1)
  turn_goes = said.turn.goes ∙ ap (λ (l : List ℕ). piece first t.pair t.form l ++ onward records source text false (t.last + 1)) (sym said.body)

  pub turn_size : length (onward records source text first p) ≡ length (piece first t.pair t.form b) + length (onward records source text false (t.last + 1))
  turn_size = ap length turn_goes ∙ length-append (piece first t.pair t.form b) (onward records source text false (t.last + 1))

pub none_left : (records source text : List ℕ) (first : Bool) (p : ℕ) → count_of records ≤ p → length (onward records source text first p) ≡ 0
none_left records source text first p h = ap length (at_end_case records source text first p h)

pub measured_past : {w : List ℕ} {n : ℕ} (m : ℕ) → refusal.limit < n → n + m ≡ length w → Measured w n
measured_past m h e = record { within = λ l. absurd (omega arith); past = λ l. omega arith }

pub measured_all : {w : List ℕ} {n : ℕ} → n ≤ refusal.limit → n ≡ length w → Measured w n
measured_all h e = record { within = λ l. e; past = λ l. absurd (omega arith) }

-- ---- in the memory. `all` is all that is written

module _ (records source text : List ℕ) where
  pub record Put (all old out : List ℕ) (n p : ℕ) (first : Bool) : Type 0 where
    pub inside : p ≤ count_of records
    pub done : List ℕ
    pub splits : all ≡ done ++ onward records source text first p
    pub size : n ≡ length done
    pub memory : out ≡ lent.written done old

  pub put_start : (old : List ℕ) (first : Bool) (p : ℕ) → p ≤ count_of records → Put (onward records source text first p) old old 0 p first
  put_start old first p h = record { inside = h; done = []; splits = refl; size = refl; memory = refl }

  module _ {all old out : List ℕ} {n p : ℕ} {first : Bool} (l : Put all old out n p first) (fit : length all ≤ length old) where
    whole_size : length all ≡ n + length (onward records source text first p)
    whole_size = ap length l.splits ∙ (length-append l.done (onward records source text first p) ∙ ap (λ (x : ℕ). x + length (onward records source text first p)) (sym l.size))

    pub put_length : length out ≡ length old
    put_length = ap length l.memory ∙ length-written l.done old (omega (arith, whole_size, l.size))

    pub put_end : count_of records ≤ p → out ≡ lent.written all old
    put_end h =
        let e : all ≡ l.done = l.splits ∙ (ap (λ (x : List ℕ). l.done ++ x) (at_end_case records source text first p h) ∙ append-nil l.done) in
        l.memory ∙ ap (λ (x : List ℕ). lent.written x old) (sym e)

    module _ {t : WriteTurn} {b : List ℕ} (said : TakenSaid records source text first p t b) where
      abbrev next : List ℕ
      next = piece first t.pair t.form b

      pub put_room : n + length next ≤ length out
      put_room = omega (arith, whole_size, put_length, turn_size said)

      pub put_part : length next ≤ length (take (length out - n) (drop n out))
      put_part = omega (arith, length_part out n, put_room)

      pub put_on : {last : List ℕ} {r : ℕ} → last ≡ lent.written next (take (length out - n) (drop n out)) → r ≡ length next
          → Put all old (put_mid n (length out - n) out last) (n + r) (t.last + 1) false
      put_on {last} {r} v q = record {
        inside = omega (arith, said.turn.inside);
        done = l.done ++ next;
        splits =
            l.splits ∙ (ap (λ (x : List ℕ). l.done ++ x) (turn_goes said)
            ∙ sym (append_assoc l.done next (onward records source text false (t.last + 1))));
        size = omega (arith, l.size, length-append l.done next);
        memory = part_written l.done next old l.memory (sym l.size) (omega (arith, whole_size, l.size)) v;
      }
