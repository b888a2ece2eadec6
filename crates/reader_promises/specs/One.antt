-- Two answers that a contract permits for one input coincide, and so do the reader and the memory after them. One exception: opening ensures
-- which bytes the reader holds and not where in memory they lie.
use Rattle.std.specs.Prelude.{ℕ, ◌≡◌, refl, Bool, List, get_or, eqb, if◌then◌else◌, None, Option, Some, Result, Ok, Err}
use Rattle.std.proofs.Common.{sym, ap, ◌∙◌}
use Rattle.items.specs.Items.{own_words}
use Rattle.meaning.specs.Records.{nine_with}
use Rattle.lexer.specs.Inner.{deep_at}
use Rattle.lexer.specs.declared.Position.{Position}
use Rattle.reader.specs.Reading.{What, gives, ends, stops, given_of, Moved, moved, next_for, Stand, stands, refuses_with, standing_of, OpenedAs, opened_as, open_for}
use Rattle.reader.specs.declared.Reader.{Reader}
use Rattle.items.specs.declared.Record.{Record}
use Rattle.lexer.specs.declared.NextError.{NextError}
use Rattle.lexer.specs.declared.NextError.TheVariants as next
use Rattle.lexer.specs.declared.OpenError.{OpenError}
use Rattle.lexer.specs.declared.OpenError.TheVariants as opens

-- ---- one item

given_answer : What → Result (Option Record) NextError
given_answer (gives w) = Ok (Some (deep_at (get_or w own_words 0) (nine_with w)))
given_answer ends = Ok None
given_answer (stops n a b) = if eqb n 20 then Err next.TooLong else Err (next.NoRoom b)

given_back : (a : Result (Option Record) NextError) → given_answer (given_of a) ≡ a
unfolding given_answer
given_back (Ok (Some r)) = refl
given_back (Ok None) = refl
given_back (Err next.TooLong) = refl
given_back (Err (next.NoRoom n)) = refl

-- the answer, the reader and the text memory after it
pub next_one_answer : (r : Reader) (text : List ℕ) (a b : Result (Option Record) NextError) (ra rb : Reader) (ta tb : List ℕ)
    → moved (given_of a) ra ta ≡ next_for r text → moved (given_of b) rb tb ≡ next_for r text → (a ≡ b) × (ra ≡ rb) × (ta ≡ tb)
next_one_answer r text a b ra rb ta tb ea eb =
    let e : moved (given_of a) ra ta ≡ moved (given_of b) rb tb = ea ∙ sym eb in
    (sym (given_back a) ∙ ap (λ (m : Moved). given_answer m.what) e ∙ given_back b, ap (λ (m : Moved). m.reader) e, ap (λ (m : Moved). m.text) e)

-- ---- opening

standing_back : Stand → Result Unit OpenError
standing_back stands = Ok tt
standing_back (refuses_with n a) = if eqb n 25 then Err (opens.NoMode a) else if eqb n 20 then Err opens.TooLong else Err (opens.NotUtf8 a)

standing_back_lem : (a : Result Unit OpenError) → standing_back (standing_of a) ≡ a
unfolding standing_back
standing_back_lem (Ok tt) = refl
standing_back_lem (Err (opens.NoMode m)) = refl
standing_back_lem (Err opens.TooLong) = refl
standing_back_lem (Err (opens.NotUtf8 at)) = refl

-- the answer, the bytes that the reader holds, and where it stands
pub open_one_answer : (source : List ℕ) (mode : ℕ) (skip : Bool) (a b : Result Unit OpenError) (sa sb : List ℕ) (pa pb : Position)
    → opened_as (standing_of a) sa pa ≡ open_for source mode skip → opened_as (standing_of b) sb pb ≡ open_for source mode skip → (a ≡ b) × (sa ≡ sb) × (pa ≡ pb)
open_one_answer source mode skip a b sa sb pa pb ea eb =
    let e : opened_as (standing_of a) sa pa ≡ opened_as (standing_of b) sb pb = ea ∙ sym eb in
    (sym (standing_back_lem a) ∙ ap (λ (o : OpenedAs). standing_back o.stand) e ∙ standing_back_lem b, ap (λ (o : OpenedAs). o.source) e, ap (λ (o : OpenedAs). o.position) e)
