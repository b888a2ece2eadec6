-- Two answers that a contract permits for one input coincide: the map from the code's answer to numbers and values has a way back.
-- The other calls of `lexer` and `meaning` ensure `r ≡` a definition, so that there is nothing to show. One exception: `text_of` and `text_and_mark` ensure
-- which bytes the part has and not where in memory it lies, so two parts with the same bytes are both permitted.
use Rattle.std.specs.Prelude.{ℕ, ◌≡◌, refl, Bool, List, [], ◌∷◌, get_or, eqb, if◌then◌else◌, None, Option, Some, Result, Ok, Err}
use Rattle.std.proofs.Common.{sym, ap, ◌∙◌}
use Rattle.items.specs.Items.{own_words}
use Rattle.items.specs.Whole.{Answer, served, refused, Call, call, read_of}
use Rattle.meaning.specs.Meant.{meant}
use Rattle.meaning.specs.Records.{nine_with}
use Rattle.meaning.specs.declared.Means.{Means}
use Rattle.meaning.specs.declared.Meant.{Meant}
use Rattle.meaning.specs.declared.Meant.TheVariants.{One, Two}
use Rattle.lexer.specs.Answers.{answer_of, Reply, item, finished, refuses, reply_of, Replied, replied, next_of}
use Rattle.lexer.specs.Inner.{deep_at}
use Rattle.lexer.specs.Opening.{Opening, opened, opening_of, open_of}
use Rattle.lexer.specs.Opening as opening
use Rattle.lexer.specs.declared.Position.{Position}
use Rattle.lexer.specs.declared.Needed.{Needed}
use Rattle.lexer.specs.declared.Given.{Given}
use Rattle.lexer.specs.declared.ReadError.{ReadError}
use Rattle.lexer.specs.declared.ReadError.TheVariants as read
use Rattle.lexer.specs.declared.OpenError.{OpenError}
use Rattle.lexer.specs.declared.OpenError.TheVariants as opens
use Rattle.lexer.specs.declared.NextError.{NextError}
use Rattle.lexer.specs.declared.NextError.TheVariants as next

-- ---- the whole-text call

abbrev needs : ℕ → ℕ → Needed
needs n m = record { items = n; text = m }

read_answer : Answer → Result Needed ReadError
read_answer (served n m) = Ok (needs n m)
read_answer (refused n a b) =
    if eqb n 25 then Err (read.NoMode a) else if eqb n 20 then Err read.TooLong else if eqb n 21 then Err (read.NotUtf8 a) else Err (read.NoRoom (needs a b))

read_back : (a : Result Needed ReadError) → read_answer (answer_of a) ≡ a
unfolding read_answer
read_back (Ok n) = refl
read_back (Err (read.NoMode m)) = refl
read_back (Err read.TooLong) = refl
read_back (Err (read.NotUtf8 at)) = refl
read_back (Err (read.NoRoom n)) = refl

-- the answer, and both memories after it
pub read_one_answer : (source : List ℕ) (mode : ℕ) (skip : Bool) (recs text : List ℕ) (a b : Result Needed ReadError) (ra rb ta tb : List ℕ)
    → call (answer_of a) ra ta ≡ read_of source mode skip recs text → call (answer_of b) rb tb ≡ read_of source mode skip recs text
    → (a ≡ b) × (ra ≡ rb) × (ta ≡ tb)
read_one_answer source mode skip recs text a b ra rb ta tb ea eb =
    let e : call (answer_of a) ra ta ≡ call (answer_of b) rb tb = ea ∙ sym eb in
    (sym (read_back a) ∙ ap (λ (c : Call). read_answer c.answer) e ∙ read_back b, ap (λ (c : Call). c.records) e, ap (λ (c : Call). c.text) e)

-- ---- opening

open_back : Opening → Result Position OpenError
open_back (opened p) = Ok p
open_back (opening.refused n a) = if eqb n 25 then Err (opens.NoMode a) else if eqb n 20 then Err opens.TooLong else Err (opens.NotUtf8 a)

open_back_lem : (a : Result Position OpenError) → open_back (opening_of a) ≡ a
unfolding open_back
open_back_lem (Ok p) = refl
open_back_lem (Err (opens.NoMode m)) = refl
open_back_lem (Err opens.TooLong) = refl
open_back_lem (Err (opens.NotUtf8 at)) = refl

pub open_one_answer : (source : List ℕ) (mode : ℕ) (skip : Bool) (a b : Result Position OpenError)
    → opening_of a ≡ open_of source mode skip → opening_of b ≡ open_of source mode skip → a ≡ b
open_one_answer source mode skip a b ea eb = sym (open_back_lem a) ∙ ap open_back (ea ∙ sym eb) ∙ open_back_lem b

-- ---- one item

next_back : Reply → Result (Option Given) NextError
next_back (item w p) = Ok (Some (record { item = deep_at (get_or w own_words 0) (nine_with w); after = p }))
next_back finished = Ok None
next_back (refuses n a b) = if eqb n 20 then Err next.TooLong else Err (next.NoRoom b)

next_back_lem : (a : Result (Option Given) NextError) → next_back (reply_of a) ≡ a
unfolding next_back
next_back_lem (Ok (Some g)) = refl
next_back_lem (Ok None) = refl
next_back_lem (Err next.TooLong) = refl
next_back_lem (Err (next.NoRoom n)) = refl

-- the answer, and the text memory after it
pub next_one_answer : (source : List ℕ) (p : Position) (text : List ℕ) (a b : Result (Option Given) NextError) (ta tb : List ℕ)
    → replied (reply_of a) ta ≡ next_of source p text → replied (reply_of b) tb ≡ next_of source p text → (a ≡ b) × (ta ≡ tb)
next_one_answer source p text a b ta tb ea eb =
    let e : replied (reply_of a) ta ≡ replied (reply_of b) tb = ea ∙ sym eb in
    (sym (next_back_lem a) ∙ ap (λ (r : Replied). next_back r.reply) e ∙ next_back_lem b, ap (λ (r : Replied). r.text) e)

-- ---- the meaning of an extent

meant_back : List Means → Meant → Meant
meant_back [] other = other
meant_back (m ∷ []) other = One m
meant_back (m ∷ (n ∷ ms)) other = Two m n

meant_back_lem : (a other : Meant) → meant_back (meant a) other ≡ a
unfolding meant_back
meant_back_lem (One m) other = refl
meant_back_lem (Two m n) other = refl

pub meaning_one_answer : (ms : List Means) (a b : Meant) → meant a ≡ ms → meant b ≡ ms → a ≡ b
meaning_one_answer ms a b ea eb = sym (meant_back_lem a a) ∙ ap (λ (l : List Means). meant_back l a) (ea ∙ sym eb) ∙ meant_back_lem b a
