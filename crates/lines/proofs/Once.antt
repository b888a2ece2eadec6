-- Two permitted answers coincide: each contract is an equation with a definition, and two answers that mean the same are the same, so it leaves
-- room for one answer and one memory.
use Prim.Native.Nat.{ℕ}
use mathlib.Core.Path.{◌≡◌, refl, sym, ap, ◌∙◌}
use mathlib.Core.List.{List}
use Rattle.std.proofs.Common.{Result, Ok, Err}
use Rattle.laws.proofs.Choice.{impossible}
use Rattle.lines.specs.Starts.{told_of, Outcome, outcome}
use Rattle.lines.specs.Numbers.{located_first, located_second}
use Rattle.lines.specs.Place.{where_of, locate_of}
use Rattle.lines.specs.Pieces.{Fed, fed, end_of}
use Rattle.lines.specs.declared.LinesError.{LinesError}
use Rattle.lines.specs.declared.LinesError.TheVariants as error
use Rattle.lines.specs.declared.LineColumn.{LineColumn}
use Rattle.lines.specs.declared.LocateError.{LocateError}
use Rattle.lines.specs.declared.LocateError.TheVariants as locate_error
use Rattle.lines.specs.declared.LineState.{LineState}

-- Each refusal has a number of its own, so an answer is known by what it means.
same_told : (a b : Result ℕ LinesError) → told_of a ≡ told_of b → a ≡ b
same_told (Ok n) (Ok m) e = cc
same_told (Ok n) (Err error.TooLong) e = impossible cc
same_told (Ok n) (Err (error.NotUtf8 m)) e = impossible cc
same_told (Ok n) (Err error.OutOfBounds) e = impossible cc
same_told (Ok n) (Err (error.NoRoom m)) e = impossible cc
same_told (Ok n) (Err error.Alien) e = impossible cc
same_told (Err error.TooLong) (Ok m) e = impossible cc
same_told (Err error.TooLong) (Err error.TooLong) e = refl
same_told (Err error.TooLong) (Err (error.NotUtf8 m)) e = impossible cc
same_told (Err error.TooLong) (Err error.OutOfBounds) e = impossible cc
same_told (Err error.TooLong) (Err (error.NoRoom m)) e = impossible cc
same_told (Err error.TooLong) (Err error.Alien) e = impossible cc
same_told (Err (error.NotUtf8 n)) (Ok m) e = impossible cc
same_told (Err (error.NotUtf8 n)) (Err error.TooLong) e = impossible cc
same_told (Err (error.NotUtf8 n)) (Err (error.NotUtf8 m)) e = cc
same_told (Err (error.NotUtf8 n)) (Err error.OutOfBounds) e = impossible cc
same_told (Err (error.NotUtf8 n)) (Err (error.NoRoom m)) e = impossible cc
same_told (Err (error.NotUtf8 n)) (Err error.Alien) e = impossible cc
same_told (Err error.OutOfBounds) (Ok m) e = impossible cc
same_told (Err error.OutOfBounds) (Err error.TooLong) e = impossible cc
same_told (Err error.OutOfBounds) (Err (error.NotUtf8 m)) e = impossible cc
same_told (Err error.OutOfBounds) (Err error.OutOfBounds) e = refl
same_told (Err error.OutOfBounds) (Err (error.NoRoom m)) e = impossible cc
same_told (Err error.OutOfBounds) (Err error.Alien) e = impossible cc
same_told (Err (error.NoRoom n)) (Ok m) e = impossible cc
same_told (Err (error.NoRoom n)) (Err error.TooLong) e = impossible cc
same_told (Err (error.NoRoom n)) (Err (error.NotUtf8 m)) e = impossible cc
same_told (Err (error.NoRoom n)) (Err error.OutOfBounds) e = impossible cc
same_told (Err (error.NoRoom n)) (Err (error.NoRoom m)) e = cc
same_told (Err (error.NoRoom n)) (Err error.Alien) e = impossible cc
same_told (Err error.Alien) (Ok m) e = impossible cc
same_told (Err error.Alien) (Err error.TooLong) e = impossible cc
same_told (Err error.Alien) (Err (error.NotUtf8 m)) e = impossible cc
same_told (Err error.Alien) (Err error.OutOfBounds) e = impossible cc
same_told (Err error.Alien) (Err (error.NoRoom m)) e = impossible cc
same_told (Err error.Alien) (Err error.Alien) e = refl

same_where : (a b : Result LineColumn LocateError) → where_of a ≡ where_of b → a ≡ b
same_where (Ok q) (Ok r) e = rw (ap located_first e, ap located_second e)
same_where (Ok q) (Err locate_error.Alien) e = impossible cc
same_where (Ok q) (Err (locate_error.NoPlace p)) e = impossible cc
same_where (Err locate_error.Alien) (Ok r) e = impossible cc
same_where (Err locate_error.Alien) (Err locate_error.Alien) e = refl
same_where (Err locate_error.Alien) (Err (locate_error.NoPlace q)) e = impossible cc
same_where (Err (locate_error.NoPlace p)) (Ok r) e = impossible cc
same_where (Err (locate_error.NoPlace p)) (Err locate_error.Alien) e = impossible cc
same_where (Err (locate_error.NoPlace p)) (Err (locate_error.NoPlace k)) e = cc

-- building, and the question for many places: the answer and every word of the memory
pub one_outcome : (o : Outcome) (a b : Result ℕ LinesError) (m n : List ℕ) → outcome (told_of a) m ≡ o → outcome (told_of b) n ≡ o → (a ≡ b) × (m ≡ n)
one_outcome o a b m n p q = (same_told a b (ap (λ (x : Outcome). x.answer) (p ∙ sym q)), ap (λ (x : Outcome). x.memory) (p ∙ sym q))

-- opening and pieces: the state and every word of the memory
pub one_state : (f : Fed) (t u : LineState) (m n : List ℕ) → fed t m ≡ f → fed u n ≡ f → (t ≡ u) × (m ≡ n)
one_state f t u m n p q = (ap (λ (x : Fed). x.state) (p ∙ sym q), ap (λ (x : Fed). x.memory) (p ∙ sym q))

-- the declared end
pub one_end : (t : LineState) (n : ℕ) (a b : Result ℕ LinesError) → told_of a ≡ end_of t n → told_of b ≡ end_of t n → a ≡ b
one_end t n a b p q = same_told a b (p ∙ sym q)

-- the question for one place
pub one_place : (s index : List ℕ) (p : ℕ) (r q : Result LineColumn LocateError) → where_of r ≡ locate_of s index p → where_of q ≡ locate_of s index p → r ≡ q
one_place s index p r q a b = same_where r q (a ∙ sym b)
