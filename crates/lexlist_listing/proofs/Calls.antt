-- One call of the caller of Drive, counted: by what the answer was, and what is left of the piece.
use Rattle.std.proofs.Common.{◌≡◌, ℕ, suc, ◌+◌, ◌-◌, ◌%◌, ◌^◌, ◌<◌, ◌≤◌, true, false, List, [], ◌∷◌, length, take, drop, sym, refl, ap, ◌∙◌, arith, length-drop, drop_of_length-le, drop-drop, Option, None, Some, is_some}
use Rattle.laws.proofs.Choice.{no_yes}
use Rattle.laws.proofs.Lent.{part_rest}
use Rattle.pieces_calls.specs.Answers.{what_of, answered}
use Rattle.pieces.specs.declared.Answer.{Answer}
use Rattle.pieces.specs.declared.Got.{Got}
use Rattle.pieces.specs.declared.Got.TheVariants as got
use Rattle.pieces.specs.declared.State.{State}
use Rattle.pieces.specs.Calls.{Reply, piece_of, end_of}
use Rattle.pieces.specs.Drive.{heed, unless_taken, piece_calls, end_calls}
use Rattle.pieces.specs.Expected.{refused, Expected}
use Rattle.lexlist_listing.specs.Counted.{Tally, tally, counted, more, ending_of, comes_by}
use Rattle.lexlist_listing.specs.declared.Ending.{Ending}
use Rattle.lexlist_listing.specs.declared.Ending.TheVariants.{Finished, Refused}

-- ---- how the text ended

stays : (h : Option Ending) (n : ℕ) (s : State) (f g : State → Expected) → is_some h ≡ true → comes_by h n s f ≡ comes_by h n s g
stays None n s f g e = no_yes e
stays (Some Finished) n s f g e = refl
stays (Some (Refused number place)) n s f g e = refl

goes : (h : Option Ending) (n : ℕ) (s : State) (f : State → Expected) → is_some h ≡ false → comes_by h n s f ≡ counted n (f s)
goes None n s f e = refl
goes (Some x) n s f e = no_yes (sym e)

one_more : (n l : ℕ) → (n + suc l) % 2 ^ 64 ≡ ((n + 1) % 2 ^ 64 + l) % 2 ^ 64
one_more n l = omega arith

none_more : (n : ℕ) → (n + 0) % 2 ^ 64 ≡ n % 2 ^ 64
none_more n = ap (λ (k : ℕ). k % 2 ^ 64) (let z : n + 0 ≡ n = omega arith in z)

by_got : (n : ℕ) (g : Got) (text : List ℕ) (s : State) (later : State → Expected)
    → counted n (heed (what_of g text) (later s)) ≡ comes_by (ending_of g) (more n g) s later
by_got n (got.Item r) text s later = rw (one_more n (length (later s).items))
by_got n got.More text s later = refl
by_got n got.Finished text s later = rw (none_more n)
by_got n (got.Refused number place) text s later = rw (none_more n)

-- ---- a piece

-- a call that is lent what is left of the piece from a place on
module _ (room lent from calls n : ℕ) (s : State) (bytes : List ℕ) (a : Answer) (text : List ℕ) (same : lent ≡ room)
    (e : answered a text ≡ piece_of s (take (length bytes - from) (drop from bytes)) lent) (pos : 0 < calls) where
  abbrev ending : Option Ending
  ending = ending_of a.got

  abbrev after : ℕ
  after = more n a.got

  abbrev Before : (State → Expected) → Tally
  Before next = counted n (piece_calls room calls s (drop from bytes) next)

  -- what follows the call
  abbrev later : (State → Expected) → State → Expected
  later next t = unless_taken (drop a.taken (drop from bytes)) (next t) (λ left. piece_calls room (calls - 1) t left next)

  one_call : (next : State → Expected) → Before next ≡ comes_by ending after a.state (later next)
  unfolding piece_calls
  one_call next =
      let left : List ℕ = drop from bytes in
      let z : calls ≡ suc (calls - 1) = omega arith in
      let f : piece_of s left room ≡ answered a text = sym (e ∙ ap (λ (l : List ℕ). piece_of s l lent) (part_rest bytes from) ∙ ap (piece_of s left) same) in
      ap (λ (k : ℕ). counted n (piece_calls room k s left next)) z
      ∙ ap (λ (r : Reply). counted n (heed r.what (unless_taken (drop r.taken left) (next r.state) (λ l. piece_calls room (calls - 1) r.state l next)))) f
      ∙ by_got n a.got text a.state (later next)

  -- a last word
  pub last_word : is_some ending ≡ true → (next : State → Expected) → Before next ≡ comes_by ending after a.state next
  last_word g next = one_call next ∙ stays ending after a.state (later next) next g

  -- nothing is left of the piece
  pub all_taken : length bytes - from ≤ a.taken → (next : State → Expected) → Before next ≡ comes_by ending after a.state next
  all_taken l next =
      one_call next
      ∙ ap (λ (l : List ℕ). comes_by ending after a.state (λ t. unless_taken l (next t) (λ left. piece_calls room (calls - 1) t left next)))
      (drop_of_length-le (drop from bytes) {i = a.taken} (omega (arith, length-drop from bytes)))

  -- something is
  pub some_left : (rest : ℕ) → rest ≡ calls - 1 → is_some ending ≡ false → a.taken < length bytes - from → (next : State → Expected)
      → Before next ≡ counted after (piece_calls room rest a.state (drop (from + a.taken) bytes) next)
  some_left rest r g l next =
      rw r (one_call next ∙ goes ending after a.state (later next) g
      ∙ ap (counted after) (again (drop a.taken (drop from bytes)) (omega (arith, length-drop a.taken (drop from bytes), length-drop from bytes)))
      ∙ ap (λ (left : List ℕ). counted after (piece_calls room (calls - 1) a.state left next)) (drop-drop a.taken from bytes))
    where
      again : (left : List ℕ) → 0 < length left
          → unless_taken left (next a.state) (λ l. piece_calls room (calls - 1) a.state l next) ≡ piece_calls room (calls - 1) a.state left next
      again [] h = absurd (omega arith)
      again (b ∷ left) h = refl

pub no_calls : (room calls n : ℕ) (s : State) (bs : List ℕ) (next : State → Expected) → calls ≡ 0
    → counted n (piece_calls room calls s bs next) ≡ tally n (refused 0 0)
unfolding piece_calls
no_calls room calls n s bs next e = ap (λ (k : ℕ). counted n (piece_calls room k s bs next)) e ∙ rw (none_more n)

-- ---- the end

module _ (room lent calls n : ℕ) (s : State) (a : Answer) (text : List ℕ) (same : lent ≡ room) (e : answered a text ≡ end_of s lent) (pos : 0 < calls) where
  one_end : counted n (end_calls room calls s) ≡ comes_by (ending_of a.got) (more n a.got) a.state (λ t. end_calls room (calls - 1) t)
  unfolding end_calls
  one_end =
      let z : calls ≡ suc (calls - 1) = omega arith in
      let f : end_of s room ≡ answered a text = sym (e ∙ ap (end_of s) same) in
      ap (λ (k : ℕ). counted n (end_calls room k s)) z
      ∙ ap (λ (r : Reply). counted n (heed r.what (end_calls room (calls - 1) r.state))) f
      ∙ by_got n a.got text a.state (λ t. end_calls room (calls - 1) t)

  pub end_said : is_some (ending_of a.got) ≡ true → (next : State → Expected)
      → counted n (end_calls room calls s) ≡ comes_by (ending_of a.got) (more n a.got) a.state next
  end_said g next = one_end ∙ stays (ending_of a.got) (more n a.got) a.state (λ t. end_calls room (calls - 1) t) next g

  pub end_on : (rest : ℕ) → rest ≡ calls - 1 → is_some (ending_of a.got) ≡ false
      → counted n (end_calls room calls s) ≡ counted (more n a.got) (end_calls room rest a.state)
  end_on rest r g = rw r (one_end ∙ goes (ending_of a.got) (more n a.got) a.state (λ t. end_calls room (calls - 1) t) g)

pub no_ends : (room calls n : ℕ) (s : State) → calls ≡ 0 → counted n (end_calls room calls s) ≡ tally n (refused 0 0)
unfolding end_calls
no_ends room calls n s e = ap (λ (k : ℕ). counted n (end_calls room k s)) e ∙ rw (none_more n)
