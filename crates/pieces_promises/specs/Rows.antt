-- What the calls answer to a few states and pieces: the bytes taken, what is given, and the whole state after, by computation.
-- `pieces_calls::opening::open` ensures `opened r ≡ open_of mode skip`, `calls::piece` that `answered r text' ≡ piece_of state piece (length text)` and
-- `text' ≡ text_after (..) text`, and `calls::end` the same with `end_of`. Each row bears the name of what it shows.
use Rattle.std.specs.Prelude.{ℕ, ◌+◌, ◌≡◌, refl, Bool, true, false, List, [], ◌∷◌, ◌++◌, length, take, replicate, Some}
use Prim.Native.String.{String}
use Rattle.laws.specs.Lent.{written}
use Rattle.laws.specs.Quoted.{code, within}
use Rattle.laws.specs.Texts.{span, starts, begins, same}
use Rattle.chars.specs.Encode.{is_scalar, utf8, width, encode, bytes_of, spelled}
use Rattle.chars.specs.Blank.{is_blank}
use Rattle.chars.specs.Machine.{step}
use Rattle.chars.specs.Utf8.{first, rest, front}
use Rattle.digits.specs.Digits.{digit_of, sign, uinteger, value, fit, signed, whole_of, integer}
use Rattle.digits.specs.Hex.{hex_digits, hex_after_plus, hex_value}
use Rattle.numbers.specs.Reals.{exponent_marker, exponent, suffix, point_of, dotted, undotted, decimal, infnan, integral_of, rational_of, denominator, exact, or_else, ureal, real}
use Rattle.numbers.specs.Grammar.{just_of, complex_of, polar_of, ends_i, imaginary, alone_of, pair_of, to_sign, starts_e, rectangular, complex}
use Rattle.numbers.specs.Grammar.{zero_int, zero_real, zero_parts, judged, radix_mark, prefix, parse_number}
use Rattle.items.specs.declared.Outcome.TheVariants.{Token}
use Rattle.items.specs.declared.Phase.TheVariants as ph
use Rattle.items.specs.declared.Quotes.TheVariants.{Double}
use Rattle.items.specs.Classes.{starts_run, first_of, in_quotes, after_backslash, stops_hex, in_hex, in_trim, in_nest, breaks_word, in_word, stays_run, ends_run, in_run, after_hash, ends_hash, in_hash, in_delim}
use Rattle.items.specs.Readers.{lined_of, scalar_of, bool_kind, quote_kind, form_kind, hash_kind, unreturned, ends_with, here_ends}
use Rattle.items.specs.Meaning.{lookup, words, word_kind, word_means, run_means, escaped, string_text, lined_text, here_text, char_names, hex_named, spelled_out, character_of, unescape}
use Rattle.items.specs.Items.{extent_items, own_words}
use Rattle.items.specs.Kinds as kind
use Rattle.items.specs.Whole.{limit}
use Rattle.pieces.specs.declared.Stage.{Stage}
use Rattle.pieces.specs.declared.Stage.TheVariants.{Idle, Busy, Waiting, Stopped}
use Rattle.pieces.specs.declared.State.{State}
use Rattle.pieces.specs.Bounds.{is_in_bounds}
use Rattle.pieces.specs.Calls.{What, item, more, finished, refused, Reply, reply, fresh, whole, at_depth, text_after, turn_of, feed_of, piece_of, end_of, open_of}
use Rattle.pieces.specs.Due.{answer, answered}
use Rattle.pieces.specs.Expected.{longest}

-- outside all brackets: an item with no text, an error with its place, and an item with its text
abbrev pub bare : ℕ → ℕ → ℕ → ℕ → What
bare k d s e = item (record { words = k ∷ d ∷ s ∷ e ∷ s ∷ e ∷ 0 ∷ 0 ∷ 0 ∷ 0 ∷ []; text = [] })

abbrev pub error : ℕ → ℕ → ℕ → ℕ → ℕ → ℕ → What
error n d s e a b = item (record { words = (kind.first_error + n) ∷ d ∷ s ∷ e ∷ a ∷ b ∷ 0 ∷ 0 ∷ 0 ∷ 0 ∷ []; text = [] })

abbrev pub texted : ℕ → ℕ → ℕ → String → What
texted k s e t = item (record { words = k ∷ 0 ∷ s ∷ e ∷ s ∷ e ∷ 2 ∷ 0 ∷ length (spelled t) ∷ 0 ∷ []; text = spelled t })

-- the same with n brackets open
abbrev pub deep : ℕ → What → What
deep n (item g) = item (record { words = take own_words g.words ++ (n ∷ []); text = g.text })
deep n more = more
deep n finished = finished
deep n (refused m p) = refused m p

-- ---- states, plain, comments kept, outside all brackets

-- a buffer with some bytes at its start
abbrev pub buffer : List ℕ → List ℕ
buffer held = written held (replicate longest 0)

-- whether the end is declared, the stage, the place, the last error range, the count of bytes held, and the buffer
abbrev pub state : Bool → Stage → ℕ → ℕ → ℕ → ℕ → List ℕ → State
state e g at from to len buf =
    record { buf = buf; marks = record { mode = 0; skip = false; ended = e; stage = g; at = at; part = whole; from = from; to = to; len = len; depth = 0 } }

-- opened
abbrev pub new : State
new = fresh 0 false

-- "(a" was taken, and the bracket given
abbrev pub in_word_a : State
in_word_a = at_depth 1 (state false (Busy 1 ph.InWord) 2 0 0 1 (buffer (spelled "a")))

-- a string broke off in an escape that is no character: its error was given, and its quote begins another
abbrev pub after_error : State
after_error = state false (Busy 8 (ph.Quoted Double)) 9 1 8 1 (buffer (spelled "\"\\xD800;"))

-- 4,095 bytes of a word are held
abbrev pub nearly_full : State
nearly_full = state false (Busy 0 ph.InWord) 4095 0 0 4095 (replicate longest 97)

-- "+a " was taken and the plus given: the word after it waits, the shortest that can
abbrev waiting : State
waiting = state false (Waiting 0 (Some (code " "))) 2 0 0 2 (buffer (spelled "+a"))

-- the first byte of a character was taken
abbrev begun : State
begun = (piece_of new (0xCE ∷ []) longest).state

-- as many bytes as there may be were taken
abbrev filled : State
filled = state false Idle limit 0 0 0 (buffer [])

-- "(;" was taken, comments skipped, and the bracket given
abbrev in_comment : State
in_comment = (piece_of (fresh 0 true) (spelled "(;") longest).state

-- one bracket open, and no byte taken
abbrev pub too_deep : State
too_deep = at_depth 1 new

-- a mode that there is not
abbrev pub mode_two : State
mode_two = fresh 2 false

-- the text memory that a call is lent, and what it is after a call
abbrev pub lent : List ℕ
lent = replicate longest 7

abbrev pub lent_after : Reply → List ℕ
lent_after r = text_after r.what lent

-- ---- the rows

-- the whole answer of a call to one state and one piece, each
pub record Rows : Type 0 where
  -- mode 2 is not opened: 25, and a plain state
  pub opening : (skip : Bool) → open_of 2 skip ≡ reply 0 (refused 25 2) (fresh 0 skip)
  -- mode 1 is, with the choice on comments as asked
  pub opened : (skip : Bool) → open_of 1 skip ≡ reply 0 more (fresh 1 skip)
  -- two bytes of "(ab" make the bracket ready, and no more are taken
  pub first_call : piece_of new (spelled "(ab") longest ≡ reply 2 (bare kind.OpenParen kind.Round 0 1) in_word_a
  -- the next call reads on: the word is ready at the bracket
  pub later_call : piece_of in_word_a (spelled "b)") longest
      ≡ reply 2 (deep 1 (texted kind.Identifier 1 3 "ab"))
      (at_depth 1 (state false (Busy 3 (ph.Done (Token kind.CloseParen kind.Round))) 4 0 0 1 (buffer (spelled ")b"))))
  -- the depth is that before the item: a close has that of its list, and is counted after it
  pub closing : piece_of (piece_of in_word_a (spelled ")") longest).state (spelled " ") longest
      ≡ reply 1 (deep 1 (bare kind.CloseParen kind.Round 2 3)) (state false Idle 4 0 0 0 (buffer (spelled ")")))
  -- a close with none open leaves it at 0
  pub closing_none : piece_of new (spelled ") ") longest ≡ reply 2 (bare kind.CloseParen kind.Round 0 1) (state false Idle 2 0 0 0 (buffer (spelled ")")))
  -- a skipped comment leaves it
  pub after_comment : (piece_of in_comment (spelled "a\nb ") longest).what ≡ deep 1 (texted kind.Identifier 4 5 "b")
  -- its text stands at the start of the text memory
  pub later_text : lent_after (piece_of in_word_a (spelled "b)") longest) ≡ written (spelled "ab") lent
  -- with nothing ready the piece is taken whole, and the text memory keeps every byte
  pub unready : piece_of in_word_a (spelled "bc") longest ≡ reply 2 more (at_depth 1 (state false (Busy 1 ph.InWord) 4 0 0 3 (buffer (spelled "abc"))))
  pub unready_text : lent_after (piece_of in_word_a (spelled "bc") longest) ≡ lent
  -- a comma is not given before it is known whether `@` follows
  pub comma : piece_of new (spelled ",") longest ≡ reply 1 more (state false (Busy 0 ph.AfterComma) 1 0 0 1 (buffer (spelled ",")))
  -- a number's whole extent is copied
  pub number : piece_of new (spelled "14.7 ") longest ≡ reply 5 (texted kind.Number 0 4 "14.7") (state false Idle 5 0 0 0 (buffer (spelled "14.7")))
  -- an item of 4,096 bytes is held; at the next byte 23 comes with its start, and the bytes after it are not taken
  pub too_long : answered (piece_of nearly_full (spelled "aaa") longest) ≡ answer 2 (refused 23 0)
  pub too_long_state : (piece_of nearly_full (spelled "aaa") longest).state ≡ state false (Stopped 23 0) 4096 0 0 0 (replicate longest 97)
  -- a byte that begins no character is 21, which stands from then on
  pub stop : piece_of new (0xFF ∷ []) longest ≡ reply 1 (refused 21 0) (state false (Stopped 21 0) 0 0 0 0 (buffer []))
  -- the first byte too many is 20
  pub one_too_many : piece_of filled (spelled "a") longest ≡ reply 1 (refused 20 limit) (state false (Stopped 20 limit) limit 0 0 0 (buffer []))
  -- E10: the error's range is kept when its item is given, and is the place of the error after it
  pub ranged : piece_of new (spelled "\"\\xD800;\"") longest ≡ reply 9 (error kind.InvalidHexCodePoint 0xD800 0 8 1 8) after_error
  pub ranged_end : end_of after_error longest ≡ reply 0 (error kind.IncompleteString 0 8 9 1 8) (state true Idle 9 1 8 0 (buffer (spelled "\"\\xD800;")))
  -- the end finishes the item that was being read, and stands declared
  pub end_call : end_of in_word_a longest ≡ reply 0 (deep 1 (texted kind.Identifier 1 2 "a")) (at_depth 1 (state true Idle 2 0 0 0 (buffer (spelled "a"))))
  -- the second item of a pair is given at the end too
  pub second : end_of waiting longest ≡ reply 0 (texted kind.Identifier 0 2 "a") (state true Idle 3 0 0 0 (buffer (spelled "+a")))
  -- a sequence that the end cuts is 21
  pub cut : end_of begun longest ≡ reply 0 (refused 21 0) (state true (Stopped 21 0) 0 0 0 0 (buffer []))
  -- a state outside its bounds is 27, a text memory that is short 24, a piece after the declared end 26: nothing is taken, and the state stays
  pub out_of_bounds_holds : piece_of mode_two (spelled "a") longest ≡ reply 0 (refused 27 0) mode_two
  pub end_out_of_bounds : end_of mode_two longest ≡ reply 0 (refused 27 0) mode_two
  pub too_deep_holds : piece_of too_deep (spelled "a") longest ≡ reply 0 (refused 27 0) too_deep
  pub no_room : piece_of new (spelled "a") 4095 ≡ reply 0 (refused 24 0) new
  pub end_no_room : end_of in_word_a 4095 ≡ reply 0 (refused 24 0) in_word_a
  pub after_end : piece_of (end_of new longest).state (spelled "a") longest ≡ reply 0 (refused 26 0) (end_of new longest).state

pub computed : Rows
-- the list only permits the computing
unfolding within span starts begins same is_scalar utf8 width encode bytes_of is_blank step first rest front digit_of sign uinteger value fit
    signed whole_of integer hex_digits hex_after_plus hex_value exponent_marker exponent suffix point_of dotted undotted decimal infnan integral_of
    rational_of denominator exact or_else ureal real just_of complex_of polar_of ends_i imaginary alone_of pair_of to_sign starts_e rectangular
    complex zero_int zero_real zero_parts judged radix_mark prefix parse_number starts_run first_of in_quotes after_backslash stops_hex in_hex in_trim
    in_nest breaks_word in_word stays_run ends_run in_run after_hash ends_hash in_hash in_delim lined_of scalar_of bool_kind quote_kind form_kind hash_kind
    unreturned ends_with here_ends lookup words word_kind word_means run_means escaped string_text lined_text here_text char_names hex_named
    spelled_out character_of unescape extent_items is_in_bounds turn_of feed_of piece_of end_of open_of
computed =
    record {
      opening = λ skip. refl;
      opened = λ skip. refl;
      first_call = refl;
      later_call = refl;
      closing = refl;
      closing_none = refl;
      after_comment = refl;
      later_text = refl;
      unready = refl;
      unready_text = refl;
      comma = refl;
      number = refl;
      too_long = refl;
      too_long_state = refl;
      stop = refl;
      one_too_many = refl;
      ranged = refl;
      ranged_end = refl;
      end_call = refl;
      second = refl;
      cut = refl;
      out_of_bounds_holds = refl;
      end_out_of_bounds = refl;
      too_deep_holds = refl;
      no_room = refl;
      end_no_room = refl;
      after_end = refl;
    }
