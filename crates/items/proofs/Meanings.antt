-- What is made of an extent, given what its outcome says of its bytes: kinds and details are small numbers, a text lies where its item
-- does, and an extent's items and their decoded bytes are no more than its bytes.
use Rattle.std.proofs.Common.{Ok, Err, Result}
use Rattle.items.specs.declared.Quotes.TheVariants.{Double, Lines}
use Rattle.items.specs.declared.Outcome.{Outcome}
use Rattle.items.specs.declared.Outcome.TheVariants.{Token, Str, HereStr, Word, Run, Lined, Keyword, Character, Error, ErrorAt}
use Rattle.items.specs.declared.CharError.{CharError}
use Rattle.items.specs.declared.CharError.TheVariants.{Wrong, WrongAt}
use Rattle.items.specs.Items.{memory_of}
use Rattle.items.specs.Meaning.{means, one, lookup, words, word_kind, word_means, run_means, escaped, unescape, string_text, lined_text}
use Rattle.items.specs.Meaning.{here_text, lower, char_names, unnamed, before_delimiter, nameless, only_one, later, hex_named, spelled_out, character_of, char_inside}
use Rattle.items.specs.Meaning.{character_means, meaning_of, Text, none, source, decoded, Meaning, Row}
use Rattle.digits.specs.Hex.{hex_value}
use Rattle.items.specs.Readers.{first_is, last_is, scalar_of, line_of, after_line, ends_with, here_inside, here_ends}
use Rattle.items.proofs.Every.{Every}
use Rattle.items.proofs.Fine.{Between, Fine, FineValue, fine_scalar}
use Rattle.items.proofs.Shorter.{decoded_shorter}
use Rattle.laws.specs.Quoted.{code, within}
use Rattle.laws.specs.Texts.{before, same}
use Rattle.laws.proofs.Choice.{by_bool, if_all, if_is, and_true, within_is, impossible}
use Rattle.chars.specs.declared.Step.{Step}
use Rattle.chars.specs.Utf8.{first, rest, front, Front}
use Rattle.numbers.specs.Grammar.{parse_number, Parsed}
use Prim.Native.Nat.{ℕ, zero, suc, ◌+◌, ◌-◌, ◌*◌, ◌%◌, ◌^◌, ◌≤◌, ◌<◌}
use mathlib.Core.Path.{◌≡◌, refl}
use mathlib.Core.Bool.{Bool, true, false, ◌&&◌, ◌||◌}
use mathlib.Core.List.{List, [], ◌∷◌, map}
use lib.ListN.{length, get_or, take, drop, length-drop}
use lib.Dec.{eqb, leb, ltb}
use native.Mathlib.Omega.{arith}
use borrow.Author.Tests.{ltb-true, ltb-false, leb-true}
use Rattle.chars.specs.Utf8 as Utf8
use Rattle.chars.specs.declared.Step.TheVariants as step
use Rattle.numbers.specs.declared.ParseError.TheVariants as parsed
use Rattle.items.specs.Kinds as kind

-- the greatest kind: that of the last error
abbrev pub last_kind : ℕ
last_kind = kind.first_error + kind.last_error

-- a text, of an item from s to e: a part of the source lies in the extent, and decoded bytes are at least two fewer than its bytes
abbrev pub Inside : ℕ → ℕ → Text → Type 0
Inside s e none = Unit {0}
Inside s e (source a b) = (s ≤ a) × ((a ≤ b) × (b ≤ e))
Inside s e (decoded bs) = s + length bs + 2 ≤ e

-- D is what is known of a detail
abbrev pub Meant : (ℕ → Type 0) → ℕ → ℕ → Meaning → Type 0
Meant D s e m = (m.kind ≤ last_kind) × (D m.detail × Inside s e m.text)

-- how many bytes of text memory some items take
abbrev pub held : List Meaning → ℕ
held [] = 0
held (m ∷ ms) = length (memory_of m.text) + held ms

pub record Made (D : ℕ → Type 0) (s e : ℕ) (ms : List Meaning) : Type 0 where
  pub meant : Every (Meant D s e) ms
  pub count : s + length ms ≤ e
  pub memory : s + held ms ≤ e

-- ---- tables

-- whether no number of a table is above n
abbrev all_below : ℕ → List Row → Bool
all_below n [] = true
all_below n (r ∷ rs) = leb r.number n && all_below n rs

lookup_le : (n : ℕ) (rows : List Row) (raw : List ℕ) (other : ℕ) → all_below n rows ≡ true → other ≤ n → lookup rows raw other ≤ n
unfolding lookup
lookup_le n [] raw other h o = o
lookup_le n (r ∷ rs) raw other h o =
    if_all (λ (k : ℕ). k ≤ n) (same raw r.text) (leb-true r.number n (and_true (leb r.number n) (all_below n rs) h).0)
    (lookup_le n rs raw other (and_true (leb r.number n) (all_below n rs) h).1 o)

pub word_le : (raw : List ℕ) → word_kind raw ≤ kind.Dot
unfolding word_kind words
word_le raw = lookup_le kind.Dot words raw kind.Identifier refl (omega arith)

name_le : (raw : List ℕ) → lookup char_names raw unnamed ≤ unnamed
unfolding char_names
name_le raw = lookup_le unnamed char_names raw unnamed refl (omega arith)

-- ---- one character and nothing else

abbrev SmallFront : Front → Type 0
SmallFront (Utf8.char c n) = c < 2 ^ 32
SmallFront (Utf8.bad n) = Unit {0}
SmallFront Utf8.cut = Unit {0}
SmallFront Utf8.none = Unit {0}

-- room for n times six bits
abbrev Room : ℕ → ℕ → Type 0
Room zero c = c < 2 ^ 32
Room (suc zero) c = c < 2 ^ 26
Room (suc (suc zero)) c = c < 2 ^ 20
Room (suc (suc (suc zero))) c = c < 2 ^ 14
Room (suc (suc (suc (suc n)))) c = ⊥

room_next : (n c b : ℕ) → Room (suc n) c → Room n (c * 64 + b % 64)
room_next zero c b h = omega arith
room_next (suc zero) c b h = omega arith
room_next (suc (suc zero)) c b h = omega arith
room_next (suc (suc (suc n))) c b h = absurd h

rest_small : (n lo hi c k : ℕ) (s : List ℕ) → Room n c → SmallFront (rest n lo hi c k s)
unfolding rest
rest_small zero lo hi c k s h = h
rest_small (suc n) lo hi c k [] h = tt
rest_small (suc n) lo hi c k (b ∷ s) h =
    if_all SmallFront (within lo hi b) (rest_small n 0x80 0xBF (c * 64 + b % 64) (k + 1) s (room_next n c b h)) tt

abbrev SmallStep : Step → Type 0
SmallStep (step.Char c) = c < 2 ^ 32
SmallStep (step.More t) = Room t.need t.code
SmallStep step.Bad = Unit {0}

within_le : (lo hi b : ℕ) → within lo hi b ≡ true → b ≤ hi
unfolding within
within_le lo hi b e = (within_is lo hi b e).1

first_small : (b : ℕ) → SmallStep (first b)
unfolding first
first_small b =
    if_is SmallStep (within 0x00 0x7F b) (λ e. omega (arith, within_le 0x00 0x7F b e))
    (λ _. if_is SmallStep (within 0xC2 0xDF b) (λ e. omega (arith, within_le 0xC2 0xDF b e))
    (λ _. if_is SmallStep (within 0xE0 0xE0 b) (λ e. omega (arith, within_le 0xE0 0xE0 b e))
    (λ _. if_is SmallStep (within 0xE1 0xEC b) (λ e. omega (arith, within_le 0xE1 0xEC b e))
    (λ _. if_is SmallStep (within 0xED 0xED b) (λ e. omega (arith, within_le 0xED 0xED b e))
    (λ _. if_is SmallStep (within 0xEE 0xEF b) (λ e. omega (arith, within_le 0xEE 0xEF b e))
    (λ _. if_is SmallStep (within 0xF0 0xF0 b) (λ e. omega (arith, within_le 0xF0 0xF0 b e))
    (λ _. if_is SmallStep (within 0xF1 0xF3 b) (λ e. omega (arith, within_le 0xF1 0xF3 b e))
    (λ _. if_is SmallStep (within 0xF4 0xF4 b) (λ e. omega (arith, within_le 0xF4 0xF4 b e)) (λ _. tt)))))))))

after_small : (t : Step) (s : List ℕ) → SmallStep t → SmallFront (Utf8.after t s)
after_small (step.Char c) s h = h
after_small (step.More t) s h = rest_small t.need t.low t.high t.code 1 s h
after_small step.Bad s h = tt

front_small : (t : List ℕ) → SmallFront (front t)
unfolding front
front_small [] = tt
front_small (b ∷ s) = after_small (first b) s (first_small b)

-- ---- texts

module _ (s e : ℕ) (raw : List ℕ) (long : e ≡ s + length raw) where
  string_inside : Between (code "\"") raw → Inside s e (string_text s e raw)
  unfolding string_text
  string_inside h =
      if_all (Inside s e) (escaped raw) (omega (arith, decoded_shorter Double raw h)) (omega arith, (omega arith, omega arith))

  lined_inside : Between (code "|") raw → Inside s e (lined_text s e raw)
  unfolding lined_text
  lined_inside h =
      if_all (Inside s e) (escaped raw && ltb 0 (length (unescape Lines (drop 1 raw)))) (omega (arith, decoded_shorter Lines raw h))
      (omega arith, (omega arith, omega arith))

  -- the body is at least as long as the delimiter
  here_le : here_ends raw ≡ true → length (line_of (here_inside raw)) ≤ length (after_line (here_inside raw))
  unfolding here_ends ends_with
  here_le h = by_bool (ltb (length (after_line (here_inside raw))) (length (line_of (here_inside raw))))
      (λ f. let z : false ≡ true = rw f at h in impossible cc)
      (λ f. ltb-false _ _ f)

  here_inside_lem : here_ends raw ≡ true → Inside s e (here_text s e raw)
  unfolding here_text
  here_inside_lem h =
      let l : List ℕ = here_inside raw in
      let f : length (after_line l) ≤ length raw = omega (arith, length-drop (before (code "\n") l + 1) l, length-drop 3 raw) in
      (omega arith, (omega (arith, here_le h), omega arith))

-- ---- meanings

module _ (D : ℕ → Type 0) (small : (d : ℕ) → d < 2 ^ 32 → D d) where
  fine_nameless : (report : Bool) (t : List ℕ) → FineValue D (nameless report t)
  unfolding nameless
  fine_nameless report t =
      if_all (FineValue D) (report && ltb (suc (before_delimiter (drop 1 t))) (length t)) (omega arith, small 0 (omega arith))
      (omega arith, small 0 (omega arith))

  fine_only : (report : Bool) (f : Front) (t : List ℕ) → SmallFront f → FineValue D (only_one report f t)
  fine_only report (Utf8.char c n) t h = if_all (FineValue D) (eqb n (length t)) (small c h) (fine_nameless report t)
  fine_only report (Utf8.bad n) t h = fine_nameless report t
  fine_only report Utf8.cut t h = fine_nameless report t
  fine_only report Utf8.none t h = fine_nameless report t

  fine_later : (n : ℕ) (v : Result ℕ CharError) → FineValue D v → FineValue D (later n v)
  fine_later n (Ok c) h = h
  fine_later n (Err (Wrong e d)) h = h
  fine_later n (Err (WrongAt e d p)) h = h

  fine_named : (t : List ℕ) → FineValue D (hex_named t)
  unfolding hex_named
  fine_named t =
      let P : Result ℕ CharError → Type 0 = FineValue D in
      if_all P (first_is (code "u") t && eqb (get_or t 1 0) (code "{"))
      (if_all P (last_is (code "}") t) (fine_later 2 (scalar_of (hex_value (take (length t - 3) (drop 2 t)))) (fine_scalar D small (take (length t - 3) (drop 2 t))))
      (omega arith, small (code "}") (omega arith)))
      (fine_later 1 (scalar_of (hex_value (drop 1 t))) (fine_scalar D small (drop 1 t)))

  fine_spelled : (report : Bool) (t : List ℕ) → FineValue D (spelled_out report t)
  unfolding spelled_out
  fine_spelled report t =
      if_all (FineValue D) ((first_is (code "u") t || first_is (code "x") t) && ltb 1 (length t)) (fine_named t)
      (fine_only report (front t) t (front_small t))

  pub fine_character : (report : Bool) (t : List ℕ) → FineValue D (character_of report t)
  unfolding character_of
  fine_character report t =
      if_all (FineValue D) (eqb (lookup char_names (map lower t) unnamed) unnamed) (fine_spelled report t)
      (small _ (omega (arith, name_le (map lower t))))

  module _ (s e : ℕ) (raw : List ℕ) (long : e ≡ s + length raw) (some : 1 ≤ length raw) where
    memory_le : (t : Text) → Inside s e t → s + (length (memory_of t) + 0) ≤ e
    memory_le none h = omega arith
    memory_le (source a b) h = omega arith
    memory_le (decoded bs) h = omega arith

    one_made : (k d : ℕ) (t : Text) → k ≤ last_kind → D d → Inside s e t → Made D s e (one k d t)
    one_made k d t h g f = record { meant = ((h, (g, f)), tt); count = omega arith; memory = memory_le t f }

    -- a plus, and the rest
    pair_made : 1 < length raw → Made D s e (means kind.Identifier 0 (source s (s + 1)) ∷ means kind.Identifier 0 (source (s + 1) e) ∷ [])
    pair_made h =
        let z : D 0 = small 0 (omega arith) in
        record {
          meant = ((omega arith, (z, (omega arith, (omega arith, omega arith)))), ((omega arith, (z, (omega arith, (omega arith, omega arith)))), tt));
          count = omega arith;
          memory = omega arith;
        }

    word_made : Made D s e (word_means s e raw)
    unfolding word_means
    word_made =
        let P : List Meaning → Type 0 = Made D s e in
        if_all P (eqb (word_kind raw) kind.Identifier)
        (if_is P (first_is (code "+") raw && ltb 1 (length raw))
        (λ f. pair_made (ltb-true 1 (length raw) (and_true (first_is (code "+") raw) (ltb 1 (length raw)) f).1))
        (λ f. one_made kind.Identifier 0 (source s e) (omega arith) (small 0 (omega arith)) (omega arith, (omega arith, omega arith))))
        (one_made (word_kind raw) 0 none (omega (arith, word_le raw)) (small 0 (omega arith)) tt)

    run_made : (p : Parsed) → Made D s e (run_means p s e raw)
    unfolding run_means
    run_made (Ok p) = one_made kind.Number 0 none (omega arith) (small 0 (omega arith)) tt
    run_made (Err parsed.NoNumber) = word_made
    run_made (Err parsed.ZeroDenominator) = one_made (kind.first_error + kind.ZeroDenominator) 0 none (omega arith) (small 0 (omega arith)) tt

    character_made : (v : Result ℕ CharError) → FineValue D v → Made D s e (character_means v)
    character_made (Ok c) h = one_made kind.CharacterLiteral c none (omega arith) h tt
    character_made (Err (Wrong n d)) h = one_made (kind.first_error + n) d none (omega arith) h.1 tt
    character_made (Err (WrongAt n d p)) h = one_made (kind.first_error + n) d none (omega arith) h.1 tt

    pub made : (report : Bool) (n : ℕ) (o : Outcome) → Fine D n raw o → Made D s e (meaning_of report o s e raw)
    made report n (Token k d) h = one_made k d none (omega arith) h.1 tt
    made report n Str h = one_made kind.StringLiteral 0 (string_text s e raw) (omega arith) (small 0 (omega arith)) (string_inside s e raw long h)
    made report n HereStr h = one_made kind.StringLiteral 0 (here_text s e raw) (omega arith) (small 0 (omega arith)) (here_inside_lem s e raw long h)
    made report n Word h = word_made
    made report n Run h = run_made (parse_number raw)
    made report n Lined h = one_made kind.Identifier 0 (lined_text s e raw) (omega arith) (small 0 (omega arith)) (lined_inside s e raw long h)
    made report n Keyword h = one_made kind.Keyword 0 (source s e) (omega arith) (small 0 (omega arith)) (omega arith, (omega arith, omega arith))
    made report n Character h = character_made (character_of report (char_inside raw)) (fine_character report (char_inside raw))
    made report n (Error k d) h = one_made (kind.first_error + k) d none (omega arith) h.1 tt
    made report n (ErrorAt k d a b) h = one_made (kind.first_error + k) d none (omega arith) h.0.1 tt
