-- What an outcome says of the places of its item. The range that an error sets starts and ends between two characters: at its backslash,
-- at the place read to, or past the next character; so a law M of those places holds at both ends. Error 11 in report mode is left to
-- Failing. A here-string's third byte is ASCII, so its delimiter starts with a character; the second byte of a character, and of a comment that
-- nests and is not closed, is ASCII too. A phase keeps M of the place of its backslash.
use Prim.Native.Nat.{ℕ, ◌+◌, ◌-◌, ◌^◌, ◌<◌}
use mathlib.Core.Path.{◌≡◌, refl, sym, ap, subst}
use mathlib.Core.Bool.{Bool, true}
use mathlib.Core.List.{List, [], ◌∷◌, ◌++◌}
use mathlib.Core.Logic.{◌⊎◌, inl, inr}
use lib.ListN.{length, get_or, drop, length-append, get_or-append}
use lib.Seq.{get_or-append-add}
use lib.Dec.{eqb}
use native.Mathlib.Omega.{arith}
use borrow.Author.Tests.{eqb-true}
use Rattle.laws.specs.Quoted.{code}
use Rattle.laws.specs.Texts.{begins}
use Rattle.laws.proofs.Choice.{if_all, if_is}
use Rattle.chars.specs.Encode.{utf8, width, spelled}
use Rattle.chars.proofs.Width.{utf8-one}
use Rattle.items.specs.declared.Outcome.{Outcome}
use Rattle.items.specs.declared.Outcome.TheVariants.{Token, Str, HereStr, Word, Run, Lined, Keyword, Character, Error, ErrorAt}
use Rattle.items.specs.Kinds as kind
use Rattle.items.specs.Classes.{starts_run, first_of, First}
use Rattle.items.specs.Machine.{on_first}
use Rattle.items.specs.Readers.{SoFar, eat, failing, read_item}
use Rattle.items.proofs.Phases.{Knows, KnownIn}
use Rattle.items.proofs.Walk.{WalkEnds, WalkSteps, decides, walk_read}
use Rattle.items_errors.proofs.Characters.{begins_is}
use Rattle.lines_theorems.proofs.Along.{Along, at_start}

-- the byte n is there, and ASCII
abbrev Low : ℕ → List ℕ → Type 0
Low n raw = (n < length raw) × (get_or raw n 0 < 0x80)

abbrev pub Second : List ℕ → Type 0
Second raw = Low 1 raw

abbrev pub Third : List ℕ → Type 0
Third raw = Low 2 raw

-- error 4 has its second byte
abbrev pub Opened : List ℕ → ℕ → Type 0
Opened raw n = n ≡ kind.IncompleteComment → Second raw

-- `#` has one byte
hash_width : length (utf8 (code "#")) ≡ 1
unfolding utf8
hash_width = refl

-- what begins with `#\` has its second byte
second_begins : (raw : List ℕ) → begins (spelled "#\\") raw ≡ true → Second raw
second_begins raw h = subst Second (sym (begins_is raw h)) (omega arith, omega arith)

module _ (M : ℕ → Type 0) (report : Bool) where
  -- error 11 in report mode, whose range is not told here
  abbrev pub Aside : ℕ → Type 0
  Aside n = (report ≡ true) × (n ≡ kind.InvalidHexEscapeLiteral)

  -- of an item with the bytes raw: M holds at both ends of the range that it sets; a here-string has its third byte, a character its second
  abbrev pub Known : List ℕ → Outcome → Type 0
  Known raw (Token k d) = Unit {0}
  Known raw Str = Unit {0}
  Known raw HereStr = Third raw
  Known raw Word = Unit {0}
  Known raw Run = Unit {0}
  Known raw Lined = Unit {0}
  Known raw Keyword = Unit {0}
  Known raw Character = Second raw
  Known raw (Error n d) = Opened raw n
  Known raw (ErrorAt n d a b) = Opened raw n × (Aside n ⊎ (M a × M b))

  -- what is known in a phase of the item so far: M of the places that it keeps, and how a here-string begins
  abbrev knows : List ℕ → Knows
  knows raw = record {
    comma = Unit {0};
    hash = length raw ≡ 1;
    angle = length raw ≡ 2;
    here = Third raw;
    bracket = λ d. d < 2 ^ 32;
    nest = λ d. Second raw;
    quoted = λ k. Unit {0};
    closed = λ k. Unit {0};
    escape = λ k from. M from;
    brace = λ k from. M from;
    digits = λ k closer from m. M from;
    done = Known raw;
  }

  over : (raw : List ℕ) → WalkEnds (knows raw) raw (Known raw)
  over raw = record {
    word = tt;
    run = tt;
    comment = tt;
    unquote = λ _. tt;
    here = λ h _. h;
    string = λ _. tt;
    lined = λ _ _. tt;
    open_string = λ e. absurd (omega arith);
    open_lined = λ e. absurd (omega arith);
    open_nest = λ d h _. h;
    decided = decides raw (Known raw) (λ _ _ _ _. tt) tt (λ e. absurd (omega arith)) (second_begins raw);
    done = λ _ h. h;
  }

  -- ---- a step

  module _ (i : SoFar) (c : ℕ) (here : M i.at) (past : M (i.at + width c)) where
    -- a byte of the item stays, and one of ASCII comes to it
    stays_low : {n : ℕ} → Low n i.bytes → Low n (eat i c).bytes
    stays_low {n} h = (omega (arith, h.0, length-append i.bytes (utf8 c)), rw (get_or-append i.bytes (utf8 c) 0 n h.0) h.1)

    comes_low : {n : ℕ} → c < 0x80 → length i.bytes ≡ n → Low n (eat i c).bytes
    comes_low {n} l h =
        let u : (eat i c).bytes ≡ i.bytes ++ (c ∷ []) = ap (λ (b : List ℕ). i.bytes ++ b) (utf8-one c l) in
        let last : n ≡ length i.bytes + 0 = omega (arith, h) in
        rw u (omega (arith, h, length-append i.bytes (c ∷ [])), rw last (rw (get_or-append-add i.bytes (c ∷ []) 0 0) l))

    -- in report mode it is aside, in plain mode it sets the whole escape
    known_failing : (raw : List ℕ) (d from to at : ℕ) (rest : List ℕ) → M from → M to
        → Known raw (failing report kind.InvalidHexEscapeLiteral d from to at rest)
    known_failing raw d from to at rest h g = if_is (Known raw) report (λ r. ((λ f. absurd (omega arith)), inl (r, refl))) (λ r. ((λ f. absurd (omega arith)), inr (h, g)))

    on : WalkSteps report i c (knows i.bytes) (knows (eat i c).bytes) (Known i.bytes)
    on = record {
      comment = tt;
      splice = λ _ _. tt;
      datum = λ _ _. tt;
      bracket = λ _ _ _. tt;
      unexpected = λ f. absurd (omega arith);
      opens_nest_holds = λ h e. comes_low (omega arith) h;
      nest = λ _ _ _ h. stays_low h;
      carries = record {
        angle = λ h e. omega (arith, h, length-append i.bytes (utf8 c), ap length (utf8-one c (omega arith)));
        opens_here = λ h e. comes_low (omega arith) h;
        here = λ h. stays_low h;
        opens_lined = λ _. tt;
        quoted = λ _ _. tt;
        escaped = λ _ _ _. tt;
        scalar = λ _ _ _ _ _. tt;
      };
      ends = λ _ _ _. tt;
      escapes = λ _ _ _. here;
      solid = λ _ _. ((λ e. absurd (omega arith)), inr (here, past));
      invalid = λ _ _ h. ((λ e. absurd (omega arith)), inr (h, past));
      hex_x = λ _ _ h _. h;
      hex_u = λ _ _ h _. h;
      braced = λ _ _ h _. h;
      unbraced = λ _ _ h. h;
      digit = λ _ _ _ _ h _. h;
      unclosed = λ _ _ _ _ h. ((λ e. absurd (omega arith)), inr (h, here));
      no_scalar = λ _ _ _ _ _ h _. ((λ e. absurd (omega arith)), inr (h, past));
      fails = λ _ _ from m d p h _ _ _ _.
          let rest : List ℕ = drop p (drop m i.bytes) in known_failing (eat i c).bytes d from _ (i.at - length rest) rest h past;
    }

  -- ---- the start, and the whole item

  first_keeps : (c : ℕ) → KnownIn (knows (utf8 c)) (on_first (first_of c))
  unfolding first_of
  first_keeps c =
      let P : First → Type 0 = λ f. KnownIn (knows (utf8 c)) (on_first f) in
      if_all P (eqb c (code ";")) tt (if_all P (eqb c (code "\"")) tt (if_all P (eqb c (code ",")) tt
      (if_is P (eqb c (code "#")) (λ e. rw (eqb-true c (code "#") e) hash_width) (λ e.
      (if_all P (eqb c (code "(")) tt (if_all P (eqb c (code "[")) tt (if_all P (eqb c (code "{")) tt (if_all P (eqb c (code ")")) tt
      (if_all P (eqb c (code "]")) tt (if_all P (eqb c (code "}")) tt (if_all P (eqb c (code "'")) tt (if_all P (eqb c (code "`")) tt
      (if_all P (starts_run c) tt (if_all P (eqb c (code "|")) tt (if_all P (eqb c (code "\\")) tt tt)))))))))))))))

  pub read_known : (at c : ℕ) (cs : List ℕ) → Along M at (c ∷ cs)
      → Known (read_item report at c cs).item.bytes (read_item report at c cs).what
  read_known at c cs h =
      walk_read report (λ i. knows i.bytes) (λ i. Known i.bytes) (λ i cs. Along M i.at cs) (λ i _ _. over i.bytes)
      (λ i c cs l. (on i c l.0 (at_start M (i.at + width c) cs l.1), l.1)) at c cs (first_keeps c) h.1
