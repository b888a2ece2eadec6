-- What `pieces` says on the definition of items alone: what the bytes so far show and make due (its `Due`), and what all calls together give
-- (its `Expected`). The theorems that carry the calls to these (`call_means`, `late_means`, `demand_3`) are worth what these are.
use Rattle.std.specs.Prelude.{ℕ, ◌≡◌, refl, Bool, false, List, [], ◌∷◌, ◌++◌}
use Rattle.laws.specs.Quoted.{code, within}
use Rattle.laws.specs.Texts.{same}
use Rattle.chars.specs.Encode.{is_scalar, utf8, width, encode, bytes_of, spelled}
use Rattle.chars.specs.Blank.{is_blank}
use Rattle.chars.specs.Utf8.{broken, first, rest, front, sequences, chars}
use Rattle.items.specs.Classes.{starts_run, first_of, breaks_word, in_word}
use Rattle.items.specs.Readers.{read_word, read_item, read_word_on}
use Rattle.items.specs.Meaning.{lookup, words, word_kind, word_means}
use Rattle.items.specs.Items.{extent_items, items_from, past_line, items, kept, ends_before}
use Rattle.items.specs.Kinds as kind
use Rattle.items.specs.Whole.{limit}
use Rattle.pieces.specs.Calls.{refused}
use Rattle.pieces.specs.Due.{answer, shown, due, late_answer}
use Rattle.pieces.specs.Expected.{Expected, clean, stop, from, grown, unfinished, ending_of, LastWord, expected}
use Rattle.pieces.specs.Expected as word
use Rattle.pieces.specs.Given.{Given, given_all}

-- an opening bracket as the first item
abbrev bracket : Given
bracket = record { words = kind.OpenParen ∷ kind.Round ∷ 0 ∷ 1 ∷ 0 ∷ 1 ∷ 0 ∷ 0 ∷ 0 ∷ 0 ∷ []; text = [] }

abbrev expecting : List Given → LastWord → Expected
expecting is w = record { items = is; last = w }

pub record Rows : Type 0 where
  -- a sequence begun is no stop before the end
  pub begun : shown false (code "a" ∷ 0xCE ∷ []) ≡ clean
  -- an item is due once a character beyond its extent was read, and not before
  pub early : due false false (spelled "(") ≡ []
  pub ready : due false false (spelled "(a") ≡ bracket ∷ []
  -- a piece after the end is refused by a stop that stands, and else by 26
  pub late_stopped : late_answer false false (0xFF ∷ []) ≡ answer 0 (refused 21 0)
  pub late : late_answer false false [] ≡ answer 0 (refused 26 0)
  -- at one byte 20 goes before 21
  pub limit_first : (report : Bool) (q : List ℕ) → ending_of report 4294967296 q (broken 4294967294 4294967296 ∷ []) ≡ stop 20 limit q
  -- 23 comes with the item's start, at 4,097 bytes and not at 4,096
  pub grown_long : (q : List ℕ) → grown (from 3) 4100 q clean ≡ stop 23 3 q
  pub grown_full : (q : List ℕ) → grown (from 3) 4099 q clean ≡ clean
  -- before a stop comes no item of which no character beyond it was read
  pub stopped : expected false false (spelled "(a" ++ (0xFF ∷ [])) ≡ expecting (bracket ∷ []) (word.refused 21 2)

rows : Rows
-- the list only permits the computing
unfolding within same is_scalar utf8 width encode bytes_of is_blank first rest front sequences chars starts_run first_of breaks_word in_word
    read_word read_item read_word_on lookup words word_kind word_means extent_items items_from past_line items kept ends_before given_all unfinished
    ending_of expected shown due late_answer
rows =
    record {
      begun = refl;
      early = refl;
      ready = refl;
      late_stopped = refl;
      late = refl;
      limit_first = λ report q. refl;
      grown_long = λ q. refl;
      grown_full = λ q. refl;
      stopped = refl;
    }
