-- Programs that meet no promise of the calls from C, whatever else they do: each has one bad habit, and a row of specs/Exports contradicts it.
use Prim.Native.Nat.{ℕ, ◌<◌}
use mathlib.Core.Path.{◌≡◌, ap, ◌∙◌}
use mathlib.Core.Bool.{Bool, true, false}
use mathlib.Core.List.{List, [], ◌∷◌}
use lib.ListN.{length, drop, replicate, get_or}
use native.Mathlib.Omega.{arith}
use Rattle.refusal.specs.Refusals as refusal
use Rattle.laws.specs.Quoted.{code}
use Rattle.chars.specs.Encode.{utf8, bytes_of, spelled, encode, lay}
use Rattle.chars.specs.Blank.{is_blank}
use Rattle.chars.specs.Utf8.{placed, front, first_bad}
use Rattle.numbers.specs.Call.{number}
use Rattle.items.specs.Whole.{read_of}
use Rattle.lexer.specs.Text.{text_mark}
use Rattle.exports.specs.Read.{read_number, read_values}
use Rattle.numbers_words.specs.Words.{bit, flattened, number_words, number_or}
use Rattle.exports.specs.Utf8.{good_bytes, code_or, next_or}
use Rattle.exports_promises.specs.Exports.{computed, unroomed, cut_lambda, good_then_bad}

-- ---- `mihadrena_read`

module _ (call : List ℕ → ℕ → Bool → List ℕ → List ℕ → ℕ)
    (meets : (source : List ℕ) (mode : ℕ) (skip : Bool) (records text : List ℕ) → call source mode skip records text ≡ read_number (read_of source mode skip records text).answer) where
  -- it does not ask whether comments are to be skipped
  pub never_ignores_skip : ((source : List ℕ) (mode : ℕ) (records text : List ℕ) → call source mode true records text ≡ call source mode false records text) → ⊥
  never_ignores_skip h =
      omega (arith, h (spelled ";x") 0 [] [], meets (spelled ";x") 0 true [] [] ∙ computed.read_skipped, meets (spelled ";x") 0 false [] [] ∙ computed.read_kept)

  -- it refuses everything, or serves everything
  pub never_refuses_read : ((source : List ℕ) (mode : ℕ) (skip : Bool) (records text : List ℕ) → call source mode skip records text ≡ 0 → ⊥) → ⊥
  never_refuses_read h = h (spelled ";x") 0 true [] [] (meets (spelled ";x") 0 true [] [] ∙ computed.read_skipped)

  pub never_serves_all : ((source : List ℕ) (mode : ℕ) (skip : Bool) (records text : List ℕ) → call source mode skip records text ≡ 0) → ⊥
  never_serves_all h = omega (arith, h (spelled ";x") 0 false [] [], meets (spelled ";x") 0 false [] [] ∙ computed.read_kept)

-- the two values that it leaves
module _ (values : List ℕ → List ℕ) (meets : (source : List ℕ) → values source ≡ read_values (unroomed source).answer) where
  -- it tells the bytes needed first, then the items
  pub never_swaps_needs : (values (spelled "(\"\\n\"") ≡ 1 ∷ 2 ∷ []) → ⊥
  never_swaps_needs h =
      omega (arith, ap (λ (l : List ℕ). get_or l 0 0) h, ap (λ (l : List ℕ). get_or l 0 0) (meets (spelled "(\"\\n\"") ∙ computed.read_needed))

-- ---- `mihadrena_text_mark`

module _ (call : List ℕ → List ℕ → ℕ → ℕ → ℕ → ℕ)
    (meets : (source text : List ℕ) (origin start end : ℕ) → call source text origin start end ≡ text_mark source text origin start end) where
  -- it does not look into the text memory
  pub never_source_alone : ((source text other : List ℕ) (origin start end : ℕ) → call source text origin start end ≡ call source other origin start end) → ⊥
  never_source_alone h =
      omega (arith, h [] (spelled "ab") [] 2 0 2, meets [] (spelled "ab") 2 0 2 ∙ computed.marked, meets [] [] 2 0 2 ∙ computed.unmarked)

  -- it looks into the other slice
  pub never_the_other : ((source text : List ℕ) (origin start end : ℕ) → call source text origin start end ≡ text_mark text source origin start end) → ⊥
  never_the_other h =
      omega (arith, h [] (spelled "ab") 2 0 2, meets [] (spelled "ab") 2 0 2 ∙ computed.marked, computed.unmarked_source)

-- ---- `mihadrena_number`: its answer, and the words that it leaves

module _ (call : List ℕ → List ℕ → ℕ) (meets : (text words : List ℕ) → call text words ≡ number_or words (number text)) where
  -- it refuses just as many words as an answer has
  pub never_unroomed : (call (spelled "1@2") (replicate number_words 7) ≡ refusal.too_few) → ⊥
  never_unroomed h = omega (arith, h, meets (spelled "1@2") (replicate number_words 7) ∙ computed.number_roomed)

  -- it tells too few words before it looks at the text
  pub never_few_first : (call good_then_bad (7 ∷ 7 ∷ []) ≡ refusal.too_few) → ⊥
  never_few_first h = omega (arith, h, meets good_then_bad (7 ∷ 7 ∷ []) ∙ computed.number_bad)

module _ (left : List ℕ → List ℕ → List ℕ) (meets : (text words : List ℕ) → left text words ≡ lay (flattened (number text)) words) where
  -- refused, it overwrites a second word
  pub never_second : (get_or (left good_then_bad (7 ∷ 7 ∷ [])) 1 7 ≡ 0) → ⊥
  never_second h = omega (arith, h, ap (λ (l : List ℕ). get_or l 1 7) (meets good_then_bad (7 ∷ 7 ∷ []) ∙ computed.number_bad_words))

-- ---- characters

-- `mihadrena_good_bytes`
module _ (call : List ℕ → ℕ) (meets : (text : List ℕ) → call text ≡ good_bytes (length text) (first_bad text)) where
  -- a good text has none
  pub never_none : (call (spelled "abc") ≡ 0) → ⊥
  unfolding utf8 bytes_of
  never_none h = omega (arith, h, meets (spelled "abc") ∙ computed.all_good)

  -- there is none before a bad sequence, or what is bad counts too
  pub never_none_before : (call good_then_bad ≡ 0) → ⊥
  never_none_before h = omega (arith, h, meets good_then_bad ∙ computed.one_good)

  pub never_all : ((text : List ℕ) → call text ≡ length text) → ⊥
  never_all h = omega (arith, h good_then_bad, meets good_then_bad ∙ computed.one_good)

-- `mihadrena_code_at`
module _ (call : List ℕ → ℕ → ℕ) (meets : (text : List ℕ) (at : ℕ) → call text at ≡ code_or (placed at (front (drop at text)))) where
  -- it tells a cut sequence as a bad one, or the end as a cut one
  pub never_cut_as_bad : (call cut_lambda 0 ≡ call (0xFF ∷ []) 0) → ⊥
  never_cut_as_bad h = omega (arith, h, meets cut_lambda 0 ∙ computed.code_cut, meets (0xFF ∷ []) 0 ∙ computed.code_bad)

  pub never_end_as_cut : (call [] 0 ≡ call cut_lambda 0) → ⊥
  never_end_as_cut h = omega (arith, h, meets cut_lambda 0 ∙ computed.code_cut, meets [] 0 ∙ computed.code_end)

-- `mihadrena_next_at`
module _ (call : List ℕ → ℕ → ℕ) (meets : (text : List ℕ) (at : ℕ) → call text at ≡ next_or at (placed at (front (drop at text)))) where
  -- it stays where it is, or passes over what is bad
  pub never_stays : ((text : List ℕ) (at : ℕ) → call text at ≡ at) → ⊥
  never_stays h = omega (arith, h (spelled "λ") 0, meets (spelled "λ") 0 ∙ computed.next_char)

  pub never_passes_bad : (0 < call (0xFF ∷ []) 0) → ⊥
  never_passes_bad h = omega (arith, h, meets (0xFF ∷ []) 0 ∙ computed.next_bad)

-- `mihadrena_is_blank`
module _ (call : ℕ → Bool) (meets : (c : ℕ) → call c ≡ is_blank c) where
  -- it calls a space no blank, or a character by its half
  pub never_turned : (call (code " ") ≡ false) → ⊥
  never_turned h = omega (arith, ap bit h, ap bit (meets (code " ") ∙ computed.blank))

  pub never_by_half : (call (code "@") ≡ call (code " ")) → ⊥
  never_by_half h = omega (arith, ap bit h, ap bit (meets (code " ") ∙ computed.blank), ap bit (meets (code "@") ∙ computed.unblank))

-- `mihadrena_put_char`: the memory after it
module _ (put : ℕ → List ℕ → List ℕ) (meets : (c : ℕ) (text : List ℕ) → put c text ≡ lay (encode c) text) where
  -- it writes nothing
  pub never_unput : ((c : ℕ) (text : List ℕ) → put c text ≡ text) → ⊥
  never_unput h =
      omega (arith, ap (λ (l : List ℕ). get_or l 0 0) (h (code "λ") (7 ∷ 7 ∷ 7 ∷ [])), ap (λ (l : List ℕ). get_or l 0 0) (meets (code "λ") (7 ∷ 7 ∷ 7 ∷ []) ∙ computed.put))

  -- it puts another character's bytes
  pub never_another : (c : ℕ) → get_or (put (code "λ") (7 ∷ 7 ∷ 7 ∷ [])) 0 0 ≡ c → c < 0x80 → ⊥
  never_another c h small = omega (arith, h, small, ap (λ (l : List ℕ). get_or l 0 0) (meets (code "λ") (7 ∷ 7 ∷ 7 ∷ []) ∙ computed.put))
