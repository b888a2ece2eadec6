-- The calls one after another, with their memories: read in report mode, write, read again, write again. `read` and `write` are the calls'
-- definitions, `read_of` and `write_of`, which the contracts of `lexer::read` and `items_writing::write` equate with what they answer.
use Rattle.std.proofs.Common.{None}
use Prim.Native.Nat.{ℕ, ◌+◌, ◌*◌, ◌≤◌, ◌<◌}
use mathlib.Core.Path.{◌≡◌, refl, sym, ap, subst, ◌∙◌}
use mathlib.Core.Bool.{Bool}
use mathlib.Core.List.{List, ◌++◌}
use lib.ListN.{length, take, drop, length-take}
use lib.Seq.{take-append-add, take-append_seam}
use lib.Dec.{ltb}
use native.Mathlib.Omega.{arith}
use borrow.Author.Tests.{ltb-false, le-ltb}
use Rattle.laws.specs.Lent as lent
use Rattle.laws.proofs.Choice.{if_is, impossible}
use Rattle.refusal.specs.Refusals as refusal
use Rattle.chars.specs.Utf8.{first_bad}
use Rattle.items.specs.Items.{record_words, records, texts}
use Rattle.items.specs.Whole as whole
use Rattle.items.proofs.Fit.{records-length}
use Rattle.items_coverage.proofs.Calls.{Delivered, leaves}
use Rattle.items_writing.specs.Written.{reads}
use Rattle.items_writing.specs.Shapes.{shapes, depths}
use Rattle.items_writing.specs.Call.{served, refused, Call, call, deliver, write_of}
use Rattle.items_writing_theorems.specs.Results.{result, items_read, Read, records_read, text_read}
use Rattle.items_writing_theorems.proofs.Round.{round_trip_bytes, round_trip_depths, round_trip_clean, clean-kept, settled}
use Rattle.items_writing_theorems.proofs.Calls.{written_back}

-- what a write call that served leaves
record Wrote (w out : List ℕ) (n : ℕ) (k : Call) : Type 0 where
  count : n ≡ length w
  short : length w ≤ refusal.limit
  bytes : k.out ≡ lent.written w out

module _ (w out : List ℕ) (n : ℕ) where
  abbrev Tells : Call → Type 0
  Tells k = k.answer ≡ served n → Wrote w out n k

  refused_not : (number a : ℕ) → Tells (call (refused number a) out)
  refused_not number a e = impossible cc

  wrote : Tells (deliver refusal.limit w out)
  unfolding deliver
  wrote = if_is Tells (ltb refusal.limit (length w))
      (λ _. refused_not refusal.over_long refusal.limit)
      (λ e. if_is Tells (ltb (length out) (length w))
      (λ _. refused_not refusal.too_few (length w))
      (λ _ h. record { count = cc; short = ltb-false refusal.limit (length w) e; bytes = refl }))

-- ---- read, then write

module _ (source : List ℕ) (skip : Bool) (recs text : List ℕ) (n m : ℕ) (r : Read source skip recs text n m) where
  abbrev d : Delivered source 1 skip recs text n m (whole.read_of source 1 skip recs text)
  d = leaves source 1 skip recs text n m r.served_it

  abbrev ws : List ℕ
  ws = records 0 0 (items_read source skip)

  words_are : (past : ℕ) → records_read source skip recs text n past ≡ ws ++ take past (drop (length ws) recs)
  words_are past =
      let l : n * record_words + past ≡ length ws + past = omega (arith, records-length 0 0 (items_read source skip), d.count) in
      rw (l, d.wrote) (take-append-add ws (drop (length ws) recs) past)

  -- its records, with up to nine words past them, and its text memory are never refused 48 or 47
  pub read_written : (past : ℕ) → past < record_words → (out : List ℕ)
      → write_of (records_read source skip recs text n past) source (text_read source skip recs text) out ≡ deliver refusal.limit (result source (items_read source skip)) out
  read_written past few out =
      rw (words_are past, d.wrote_texts)
      (written_back source skip (take past (drop (length ws) recs)) (drop (length (texts (items_read source skip))) text) out d.good r.is_clean
      (omega (arith, length-take past (drop (length ws) recs))))

  source_good : first_bad source ≡ None
  source_good = d.good

-- ---- then read again, and write again

module _ (source : List ℕ) (skip : Bool) (recs text : List ℕ) (n m : ℕ) (r : Read source skip recs text n m) (past : ℕ) (few : past < record_words) (out : List ℕ) where
  abbrev wrote_call : Call
  wrote_call = write_of (records_read source skip recs text n past) source (text_read source skip recs text) out

  -- where `write` served k bytes, these
  abbrev pub bytes_written : ℕ → List ℕ
  bytes_written k = take k wrote_call.out

  module _ (k : ℕ) (s : wrote_call.answer ≡ served k) where
    abbrev w : List ℕ
    w = result source (items_read source skip)

    abbrev said : Wrote w out k wrote_call
    said = subst (Tells w out k) (sym (read_written source skip recs text n m r past few out)) (wrote w out k) s

    pub bytes_are : bytes_written k ≡ w
    bytes_are = rw (said.bytes, said.count) (take-append_seam w (drop (length w) out))

    good : first_bad source ≡ None
    good = source_good source skip recs text n m r

    -- it has no comments that could be left out
    all_kept : (skip' : Bool) → items_read w skip' ≡ reads w
    all_kept skip' = clean-kept skip' (reads w) (round_trip_clean source skip good r.is_clean)

    result_read : (skip' : Bool) (recs' text' : List ℕ) → whole.read_of w 1 skip' recs' text' ≡ whole.deliver (items_read w skip') recs' text'
    unfolding whole.read_of
    result_read skip' recs' text' = rw (le-ltb refusal.limit (length w) said.short, (round_trip_bytes source skip good r.is_clean).0)

    -- Reading what was written is refused for nothing but too little memory, and its items have the same kinds, details, texts and number
    -- parts, and the same depths
    pub written_read : (skip' : Bool) (recs' text' : List ℕ)
        → (whole.read_of (bytes_written k) 1 skip' recs' text' ≡ whole.deliver (items_read (bytes_written k) skip') recs' text')
        × ((shapes (bytes_written k) (items_read (bytes_written k) skip') ≡ shapes source (items_read source skip)) × (depths 0 (items_read (bytes_written k) skip') ≡ depths 0 (items_read source skip)))
    written_read skip' recs' text' = rw bytes_are (
      result_read skip' recs' text',
      (rw (all_kept skip') (round_trip_bytes source skip good r.is_clean).1, rw (all_kept skip') (round_trip_depths source skip good r.is_clean)),
    )

    -- Writing again what was read from it gives it again
    pub written_again : (skip' : Bool) (recs' text' : List ℕ) (n' m' : ℕ) → (whole.read_of (bytes_written k) 1 skip' recs' text').answer ≡ whole.served n' m'
        → (past' : ℕ) → past' < record_words → (out' : List ℕ)
        → write_of (records_read (bytes_written k) skip' recs' text' n' past') (bytes_written k) (text_read (bytes_written k) skip' recs' text') out'
        ≡ deliver refusal.limit (bytes_written k) out'
    written_again skip' recs' text' n' m' =
        rw bytes_are (λ e past' few' out'.
        let q : Read w skip' recs' text' n' m' = record { served_it = e; is_clean = rw (all_kept skip') (round_trip_clean source skip good r.is_clean) } in
        read_written w skip' recs' text' n' m' q past' few' out'
        ∙ ap (λ (l : List ℕ). deliver refusal.limit l out') (ap (result w) (all_kept skip') ∙ settled source skip good r.is_clean))
