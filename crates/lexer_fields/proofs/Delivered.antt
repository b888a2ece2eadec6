-- What is delivered, by the tests of the code.
use Rattle.refusal.specs.Refusals as refusal
use Rattle.laws.specs.Lent.{written}
use Rattle.items.specs.Items.{record_words}
use Rattle.items.specs.Whole.{served, refused, limit, is_mode}
use Rattle.lexer_fields.specs.Fields.{Field, row_words, item_count, records_in, texts_in, rows_from, is_in_order, fields_in, FieldsCall, fields_call, deliver_fields, fields_of}
use Rattle.lexer_fields.specs.Answers.{total_of, Fine, Room}
use Rattle.lexer_fields.specs.declared.Total.{Total}
use Rattle.lexer_fields.proofs.Parts.{fields_length}
use Rattle.lexer_fields.proofs.Progress.{few}
use Prim.Native.Nat.{ℕ, ◌/◌, ◌≤◌, ◌<◌}
use mathlib.Core.Path.{◌≡◌, ap}
use mathlib.Core.Bool.{Bool, true, false}
use mathlib.Core.List.{List}
use lib.ListN.{length}
use native.Mathlib.Omega.{arith}
use borrow.Author.Tests.{le-leb, lt-leb, lt-ltb, le-ltb}

module _ (s ends : List ℕ) (mode : ℕ) (skip : Bool) (rows recs text : List ℕ) where
  abbrev fs : List Field
  fs = fields_in s ends mode skip

  long : length fs ≡ length ends
  long = fields_length mode skip s ends 0

  module _ (n : Total) (e : n ≡ total_of fs) where
    counts : (n.items ≡ item_count fs) × (n.text ≡ length (texts_in fs))
    counts = (ap (λ (x : Total). x.items) e, ap (λ (x : Total). x.text) e)

    pub few_rows : length rows / row_words < length ends → fields_call (refused refusal.too_few n.items n.text) rows recs text ≡ deliver_fields fs rows recs text
    unfolding deliver_fields
    few_rows h = let a : length rows / row_words < length fs = omega (arith, long) in rw (counts.0, counts.1, lt-leb (length fs) (length rows / row_words) a)

    module _ (hr : length ends ≤ length rows / row_words) where
      rows_fit : length fs ≤ length rows / row_words
      rows_fit = omega (arith, long)

      pub few_records : length recs / record_words < n.items → fields_call (refused refusal.too_few n.items n.text) rows recs text ≡ deliver_fields fs rows recs text
      unfolding deliver_fields
      few_records h =
          let a : length recs / record_words < item_count fs = omega (arith, counts) in
          rw (counts.0, counts.1, le-leb (length fs) (length rows / row_words) rows_fit, lt-leb (item_count fs) (length recs / record_words) a)

      module _ (h : n.items ≤ length recs / record_words) where
        recs_fit : item_count fs ≤ length recs / record_words
        recs_fit = omega (arith, counts)

        pub little_text_holds : length text < n.text → fields_call (refused refusal.too_few n.items n.text) rows recs text ≡ deliver_fields fs rows recs text
        unfolding deliver_fields
        little_text_holds k =
            let b : length text < length (texts_in fs) = omega (arith, counts) in
            rw (counts.0, counts.1, le-leb (length fs) (length rows / row_words) rows_fit, le-leb (item_count fs) (length recs / record_words) recs_fit, lt-leb (length (texts_in fs)) (length text) b)

        module _ (k : n.text ≤ length text) where
          text_fit : length (texts_in fs) ≤ length text
          text_fit = omega (arith, counts)

          pub room : Room s ends mode skip rows recs text
          room = (omega arith, let f : item_count fs ≤ length recs / record_words = recs_fit in omega arith, text_fit)

          pub delivered : {w r t : List ℕ} → w ≡ written (rows_from 0 0 fs) rows → r ≡ written (records_in fs) recs → t ≡ written (texts_in fs) text
              → fields_call (served n.items n.text) w r t ≡ deliver_fields fs rows recs text
          unfolding deliver_fields
          delivered a b c =
              rw (
                counts.0,
                counts.1,
                le-leb (length fs) (length rows / row_words) rows_fit,
                le-leb (item_count fs) (length recs / record_words) recs_fit,
                le-leb (length (texts_in fs)) (length text) text_fit,
                a,
                b,
                c,
              )

  -- where there is a row for each part, and a record and a byte of text memory for each byte of the source
  module _ (fine : Fine s ends mode) (hr : length ends ≤ length rows / row_words) (h : length s ≤ length recs / record_words) (k : length s ≤ length text) where
    pub ample_room : Room s ends mode skip rows recs text
    ample_room = let y = few s ends mode skip fine in (omega arith, omega (arith, y.0), omega (arith, y.1))

    pub ample : (n : Total) → n ≡ total_of fs → {w r t : List ℕ} → w ≡ written (rows_from 0 0 fs) rows → r ≡ written (records_in fs) recs → t ≡ written (texts_in fs) text
        → fields_call (served n.items n.text) w r t ≡ deliver_fields fs rows recs text
    ample n e a b c =
        let y = few s ends mode skip fine in
        let i : n.items ≡ item_count fs = ap (λ (x : Total). x.items) e in
        let t : n.text ≡ length (texts_in fs) = ap (λ (x : Total). x.text) e in
        delivered n e hr (omega (arith, y.0)) (omega (arith, y.1)) a b c

  -- ---- refusals

  pub no_mode : 1 < mode → fields_call (refused refusal.no_such_mode mode 0) rows recs text ≡ fields_of s ends mode skip rows recs text
  unfolding fields_of
  no_mode h = rw (le-ltb mode 2 (omega arith))

  pub is_mode_lem : mode ≤ 1 → is_mode mode ≡ true
  is_mode_lem h = lt-ltb mode 2 (omega arith)

  module _ (a-mode : is_mode mode ≡ true) where
    pub bad_ends_lem : is_in_order (length s) 0 ends ≡ false → fields_call (refused refusal.bad_ends 0 0) rows recs text ≡ fields_of s ends mode skip rows recs text
    unfolding fields_of
    bad_ends_lem o = rw (a-mode, o)

    module _ (o : is_in_order (length s) 0 ends ≡ true) where
      pub too_long : limit < length s → fields_call (refused refusal.over_long limit 0) rows recs text ≡ fields_of s ends mode skip rows recs text
      unfolding fields_of
      too_long h = rw (a-mode, o, lt-ltb limit (length s) h)

      pub is_fine : length s ≤ limit → Fine s ends mode
      is_fine h = (a-mode, o, h)

      pub is_delivered : length s ≤ limit → {c : FieldsCall} → c ≡ deliver_fields fs rows recs text → c ≡ fields_of s ends mode skip rows recs text
      unfolding fields_of
      is_delivered h e = rw (a-mode, o, le-ltb limit (length s) h) e
