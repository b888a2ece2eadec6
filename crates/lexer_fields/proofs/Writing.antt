-- Writing: what the three lent memories hold while the parts are read on.
use Rattle.laws.specs.Lent.{written}
use Rattle.laws.proofs.Lent.{length-written, part_written}
use Rattle.items.specs.Items.{record_words, records, texts}
use Rattle.items.specs.Whole.{limit}
use Rattle.lexer_fields.specs.Fields.{Field, row_words, records_in, texts_in, row_of, rows_from, fields_in}
use Rattle.lexer_fields.specs.Answers.{part_of, Fine, Room}
use Rattle.lexer_fields.specs.declared.PartAnswer.{PartAnswer}
use Rattle.lexer_fields.proofs.Parts.{texts_append, records_append, rows_after, records_in_length, rows_length}
use Rattle.lexer_fields.proofs.Progress.{Progress, at_start, moves_on, fits, few, left, all_done, this}
use Prim.Native.Nat.{ℕ, ◌+◌, ◌-◌, ◌*◌, ◌≤◌, ◌<◌}
use mathlib.Core.Path.{◌≡◌, refl, sym, ap, ◌∙◌}
use mathlib.Core.Bool.{Bool}
use mathlib.Core.List.{List, [], ◌∷◌, ◌++◌, append-nil}
use lib.ListN.{length, get_or, take, drop}
use native.Mathlib.Omega.{arith}
use borrow.Rule.Slice.PartMut.{put_mid}

-- the memories as they were with what is done written to them
pub record Writing (s ends : List ℕ) (mode : ℕ) (skip : Bool) (rows₀ recs₀ text₀ rows recs text : List ℕ) (i from n w free : ℕ) : Type 0 where
  pub done : List Field
  pub at : Progress s ends mode skip i from n free done
  pub words : w ≡ record_words * n
  pub row : rows ≡ written (rows_from 0 0 done) rows₀
  pub held : recs ≡ written (records_in done) recs₀
  pub bytes : text ≡ written (texts_in done) text₀

module _ {s ends : List ℕ} {mode : ℕ} {skip : Bool} {rows₀ recs₀ text₀ : List ℕ} (fine : Fine s ends mode) (room : Room s ends mode skip rows₀ recs₀ text₀) where
  pub writing : Writing s ends mode skip rows₀ recs₀ text₀ rows₀ recs₀ text₀ 0 0 0 0 0
  unfolding rows_from records_in texts_in
  writing = record { done = []; at = at_start s ends mode skip fine; words = refl; row = refl; held = refl; bytes = refl }

  module _ {rows recs text : List ℕ} {i from n w free : ℕ} (g : Writing s ends mode skip rows₀ recs₀ text₀ rows recs text i from n w free) where
    -- what is done is a first part of the whole
    front : (length (rows_from 0 0 g.done) ≤ length rows₀) × (length (records_in g.done) ≤ length recs₀) × (length (texts_in g.done) ≤ length text₀)
    front =
        let l = left g.at in (
          omega (arith, rows_length 0 0 g.done, g.at.count, g.at.some, room.0),
          omega (arith, records_in_length g.done, g.at.items, l.0, room.1),
          omega (arith, g.at.bytes, l.1, room.2),
        )

    pub rows_same : length rows ≡ length rows₀
    rows_same = ap length g.row ∙ length-written (rows_from 0 0 g.done) rows₀ front.0

    pub recs_same : length recs ≡ length recs₀
    recs_same = ap length g.held ∙ length-written (records_in g.done) recs₀ front.1

    pub text_same : length text ≡ length text₀
    text_same = ap length g.bytes ∙ length-written (texts_in g.done) text₀ front.2

    pub writing_end : length ends ≤ i → (rows ≡ written (rows_from 0 0 (fields_in s ends mode skip)) rows₀)
        × (recs ≡ written (records_in (fields_in s ends mode skip)) recs₀) × (text ≡ written (texts_in (fields_in s ends mode skip)) text₀)
    writing_end h =
        let a : g.done ≡ fields_in s ends mode skip = all_done g.at h in (
          g.row ∙ ap (λ (l : List Field). written (rows_from 0 0 l) rows₀) a,
          g.held ∙ ap (λ (l : List Field). written (records_in l) recs₀) a,
          g.bytes ∙ ap (λ (l : List Field). written (texts_in l) text₀) a,
        )

    module _ (h : i < length ends) where
      abbrev pub f : Field
      f = this g.at h

      -- there is room for a row, for its records and for its texts, and the numbers fit their words
      pub fit : (row_words * i + row_words ≤ length rows) × (w + record_words * length f.items ≤ length recs) × (free + length (texts f.items) ≤ length text)
          × (n + length f.items ≤ limit) × (free + length (texts f.items) ≤ limit)
      fit =
          let z = fits g.at h in
          let y = few s ends mode skip fine in (
            omega (arith, rows_same, room.0, h),
            omega (arith, recs_same, room.1, z.0, g.words),
            omega (arith, text_same, room.2, z.1),
            omega (arith, z.0, y.0, fine.2),
            omega (arith, z.1, y.1, fine.2),
          )

      -- a turn: a part's records, its texts and its row into what is left of each memory
      pub writing_on : (p : PartAnswer) → p ≡ part_of f → {x y z : List ℕ} → x ≡ written (records 0 0 f.items) (take (length recs - w) (drop w recs))
          → y ≡ written (texts f.items) (take (length text - free) (drop free text))
          → z ≡ written (n ∷ free ∷ p.mark ∷ p.place ∷ []) (take (length rows - i * row_words) (drop (i * row_words) rows))
          → Writing s ends mode skip rows₀ recs₀ text₀ (put_mid (i * row_words) (length rows - i * row_words) rows z) (put_mid w (length recs - w) recs x) (put_mid free (length text - free) text y)
          (i + 1) (get_or ends i 0) (n + p.items) ((n + p.items) * record_words) (free + p.text)
      unfolding rows_from records_in texts_in
      writing_on p q {x} {y} {z} hx hy hz =
          let a : length (rows_from 0 0 g.done) ≡ i * row_words = omega (arith, rows_length 0 0 g.done, g.at.count) in
          let b : length (records_in g.done) ≡ w = omega (arith, records_in_length g.done, g.at.items, g.words) in
          let more : rows_from 0 0 (g.done ++ (f ∷ [])) ≡ rows_from 0 0 g.done ++ (n ∷ free ∷ p.mark ∷ p.place ∷ []) =
          rows_after g.done (f ∷ [])
          ∙ ap (λ (k : ℕ). rows_from 0 0 g.done ++ row_of k (length (texts_in g.done)) f) g.at.items
          ∙ ap (λ (k : ℕ). rows_from 0 0 g.done ++ row_of n k f) g.at.bytes
          ∙ ap (λ (u : PartAnswer). rows_from 0 0 g.done ++ (n ∷ free ∷ u.mark ∷ u.place ∷ [])) (sym q) in
          let more-recs : records_in (g.done ++ (f ∷ [])) ≡ records_in g.done ++ records 0 0 f.items =
          records_append g.done (f ∷ []) ∙ ap (λ (l : List ℕ). records_in g.done ++ l) (append-nil (records 0 0 f.items)) in
          let more-text : texts_in (g.done ++ (f ∷ [])) ≡ texts_in g.done ++ texts f.items =
          texts_append g.done (f ∷ []) ∙ ap (λ (l : List ℕ). texts_in g.done ++ l) (append-nil (texts f.items)) in
          record {
            done = g.done ++ (f ∷ []);
            at = moves_on g.at h p q;
            words = omega arith;
            row = part_written (rows_from 0 0 g.done) (n ∷ free ∷ p.mark ∷ p.place ∷ []) rows₀ g.row a front.0 hz ∙ ap (λ (l : List ℕ). written l rows₀) (sym more);
            held = part_written (records_in g.done) (records 0 0 f.items) recs₀ g.held b front.1 hx ∙ ap (λ (l : List ℕ). written l recs₀) (sym more-recs);
            bytes = part_written (texts_in g.done) (texts f.items) text₀ g.bytes g.at.bytes front.2 hy ∙ ap (λ (l : List ℕ). written l text₀) (sym more-text);
          }
