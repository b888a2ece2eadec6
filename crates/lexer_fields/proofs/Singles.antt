-- What the request says: "the records and texts must equal single whole-text calls made one by one".
use Rattle.refusal.specs.Refusals as refusal
use Rattle.chars.specs.Utf8.{first_bad}
use Rattle.std.specs.Prelude.{None, Option, Some}
use Rattle.laws.specs.Lent.{written}
use Rattle.laws.proofs.Choice.{by_bool, impossible}
use Rattle.items.specs.Items.{Item, record_words, records, texts}
use Rattle.items.specs.Whole.{Answer, served, refused, call, limit, is_mode, items_in, deliver, if_good, read_of}
use Rattle.items.proofs.Fit.{records-length}
use Rattle.lexer_fields.specs.Fields.{Field, field, field_by, field_of, fields_on, fields_in, parts, is_in_order, row_words, item_count, records_in, texts_in, row_of, rows_from}
use Rattle.lexer_fields.specs.Fields.{FieldsCall, fields_call, deliver_fields, fields_of}
use Rattle.lexer_fields.specs.Each.{alone, Marked, Single, end_after, as_one}
use Rattle.lexer_fields.proofs.Parts.{in_order, part_length, count_append, texts_append, records_append, rows_after, records_in_length, rows_length, fields_length}
use Prim.Native.Nat.{ℕ, ◌+◌, ◌-◌, ◌*◌, ◌/◌, ◌≤◌}
use mathlib.Core.Path.{◌≡◌, refl, sym, ap, ◌∙◌, subst}
use mathlib.Core.Bool.{Bool, true}
use mathlib.Core.List.{List, [], ◌∷◌, ◌++◌, append_assoc, append-nil}
use lib.ListN.{length, take, drop, length-append}
use lib.Seq.{take_at, drop_at, take_all}
use native.Mathlib.Nat.{sub-zero}
use lib.Dec.{leb, ltb}
use native.Mathlib.Omega.{arith}
use borrow.Author.Tests.{le-leb, le-ltb, ltb-false}

-- ---- one call for one part

-- with room for the part's items and texts, or more
single_call : (mode : ℕ) (skip : Bool) (part recs text : List ℕ) → is_mode mode ≡ true → length part ≤ limit → length (field_of mode skip part).items ≤ length recs / record_words
    → length (texts (field_of mode skip part).items) ≤ length text
    → read_of part mode skip recs text
    ≡ alone (field_of mode skip part).mark (field_of mode skip part).place (length (field_of mode skip part).items) (length (texts (field_of mode skip part).items))
    (records 0 0 (field_of mode skip part).items) (texts (field_of mode skip part).items) recs text
unfolding read_of deliver field_of
single_call mode skip part recs text m short hr ht = rw (m, le-ltb limit (length part) short) (by (first_bad part) hr ht)
  where
    by : (u : Option ℕ) → length (field_by u (items_in part mode skip)).items ≤ length recs / record_words → length (texts (field_by u (items_in part mode skip)).items) ≤ length text
        → if_good u (deliver (items_in part mode skip) recs text) recs text
        ≡ alone (field_by u (items_in part mode skip)).mark (field_by u (items_in part mode skip)).place (length (field_by u (items_in part mode skip)).items)
        (length (texts (field_by u (items_in part mode skip)).items)) (records 0 0 (field_by u (items_in part mode skip)).items) (texts (field_by u (items_in part mode skip)).items) recs text
    by None a b =
        rw (
          le-leb (length (items_in part mode skip)) (length recs / record_words) a,
          le-leb (length (texts (items_in part mode skip))) (length text) b,
        )
    by (Some p) a b = refl

-- ---- parts of what was written

middle : (a b c old : List ℕ) (n : ℕ) → length a ≡ n → take (length b) (drop n (written (a ++ (b ++ c)) old)) ≡ b
middle a b c old n e =
    let w : List ℕ = drop (length (a ++ (b ++ c))) old in
    ap (λ (l : List ℕ). take (length b) (drop n l)) (append_assoc a (b ++ c) w)
    ∙ ap (take (length b)) (drop_at a ((b ++ c) ++ w) n e)
    ∙ ap (take (length b)) (append_assoc b c w)
    ∙ take_at b (c ++ w) (length b) refl

-- ---- the slices that a row names

is_marked_lem : (mode : ℕ) (skip : Bool) (part : List ℕ)
    → Marked (first_bad part) (field_of mode skip part).mark (field_of mode skip part).place
    (length (field_of mode skip part).items) (length (texts (field_of mode skip part).items))
unfolding field_of texts
is_marked_lem mode skip part = by (first_bad part)
  where
    by : (u : Option ℕ) → Marked u (field_by u (items_in part mode skip)).mark (field_by u (items_in part mode skip)).place
        (length (field_by u (items_in part mode skip)).items) (length (texts (field_by u (items_in part mode skip)).items))
    by None = (refl, refl)
    by (Some p) = (refl, refl, refl, refl)

module _ (before after : List Field) (f : Field) (old : List ℕ) where
  row_there : take row_words (drop (row_words * length before) (written (rows_from 0 0 (before ++ (f ∷ after))) old))
      ≡ row_of (item_count before) (length (texts_in before)) f
  unfolding rows_from
  row_there =
      ap (λ (l : List ℕ). take row_words (drop (row_words * length before) (written l old))) (rows_after before (f ∷ after))
      ∙ middle (rows_from 0 0 before) (row_of (item_count before) (length (texts_in before)) f) _ old (row_words * length before) (rows_length 0 0 before)

  records_there : take (record_words * length f.items) (drop (record_words * item_count before) (written (records_in (before ++ (f ∷ after))) old))
      ≡ records 0 0 f.items
  unfolding records_in
  records_there =
      ap (λ (x : ℕ). take x (drop (record_words * item_count before) (written (records_in (before ++ (f ∷ after))) old))) (sym (records-length 0 0 f.items))
      ∙ ap (λ (l : List ℕ). take (length (records 0 0 f.items)) (drop (record_words * item_count before) (written l old))) (records_append before (f ∷ after))
      ∙ middle (records_in before) (records 0 0 f.items) (records_in after) old (record_words * item_count before) (records_in_length before)

  texts_there : take (length (texts f.items)) (drop (length (texts_in before)) (written (texts_in (before ++ (f ∷ after))) old)) ≡ texts f.items
  unfolding texts_in
  texts_there =
      ap (λ (l : List ℕ). take (length (texts f.items)) (drop (length (texts_in before)) (written l old))) (texts_append before (f ∷ after))
      ∙ middle (texts_in before) (texts f.items) (texts_in after) old (length (texts_in before)) refl

-- ---- the rows with the totals after them: each begins where the one before ends

begins : (r t : ℕ) (fs : List Field) (n b : ℕ) → n ≡ r + item_count fs → b ≡ t + length (texts_in fs) → take 2 (rows_from r t fs ++ (n ∷ b ∷ [])) ≡ r ∷ t ∷ []
unfolding rows_from item_count texts_in
begins r t [] n b p q = let x : n ≡ r = omega arith in let y : b ≡ t = omega arith in rw (x, y)
begins r t (f ∷ fs) n b p q = refl

module _ (a b : List Field) (old : List ℕ) where
  abbrev totals : List ℕ
  totals = item_count (a ++ b) ∷ length (texts_in (a ++ b)) ∷ []

  joined_there : take 2 (drop (row_words * length a) (take (row_words * length (a ++ b)) (written (rows_from 0 0 (a ++ b)) old) ++ totals))
      ≡ item_count a ∷ length (texts_in a) ∷ []
  joined_there =
      ap (λ (l : List ℕ). take 2 (drop (row_words * length a) (l ++ totals)))
      (take_at (rows_from 0 0 (a ++ b)) (drop (length (rows_from 0 0 (a ++ b))) old) (row_words * length (a ++ b)) (rows_length 0 0 (a ++ b)) ∙ rows_after a b)
      ∙ ap (λ (l : List ℕ). take 2 (drop (row_words * length a) l))
      (append_assoc (rows_from 0 0 a) (rows_from (item_count a) (length (texts_in a)) b) totals)
      ∙ ap (take 2)
      (drop_at (rows_from 0 0 a) (rows_from (item_count a) (length (texts_in a)) b ++ totals) (row_words * length a) (rows_length 0 0 a))
      ∙ begins (item_count a) (length (texts_in a)) b (item_count (a ++ b)) (length (texts_in (a ++ b)))
      (count_append a b) (ap length (texts_append a b) ∙ length-append (texts_in a) (texts_in b))

-- ---- which part is which

module _ (s : List ℕ) (mode : ℕ) (skip : Bool) where
  fields_split : (a b : List ℕ) (from : ℕ) → fields_on mode skip (parts s from (a ++ b)) ≡ fields_on mode skip (parts s from a) ++ fields_on mode skip (parts s (end_after from a) b)
  unfolding fields_on parts
  fields_split [] b from = refl
  fields_split (e ∷ a) b from = ap (λ (l : List Field). field_of mode skip (take (e - from) (drop from s)) ∷ l) (fields_split a b e)

order_split : (s a b : List ℕ) (from : ℕ) → from ≤ length s → is_in_order (length s) from (a ++ b) ≡ true
    → (end_after from a ≤ length s) × (is_in_order (length s) (end_after from a) b ≡ true)
order_split s [] b from h o = (h, o)
order_split s (e ∷ a) b from h o = let k = in_order (length s) from e (a ++ b) o in order_split s a b e k.1 k.2

-- ---- a call that is served, by its answer

module _ (s ends : List ℕ) (mode : ℕ) (skip : Bool) (rows recs text : List ℕ) (n t : ℕ) where
  abbrev fs : List Field
  fs = fields_in s ends mode skip

  -- it was not refused, and is the definition's
  pub record Served : Type 0 where
    pub mode_fits : is_mode mode ≡ true
    pub order : is_in_order (length s) 0 ends ≡ true
    pub short : length s ≤ limit
    pub items : item_count fs ≡ n
    pub bytes : length (texts_in fs) ≡ t
    pub gives : fields_of s ends mode skip rows recs text ≡ fields_call (served n t) (written (rows_from 0 0 fs) rows) (written (records_in fs) recs) (written (texts_in fs) text)

  not_served : {k a b : ℕ} → refused k a b ≡ served n t → ⊥
  not_served e = impossible cc

  pub is_served : (fields_of s ends mode skip rows recs text).answer ≡ served n t → Served
  unfolding fields_of deliver_fields
  is_served e =
      by_bool (is_mode mode)
      (λ m. by_bool (is_in_order (length s) 0 ends)
      (λ o. by_bool (ltb limit (length s))
      (λ l. absurd (not_served (rw (m, o, l) at e)))
      (λ l. by_bool (leb (length fs) (length rows / row_words))
      (λ a. by_bool (leb (item_count fs) (length recs / record_words))
      (λ b. by_bool (leb (length (texts_in fs)) (length text))
      (λ c. let z : served (item_count fs) (length (texts_in fs)) ≡ served n t = rw (m, o, l, a, b, c) at e in
      let x : item_count fs ≡ n = cc in
      let y : length (texts_in fs) ≡ t = cc in
      record {
        mode_fits = m;
        order = o;
        short = ltb-false limit (length s) l;
        items = x;
        bytes = y;
        gives = rw (m, o, l, a, b, c) (ap (λ (k : Answer). fields_call k (written (rows_from 0 0 fs) rows) (written (records_in fs) recs) (written (texts_in fs) text)) z);
      })
      (λ c. absurd (not_served (rw (m, o, l, a, b, c) at e))))
      (λ b. absurd (not_served (rw (m, o, l, a, b) at e))))
      (λ a. absurd (not_served (rw (m, o, l, a) at e)))))
      (λ o. absurd (not_served (rw (m, o) at e))))
      (λ m. absurd (not_served (rw m at e)))

  -- The rows' slices follow one another without gap: the row after any parts, or the totals after all, begins with how many records and text
  -- bytes those parts gave
  pub fields_joined : (fields_of s ends mode skip rows recs text).answer ≡ served n t → (before after : List ℕ) → ends ≡ before ++ after
      → take 2 (drop (row_words * length before) (take (row_words * length ends) (fields_of s ends mode skip rows recs text).rows ++ (n ∷ t ∷ [])))
      ≡ item_count (fields_in s before mode skip) ∷ length (texts_in (fields_in s before mode skip)) ∷ []
  fields_joined h before after q =
      let v : Served = is_served h in
      let a : List Field = fields_in s before mode skip in
      let b : List Field = fields_on mode skip (parts s (end_after 0 before) after) in
      let all : fs ≡ a ++ b = ap (λ (l : List ℕ). fields_in s l mode skip) q ∙ fields_split s mode skip before after 0 in
      let held : List ℕ = written (rows_from 0 0 fs) rows in
      ap (λ (x : FieldsCall). take 2 (drop (row_words * length before) (take (row_words * length ends) x.rows ++ (n ∷ t ∷ [])))) v.gives
      ∙ ap (λ (x : ℕ). take 2 (drop (row_words * length before) (take (row_words * length ends) held ++ (x ∷ t ∷ [])))) (sym v.items)
      ∙ ap (λ (x : ℕ). take 2 (drop (row_words * length before) (take (row_words * length ends) held ++ (item_count fs ∷ x ∷ [])))) (sym v.bytes)
      ∙ ap (λ (x : ℕ). take 2 (drop (row_words * length before) (take (row_words * x) held ++ (item_count fs ∷ length (texts_in fs) ∷ []))))
      (sym (fields_length mode skip s ends 0))
      ∙ ap (λ (x : ℕ). take 2 (drop (row_words * x) (take (row_words * length fs) held ++ (item_count fs ∷ length (texts_in fs) ∷ []))))
      (sym (fields_length mode skip s before 0))
      ∙ ap (λ (l : List Field). take 2 (drop (row_words * length a) (take (row_words * length l) (written (rows_from 0 0 l) rows) ++ (item_count l ∷ length (texts_in l) ∷ [])))) all
      ∙ joined_there a b rows

  -- Each part of a call that is served: its row, and the slices of records and of texts that the row names are what the whole-text call
  -- gives for that part alone
  pub fields_single : (fields_of s ends mode skip rows recs text).answer ≡ served n t → (before : List ℕ) (e : ℕ) (after : List ℕ) → ends ≡ before ++ (e ∷ after)
      → Single mode skip (take (e - end_after 0 before) (drop (end_after 0 before) s)) (fields_of s ends mode skip rows recs text) (length ends) n t (length before)
  unfolding fields_on parts item_count texts_in
  fields_single h before e after q =
      let v : Served = is_served h in
      let from : ℕ = end_after 0 before in
      let part : List ℕ = take (e - from) (drop from s) in
      let f : Field = field_of mode skip part in
      let a : List Field = fields_in s before mode skip in
      let b : List Field = fields_on mode skip (parts s e after) in
      let all : fs ≡ a ++ (f ∷ b) = ap (λ (l : List ℕ). fields_in s l mode skip) q ∙ fields_split s mode skip before (e ∷ after) 0 in
      let o = order_split s before (e ∷ after) 0 (omega arith) (subst (λ (l : List ℕ). is_in_order (length s) 0 l ≡ true) q v.order) in
      let k = in_order (length s) from e after o.1 in
      let short : length part ≤ limit = omega (arith, part_length s from e k.1, k.1, v.short) in
      let out : FieldsCall = fields_of s ends mode skip rows recs text in
      let own : take (record_words * length f.items) (drop (record_words * item_count a) out.records) ≡ records 0 0 f.items =
      ap (λ (x : FieldsCall). take (record_words * length f.items) (drop (record_words * item_count a) x.records)) v.gives
      ∙ ap (λ (l : List Field). take (record_words * length f.items) (drop (record_words * item_count a) (written (records_in l) recs))) all
      ∙ records_there a b f recs in
      let own-text : take (length (texts f.items)) (drop (length (texts_in a)) out.text) ≡ texts f.items =
      ap (λ (x : FieldsCall). take (length (texts f.items)) (drop (length (texts_in a)) x.text)) v.gives
      ∙ ap (λ (l : List Field). take (length (texts f.items)) (drop (length (texts_in a)) (written (texts_in l) text))) all
      ∙ texts_there a b f text in
      let up_to : fields_in s (before ++ (e ∷ [])) mode skip ≡ a ++ (f ∷ []) = fields_split s mode skip before (e ∷ []) 0 in
      let count : item_count (fields_in s (before ++ (e ∷ [])) mode skip) ≡ item_count a + length f.items =
      ap item_count up_to ∙ count_append a (f ∷ []) ∙ omega arith in
      let length_to : length (texts_in (fields_in s (before ++ (e ∷ [])) mode skip)) ≡ length (texts_in a) + length (texts f.items) =
      ap (λ (l : List Field). length (texts_in l)) up_to ∙ ap length (texts_append a (f ∷ [])) ∙ length-append (texts_in a) (texts_in (f ∷ []))
      ∙ omega (arith, length-append (texts f.items) []) in
      let step : length before + 1 ≡ length (before ++ (e ∷ [])) = omega (arith, length-append before (e ∷ [])) in
      record {
        first = item_count a;
        byte = length (texts_in a);
        mark = f.mark;
        place = f.place;
        row = ap (λ (x : FieldsCall). take row_words (drop (row_words * length before) x.rows)) v.gives
            ∙ ap (λ (x : ℕ). take row_words (drop (row_words * x) (written (rows_from 0 0 fs) rows))) (sym (fields_length mode skip s before 0))
            ∙ ap (λ (l : List Field). take row_words (drop (row_words * length a) (written (rows_from 0 0 l) rows))) all
            ∙ row_there a b f rows;
        items = length f.items;
        bytes = length (texts f.items);
        next = ap (λ (x : ℕ). take 2 (drop (row_words * x) (take (row_words * length ends) out.rows ++ (n ∷ t ∷ [])))) step
            ∙ fields_joined h (before ++ (e ∷ [])) after (q ∙ sym (append_assoc before (e ∷ []) after))
            ∙ ap (λ (x : ℕ). x ∷ length (texts_in (fields_in s (before ++ (e ∷ [])) mode skip)) ∷ []) count
            ∙ ap (λ (x : ℕ). (item_count a + length f.items) ∷ x ∷ []) length_to;
        marked = is_marked_lem mode skip part;
        same = λ rs bs hi hb. single_call mode skip part rs bs v.mode_fits short hi hb
            ∙ ap (λ (l : List ℕ). alone f.mark f.place (length f.items) (length (texts f.items)) l (texts f.items) rs bs) (sym own)
            ∙ ap (λ (l : List ℕ). alone f.mark f.place (length f.items) (length (texts f.items))
            (take (record_words * length f.items) (drop (record_words * item_count a) out.records)) l rs bs) (sym own-text);
      }

-- ---- one part that is the whole source

module _ (s : List ℕ) (mode : ℕ) (skip : Bool) (rows recs text : List ℕ) (room : 1 ≤ length rows / row_words) where
  one_good : (is : List Item) → deliver_fields (field 0 0 is ∷ []) rows recs text ≡ as_one (deliver is recs text) rows
  unfolding deliver_fields deliver item_count records_in texts_in rows_from
  one_good is =
      let a : length is + 0 ≡ length is = omega arith in
      rw (le-leb 1 (length rows / row_words) room, a, append-nil (texts is), append-nil (records 0 0 is))
      (by_bool (leb (length is) (length recs / record_words))
      (λ b. by_bool (leb (length (texts is)) (length text)) (λ c. rw (b, c)) (λ c. rw (b, c)))
      (λ b. rw b))

  one_bad : (p : ℕ) → deliver_fields (field refusal.not_utf8 p [] ∷ []) rows recs text ≡ as_one (call (refused refusal.not_utf8 p 0) recs text) rows
  unfolding deliver_fields item_count records_in texts_in rows_from records texts
  one_bad p = rw (le-leb 1 (length rows / row_words) room, le-leb 0 (length recs / record_words) (omega arith), le-leb 0 (length text) (omega arith))

  pub fields_one : fields_of s (length s ∷ []) mode skip rows recs text ≡ as_one (read_of s mode skip recs text) rows
  unfolding fields_of read_of is_in_order fields_on parts field_of
  fields_one = by_bool (is_mode mode)
      (λ m. by_bool (ltb limit (length s))
      (λ l. rw (m, l, le-leb 0 (length s) (omega arith), le-leb (length s) (length s) (omega arith)))
      (λ l. rw (m, l, le-leb 0 (length s) (omega arith), le-leb (length s) (length s) (omega arith), sub-zero (length s), take_all (length s) s (omega arith)) (by (first_bad s))))
      (λ m. rw m)
    where
      by : (u : Option ℕ) → deliver_fields (field_by u (items_in s mode skip) ∷ []) rows recs text ≡ as_one (if_good u (deliver (items_in s mode skip) recs text) recs text) rows
      by None = one_good (items_in s mode skip)
      by (Some p) = one_bad p
