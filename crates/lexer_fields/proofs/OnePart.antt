-- One part by what its UTF-8 is.
use Rattle.chars.specs.Utf8.{chars, first_bad}
use Rattle.chars.specs.Encode.{utf8, bytes_of}
use Rattle.chars.proofs.Good.{good_bytes_lem}
use Rattle.laws.specs.Quoted.{code}
use Rattle.std.specs.Prelude.{None, Option, Some}
use Rattle.laws.proofs.Choice.{by_bool, yes_no}
use Rattle.laws.specs.Lent.{written}
use Rattle.refusal.specs.Refusals as refusal
use Rattle.items.specs.Items.{Item, record_words, records, texts}
use Rattle.items.specs.Whole.{limit, in_report, items_in}
use Rattle.lexer.specs.Opening.{start_of, opening}
use Rattle.lexer.specs.Reading.{all_items}
use Rattle.lexer.specs.Inner.{needed_of}
use Rattle.lexer.specs.declared.Spot.{Spot}
use Rattle.lexer.specs.declared.Needed.{Needed}
use Rattle.lexer.proofs.Opens.{reads_all}
use Rattle.lexer_fields.specs.Fields.{Field, field, field_by, field_of}
use Rattle.lexer_fields.specs.Answers.{part_of, spot_at}
use Rattle.lexer_fields.specs.declared.PartAnswer.{PartAnswer}
use Rattle.lexer_fields.proofs.Parts.{first_bad_ahead}
use Prim.Native.Nat.{ℕ, ◌*◌, ◌≤◌}
use mathlib.Core.Path.{◌≡◌, refl, sym, ap, ◌∙◌}
use mathlib.Core.Bool.{Bool, false}
use mathlib.Core.List.{List, [], ◌∷◌, ◌++◌}
use lib.ListN.{length, get_or}
use lib.Dec.{eqb}
use native.Mathlib.Omega.{arith}
use borrow.Author.Tests.{eqb-true}

abbrev pub part : ℕ → ℕ → ℕ → ℕ → PartAnswer
part m p n t = record { mark = m; place = p; items = n; text = t }

-- ---- where reading starts

hash_first : (c : ℕ) (cs : List ℕ) → c ≡ code "#" → get_or (bytes_of (c ∷ cs)) 0 0 ≡ code "#"
unfolding bytes_of utf8
hash_first c cs q = ap (λ (x : ℕ). get_or (utf8 x ++ bytes_of cs) 0 0) q

-- a text that does not begin with # has no line to pass over
pub start_plain : (s : List ℕ) → first_bad s ≡ None → eqb (get_or s 0 0) (code "#") ≡ false → 0 ≡ start_of (chars s)
unfolding start_of
start_plain s g h = by (chars s) refl
  where
    by : (cs : List ℕ) → chars s ≡ cs → 0 ≡ start_of cs
    by [] e = refl
    by (c ∷ cs) e = by_bool (eqb c (code "#"))
        (λ b. let q : get_or s 0 0 ≡ code "#" = ap (λ (l : List ℕ). get_or l 0 0) (sym (good_bytes_lem s g) ∙ ap bytes_of e) ∙ hash_first c cs (eqb-true c (code "#") b) in
        yes_no (sym (ap (λ (x : ℕ). eqb x (code "#")) q) ∙ h))
        (λ b. rw b)

pub opens_at : (s : List ℕ) (mode : ℕ) (skip : Bool) (p : Spot) (at : ℕ) → p ≡ spot_at at mode skip → at ≡ start_of (chars s) → p ≡ (opening s (in_report mode) skip).spot
opens_at s mode skip p at e h = e ∙ ap (λ (x : ℕ). spot_at x mode skip) h

-- ---- what it gives

module _ (s : List ℕ) (mode : ℕ) (skip : Bool) where
  module _ (g : None ≡ first_bad s) (p : Spot) (e : p ≡ (opening s (in_report mode) skip).spot) where
    is_good_lem : field_of mode skip s ≡ field 0 0 (all_items s p)
    unfolding field_of
    is_good_lem =
        let a : all_items s p ≡ items_in s mode skip = ap (all_items s) e ∙ reads_all s (in_report mode) skip in
        ap (λ (u : Option ℕ). field_by u (items_in s mode skip)) (sym g) ∙ ap (field 0 0) (sym a)

    pub good_items : (field_of mode skip s).items ≡ all_items s p
    good_items = ap (λ (f : Field). f.items) is_good_lem

    pub good_part : (n : Needed) (r : PartAnswer) → n ≡ needed_of (all_items s p) → r ≡ part 0 0 n.items n.text → r ≡ part_of (field_of mode skip s)
    good_part n r q h = h ∙ ap (λ (x : Needed). part 0 0 x.items x.text) q ∙ ap part_of (sym is_good_lem)

    pub good_records : (old : List ℕ) {new : List ℕ} → new ≡ written (records 0 0 (all_items s p)) old → new ≡ written (records 0 0 (field_of mode skip s).items) old
    good_records old h = h ∙ ap (λ (l : List Item). written (records 0 0 l) old) (sym good_items)

    pub good_texts : (old : List ℕ) {new : List ℕ} → new ≡ written (texts (all_items s p)) old → new ≡ written (texts (field_of mode skip s).items) old
    good_texts old h = h ∙ ap (λ (l : List Item). written (texts l) old) (sym good_items)

    pub good_room : (recs text : List ℕ) → record_words * length (field_of mode skip s).items ≤ length recs → length (texts (field_of mode skip s).items) ≤ length text
        → (record_words * length (all_items s p) ≤ length recs) × (length (texts (all_items s p)) ≤ length text)
    good_room recs text a b = (omega (arith, ap length good_items), omega (arith, ap (λ (l : List Item). length (texts l)) good_items))

  module _ (at : ℕ) (e : Some at ≡ first_bad s) where
    pub bad_short : length s ≤ limit → at ≤ limit
    bad_short short = omega (arith, first_bad_ahead s at (sym e))

    is_bad : field_of mode skip s ≡ field refusal.not_utf8 at []
    unfolding field_of
    is_bad = ap (λ (u : Option ℕ). field_by u (items_in s mode skip)) (sym e)

    pub bad_part : (r : PartAnswer) → r ≡ part refusal.not_utf8 at 0 0 → r ≡ part_of (field_of mode skip s)
    unfolding texts
    bad_part r h = h ∙ ap part_of (sym is_bad)

    pub bad_records : {old : List ℕ} → old ≡ written (records 0 0 (field_of mode skip s).items) old
    unfolding records
    bad_records {old} = ap (λ (f : Field). written (records 0 0 f.items) old) (sym is_bad)

    pub bad_texts : {old : List ℕ} → old ≡ written (texts (field_of mode skip s).items) old
    unfolding texts
    bad_texts {old} = ap (λ (f : Field). written (texts f.items) old) (sym is_bad)
