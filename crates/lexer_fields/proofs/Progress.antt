-- Where a loop over the parts stands: the parts done, and those from a place on.
use Rattle.laws.proofs.Places.{here}
use Rattle.items.specs.Items.{texts}
use Rattle.items.specs.Whole.{limit}
use Rattle.lexer_fields.specs.Fields.{Field, field_of, fields_on, fields_in, parts, is_in_order, item_count, texts_in}
use Rattle.lexer_fields.specs.Answers.{part_of, total_of, Fine}
use Rattle.lexer_fields.specs.declared.PartAnswer.{PartAnswer}
use Rattle.lexer_fields.specs.declared.Total.{Total}
use Rattle.lexer_fields.proofs.Parts.{few_fields, in_order, count_append, texts_append, part_length}
use Prim.Native.Nat.{ℕ, ◌+◌, ◌-◌, ◌≤◌, ◌<◌}
use mathlib.Core.Path.{◌≡◌, refl, sym, ap, ◌∙◌, subst}
use mathlib.Core.Bool.{Bool, true}
use mathlib.Core.List.{List, [], ◌∷◌, ◌++◌, append_assoc, append-nil}
use lib.ListN.{length, get_or, take, drop, length-append, drop_of_length-le}
use native.Mathlib.Omega.{arith}

abbrev total_of_lem : ℕ → ℕ → Total
total_of_lem a b = record { items = a; text = b }

-- `done` are the fields of the first i parts, with n items and `free` bytes of text; the next part starts at `from`
pub record Progress (s ends : List ℕ) (mode : ℕ) (skip : Bool) (i from n free : ℕ) (done : List Field) : Type 0 where
  pub some : i ≤ length ends
  pub inside : from ≤ length s
  pub order : is_in_order (length s) from (drop i ends) ≡ true
  pub all : fields_in s ends mode skip ≡ done ++ fields_on mode skip (parts s from (drop i ends))
  pub count : length done ≡ i
  pub items : item_count done ≡ n
  pub bytes : length (texts_in done) ≡ free

pub at_start : (s ends : List ℕ) (mode : ℕ) (skip : Bool) → Fine s ends mode → Progress s ends mode skip 0 0 0 0 []
unfolding item_count texts_in
at_start s ends mode skip fine = record { some = omega arith; inside = omega arith; order = fine.1; all = refl; count = refl; items = refl; bytes = refl }

-- all that the parts give is no more than the source
pub few : (s ends : List ℕ) (mode : ℕ) (skip : Bool) → Fine s ends mode
    → (item_count (fields_in s ends mode skip) ≤ length s) × (length (texts_in (fields_in s ends mode skip)) ≤ length s)
few s ends mode skip fine = let z = few_fields mode skip s ends 0 (omega arith) fine.1 in (omega (arith, z.0), omega (arith, z.1))

module _ {s ends : List ℕ} {mode : ℕ} {skip : Bool} {i from n free : ℕ} {done : List Field} (g : Progress s ends mode skip i from n free done) where
  abbrev ahead : List Field
  ahead = fields_on mode skip (parts s from (drop i ends))

  -- what was given and what is left
  pub left : (item_count (fields_in s ends mode skip) ≡ n + item_count ahead) × (length (texts_in (fields_in s ends mode skip)) ≡ free + length (texts_in ahead))
  left = (
    ap item_count g.all ∙ count_append done ahead ∙ ap (λ (k : ℕ). k + item_count ahead) g.items,
    ap (λ (l : List Field). length (texts_in l)) g.all ∙ ap length (texts_append done ahead) ∙ length-append (texts_in done) (texts_in ahead)
        ∙ ap (λ (k : ℕ). k + length (texts_in ahead)) g.bytes,
  )

  -- at the end all is done
  pub all_done : length ends ≤ i → done ≡ fields_in s ends mode skip
  unfolding fields_on parts
  all_done h = sym (g.all ∙ ap (λ (l : List ℕ). done ++ fields_on mode skip (parts s from l)) (drop_of_length-le ends h) ∙ append-nil done)

  pub total : length ends ≤ i → record { items = n; text = free } ≡ total_of (fields_in s ends mode skip)
  total h = ap (λ (k : ℕ). total_of_lem k free) (sym g.items) ∙ ap (λ (k : ℕ). total_of_lem (item_count done) k) (sym g.bytes) ∙ ap total_of (all_done h)

  module _ (h : i < length ends) where
    abbrev pub e : ℕ
    e = get_or ends i 0

    abbrev pub part : List ℕ
    part = take (e - from) (drop from s)

    abbrev pub this : Field
    this = field_of mode skip part

    abbrev later : List Field
    later = fields_on mode skip (parts s e (drop (i + 1) ends))

    next : drop i ends ≡ e ∷ drop (i + 1) ends
    next = here ends i h

    pub bounds : (from ≤ e) × (e ≤ length s) × (is_in_order (length s) e (drop (i + 1) ends) ≡ true)
    bounds = in_order (length s) from e (drop (i + 1) ends) (subst (λ (l : List ℕ). is_in_order (length s) from l ≡ true) next g.order)

    pub rest : ahead ≡ this ∷ later
    unfolding fields_on parts
    rest = ap (λ (l : List ℕ). fields_on mode skip (parts s from l)) next

    -- there is room for this part where there is for all
    pub fits : (n + length this.items ≤ item_count (fields_in s ends mode skip)) × (free + length (texts this.items) ≤ length (texts_in (fields_in s ends mode skip)))
    unfolding item_count texts_in
    fits = (
      omega (arith, left.0, ap item_count rest),
      omega (arith, left.1, ap (λ (l : List Field). length (texts_in l)) rest, length-append (texts this.items) (texts_in later)),
    )

    -- the counts with this part fit their words
    pub sums : Fine s ends mode → (p : PartAnswer) → p ≡ part_of this → (n + p.items ≤ limit) × (free + p.text ≤ limit)
    sums fine p q =
        let y = few s ends mode skip fine in
        (omega (arith, fits.0, y.0, fine.2, ap (λ (x : PartAnswer). x.items) q), omega (arith, fits.1, y.1, fine.2, ap (λ (x : PartAnswer). x.text) q))

    pub short : Fine s ends mode → length part ≤ limit
    short fine = omega (arith, part_length s from e bounds.1, bounds.1, fine.2)

    pub moves_on : (p : PartAnswer) → p ≡ part_of this → Progress s ends mode skip (i + 1) e (n + p.items) (free + p.text) (done ++ (this ∷ []))
    unfolding item_count texts_in
    moves_on p q = record {
      some = omega arith;
      inside = bounds.1;
      order = bounds.2;
      all = g.all ∙ ap (λ (l : List Field). done ++ l) rest ∙ sym (append_assoc done (this ∷ []) later);
      count = length-append done (this ∷ []) ∙ omega (arith, g.count);
      items = count_append done (this ∷ []) ∙ omega (arith, g.items, ap (λ (x : PartAnswer). x.items) q);
      bytes = ap length (texts_append done (this ∷ [])) ∙ length-append (texts_in done) (texts_in (this ∷ []))
          ∙ omega (arith, g.bytes, ap (λ (x : PartAnswer). x.text) q, length-append (texts this.items) []);
    }
