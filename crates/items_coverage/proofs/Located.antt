-- What holds of the items of every extent, where it stands in the text, holds of all items of the text. D is what is known of a character; the first
-- one of an extent is no blank.
use Rattle.items.specs.Items.{Place, Item, unset, extent_items, items_from, items_at, past_line, after_pound, items}
use Rattle.items.specs.Readers.{Read, read_item}
use Rattle.items.proofs.Every.{Every, every_append}
use Rattle.items.proofs.Splits.{read_every}
use Rattle.laws.specs.Quoted.{code}
use Rattle.laws.proofs.Choice.{by_bool}
use Rattle.chars.specs.Blank.{is_blank}
use Rattle.chars.specs.Encode.{utf8, width, bytes_of}
use Rattle.chars.proofs.Bytes.{bytes_append}
use Rattle.chars.proofs.Width.{width-utf8}
use Rattle.items_coverage.proofs.Bytes.{passed}
use Rattle.items_coverage.proofs.Extents.{Taken, taken}
use Prim.Native.Nat.{ℕ, zero, suc, ◌+◌}
use mathlib.Core.Path.{◌≡◌, sym, ap, subst, ◌∙◌}
use mathlib.Core.Bool.{Bool, false}
use mathlib.Core.List.{List, [], ◌∷◌}
use lib.ListN.{length, drop}
use lib.Dec.{eqb}
use borrow.Author.Tests.{eqb-true}

-- the items of the extent that starts with c at a place
abbrev pub items_there : Bool → Place → ℕ → ℕ → List ℕ → List Item
items_there report last at c cs = extent_items report last at (read_item report at c cs).what (read_item report at c cs).item

module _ (report : Bool) (whole : List ℕ) (D : ℕ → Type 0) (P : Item → Type 0)
    (extent : (last : Place) (at c : ℕ) (cs : List ℕ) → is_blank c ≡ false → drop at whole ≡ bytes_of (c ∷ cs) → Every D (c ∷ cs)
    → Every P (items_there report last at c cs)) where
  past_char : (at c : ℕ) (cs : List ℕ) → drop at whole ≡ bytes_of (c ∷ cs) → drop (at + width c) whole ≡ bytes_of cs
  unfolding bytes_of
  past_char at c cs e = ap (λ (n : ℕ). drop (at + n) whole) (sym (width-utf8 c)) ∙ passed whole at (utf8 c) (bytes_of cs) e

  past_item : (at c : ℕ) (cs : List ℕ) → drop at whole ≡ bytes_of (c ∷ cs)
      → drop (read_item report at c cs).item.at whole ≡ bytes_of (read_item report at c cs).rest
  past_item at c cs e =
      let r : Read = read_item report at c cs in
      let k : Taken report at c cs = taken report at c cs in
      ap (λ (n : ℕ). drop n whole) k.end
      ∙ passed whole at (bytes_of (c ∷ k.more)) (bytes_of r.rest) (e ∙ ap (λ (l : List ℕ). bytes_of (c ∷ l)) k.whole ∙ bytes_append (c ∷ k.more) r.rest)

  every_from : (turns : ℕ) (last : Place) (at : ℕ) (cs : List ℕ) → drop at whole ≡ bytes_of cs → Every D cs → Every P (items_from report turns last at cs)
  unfolding items_from
  every_from zero last at cs e ds = tt
  every_from (suc turns) last at [] e ds = tt
  every_from (suc turns) last at (c ∷ cs) e ds = by_bool (is_blank c)
      (λ b. rw (b, items_from) (every_from turns last (at + width c) cs (past_char at c cs e) ds.1))
      (λ b. let r : Read = read_item report at c cs in
      rw (b, items_from) (every_append P (items_there report last at c cs) _ (extent last at c cs b e ds)
      (every_from turns _ r.item.at r.rest (past_item at c cs e) (read_every report D at c cs ds.1))))

  every_at : (at : ℕ) (cs : List ℕ) → drop at whole ≡ bytes_of cs → Every D cs → Every P (items_at report at cs)
  every_at at cs e ds = every_from (length cs) unset at cs e ds

  every_line : (at : ℕ) (cs : List ℕ) → drop at whole ≡ bytes_of cs → Every D cs → Every P (past_line report at cs)
  unfolding past_line
  every_line at [] e ds = tt
  every_line at (c ∷ cs) e ds = by_bool (eqb c (code "\n"))
      (λ f. rw (f, past_line) (every_at at (c ∷ cs) e ds))
      (λ f. rw (f, past_line) (every_line (at + width c) cs (past_char at c cs e) ds.1))

  every_pound : (cs : List ℕ) → drop 0 whole ≡ bytes_of (code "#" ∷ cs) → Every D (code "#" ∷ cs) → Every P (after_pound report cs)
  unfolding after_pound width
  every_pound [] e ds = every_at 0 (code "#" ∷ []) e ds
  every_pound (c ∷ cs) e ds = by_bool (eqb c (code "!"))
      (λ f. rw (f, after_pound) (every_line 2 cs
      (subst (λ (n : ℕ). drop (1 + width n) whole ≡ bytes_of cs) (eqb-true c (code "!") f) (past_char 1 c cs (past_char 0 (code "#") (c ∷ cs) e))) ds.1.1))
      (λ f. rw (f, after_pound) (every_at 0 (code "#" ∷ c ∷ cs) e ds))

  pub every_solid : (cs : List ℕ) → drop 0 whole ≡ bytes_of cs → Every D cs → Every P (items report cs)
  unfolding items
  every_solid [] e ds = tt
  every_solid (c ∷ cs) e ds = by_bool (eqb c (code "#"))
      (λ f. let h : c ≡ code "#" = eqb-true c (code "#") f in
      rw (f, items) (every_pound cs (subst (λ (n : ℕ). drop 0 whole ≡ bytes_of (n ∷ cs)) h e) (subst (λ (n : ℕ). Every D (n ∷ cs)) h ds)))
      (λ f. rw (f, items) (every_at 0 (c ∷ cs) e ds))

-- where it does not matter that the first character is no blank
pub every_item : (report : Bool) (whole : List ℕ) (D : ℕ → Type 0) (P : Item → Type 0)
    → ((last : Place) (at c : ℕ) (cs : List ℕ) → drop at whole ≡ bytes_of (c ∷ cs) → Every D (c ∷ cs) → Every P (items_there report last at c cs))
    → (cs : List ℕ) → drop 0 whole ≡ bytes_of cs → Every D cs → Every P (items report cs)
every_item report whole D P extent = every_solid report whole D P (λ last at c cs b. extent last at c cs)
