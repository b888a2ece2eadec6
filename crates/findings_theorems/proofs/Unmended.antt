-- The mended reading and report mode's: where no item is a slip they are one, and where one is, the mended reading has an error too. So a
-- plan has an error by the one exactly if it has one by the other, and if it has none its rows are its records.
use Prim.Native.Nat.{ℕ, zero, suc, ◌≤◌, ◌<◌}
use mathlib.Core.Path.{◌≡◌, refl, sym, ap, ◌∙◌, subst}
use mathlib.Core.Bool.{true, false, not}
use mathlib.Core.List.{List, ◌∷◌}
use lib.ListN.{length}
use lib.Dec.{ltb}
use native.Mathlib.Omega.{arith}
use borrow.Author.Tests.{ltb-true, ltb-false}
use Rattle.std.specs.Prelude.{None, Option, Some}
use Rattle.laws.specs.Quoted.{one_of}
use Rattle.laws.proofs.Choice.{by_bool, and_true, no_yes}
use Rattle.chars.specs.Utf8.{chars}
use Rattle.items.specs.Kinds as kind
use Rattle.items.specs.Items.{Item, items, kept}
use Rattle.items.specs.Whole.{limit}
use Rattle.items.proofs.Every.{Every, every_then}
use Rattle.lexer.specs.Reading.{Turn, gives, ends, next_at, size_of, all_from, all_items}
use Rattle.lexer.specs.declared.Spot.{Spot}
use Rattle.lexer.proofs.AllItems.{all_gives, all_ends}
use Rattle.lexer.proofs.Opens.{reads_all}
use Rattle.findings_rows.specs.Laid.{all_laid}
use Rattle.findings_rows.specs.Mended.{escape_errors, character_at, slips, quote_of, closing_of, slip_turn, mend_turn, mended_at, mended_from, mended_of, opening_spot, unclosed_kind}
use Rattle.findings_rows.specs.Rows.{rows_from, rows_of}
use Rattle.findings_rows.proofs.Escapes.{no_error_holds}
use Rattle.findings_rows.proofs.Mends.{mend_slip, mend_fine}
use Rattle.findings_rows.proofs.Lays.{from_gives, from_ends, mended_all}

-- an item that is no error
abbrev pub Fine : Item → Type 0
Fine i = i.kind < kind.first_error

-- the items of a plan in report mode, comments skipped
abbrev pub reported : List ℕ → List Item
reported s = kept true (items true (chars s))

-- a slip is an error
pub slip_wrong : (s : List ℕ) (k at : ℕ) → slips s k at ≡ true → kind.first_error ≤ k
unfolding slips
slip_wrong s k at e =
    by_bool (ltb k kind.first_error)
    (λ b. no_yes (no_error_holds k (ltb-true k kind.first_error b) ∙ (and_true (one_of escape_errors k) (not (character_at s at)) e).0))
    (λ b. ltb-false k kind.first_error b)

pub fine_unslipped : (s : List ℕ) (i : Item) → Fine i → slips s i.kind i.start ≡ false
fine_unslipped s i h = by_bool (slips s i.kind i.start) (λ b. absurd (omega (arith, slip_wrong s i.kind i.start b))) (λ b. b)

unclosed_wrong : (quote : ℕ) → kind.first_error ≤ unclosed_kind quote
unclosed_wrong quote = omega arith

module _ (s : List ℕ) where
  abbrev Unslipped : Item → Type 0
  Unslipped i = slips s i.kind i.start ≡ false

  mended_fine : (p q : Spot) (i : Item) → next_at s p ≡ gives i q → Unslipped i → mended_at s p ≡ gives i q
  unfolding mended_at
  mended_fine p q i e b = ap (mend_turn s) e ∙ mend_fine s i q b

  mended_slip : (p q : Spot) (i : Item) → next_at s p ≡ gives i q → slips s i.kind i.start ≡ true
      → mended_at s p ≡ slip_turn s i q (closing_of s i.kind i.start q.at)
  unfolding mended_at
  mended_slip p q i e b = ap (mend_turn s) e ∙ mend_slip s i q b

  mended_ends : (p : Spot) → next_at s p ≡ ends → mended_at s p ≡ ends
  unfolding mended_at
  mended_ends p e = ap (mend_turn s) e

  -- ---- no slip

  same_from : (n : ℕ) (p : Spot) → Every Unslipped (all_from n s p) → mended_from n s p ≡ all_from n s p
  unfolding mended_from all_from
  same_from zero p h = refl
  same_from (suc n) p h = go (next_at s p) refl (λ q k. same_from n q k)
    where
      go : (t : Turn) → next_at s p ≡ t → ((q : Spot) → Every Unslipped (all_from n s q) → mended_from n s q ≡ all_from n s q)
          → mended_from (suc n) s p ≡ all_from (suc n) s p
      go ends e rec = from_ends s n p (mended_ends p e) ∙ sym (all_ends s n p e)
      go (gives i q) e rec =
          let k : Every Unslipped (i ∷ all_from n s q) = subst (Every Unslipped) (all_gives s n p q i e) h in
          from_gives s n p q i (mended_fine p q i e k.0) ∙ ap (λ (l : List Item). i ∷ l) (rec q k.1) ∙ sym (all_gives s n p q i e)

  -- ---- no error

  slip_shows : (n : ℕ) (p q : Spot) (i : Item) → next_at s p ≡ gives i q → slips s i.kind i.start ≡ true → Every Fine (mended_from (suc n) s p) → ⊥
  slip_shows n p q i e b h = go (closing_of s i.kind i.start q.at) refl
    where
      head : (j : Item) (u : Spot) → mended_at s p ≡ gives j u → kind.first_error ≤ j.kind → ⊥
      head j u f w = let k : Every Fine (j ∷ mended_from n s u) = subst (Every Fine) (from_gives s n p u j f) h in omega (arith, k.0)

      go : (c : Option ℕ) → closing_of s i.kind i.start q.at ≡ c → ⊥
      go (Some x) f = head _ _ (mended_slip p q i e b ∙ ap (slip_turn s i q) f) (slip_wrong s i.kind i.start b)
      go None f = head _ _ (mended_slip p q i e b ∙ ap (slip_turn s i q) f) (unclosed_wrong (quote_of s i.start))

  fine_from : (n : ℕ) (p : Spot) → Every Fine (mended_from n s p) → Every Fine (all_from n s p)
  unfolding all_from
  fine_from zero p h = tt
  fine_from (suc n) p h = go (next_at s p) refl (λ q k. fine_from n q k)
    where
      go : (t : Turn) → next_at s p ≡ t → ((q : Spot) → Every Fine (mended_from n s q) → Every Fine (all_from n s q)) → Every Fine (all_from (suc n) s p)
      go ends e rec = subst (Every Fine) (sym (all_ends s n p e)) tt
      go (gives i q) e rec = by_bool (slips s i.kind i.start)
          (λ b. absurd (slip_shows n p q i e b h))
          (λ b. let k : Every Fine (i ∷ mended_from n s q) = subst (Every Fine) (from_gives s n p q i (mended_fine p q i e b)) h in
          subst (Every Fine) (sym (all_gives s n p q i e)) (k.0, rec q k.1))

  -- ---- of a plan

  abbrev size : ℕ
  size = suc (size_of s (opening_spot s))

  all_reported : all_from size s (opening_spot s) ≡ reported s
  unfolding all_items
  all_reported = reads_all s true true

  module _ (short : length s ≤ limit) where
    pub mended_same : Every Unslipped (reported s) → mended_of s ≡ reported s
    mended_same h = mended_all s short ∙ same_from size (opening_spot s) (subst (Every Unslipped) (sym all_reported) h) ∙ all_reported

    -- no error in the mended reading: none in report mode, and they are one
    pub mended_clean : Every Fine (mended_of s) → Every Fine (reported s)
    mended_clean h = subst (Every Fine) all_reported (fine_from size (opening_spot s) (subst (Every Fine) (mended_all s short) h))

    pub clean_same : Every Fine (reported s) → mended_of s ≡ reported s
    clean_same h = mended_same (every_then Fine Unslipped (λ i k. fine_unslipped s i k) (reported s) h)

    -- The call's answer where report mode has no slip: as many rows as it has items, and the rows are its records, errors as atoms
    pub unmended : Every Unslipped (reported s) → (words : List ℕ) → all_laid (rows_of s) words ≡ all_laid (rows_from 0 (reported s)) words
    unmended h words = ap (λ (l : List Item). all_laid (rows_from 0 l) words) (mended_same h)
