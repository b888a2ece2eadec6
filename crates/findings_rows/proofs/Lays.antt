-- Laying the rows of the items that are read on: those that are done are laid, and the others are those from a spot on.
use Rattle.std.proofs.Common.{None}
use Prim.Native.Nat.{ℕ, zero, suc, ◌+◌, ◌*◌, ◌/◌, ◌≤◌, ◌<◌}
use mathlib.Core.Path.{◌≡◌, refl, sym, ap, ◌∙◌}
use mathlib.Core.List.{List, [], ◌∷◌, ◌++◌, append_assoc, append-nil}
use lib.ListN.{length, length-append}
use lib.Dec.{leb}
use native.Mathlib.Omega.{arith}
use Rattle.laws.proofs.Choice.{by_bool}
use Rattle.items.specs.Kinds as kind
use Rattle.items.specs.Whole.{limit}
use borrow.Author.Tests.{lt-ltb, le-ltb}
use Rattle.items.specs.Items.{Item, depth_after, depth_past, record_words, words_of}
use Rattle.items.specs.declared.Nine.{Nine}
use Rattle.meaning.specs.Records.{packed}
use Rattle.lexer.specs.Reading.{gives, ends, size_of, found_of, one_found}
use Rattle.lexer.specs.declared.Spot.{Spot}
use Rattle.lexer.proofs.Nexts.{found_gives, found_ends}
use Rattle.lexer.proofs.Memory.{past_more}
use Rattle.findings_rows.specs.Laid.{flat, laid_rows, laid_at, laid, all_laid}
use Rattle.findings_rows.specs.Mended.{mended_at, mended_from, mended_of, opening_spot}
use Rattle.findings_rows.specs.Rows.{row_of, rows_from, rows_of}
use Rattle.findings_rows.specs.Inner.{row_record, from_spot}
use Rattle.findings_rows.proofs.Laid.{laid_on, laid_length}
use Rattle.findings_rows.proofs.Mends.{Forward, mended_forward}

-- ---- rows

pub row_length : (d : ℕ) (i : Item) → length (row_of d i) ≡ record_words
row_length d i = by_bool (leb kind.first_error i.kind) (λ b. rw b) (λ b. rw b)

-- the record of a row has its words
pub row_words : (d : ℕ) (i : Item) → words_of (row_record d (packed 0 i)) ≡ row_of d i
row_words d i = by_bool (leb kind.first_error i.kind) (λ b. rw b) (λ b. rw b)

pub rows_more : (d : ℕ) (is : List Item) (i : Item) → rows_from d (is ++ (i ∷ [])) ≡ rows_from d is ++ (row_of (depth_past d is) i ∷ [])
unfolding rows_from depth_past
rows_more d [] i = refl
rows_more d (x ∷ is) i = ap (λ (l : List (List ℕ)). row_of d x ∷ l) (rows_more (depth_after x.kind d) is i)

pub rows_count : (d : ℕ) (is : List Item) → length (rows_from d is) ≡ length is
unfolding rows_from
rows_count d [] = refl
rows_count d (x ∷ is) = ap suc (rows_count (depth_after x.kind d) is)

pub rows_size : (d : ℕ) (is : List Item) → length (flat (rows_from d is)) ≡ record_words * length is
unfolding rows_from flat
rows_size d [] = refl
rows_size d (x ∷ is) =
    length-append (row_of d x) (flat (rows_from (depth_after x.kind d) is))
    ∙ omega (arith, row_length d x, rows_size (depth_after x.kind d) is)

-- ---- reading on

module _ (s : List ℕ) where
  pub from_gives : (n : ℕ) (p q : Spot) (i : Item) → mended_at s p ≡ gives i q → mended_from (suc n) s p ≡ i ∷ mended_from n s q
  unfolding mended_from
  from_gives n p q i e = rw e

  pub from_ends : (n : ℕ) (p : Spot) → mended_at s p ≡ ends → mended_from (suc n) s p ≡ []
  unfolding mended_from
  from_ends n p e = rw e

  module _ (start : Spot) (words₀ : List ℕ) where
    pub record Laying (words : List ℕ) (p : Spot) (depth w : ℕ) : Type 0 where
      pub done : List Item
      pub left : ℕ
      pub enough : size_of s p < left
      pub few : length done + size_of s p ≤ size_of s start
      pub items : mended_from (suc (size_of s start)) s start ≡ done ++ mended_from left s p
      pub deep : depth_past 0 done ≡ depth
      pub count : record_words * length done ≡ w
      pub rows : words ≡ laid_rows (rows_from 0 done) words₀

    pub laying : Laying words₀ start 0 0
    unfolding depth_past rows_from laid_rows
    laying = record {
      done = [];
      left = suc (size_of s start);
      enough = omega arith;
      few = omega arith;
      items = refl;
      deep = refl;
      count = refl;
      rows = refl;
    }

    module _ {words : List ℕ} {p : Spot} {depth w : ℕ} (g : Laying words p depth w) where
      pub lent_length : length words ≡ length words₀
      lent_length = ap length g.rows ∙ laid_length (rows_from 0 g.done) words₀

      pub laying_end : None ≡ found_of 0 (mended_at s p) → laid (w / record_words) words ≡ all_laid (from_spot s start) words₀
      laying_end e = go g.left refl
        where
          whole : mended_from (suc (size_of s start)) s start ≡ g.done → laid (w / record_words) words ≡ all_laid (from_spot s start) words₀
          whole a =
              let n : w / record_words ≡ length (rows_from 0 g.done) = omega (arith, g.count, rows_count 0 g.done) in
              ap (λ (k : ℕ). laid k words) n ∙ ap (laid (length (rows_from 0 g.done))) g.rows
              ∙ ap (λ (l : List Item). all_laid (rows_from 0 l) words₀) (sym a)

          go : (n : ℕ) → g.left ≡ n → laid (w / record_words) words ≡ all_laid (from_spot s start) words₀
          go zero z = absurd (omega (arith, g.enough))
          go (suc n) z =
              whole
              (g.items ∙ ap (λ (m : ℕ). g.done ++ mended_from m s p) z
              ∙ ap (λ (l : List Item). g.done ++ l) (from_ends n p (found_ends 0 (mended_at s p) e)) ∙ append-nil g.done)

      module _ (r : Nine) (q : Spot) (e : one_found r q ≡ found_of 0 (mended_at s p)) where
        abbrev i : Item
        i = (found_gives 0 (mended_at s p) r q e).0

        gave : mended_at s p ≡ gives i q
        gave = (found_gives 0 (mended_at s p) r q e).1.0

        is_packed : r ≡ packed 0 i
        is_packed = (found_gives 0 (mended_at s p) r q e).1.1

        pub laying_moved : Forward s p q
        laying_moved = mended_forward s p i q gave

        pub laying_on : (d : ℕ) {x : List ℕ} → d ≡ depth_after r.kind depth → x ≡ laid_at w (words_of (row_record depth r)) words
            → Laying x q d (w + record_words)
        laying_on d {x} hd hx = go g.left refl
          where
            words_are : words_of (row_record depth r) ≡ row_of (depth_past 0 g.done) i
            words_are =
                ap (λ (y : Nine). words_of (row_record depth y)) is_packed ∙ row_words depth i ∙ ap (λ (k : ℕ). row_of k i) (sym g.deep)

            go : (n : ℕ) → g.left ≡ n → Laying x q d (w + record_words)
            go zero z = absurd (omega (arith, g.enough))
            go (suc n) z = record {
              done = g.done ++ (i ∷ []);
              left = n;
              enough = omega (arith, g.enough, laying_moved.smaller);
              few = omega (arith, g.few, laying_moved.smaller, length-append g.done (i ∷ []));
              items = g.items ∙ ap (λ (m : ℕ). g.done ++ mended_from m s p) z
                  ∙ ap (λ (l : List Item). g.done ++ l) (from_gives n p q i gave)
                  ∙ sym (append_assoc g.done (i ∷ []) (mended_from n s q));
              deep = past_more g.done i depth g.deep ∙ sym (hd ∙ ap (λ (y : Nine). depth_after y.kind depth) is_packed);
              count = omega (arith, g.count, length-append g.done (i ∷ []));
              rows = hx ∙ ap (λ (l : List ℕ). laid_at w l words) words_are
                  ∙ ap (laid_at w (row_of (depth_past 0 g.done) i)) g.rows
                  ∙ laid_on (rows_from 0 g.done) (row_of (depth_past 0 g.done) i) words₀ w (rows_size 0 g.done ∙ g.count)
                  ∙ ap (λ (l : List (List ℕ)). laid_rows l words₀) (sym (rows_more 0 g.done i));
            }

-- ---- the whole plan

module _ (s : List ℕ) where
  mended_none : limit < length s → mended_of s ≡ []
  unfolding mended_of
  mended_none h = rw (lt-ltb limit (length s) h)

  pub mended_all : length s ≤ limit → mended_of s ≡ mended_from (suc (size_of s (opening_spot s))) s (opening_spot s)
  unfolding mended_of
  mended_all h = rw (le-ltb limit (length s) h)

  pub rows_none : (words : List ℕ) → limit < length s → laid 0 words ≡ all_laid (rows_of s) words
  unfolding rows_from laid_rows
  rows_none words h = sym (ap (λ (l : List Item). all_laid (rows_from 0 l) words) (mended_none h))

  pub rows_all : length s ≤ limit → (p : Spot) → p ≡ opening_spot s → from_spot s p ≡ rows_of s
  rows_all h p e = ap (from_spot s) e ∙ ap (rows_from 0) (sym (mended_all h))
