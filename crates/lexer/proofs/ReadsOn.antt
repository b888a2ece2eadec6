-- Reading all items with the reader gives the records of the whole-text call, but that every decoded text starts at 0 of the text memory.
use Rattle.items.specs.Items.{Item, depth_after, record_of, memory_of}
use Rattle.items.specs.Whole.{limit, in_report, items_in}
use Rattle.lexer.specs.Opening.{opening}
use Rattle.lexer.specs.Reading.{Turn, gives, ends, size_of, next_at, all_from, all_items}
use Rattle.lexer.specs.Answers.{Reply, item, finished, position_at, give_of, next_of}
use Rattle.lexer.specs.ReadOn.{follow, read_from, read_on, record_each}
use Rattle.lexer.specs.declared.Spot.{Spot}
use Rattle.lexer.specs.declared.Position.{Position}
use Rattle.lexer.proofs.AllItems.{all_gives, all_ends}
use Rattle.lexer.proofs.Moves.{Moved}
use Rattle.lexer.proofs.Nexts.{next_moved}
use Rattle.lexer.proofs.Opens.{reads_all}
use Prim.Native.Nat.{ℕ, zero, suc, ◌≤◌}
use mathlib.Core.Path.{◌≡◌, refl, sym, ap, ◌∙◌}
use mathlib.Core.Bool.{Bool}
use mathlib.Core.List.{List, ◌∷◌}
use lib.ListN.{length}
use native.Mathlib.Omega.{arith}
use borrow.Author.Tests.{le-leb, le-ltb}

module _ (s text : List ℕ) (short : length s ≤ limit) (room : length s ≤ length text) where
  reply-gives : (p : Position) (q : Spot) (i : Item) → next_at s p.spot ≡ gives i q
      → (next_of s p text).reply ≡ item (record_of 0 p.depth i) (position_at q (depth_after i.kind p.depth))
  unfolding next_of give_of
  reply-gives p q i e =
      let m : Moved s p.spot i q = next_moved s p.spot q i e in
      let h : length (memory_of i.text) ≤ length text = omega (arith, m.memory, m.inside) in
      rw (le-ltb limit (length s) short) (ap (λ (t : Turn). (give_of p.depth t text).reply) e ∙ rw (le-leb (length (memory_of i.text)) (length text) h))

  reply-ends : (p : Position) → next_at s p.spot ≡ ends → (next_of s p text).reply ≡ finished
  unfolding next_of give_of
  reply-ends p e = rw (le-ltb limit (length s) short) (ap (λ (t : Turn). (give_of p.depth t text).reply) e)

  from_all : (n : ℕ) (p : Position) → read_from n s p text ≡ record_each p.depth (all_from n s p.spot)
  unfolding read_from all_from record_each
  from_all zero p = refl
  from_all (suc n) p = go (λ q. from_all n q) (next_at s p.spot) refl
    where
      go : ((q : Position) → read_from n s q text ≡ record_each q.depth (all_from n s q.spot)) → (t : Turn) → next_at s p.spot ≡ t
          → read_from (suc n) s p text ≡ record_each p.depth (all_from (suc n) s p.spot)
      go rec (gives i q) e =
          ap (λ (r : Reply). follow r (λ u. read_from n s u text)) (reply-gives p q i e)
          ∙ ap (λ (l : List (List ℕ)). record_of 0 p.depth i ∷ l) (rec (position_at q (depth_after i.kind p.depth)))
          ∙ sym (ap (record_each p.depth) (all_gives s n p.spot q i e))
      go rec ends e =
          ap (λ (r : Reply). follow r (λ u. read_from n s u text)) (reply-ends p e)
          ∙ sym (ap (record_each p.depth) (all_ends s n p.spot e))

  pub reader_reads_all : (mode : ℕ) (skip : Bool) → read_on s (opening s (in_report mode) skip) text ≡ record_each 0 (items_in s mode skip)
  unfolding read_on all_items
  reader_reads_all mode skip =
      from_all (suc (size_of s (opening s (in_report mode) skip).spot)) (opening s (in_report mode) skip)
      ∙ ap (record_each 0) (reads_all s (in_report mode) skip)
