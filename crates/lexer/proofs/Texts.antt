-- The decoded text of an item, by its nine words.
use Rattle.items.specs.Meaning.{unescape}
use Rattle.items.specs.declared.Quotes.{Quotes}
use Rattle.items.specs.declared.Nine.{Nine}
use Rattle.lexer.specs.Inner.{bytes_for, quotes_of}
use Rattle.lexer.specs.Text.{within, part_of, text_in, text_mark, LentAs}
use Rattle.refusal.specs.Refusals as refusal
use Rattle.laws.proofs.Choice.{by_bool}
use Rattle.std.proofs.Common.{None, Option, Some}
use Rattle.std.specs.Borrow.{Bor}
use Rattle.std.specs.Slice.{IsGetRangeResult}
use Prim.Native.Nat.{ℕ, ◌-◌, ◌≤◌, ◌<◌}
use mathlib.Core.Path.{◌≡◌, refl}
use mathlib.Core.Logic.{◌⊎◌, inl, inr}
use lib.Dec.{leb}
use mathlib.Core.List.{List, []}
use lib.ListN.{length, take, drop, length-drop}
use lib.Seq.{length-take-le}
use native.Mathlib.Omega.{arith}
use borrow.Author.Tests.{eq-eqb, ne_eqb, le-leb, lt-leb}

module _ (s : List ℕ) (r : Nine) where
  pub decodes : (k : Quotes) → r.source ≡ 2 → k ≡ quotes_of r.kind → bytes_for s r ≡ unescape k (drop 1 (take (r.end - r.start) (drop r.start s)))
  decodes k h e = rw (eq-eqb r.source 2 h, e)

  pub decodes_not : (r.source ≡ 2 → ⊥) → bytes_for s r ≡ []
  decodes_not h = rw (ne_eqb r.source 2 h)

-- an extent that is not empty has a first byte
pub part_long : (s : List ℕ) (a b : ℕ) → a < b → b ≤ length s → 1 ≤ length (take (b - a) (drop a s))
part_long s a b h k =
    let l : length (drop a s) ≡ length s - a = length-drop a s in
    let m : length (take (b - a) (drop a s)) ≡ b - a = length-take-le (b - a) (drop a s) (omega arith) in
    omega arith

-- ---- a part of lent memory

-- a part is there where the places neither go back nor pass the slice
abbrev IsPart : List ℕ → ℕ → ℕ → Option (Bor (List ℕ)) → Type 0
IsPart l a b (Some x) = (x.now ≡ part_of l a b) × (within l a b 0 refusal.out_of_bounds ≡ 0)
IsPart l a b None = (part_of l a b ≡ []) × (within l a b 0 refusal.out_of_bounds ≡ refusal.out_of_bounds)

none_there : (l : List ℕ) (a b : ℕ) → (b < a) ⊎ (length l < b) → IsPart l a b None
none_there l a b (inl h) = rw (lt-leb a b h) (refl, refl)
none_there l a b (inr h) = by_bool (leb a b)
    (λ e. rw (e, lt-leb b (length l) h) (refl, refl))
    (λ e. rw e (refl, refl))

is_part : (l : List ℕ) (a b : ℕ) (o : Option (Bor (List ℕ))) → IsGetRangeResult l a b o → IsPart l a b o
is_part l a b (Some x) h = rw (le-leb a b h.0.0, le-leb b (length l) h.0.1) (h.0.2, refl)
is_part l a b None h = none_there l a b h.0

module _ (s t : List ℕ) (k a b : ℕ) where
  pub lent_source : (o : Option (Bor (List ℕ))) → k ≡ 1 → IsGetRangeResult s a b o → LentAs s t k a b o
  unfolding text_in text_mark
  lent_source (Some x) e h = rw (eq-eqb k 1 e) (is_part s a b (Some x) h)
  lent_source None e h = rw (eq-eqb k 1 e) (is_part s a b None h)

  pub lent_memory : (o : Option (Bor (List ℕ))) → k ≡ 2 → IsGetRangeResult t a b o → LentAs s t k a b o
  unfolding text_in text_mark
  lent_memory (Some x) e h = rw (ne_eqb k 1 (λ z. omega (arith, e, z)), eq-eqb k 2 e) (is_part t a b (Some x) h)
  lent_memory None e h = rw (ne_eqb k 1 (λ z. omega (arith, e, z)), eq-eqb k 2 e) (is_part t a b None h)

  pub lent_nowhere : (k ≡ 1 → ⊥) → (k ≡ 2 → ⊥) → LentAs s t k a b None
  unfolding text_in text_mark
  lent_nowhere e f = rw (ne_eqb k 1 e, ne_eqb k 2 f) (refl, refl)
