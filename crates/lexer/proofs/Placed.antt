-- The text call on a record that the whole-text call wrote marks 0 and gives the item's text.
use Rattle.laws.specs.Lent.{written}
use Rattle.chars.specs.Utf8.{chars}
use Rattle.items.specs.Meaning.{Text, none, source, decoded}
use Rattle.items.specs.Items.{Item, items, text_words, memory_of, texts, byte_count}
use Rattle.items.specs.Whole.{in_report, items_in}
use Rattle.items.proofs.Every.{Every}
use Rattle.items.proofs.Order.{items_placed}
use Rattle.items.proofs.Order as order
use Rattle.items.proofs.Meanings.{Inside}
use Rattle.items.proofs.Skipped.{kept_every}
use Rattle.lexer.specs.Text.{text_in, text_mark}
use Rattle.lexer.proofs.CharacterAt.{room}
use Rattle.lexer.proofs.Memory.{texts_join}
use Prim.Native.Nat.{ℕ, ◌+◌, ◌-◌, ◌≤◌}
use mathlib.Core.Path.{◌≡◌, refl, sym, ap, ◌∙◌, subst}
use mathlib.Core.Bool.{Bool}
use mathlib.Core.List.{List, [], ◌∷◌, ◌++◌, append_assoc}
use lib.ListN.{length, get_or, take, drop, length-append}
use lib.Seq.{take_at, drop_at}
use native.Mathlib.Omega.{arith}
use borrow.Author.Tests.{le-leb}

-- the text of an item, and whether it has one
abbrev pub item_text : List ℕ → Text → List ℕ
item_text s none = []
item_text s (source a b) = take (b - a) (drop a s)
item_text s (decoded bs) = bs

abbrev pub HasText : Text → Type 0
HasText none = ⊥
HasText (source a b) = Unit {0}
HasText (decoded bs) = Unit {0}

-- the text call on a record's three words for its text
abbrev pub mark_of : List ℕ → List ℕ → List ℕ → ℕ
mark_of s text words = text_mark s text (get_or words 0 0) (get_or words 1 0) (get_or words 2 0)

abbrev pub text_of : List ℕ → List ℕ → List ℕ → List ℕ
text_of s text words = text_in s text (get_or words 0 0) (get_or words 1 0) (get_or words 2 0)

in_source : (s t : List ℕ) (a b : ℕ) → a ≤ b → b ≤ length s → (text_mark s t 1 a b ≡ 0) × (text_in s t 1 a b ≡ take (b - a) (drop a s))
unfolding text_mark text_in
in_source s t a b h k = rw (le-leb a b h, le-leb b (length s) k) (refl, refl)

in_memory : (s t : List ℕ) (a b : ℕ) → a ≤ b → b ≤ length t → (text_mark s t 2 a b ≡ 0) × (text_in s t 2 a b ≡ take (b - a) (drop a t))
unfolding text_mark text_in
in_memory s t a b h k = rw (le-leb a b h, le-leb b (length t) k) (refl, refl)

-- what stands between two parts
middle : (x y z : List ℕ) (n m : ℕ) → n ≡ length x → m ≡ length y → take m (drop n (x ++ (y ++ z))) ≡ y
middle x y z n m h k = rw (drop_at x (y ++ z) n (sym h)) (take_at y z m (sym k))

every_at : (P : Item → Type 0) (a : List Item) (i : Item) (b : List Item) → Every P (a ++ (i ∷ b)) → P i
every_at P [] i b h = h.0
every_at P (x ∷ a) i b h = every_at P a i b h.1

module _ (s old : List ℕ) (mode : ℕ) (skip : Bool) (a : List Item) (i : Item) (b : List Item) (split : items_in s mode skip ≡ a ++ (i ∷ b)) where
  -- the text memory after the call, and where it was free before the item
  abbrev pub memory : List ℕ
  memory = written (texts (items_in s mode skip)) old

  abbrev pub free : ℕ
  free = length (texts a)

  memory_is : (bs : List ℕ) → memory_of i.text ≡ bs → memory ≡ texts a ++ (bs ++ (texts b ++ drop (length (texts (items_in s mode skip))) old))
  unfolding texts
  memory_is bs e =
      let rest : List ℕ = drop (length (texts (items_in s mode skip))) old in
      ap (λ (l : List ℕ). l ++ rest) (ap texts split ∙ texts_join a (i ∷ b) ∙ ap (λ (l : List ℕ). texts a ++ (l ++ texts b)) e)
      ∙ append_assoc (texts a) (bs ++ texts b) rest
      ∙ ap (λ (l : List ℕ). texts a ++ l) (append_assoc bs (texts b) rest)

  placed : order.Placed (byte_count (chars s)) i
  placed =
      every_at (order.Placed (byte_count (chars s))) a i b
      (subst (Every (order.Placed (byte_count (chars s)))) split
      (kept_every (order.Placed (byte_count (chars s))) skip (items (in_report mode) (chars s)) (items_placed (in_report mode) (chars s))))

  text_there : (t : Text) → i.text ≡ t → HasText t → (mark_of s memory (text_words free t) ≡ 0) × (text_of s memory (text_words free t) ≡ item_text s t)
  text_there none e h = absurd h
  text_there (source x y) e h =
      let p : Inside i.start i.end (source x y) = subst (Inside i.start i.end) e placed.text in
      in_source s memory x y (omega (arith, p)) (omega (arith, p, placed.ends, room s (chars s) 0 (omega arith) refl))
  text_there (decoded bs) e h =
      let m : memory ≡ texts a ++ (bs ++ (texts b ++ drop (length (texts (items_in s mode skip))) old)) = memory_is bs (ap memory_of e) in
      let long : free + length bs ≤ length memory =
      omega (
        arith,
        ap length m,
        length-append (texts a) (bs ++ (texts b ++ drop (length (texts (items_in s mode skip))) old)),
        length-append bs (texts b ++ drop (length (texts (items_in s mode skip))) old),
      ) in
      let k : (free + length bs) - free ≡ length bs = omega arith in
      let r = in_memory s memory free (free + length bs) (omega arith) long in (
        r.0,
        r.1 ∙ ap (λ (l : List ℕ). take ((free + length bs) - free) (drop free l)) m
            ∙ middle (texts a) bs (texts b ++ drop (length (texts (items_in s mode skip))) old) free ((free + length bs) - free) refl k,
      )

  -- the mark is 0, and the text is the item's
  pub never_27 : HasText i.text → mark_of s memory (text_words free i.text) ≡ 0
  never_27 h = (text_there i.text refl h).0

  pub text_right_holds : HasText i.text → text_of s memory (text_words free i.text) ≡ item_text s i.text
  text_right_holds h = (text_there i.text refl h).1
