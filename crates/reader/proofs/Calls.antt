-- Call after call a reader gives the items of the definition, whatever text memory each call is lent.
use Rattle.std.proofs.Common.{None, Option, Some}
use mathlib.Core.Path.{◌≡◌, refl, sym, ap, ◌∙◌, subst}
use Prim.Native.Nat.{ℕ, zero, suc, ◌≤◌, ◌<◌}
use mathlib.Core.Bool.{Bool, true, false}
use mathlib.Core.List.{List, [], ◌∷◌}
use lib.ListN.{length}
use lib.Dec.{leb, ltb}
use native.Mathlib.Omega.{arith}
use borrow.Author.Tests.{ltb-false, le-ltb}
use denote.Ref.{Bor}
use Rattle.refusal.specs.Refusals as refusal
use Rattle.laws.specs.Lent.{written}
use Rattle.laws.proofs.Choice.{by_bool, impossible}
use Rattle.chars.specs.Utf8.{chars, sequences, first_bad}
use Rattle.items.specs.Items.{Item, depth_after, memory_of, record_of}
use Rattle.items.specs.Whole.{limit, is_mode, in_report, items_in}
use Rattle.lexer.specs.Answers.{Replied, position_at, give_of, next_of}
use Rattle.lexer.specs.Opening.{Opening, opened, refused, opening, if_utf8, open_of}
use Rattle.lexer.specs.Reading.{Turn, turn_from, turn, next_from, next_at, size_of, all_from, all_items}
use Rattle.lexer.specs.Reading as turns
use Rattle.lexer.specs.declared.Spot.{Spot}
use Rattle.lexer.specs.declared.Position.{Position}
use Rattle.lexer.proofs.AllItems.{all_gives, all_ends}
use Rattle.lexer.proofs.Moves as moves
use Rattle.lexer.proofs.Nexts.{next_moved}
use Rattle.lexer.proofs.Opens.{reads_all}
use Rattle.reader.specs.Reading.{What, gives, ends, stops, stepped_by, step_of, Moved, moved, reading, move_by, next_for, nowhere, OpenedAs, start_by, start_for, open_by, open_for}
use Rattle.reader.specs.Calls.{Told, told, call_after_call, due_to, items_for}
use Rattle.reader.specs.declared.Reader.{Reader}

-- ---- one call

call_on : (m : List ℕ) (ms : List (List ℕ)) (r to : Reader) (w : What) (t : List ℕ) → next_for r m ≡ moved w to t
    → call_after_call (m ∷ ms) r ≡ told w t ∷ call_after_call ms to
unfolding call_after_call
call_on m ms r to w t e = ap (λ (x : Moved). told x.what x.text ∷ call_after_call ms x.reader) e

module _ (m : List ℕ) (ms : List (List ℕ)) (depth : ℕ) (i : Item) (is : List Item) where
  due_item : leb (length (memory_of i.text)) (length m) ≡ true
      → due_to (m ∷ ms) depth (i ∷ is) ≡ told (gives (record_of 0 depth i)) (written (memory_of i.text) m) ∷ due_to ms (depth_after i.kind depth) is
  unfolding due_to
  due_item b = rw b

  due_room : leb (length (memory_of i.text)) (length m) ≡ false
      → due_to (m ∷ ms) depth (i ∷ is) ≡ told (stops refusal.too_few 1 (length (memory_of i.text))) m ∷ due_to ms depth (i ∷ is)
  unfolding due_to
  due_room b = rw b

due_end : (m : List ℕ) (ms : List (List ℕ)) (depth : ℕ) → due_to (m ∷ ms) depth [] ≡ told ends m ∷ due_to ms depth []
unfolding due_to
due_end m ms depth = refl

module _ (source : Bor (List ℕ)) (short : length source.now ≤ limit) where
  abbrev s : List ℕ
  s = source.now

  given_by : (p : Position) (t : Turn) (m : List ℕ) → next_at s p.spot ≡ t → next_of s p m ≡ give_of p.depth t m
  unfolding next_of
  given_by p t m e = rw (le-ltb limit (length s) short) (ap (λ (u : Turn). give_of p.depth u m) e)

  next_by : (p : Position) (t : Turn) (m : List ℕ) → next_at s p.spot ≡ t
      → next_for (reading source p) m ≡ move_by source (stepped_by p (give_of p.depth t m))
  unfolding next_for step_of
  next_by p t m e = ap (λ (r : Replied). move_by source (stepped_by p r)) (given_by p t m e)

  -- the position after an item
  abbrev past : Position → Item → Spot → Position
  past p i q = position_at q (depth_after i.kind p.depth)

  next_item : (p : Position) (q : Spot) (i : Item) (m : List ℕ) → next_at s p.spot ≡ turns.gives i q
      → leb (length (memory_of i.text)) (length m) ≡ true
      → next_for (reading source p) m ≡ moved (gives (record_of 0 p.depth i)) (reading source (past p i q)) (written (memory_of i.text) m)
  unfolding give_of
  next_item p q i m e b = next_by p (turns.gives i q) m e ∙ rw b

  next_room : (p : Position) (q : Spot) (i : Item) (m : List ℕ) → next_at s p.spot ≡ turns.gives i q
      → leb (length (memory_of i.text)) (length m) ≡ false
      → next_for (reading source p) m ≡ moved (stops refusal.too_few 1 (length (memory_of i.text))) (reading source p) m
  unfolding give_of
  next_room p q i m e b = next_by p (turns.gives i q) m e ∙ rw b

  next_end : (p : Position) (m : List ℕ) → next_at s p.spot ≡ turns.ends → next_for (reading source p) m ≡ moved ends (reading source p) m
  unfolding give_of
  next_end p m e = next_by p turns.ends m e

  -- ---- all calls from a position on

  -- what is due from a position on, by so many items at most
  abbrev due : List (List ℕ) → ℕ → Position → List Told
  due ms n p = due_to ms p.depth (all_from n s p.spot)

  from_all : (ms : List (List ℕ)) (n : ℕ) (p : Position) → size_of s p.spot < n → call_after_call ms (reading source p) ≡ due ms n p
  unfolding call_after_call due_to
  from_all [] n p h = refl
  from_all (m ∷ ms) zero p h = absurd (omega (arith, h))
  from_all (m ∷ ms) (suc n) p h = go (λ k q l. from_all ms k q l) (next_at s p.spot) refl
    where
      go : ((k : ℕ) (q : Position) → size_of s q.spot < k → call_after_call ms (reading source q) ≡ due ms k q) → (t : Turn) → next_at s p.spot ≡ t
          → call_after_call (m ∷ ms) (reading source p) ≡ due (m ∷ ms) (suc n) p
      go rec (turns.gives i q) e =
          let M : moves.Moved s p.spot i q = next_moved s p.spot q i e in
          by_bool (leb (length (memory_of i.text)) (length m))
          (λ b. call_on m ms (reading source p) (reading source (past p i q)) (gives (record_of 0 p.depth i)) (written (memory_of i.text) m) (next_item p q i m e b)
          ∙ ap (λ (l : List Told). told (gives (record_of 0 p.depth i)) (written (memory_of i.text) m) ∷ l) (rec n (past p i q) (omega (arith, M.smaller, h)))
          ∙ sym (ap (due_to (m ∷ ms) p.depth) (all_gives s n p.spot q i e) ∙ due_item m ms p.depth i (all_from n s q) b))
          (λ b. call_on m ms (reading source p) (reading source p) (stops refusal.too_few 1 (length (memory_of i.text))) m (next_room p q i m e b)
          ∙ ap (λ (l : List Told). told (stops refusal.too_few 1 (length (memory_of i.text))) m ∷ l) (rec (suc n) p h ∙ ap (due_to ms p.depth) (all_gives s n p.spot q i e))
          ∙ sym (ap (due_to (m ∷ ms) p.depth) (all_gives s n p.spot q i e) ∙ due_room m ms p.depth i (all_from n s q) b))
      go rec turns.ends e =
          call_on m ms (reading source p) (reading source p) ends m (next_end p m e)
          ∙ ap (λ (l : List Told). told ends m ∷ l) (rec (suc n) p h ∙ ap (due_to ms p.depth) (all_ends s n p.spot e))
          ∙ sym (ap (due_to (m ∷ ms) p.depth) (all_ends s n p.spot e) ∙ due_end m ms p.depth)

  from_position : (ms : List (List ℕ)) (p : Position) → call_after_call ms (reading source p) ≡ due_to ms p.depth (all_items s p.spot)
  unfolding all_items
  from_position ms p = from_all ms (suc (size_of s p.spot)) p (omega arith)

-- ---- from the opening on

-- a position at which no bracket is open and all items are still to come
record Fresh (s : List ℕ) (mode : ℕ) (skip : Bool) (p : Position) : Type 0 where
  pub short : length s ≤ limit
  pub outside : p.depth ≡ 0
  pub whole : all_items s p.spot ≡ items_in s mode skip

-- opening gives such a one
opened_has : (s : List ℕ) (mode : ℕ) (skip : Bool) (p : Position) → open_of s mode skip ≡ opened p → Fresh s mode skip p
unfolding open_of
opened_has s mode skip p e = by_bool (is_mode mode)
    (λ m. by_bool (ltb limit (length s))
    (λ l. let z : refused refusal.over_long limit ≡ opened p = rw (m, l) at e in impossible cc)
    (λ l. good l (first_bad s) (rw (m, l) at e)))
    (λ m. let z : refused refusal.no_such_mode mode ≡ opened p = rw m at e in impossible cc)
  where
    good : ltb limit (length s) ≡ false → (u : Option ℕ) → if_utf8 u (opening s (in_report mode) skip) ≡ opened p → Fresh s mode skip p
    good l None h =
        let q : p ≡ opening s (in_report mode) skip = cc in record {
          short = ltb-false limit (length s) l;
          outside = ap (λ (x : Position). x.depth) q;
          whole = ap (λ (x : Position). all_items s x.spot) q ∙ reads_all s (in_report mode) skip;
        }
    good l (Some at) h = impossible cc

nothing_there : all_items [] nowhere.spot ≡ []
unfolding all_items all_from next_at next_from turn turn_from chars sequences
nothing_there = refl

module _ (s : List ℕ) (mode : ℕ) (skip : Bool) (source : Bor (List ℕ)) (ms : List (List ℕ)) where
  abbrev ReadsAll : OpenedAs → Type 0
  ReadsAll o = source.now ≡ o.source → call_after_call ms (reading source o.position) ≡ due_to ms 0 (items_for o.stand (items_in s mode skip))

  by_opening : (o : Opening) → open_of s mode skip ≡ o → ReadsAll (open_by s (start_by o))
  by_opening (opened p) e h =
      let k : Fresh s mode skip p = opened_has s mode skip p e in
      from_position source (subst (λ (l : List ℕ). length l ≤ limit) (sym h) k.short) ms p
      ∙ ap (λ (l : List ℕ). due_to ms p.depth (all_items l p.spot)) h
      ∙ ap (due_to ms p.depth) k.whole
      ∙ ap (λ (n : ℕ). due_to ms n (items_in s mode skip)) k.outside
  by_opening (refused number value) e h =
      from_position source (subst (λ (l : List ℕ). length l ≤ limit) (sym h) (omega arith)) ms nowhere
      ∙ ap (λ (l : List ℕ). due_to ms 0 (all_items l nowhere.spot)) h
      ∙ ap (due_to ms 0) nothing_there

  -- Of the reader that opening gives: the items of the whole-text call in order, each by the first memory that holds its text. No memory
  -- is asked to hold more than the one item.
  pub reader_reads_all : ReadsAll (open_for s mode skip)
  unfolding open_for start_for
  reader_reads_all = by_opening (open_of s mode skip) refl
