-- All calls together: from the words that opening wrote on, call after call gives the records of the whole-text call, but that every decoded text
-- starts at 0 of the text memory. No position that the calls made is 27, whatever memory they were lent.
use Rattle.std.proofs.Common.{None, Option}
use Rattle.refusal.specs.Refusals as refusal
use Rattle.laws.specs.Lent.{written}
use Rattle.laws.proofs.Lent.{length-written}
use Rattle.laws.proofs.Choice.{by_bool, if_yes}
use Rattle.chars.specs.Encode.{lay}
use Rattle.chars.specs.Utf8.{first_bad}
use Rattle.items.specs.Meaning.{Text, none, source, decoded}
use Rattle.items.specs.Items.{Item, depth_after, record_words, text_words, memory_of, record_of}
use Rattle.items.specs.Whole.{limit, in_report, items_in}
use Rattle.lexer.specs.Opening.{opening, if_utf8, open_of}
use Rattle.lexer.specs.Reading.{Turn, gives, ends, size_of, next_at, all_from, all_items}
use Rattle.lexer.specs.Answers.{item, finished, refuses, replied, position_at, give_of, next_of}
use Rattle.lexer.specs.ReadOn.{record_each}
use Rattle.lexer.specs.declared.Spot.{Spot}
use Rattle.lexer.specs.declared.Position.{Position}
use Rattle.lexer.proofs.Moves.{Moved}
use Rattle.lexer.proofs.Nexts.{next_moved}
use Rattle.lexer.proofs.AllItems.{all_gives, all_ends}
use Rattle.lexer.proofs.Opens.{reads_all}
use Rattle.reader_exports.specs.Words.{reader_words, listed, is_position, position_in}
use Rattle.reader_exports.specs.Reader.{told, opens, open_left, Memory, memory, Left, left, given, is_room, next_left}
use Rattle.reader_exports_theorems.specs.Calls.{followed, calls}
use Rattle.reader_exports_theorems.proofs.Bounds.{Within, next_within, depth_fits, fits_is, words_back}
use Prim.Native.Nat.{ℕ, zero, suc, ◌≤◌, ◌<◌}
use mathlib.Core.Path.{◌≡◌, refl, sym, ap, ◌∙◌, subst}
use mathlib.Core.Bool.{Bool, true, false}
use mathlib.Core.List.{List, [], ◌∷◌, ◌++◌}
use lib.ListN.{length, take, drop_of_length-le}
use lib.Dec.{leb}
use native.Mathlib.Omega.{arith}
use borrow.Author.Tests.{le-leb, lt-ltb, le-ltb, eq-eqb}

-- ---- a record in lent words

record_length : (d : ℕ) (i : Item) → length (record_of 0 d i) ≡ record_words
record_length d i = go i.text
  where
    go : (t : Text) → length ((i.kind ∷ i.detail ∷ i.start ∷ i.end ∷ i.place.from ∷ i.place.to ∷ text_words 0 t) ++ (d ∷ [])) ≡ record_words
    go none = refl
    go (source a b) = refl
    go (decoded bs) = refl

record_taken : (d : ℕ) (i : Item) (old : List ℕ) → take record_words (written (record_of 0 d i) old) ≡ record_of 0 d i
record_taken d i old = go i.text
  where
    go : (t : Text)
        → take record_words (written ((i.kind ∷ i.detail ∷ i.start ∷ i.end ∷ i.place.from ∷ i.place.to ∷ text_words 0 t) ++ (d ∷ [])) old)
        ≡ (i.kind ∷ i.detail ∷ i.start ∷ i.end ∷ i.place.from ∷ i.place.to ∷ text_words 0 t) ++ (d ∷ [])
    go none = refl
    go (source a b) = refl
    go (decoded bs) = refl

told-length : (a b : ℕ) (values : List ℕ) → 2 ≤ length values → length (told a b values) ≡ length values
unfolding lay
told-length a b values h = rw (le-ltb (length values) 2 h) (length-written (a ∷ b ∷ []) values h)

-- ---- one call

module _ (s : List ℕ) (short : length s ≤ limit) where
  -- words that hold a position of the source
  pub record HoldsPosition (p : Position) (w : List ℕ) : Type 0 where
    pub words : w ≡ listed p
    pub within : Within s p.spot
    pub depth : p.depth ≤ limit

  -- no such position is 27
  pub never_27 : (p : Position) (w : List ℕ) → HoldsPosition p w → is_position w ≡ true
  never_27 p w h =
      ap is_position h.words
      ∙ fits_is p (omega (arith, h.within.0, h.within.1)) (omega (arith, h.within.1)) h.depth

  module _ (p : Position) (m : Memory) (h : HoldsPosition p m.words) where
    abbrev pub room : Bool
    room = is_room (length m.item) (length m.values)

    pub call_at : room ≡ true → next_left s m ≡ given m (next_of s p m.text)
    unfolding next_left
    call_at b =
        sym (if_yes room _ _ b
        (if_yes (is_position m.words) _ _ (never_27 p m.words h)
        (ap (λ (x : Position). given m (next_of s x m.text)) (sym (ap position_in h.words ∙ words_back p)))))

    no_room : room ≡ false → (next_left s m).memory.words ≡ m.words
    unfolding next_left
    no_room b = rw b

    reply-ends : next_at s p.spot ≡ ends → next_of s p m.text ≡ replied finished m.text
    unfolding next_of give_of
    reply-ends e = rw (le-ltb limit (length s) short) (ap (λ (t : Turn). give_of p.depth t m.text) e)

    module _ (i : Item) (q : Spot) (e : next_at s p.spot ≡ gives i q) where
      abbrev pub to : Position
      to = position_at q (depth_after i.kind p.depth)

      abbrev pub then : Memory
      then =
          memory (written (listed to) m.words) (written (memory_of i.text) m.text) (written (record_of 0 p.depth i) m.item)
          (told 0 0 m.values)

      abbrev pub enough : Bool
      enough = leb (length (memory_of i.text)) (length m.text)

      reply-gives : enough ≡ true → next_of s p m.text ≡ replied (item (record_of 0 p.depth i) to) (written (memory_of i.text) m.text)
      unfolding next_of give_of
      reply-gives b = rw (le-ltb limit (length s) short) (ap (λ (t : Turn). give_of p.depth t m.text) e ∙ rw b)

      pub reply_stays : enough ≡ false → next_of s p m.text ≡ replied (refuses refusal.too_few 1 (length (memory_of i.text))) m.text
      unfolding next_of give_of
      reply_stays b = rw (le-ltb limit (length s) short) (ap (λ (t : Turn). give_of p.depth t m.text) e ∙ rw b)

      pub call_gives : room ≡ true → enough ≡ true → next_left s m ≡ left refusal.item then
      call_gives b f = call_at b ∙ ap (given m) (reply-gives f)

      pub held_then : HoldsPosition to (written (listed to) m.words)
      held_then = record {
        words = ap (written (listed to)) h.words;
        within = next_within s p.spot q i h.within e;
        depth = depth_fits i.kind p.depth h.depth;
      }

    pub call_ends : room ≡ true → next_at s p.spot ≡ ends → next_left s m ≡ left refusal.finished (memory m.words m.text m.item (told 0 0 m.values))
    call_ends b e = call_at b ∙ ap (given m) (reply-ends e)

    same : {w : List ℕ} → w ≡ m.words → (q : Position) × HoldsPosition q w
    same e = (p, record { words = e ∙ h.words; within = h.within; depth = h.depth })

    -- whatever memory a call is lent, it leaves the words of a position of the source
    pub held_on : (q : Position) × HoldsPosition q (next_left s m).memory.words
    held_on = by_bool room (λ b. go b (next_at s p.spot) refl) (λ b. same (no_room b))
      where
        go : room ≡ true → (t : Turn) → next_at s p.spot ≡ t → (q : Position) × HoldsPosition q (next_left s m).memory.words
        go b ends e = same (ap (λ (l : Left). l.memory.words) (call_ends b e))
        go b (gives i q) e = by_bool (enough i q e)
            (λ f. (to i q e, subst (HoldsPosition (to i q e)) (sym (ap (λ (l : Left). l.memory.words) (call_gives i q e b f))) (held_then i q e)))
            (λ f. same (ap (λ (l : Left). l.memory.words) (call_at b ∙ ap (given m) (reply_stays i q e f))))

  -- memory that holds a position, with room for an item's text, its record and the values
  pub record Ready (p : Position) (m : Memory) : Type 0 where
    pub held : HoldsPosition p m.words
    pub text : length s ≤ length m.text
    pub item : record_words ≤ length m.item
    pub values : 2 ≤ length m.values

  module _ (p : Position) (m : Memory) (r : Ready p m) where
    roomy : is_room (length m.item) (length m.values) ≡ true
    roomy = rw (le-leb record_words (length m.item) r.item, le-leb 2 (length m.values) r.values)

    module _ (i : Item) (q : Spot) (e : next_at s p.spot ≡ gives i q) where
      fits : length (memory_of i.text) ≤ length m.text
      fits = let k : Moved s p.spot i q = next_moved s p.spot q i e in omega (arith, k.memory, k.inside, r.text)

      ready_gives : next_left s m ≡ left refusal.item (then p m r.held i q e)
      ready_gives = call_gives p m r.held i q e roomy (le-leb (length (memory_of i.text)) (length m.text) fits)

      ready_then : Ready (to p m r.held i q e) (then p m r.held i q e)
      ready_then = record {
        held = held_then p m r.held i q e;
        text = omega (arith, length-written (memory_of i.text) m.text fits, r.text);
        item = omega (arith, length-written (record_of 0 p.depth i) m.item (omega (arith, record_length p.depth i, r.item)), r.item);
        values = omega (arith, told-length 0 0 m.values r.values, r.values);
      }

  -- ---- all of them

  from_calls : (n : ℕ) (p : Position) (m : Memory) → Ready p m → calls n s m ≡ record_each p.depth (all_from n s p.spot)
  unfolding calls all_from record_each
  from_calls zero p m r = refl
  from_calls (suc n) p m r = go (λ q k x. from_calls n q k x) (next_at s p.spot) refl
    where
      go : ((q : Position) (k : Memory) → Ready q k → calls n s k ≡ record_each q.depth (all_from n s q.spot)) → (t : Turn) → next_at s p.spot ≡ t
          → calls (suc n) s m ≡ record_each p.depth (all_from (suc n) s p.spot)
      go rec (gives i q) e =
          ap (λ (l : Left). followed l (λ k. calls n s k)) (ready_gives p m r i q e)
          ∙ ap (λ (l : List ℕ). l ∷ calls n s (then p m r.held i q e)) (record_taken p.depth i m.item)
          ∙ ap (λ (l : List (List ℕ)). record_of 0 p.depth i ∷ l) (rec (to p m r.held i q e) (then p m r.held i q e) (ready_then p m r i q e))
          ∙ sym (ap (record_each p.depth) (all_gives s n p.spot q i e))
      go rec ends e =
          ap (λ (l : Left). followed l (λ k. calls n s k)) (call_ends p m r.held (roomy p m r) e)
          ∙ sym (ap (record_each p.depth) (all_ends s n p.spot e))

  -- a source that opens, on any words: they hold its start
  module _ (mode : ℕ) (skip : Bool) (words first : List ℕ) (mode_is : mode < 2) (good : first_bad s ≡ None) (seven : length words ≡ reader_words) where
    abbrev start : Position
    start = opening s (in_report mode) skip

    open_words_lem : (open_left s mode skip words first).words ≡ listed start
    unfolding open_left open_of
    open_words_lem =
        let all : length words ≤ reader_words = omega (arith, seven) in
        rw (eq-eqb (length words) reader_words seven, lt-ltb mode 2 mode_is, le-ltb limit (length s) short)
        (ap (λ (u : Option ℕ). (opens (if_utf8 u start) words first).words) good ∙ rw (drop_of_length-le words all))

    pub open_held : HoldsPosition start (open_left s mode skip words first).words
    open_held = record { words = open_words_lem; within = (omega arith, omega arith); depth = omega arith }

    -- and it is read to its end with memory for one item
    pub calls_read_all : (text i values : List ℕ) → length s ≤ length text → record_words ≤ length i → 2 ≤ length values
        → calls (suc (size_of s start.spot)) s (memory (open_left s mode skip words first).words text i values) ≡ record_each 0 (items_in s mode skip)
    unfolding all_items
    calls_read_all text i values ample one two =
        from_calls (suc (size_of s start.spot)) start (memory (open_left s mode skip words first).words text i values)
        (record { held = open_held; text = ample; item = one; values = two })
        ∙ ap (record_each 0) (reads_all s (in_report mode) skip)
