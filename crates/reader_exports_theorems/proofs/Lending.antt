-- Call after call the calls for C give the items of the definition, whatever memory each call is lent: one with 22 leaves the position, and an item
-- moves it past that item.
use Rattle.std.proofs.Common.{None, Option, Some}
use Prim.Native.Nat.{ℕ, zero, suc, ◌≤◌, ◌<◌}
use mathlib.Core.Path.{◌≡◌, refl, sym, ap, ◌∙◌}
use mathlib.Core.Bool.{Bool, true, false}
use mathlib.Core.List.{List, [], ◌∷◌}
use lib.ListN.{length}
use lib.Dec.{eqb, leb, ltb}
use native.Mathlib.Omega.{arith}
use borrow.Author.Tests.{eqb-true, ltb-true, ltb-false}
use Rattle.refusal.specs.Refusals as refusal
use Rattle.laws.specs.Lent.{written}
use Rattle.laws.proofs.Choice.{by_bool}
use Rattle.chars.specs.Utf8.{first_bad}
use Rattle.items.specs.Items.{Item, depth_after, memory_of, record_of}
use Rattle.items.specs.Whole.{limit, is_mode, in_report, items_in}
use Rattle.lexer.specs.Opening.{opening, if_utf8, open_of}
use Rattle.lexer.specs.Reading.{Turn, gives, ends, size_of, next_at, all_from, all_items}
use Rattle.lexer.specs.declared.Position.{Position}
use Rattle.lexer.proofs.Moves.{Moved}
use Rattle.lexer.proofs.Nexts.{next_moved}
use Rattle.lexer.proofs.AllItems.{all_gives, all_ends}
use Rattle.lexer.proofs.Opens.{reads_all}
use Rattle.reader_exports.specs.Words.{reader_words, listed}
use Rattle.reader_exports.specs.Reader.{told, opens, open_left, Memory, memory, Left, left, given, stays, is_room, next_left}
use Rattle.reader_exports_theorems.specs.Lending.{Lending, Answered, answered, call_after_call, due_to}
use Rattle.reader_exports_theorems.proofs.Calls.{HoldsPosition, to, then, call_at, call_ends, call_gives, reply_stays, held_then, open_held}

-- ---- what is due next

-- a record and two values fit, or not
abbrev room_of : Lending → Bool
room_of l = is_room (length l.item) (length l.values)

module _ (l : Lending) (ls : List Lending) (depth : ℕ) where
  -- 22 with so much needed
  abbrev refused_with : ℕ → Answered
  refused_with n = answered refusal.too_few l.text l.item (told 1 n l.values)

  due_roomless : (is : List Item) → room_of l ≡ false → due_to (l ∷ ls) depth is ≡ refused_with 0 ∷ due_to ls depth is
  unfolding due_to
  due_roomless [] b = rw b
  due_roomless (i ∷ is) b = rw b

  due_end : room_of l ≡ true → due_to (l ∷ ls) depth [] ≡ answered refusal.finished l.text l.item (told 0 0 l.values) ∷ due_to ls depth []
  unfolding due_to
  due_end b = rw b

  module _ (i : Item) (is : List Item) (b : room_of l ≡ true) where
    abbrev bytes : List ℕ
    bytes = memory_of i.text

    abbrev item_given : Answered
    item_given = answered refusal.item (written bytes l.text) (written (record_of 0 depth i) l.item) (told 0 0 l.values)

    due_item : leb (length bytes) (length l.text) ≡ true → due_to (l ∷ ls) depth (i ∷ is) ≡ item_given ∷ due_to ls (depth_after i.kind depth) is
    unfolding due_to
    due_item f = rw (b, f)

    due_again : leb (length bytes) (length l.text) ≡ false → due_to (l ∷ ls) depth (i ∷ is) ≡ refused_with (length bytes) ∷ due_to ls depth (i ∷ is)
    unfolding due_to
    due_again f = rw (b, f)

-- ---- from a position on

module _ (s : List ℕ) (short : length s ≤ limit) where
  abbrev with : List ℕ → Lending → Memory
  with w l = memory w l.text l.item l.values

  call_on : (w : List ℕ) (l : Lending) (ls : List Lending) (n : ℕ) (m : Memory) → next_left s (with w l) ≡ left n m
      → call_after_call s w (l ∷ ls) ≡ answered n m.text m.item m.values ∷ call_after_call s m.words ls
  unfolding call_after_call
  call_on w l ls n m e =
      ap (λ (r : Left). answered r.answer r.memory.text r.memory.item r.memory.values ∷ call_after_call s r.memory.words ls) e

  roomless : (w : List ℕ) (l : Lending) → room_of l ≡ false → next_left s (with w l) ≡ stays (with w l) refusal.too_few 1 0
  unfolding next_left
  roomless w l b = rw b

  -- what is due from a position on, by so many items at most
  abbrev due : List Lending → ℕ → Position → List Answered
  due ls n p = due_to ls p.depth (all_from n s p.spot)

  abbrev Gives : List Lending → Type 0
  Gives ls = (n : ℕ) (p : Position) (w : List ℕ) → HoldsPosition s short p w → size_of s p.spot < n → call_after_call s w ls ≡ due ls n p

  -- one call, with what holds of the calls after it
  module _ (l : Lending) (ls : List Lending) (rec : Gives ls) (n : ℕ) (p : Position) (w : List ℕ) (h : HoldsPosition s short p w)
      (k : size_of s p.spot < suc n) where
    refuses : (need : ℕ) → next_left s (with w l) ≡ stays (with w l) refusal.too_few 1 need
        → due_to (l ∷ ls) p.depth (all_from (suc n) s p.spot) ≡ refused_with l ls p.depth need ∷ due ls (suc n) p
        → call_after_call s w (l ∷ ls) ≡ due (l ∷ ls) (suc n) p
    refuses need e d =
        call_on w l ls refusal.too_few (with w (record { text = l.text; item = l.item; values = told 1 need l.values })) e
        ∙ ap (λ (later : List Answered). refused_with l ls p.depth need ∷ later) (rec (suc n) p w h k)
        ∙ sym d

    by_turn : room_of l ≡ true → (t : Turn) → next_at s p.spot ≡ t → call_after_call s w (l ∷ ls) ≡ due (l ∷ ls) (suc n) p
    by_turn b ends e =
        call_on w l ls refusal.finished _ (call_ends s short p (with w l) h b e)
        ∙ ap (λ (later : List Answered). answered refusal.finished l.text l.item (told 0 0 l.values) ∷ later)
        (rec (suc n) p w h k ∙ ap (due_to ls p.depth) (all_ends s n p.spot e))
        ∙ sym (ap (due_to (l ∷ ls) p.depth) (all_ends s n p.spot e) ∙ due_end l ls p.depth b)
    by_turn b (gives i q) e =
        let M : Moved s p.spot i q = next_moved s p.spot q i e in
        let all : all_from (suc n) s p.spot ≡ i ∷ all_from n s q = all_gives s n p.spot q i e in
        let past : Position = to s short p (with w l) h i q e in
        by_bool (leb (length (memory_of i.text)) (length l.text))
        (λ f. call_on w l ls refusal.item (then s short p (with w l) h i q e) (call_gives s short p (with w l) h i q e b f)
        ∙ ap (λ (later : List Answered). item_given l ls p.depth i (all_from n s q) b ∷ later)
        (rec n past (written (listed past) w) (held_then s short p (with w l) h i q e) (omega (arith, M.smaller)))
        ∙ sym (ap (due_to (l ∷ ls) p.depth) all ∙ due_item l ls p.depth i (all_from n s q) b f))
        (λ f. refuses (length (memory_of i.text))
        (call_at s short p (with w l) h b ∙ ap (given (with w l)) (reply_stays s short p (with w l) h i q e f))
        (ap (due_to (l ∷ ls) p.depth) all ∙ due_again l ls p.depth i (all_from n s q) b f
        ∙ ap (λ (is : List Item). refused_with l ls p.depth (length (memory_of i.text)) ∷ due_to ls p.depth is) (sym all)))

    one_call : call_after_call s w (l ∷ ls) ≡ due (l ∷ ls) (suc n) p
    one_call = by_bool (room_of l) (λ b. by_turn b (next_at s p.spot) refl)
        (λ b. refuses 0 (roomless w l b) (due_roomless l ls p.depth (all_from (suc n) s p.spot) b))

  from_position : (ls : List Lending) → Gives ls
  unfolding call_after_call due_to
  from_position [] n p w h k = refl
  from_position (l ∷ ls) zero p w h k = absurd (omega arith)
  from_position (l ∷ ls) (suc n) p w h k = one_call l ls (from_position ls) n p w h k

-- ---- from the opening on

-- what a source has that was opened
record Open (s : List ℕ) (mode : ℕ) (words : List ℕ) : Type 0 where
  seven : length words ≡ reader_words
  mode_is : mode < 2
  short : length s ≤ limit
  good : first_bad s ≡ None

opened : (s : List ℕ) (mode : ℕ) (skip : Bool) (words values : List ℕ) → (open_left s mode skip words values).answer ≡ refusal.served → Open s mode words
unfolding open_left open_of
opened s mode skip words values e = by_bool (eqb (length words) reader_words)
    (λ a. by_bool (is_mode mode)
    (λ m. by_bool (ltb limit (length s))
    (λ l. absurd (let z : ◌≡◌ {A = ℕ} refusal.over_long refusal.served = rw (a, m, l) at e in omega arith))
    (λ l. good a m l (first_bad s) refl (rw (a, m, l) at e)))
    (λ m. absurd (let z : ◌≡◌ {A = ℕ} refusal.no_such_mode refusal.served = rw (a, m) at e in omega arith)))
    (λ a. absurd (let z : ◌≡◌ {A = ℕ} refusal.out_of_bounds refusal.served = rw a at e in omega arith))
  where
    good : eqb (length words) reader_words ≡ true → is_mode mode ≡ true → ltb limit (length s) ≡ false → (u : Option ℕ) → first_bad s ≡ u
        → (opens (if_utf8 u (opening s (in_report mode) skip)) words values).answer ≡ refusal.served → Open s mode words
    good a m l None g h =
        record { seven = eqb-true (length words) reader_words a; mode_is = ltb-true mode 2 m; short = ltb-false limit (length s) l; good = g }
    good a m l (Some at) g h = absurd (let z : ◌≡◌ {A = ℕ} refusal.not_utf8 refusal.served = h in omega arith)

-- WHERE OPENING ANSWERS `served`: from the words that it wrote on, call after call, each lent any memory of any length, gives the items of the
-- whole-text call in order, each by the first call that has room for it, with its record and its decoded text from 0 on; before that 22, and
-- after the last the end.
pub calls_read_all_lending : (s : List ℕ) (mode : ℕ) (skip : Bool) (words values : List ℕ) → (open_left s mode skip words values).answer ≡ refusal.served
    → (ls : List Lending) → call_after_call s (open_left s mode skip words values).words ls ≡ due_to ls 0 (items_in s mode skip)
unfolding all_items
calls_read_all_lending s mode skip words values e ls =
    let o : Open s mode words = opened s mode skip words values e in
    let start : Position = opening s (in_report mode) skip in
    from_position s o.short ls (suc (size_of s start.spot)) start (open_left s mode skip words values).words
    (open_held s o.short mode skip words values o.mode_is o.good o.seven) (omega arith)
    ∙ ap (due_to ls 0) (reads_all s (in_report mode) skip)
