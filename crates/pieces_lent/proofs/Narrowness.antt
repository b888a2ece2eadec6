-- Every state that the calls produced has words that are a code: its stage's numbers and those of a character begun stay narrow, whatever
-- bytes come. So the lent calls never refuse what they themselves left.
use Rattle.std.proofs.Common.{None, Option, Some}
use Rattle.refusal.specs.Refusals as refusal
use Rattle.chars.specs.declared.Begun.{Begun}
use Rattle.chars.specs.declared.Step.{Step}
use Rattle.chars.specs.declared.Step.TheVariants as steps
use Rattle.chars.specs.Blank.{is_blank}
use Rattle.chars.specs.Encode.{width}
use Rattle.chars.specs.Utf8.{ascii, first}
use Rattle.chars.specs.Machine.{step, told}
use Rattle.laws.specs.Quoted.{within, code}
use Rattle.laws.proofs.Choice.{if_is, if_all, and_true, within_is}
use Rattle.items.specs.declared.Phase.TheVariants.{AfterHash}
use Rattle.items.specs.declared.Outcome.{Outcome}
use Rattle.items.specs.declared.Next.{Next}
use Rattle.items.specs.declared.Next.TheVariants.{Eat, Stop}
use Rattle.items.specs.Items.{Place, Item, range_after, extent_items}
use Rattle.items.specs.Kinds as kind
use Rattle.items.specs.Machine.{step_of, finish_of}
use Rattle.items.specs.Whole.{limit, is_mode}
use Rattle.pieces.specs.declared.Stage.{Stage}
use Rattle.pieces.specs.declared.Stage.TheVariants.{Opening, Pound, FirstLine, Idle, Busy, Waiting, Stopped}
use Rattle.pieces.specs.declared.State.{State}
use Rattle.pieces.specs.Bounds.{is_in_bounds}
use Rattle.pieces.specs.Expected.{longest}
use Rattle.items.proofs.Depth.{depth_within}
use Rattle.pieces.specs.Calls.{Turn, on, off, Reply, reply, finished, deeper, last_of, item_so_far, stopped, begin, beyond, gives, report, ends, on_next, on_stage, partly, turn_of}
use Rattle.pieces.specs.Calls.{after, feed_of, piece_stage, piece_of, declared, replied, unless_cut, end_unless_stopped, end_of, fresh, open_of}
use Rattle.pieces.specs.Produced.{Produced, opened, pieced, ended}
use Rattle.pieces_lent.proofs.SmallNumbers.{Small, Slight, Eaten, slight_step, slight_first}
use Prim.Native.Nat.{ℕ, ◌+◌, ◌-◌, ◌*◌, ◌^◌, ◌%◌, ◌<◌}
use mathlib.Core.Path.{◌≡◌}
use mathlib.Core.Bool.{Bool, true, ◌&&◌}
use mathlib.Core.List.{List, [], ◌∷◌}
use lib.Dec.{eqb, leb, ltb}
use native.Mathlib.Omega.{arith}
use borrow.Author.Tests.{leb-true, ltb-true}

-- ---- a character begun

pub record Slender (t : Begun) : Type 0 where
  pub need : t.need < 2 ^ 8
  pub low : t.low < 2 ^ 8
  pub high : t.high < 2 ^ 8
  pub code : t.code < 2 ^ 32

abbrev Steps : Step → Type 0
Steps (steps.More u) = Slender u
Steps (steps.Char c) = Small c
Steps steps.Bad = Unit {0}

-- so many bytes to come, of such a range, after such bits
begins : (n lo hi c : ℕ) → n < 2 ^ 8 → lo < 2 ^ 8 → hi < 2 ^ 8 → c < 2 ^ 32 → Slender (record { need = n; low = lo; high = hi; code = c })
begins n lo hi c h l g k = record { need = h; low = l; high = g; code = k }

first_steps : (b : ℕ) → Steps (first b)
unfolding first
first_steps b =
    let here : (lo hi n l h k : ℕ) → within lo hi b ≡ true → n < 2 ^ 8 → l < 2 ^ 8 → h < 2 ^ 8 → hi < 2 ^ 8 → Slender (record { need = n; low = l; high = h; code = b - k }) =
    λ lo hi n l h k e p q r s. let z = within_is lo hi b e in begins n l h (b - k) p q r (omega arith) in
    if_is Steps (ascii b) (λ e. let z = within_is 0x00 0x7F b e in omega arith) (λ _.
    if_is Steps (within 0xC2 0xDF b) (λ e. here 0xC2 0xDF 1 0x80 0xBF 0xC0 e (omega arith) (omega arith) (omega arith) (omega arith)) (λ _.
    if_is Steps (within 0xE0 0xE0 b) (λ e. here 0xE0 0xE0 2 0xA0 0xBF 0xE0 e (omega arith) (omega arith) (omega arith) (omega arith)) (λ _.
    if_is Steps (within 0xE1 0xEC b) (λ e. here 0xE1 0xEC 2 0x80 0xBF 0xE0 e (omega arith) (omega arith) (omega arith) (omega arith)) (λ _.
    if_is Steps (within 0xED 0xED b) (λ e. here 0xED 0xED 2 0x80 0x9F 0xE0 e (omega arith) (omega arith) (omega arith) (omega arith)) (λ _.
    if_is Steps (within 0xEE 0xEF b) (λ e. here 0xEE 0xEF 2 0x80 0xBF 0xE0 e (omega arith) (omega arith) (omega arith) (omega arith)) (λ _.
    if_is Steps (within 0xF0 0xF0 b) (λ e. here 0xF0 0xF0 3 0x90 0xBF 0xF0 e (omega arith) (omega arith) (omega arith) (omega arith)) (λ _.
    if_is Steps (within 0xF1 0xF3 b) (λ e. here 0xF1 0xF3 3 0x80 0xBF 0xF0 e (omega arith) (omega arith) (omega arith) (omega arith)) (λ _.
    if_is Steps (within 0xF4 0xF4 b) (λ e. here 0xF4 0xF4 3 0x80 0x8F 0xF0 e (omega arith) (omega arith) (omega arith) (omega arith)) (λ _. tt)))))))))

step_steps : (t : Begun) (b : ℕ) → Slender t → Steps (step t b)
unfolding step
step_steps t b h =
    if_all Steps (eqb t.need 0) (first_steps b)
    (if_is Steps (within t.low t.high b && leb t.code 0x7FFF)
    (λ e. let k = leb-true t.code 0x7FFF (and_true (within t.low t.high b) (leb t.code 0x7FFF) e).1 in
    let z : t.code * 64 + b % 64 < 2 ^ 32 = omega arith in
    if_all Steps (eqb t.need 1) z (begins (t.need - 1) 0x80 0xBF (t.code * 64 + b % 64) (omega (arith, h.need)) (omega arith) (omega arith) z))
    (λ _. tt))

-- ---- states

abbrev pub Ahead : Option ℕ → Type 0
Ahead None = Unit {0}
Ahead (Some c) = Small c

abbrev pub Staged : Stage → Type 0
Staged Opening = Unit {0}
Staged Pound = Unit {0}
Staged FirstLine = Unit {0}
Staged Idle = Unit {0}
Staged (Busy st p) = Slight p
Staged (Waiting st b) = Ahead b
Staged (Stopped n p) = Small n

pub record Lean (s : State) : Type 0 where
  pub mode : Small s.marks.mode
  pub begun : Slender s.marks.part.state
  pub stage : Staged s.marks.stage
  pub depth : Small s.marks.depth

-- between two characters
abbrev none : Slender (record { need = 0; low = 0; high = 0; code = 0 })
none = record { need = omega arith; low = omega arith; high = omega arith; code = omega arith }

abbrev LeanTurn : Turn → Type 0
LeanTurn (on s) = Lean s
LeanTurn (off s w) = Lean s

abbrev LeanReply : Reply → Type 0
LeanReply r = Lean r.state

-- an item of a kind was given
lean_deeper : (k : ℕ) (s : State) → Lean s → Lean (deeper k s)
lean_deeper k s h = record { mode = h.mode; begun = h.begun; stage = h.stage; depth = omega (arith, depth_within k s.marks.depth (omega (arith, h.depth))) }

-- ---- one character

module _ (s : State) (h : Lean s) where
  lean_begin : (last : Place) (c : ℕ) → Lean (begin s last c)
  lean_begin last c =
      if_all Lean (is_blank c)
      (record { mode = h.mode; begun = none; stage = tt; depth = h.depth })
      (record { mode = h.mode; begun = none; stage = slight_first c; depth = h.depth })

  lean_beyond : (last : Place) (b : Option ℕ) → Lean (beyond s last b)
  lean_beyond last (Some c) = lean_begin last c
  lean_beyond last None = record { mode = h.mode; begun = none; stage = tt; depth = h.depth }

module _ (s : State) (h : Lean s) where
  lean_gives : (st : ℕ) (last : Place) (b : Option ℕ) → Ahead b → (is : List Item) → LeanTurn (gives s st last b is)
  lean_gives st last b a [] = lean_beyond s h last b
  lean_gives st last b a (i ∷ []) = if_all LeanTurn (s.marks.skip && eqb i.kind kind.Comment) (lean_beyond s h last b) (lean_beyond (deeper i.kind s) (lean_deeper i.kind s h) last b)
  lean_gives st last b a (i ∷ j ∷ is) = record { mode = h.mode; begun = none; stage = a; depth = h.depth }

  lean_ends : (st : ℕ) (o : Outcome) (b : Option ℕ) → Ahead b → LeanTurn (ends s st o b)
  lean_ends st o b a =
      lean_gives st (range_after (report s) (last_of s) st o (item_so_far s)) b a (extent_items (report s) (last_of s) st o (item_so_far s))

  lean_stopped : (n p : ℕ) → Small n → LeanTurn (stopped s n p)
  lean_stopped n p z = record { mode = h.mode; begun = none; stage = z; depth = h.depth }

  lean_next : (st c : ℕ) → Small c → (n : Next) → Eaten n → LeanTurn (on_next s st c n)
  lean_next st c z (Eat q) e =
      if_all LeanTurn (ltb longest (s.marks.len + width c)) (lean_stopped refusal.long_item st (omega arith)) (record { mode = h.mode; begun = none; stage = e; depth = h.depth })
  lean_next st c z (Stop o) e = lean_ends st o (Some c) z

  lean_stage : (c : ℕ) → Small c → (g : Stage) → Staged g → LeanTurn (on_stage s g c)
  lean_stage c z Opening e =
      if_all Lean (eqb c (code "#")) (record { mode = h.mode; begun = none; stage = tt; depth = h.depth }) (lean_begin s h (last_of s) c)
  lean_stage c z Pound e =
      if_all LeanTurn (eqb c (code "!")) (record { mode = h.mode; begun = none; stage = tt; depth = h.depth })
      (lean_next 0 c z (step_of (report s) AfterHash (item_so_far s) c) (slight_step (item_so_far s) c z (report s) AfterHash tt))
  lean_stage c z FirstLine e =
      if_all Lean (eqb c (code "\n")) (lean_begin s h (last_of s) c) (record { mode = h.mode; begun = none; stage = tt; depth = h.depth })
  lean_stage c z Idle e = lean_begin s h (last_of s) c
  lean_stage c z (Busy st p) e =
      lean_next st c z (step_of (report s) p (item_so_far s) c) (slight_step (item_so_far s) c z (report s) p e)
  lean_stage c z (Waiting st b) e = h
  lean_stage c z (Stopped n p) e = h

  lean_told : (o : Step) → Steps o
      → LeanTurn (told o (λ u. on (partly s (record { count = s.marks.part.count + 1; state = u }))) (λ c. on_stage s s.marks.stage c) (stopped s refusal.not_utf8 s.marks.at))
  lean_told (steps.More u) z = record { mode = h.mode; begun = z; stage = h.stage; depth = h.depth }
  lean_told (steps.Char c) z = lean_stage c z s.marks.stage h.stage
  lean_told steps.Bad z = lean_stopped refusal.not_utf8 s.marks.at (omega arith)

  lean_turn : (b : ℕ) → LeanTurn (turn_of s b)
  unfolding turn_of
  lean_turn b =
      if_all LeanTurn (leb limit (s.marks.at + s.marks.part.count)) (lean_stopped refusal.over_long limit (omega arith))
      (lean_told (step s.marks.part.state b) (step_steps s.marks.part.state b h.begun))

-- ---- the calls

lean_after : (t : Turn) → LeanTurn t → (go : State → Reply) → ((u : State) → Lean u → LeanReply (go u)) → (n : ℕ) → LeanReply (after t go n)
lean_after (on s) h go f n = f s h
lean_after (off s w) h go f n = h

lean_feed : (bs : List ℕ) (s : State) (n : ℕ) → Lean s → LeanReply (feed_of s bs n)
unfolding feed_of
lean_feed [] s n h = h
lean_feed (b ∷ bs) s n h = lean_after (turn_of s b) (lean_turn s h b) (λ t. feed_of t bs (n + 1)) (λ u g. lean_feed bs u (n + 1) g) (n + 1)

module _ (s : State) (h : Lean s) where
  lean_work : (bs : List ℕ) (g : Stage) → LeanReply (piece_stage s g bs)
  lean_work bs (Stopped n p) = h
  lean_work bs (Waiting st b) = if_all LeanReply s.marks.ended h (lean_beyond s h (last_of s) b)
  lean_work bs Opening = if_all LeanReply s.marks.ended h (lean_feed bs s 0 h)
  lean_work bs Pound = if_all LeanReply s.marks.ended h (lean_feed bs s 0 h)
  lean_work bs FirstLine = if_all LeanReply s.marks.ended h (lean_feed bs s 0 h)
  lean_work bs Idle = if_all LeanReply s.marks.ended h (lean_feed bs s 0 h)
  lean_work bs (Busy st p) = if_all LeanReply s.marks.ended h (lean_feed bs s 0 h)

  lean_piece : (bs : List ℕ) (room : ℕ) → LeanReply (piece_of s bs room)
  unfolding piece_of
  lean_piece bs room = if_all LeanReply (is_in_bounds s) (if_all LeanReply (ltb room longest) h (lean_work bs s.marks.stage)) h

  lean_declared : Lean (declared s)
  lean_declared = record { mode = h.mode; begun = h.begun; stage = h.stage; depth = h.depth }

lean_replied : (t : Turn) → LeanTurn t → LeanReply (replied t)
lean_replied (on s) h = h
lean_replied (off s w) h = h

lean_uncut : (s : State) → Lean s → (r : Reply) → LeanReply r → LeanReply (unless_cut s r)
lean_uncut s h r g = if_all LeanReply (eqb s.marks.part.count 0) g (lean_stopped s h refusal.not_utf8 s.marks.at (omega arith))

lean_finish : (s : State) → Lean s → (st : ℕ) (o : Outcome) → LeanReply (unless_cut s (replied (ends s st o None)))
lean_finish s h st o = lean_uncut s h (replied (ends s st o None)) (lean_replied (ends s st o None) (lean_ends s h st o None tt))

lean_last : (s : State) → Lean s → (g : Stage) → LeanReply (end_unless_stopped s g)
lean_last s h Opening = lean_uncut (declared s) (lean_declared s h) (reply 0 finished (declared s)) (lean_declared s h)
lean_last s h Pound = lean_finish (declared s) (lean_declared s h) 0 (finish_of AfterHash (item_so_far s).bytes)
lean_last s h FirstLine = lean_uncut (declared s) (lean_declared s h) (reply 0 finished (declared s)) (lean_declared s h)
lean_last s h Idle = lean_uncut (declared s) (lean_declared s h) (reply 0 finished (declared s)) (lean_declared s h)
lean_last s h (Busy st p) = lean_finish (declared s) (lean_declared s h) st (finish_of p (item_so_far s).bytes)
lean_last s h (Waiting st b) = lean_beyond (declared s) (lean_declared s h) (last_of s) b
lean_last s h (Stopped n p) = h

lean_end : (s : State) → Lean s → (room : ℕ) → LeanReply (end_of s room)
unfolding end_of
lean_end s h room = if_all LeanReply (is_in_bounds s) (if_all LeanReply (ltb room longest) h (lean_last s h s.marks.stage)) h

lean_fresh : (mode : ℕ) (skip : Bool) → Small mode → Lean (fresh mode skip)
lean_fresh mode skip h = record { mode = h; begun = none; stage = tt; depth = omega arith }

pub lean : {s : State} → Produced s → Lean s
unfolding open_of
lean (opened mode skip) =
    if_is LeanReply (is_mode mode) (λ e. lean_fresh mode skip (omega (arith, ltb-true mode 2 e))) (λ _. lean_fresh 0 skip (omega arith))
lean (pieced {s} p bs room) = lean_piece s (lean p) bs room
lean (ended {s} p room) = lean_end s (lean p) room
