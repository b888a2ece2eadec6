-- One byte of ASCII in a state between two characters: it begins an item, is eaten by one, or ends one, which is then given.
use Rattle.std.proofs.Common.{Some}
use Prim.Native.Nat.{ℕ, ◌+◌, ◌≤◌, ◌<◌}
use mathlib.Core.Path.{◌≡◌, refl, sym, ap, ◌∙◌}
use mathlib.Core.Bool.{false, ◌&&◌}
use mathlib.Core.List.{List, [], ◌∷◌}
use lib.Dec.{eqb}
use native.Mathlib.Omega.{arith}
use borrow.Author.Tests.{eq-eqb, lt-leb, lt-ltb, le-ltb}
use Rattle.chars.specs.Encode.{width}
use Rattle.chars.specs.Blank.{is_blank}
use Rattle.chars.specs.Machine.{step}
use Rattle.chars.proofs.Table.{first_ascii}
use Rattle.chars.proofs.Width.{utf8-one}
use Rattle.items.specs.Kinds as kind
use Rattle.items.specs.declared.Outcome.{Outcome}
use Rattle.items.specs.declared.Phase.{Phase}
use Rattle.items.specs.declared.Next.TheVariants.{Eat, Stop}
use Rattle.items.specs.Classes.{first_of}
use Rattle.items.specs.Meaning.{meaning_of}
use Rattle.items.specs.Items.{Place, range_after, standing}
use Rattle.items.specs.Machine.{step_of, on_first}
use Rattle.items.specs.Whole.{limit}
use Rattle.meaning.specs.Meant.{sized_all}
use Rattle.meaning.specs.declared.Means.{Means}
use Rattle.pieces.specs.declared.Stage.{Stage}
use Rattle.pieces.specs.declared.Stage.TheVariants.{Idle, Busy}
use Rattle.pieces.specs.declared.State.{State}
use Rattle.pieces.specs.Expected.{longest}
use Rattle.pieces.specs.Calls.{Turn, on, off, item, reply, becomes, last_of, item_so_far, laid_at, begin, deeper, report, ends, on_stage, turn_of, after, feed_of}
use Rattle.pieces_giving.specs.Copied.{given_by}
use Rattle.pieces_giving.proofs.Shown.{ends_one}

pub width_ascii : (c : ℕ) → c < 0x80 → width c ≡ 1
unfolding width
width_ascii c h = rw (lt-ltb c 0x80 h)

-- a state between two characters, with room for one more byte of the text
pub record Between (s : State) : Type 0 where
  pub count : s.marks.part.count ≡ 0
  pub need : s.marks.part.state.need ≡ 0
  pub far : s.marks.at + 1 ≤ limit

-- a byte of ASCII is a character, and does what that does where the reader stands
module _ (s : State) (b : Between s) (g : Stage) (here : s.marks.stage ≡ g) (c : ℕ) (small : c < 0x80) where
  pub turn_ascii : turn_of s c ≡ on_stage s g c
  unfolding turn_of step
  turn_ascii =
      rw (
        lt-leb limit (s.marks.at + s.marks.part.count) (omega (arith, b.count, b.far)),
        eq-eqb s.marks.part.state.need 0 b.need,
        first_ascii c small,
      ) (ap (λ (x : Stage). on_stage s x c) here)

-- between items, a byte that is no blank begins one
module _ (s : State) (b : Between s) (here : s.marks.stage ≡ Idle) (c : ℕ) (small : c < 0x80) (solid : is_blank c ≡ false) (p : Phase)
    (stands : on_first (first_of c) ≡ p) where
  abbrev begun : State
  begun = becomes s (laid_at 0 (c ∷ []) s.buf) (Busy s.marks.at p) (s.marks.at + 1) 1 (last_of s)

  so_begun : on_stage s Idle c ≡ on begun
  so_begun = rw (solid, width_ascii c small, utf8-one c small, stands)

  pub turned_begun : turn_of s c ≡ on begun
  turned_begun = turn_ascii s b Idle here c small ∙ so_begun

-- in an item, a byte that belongs to it
module _ (s : State) (b : Between s) (st : ℕ) (p q : Phase) (here : s.marks.stage ≡ Busy st p) (c : ℕ) (small : c < 0x80)
    (room : s.marks.len + 1 ≤ longest) (eats : step_of (report s) p (item_so_far s) c ≡ Eat q) where
  abbrev eaten : State
  eaten = becomes s (laid_at s.marks.len (c ∷ []) s.buf) (Busy st q) (s.marks.at + 1) (s.marks.len + 1) (last_of s)

  so_eaten : on_stage s (Busy st p) c ≡ on eaten
  so_eaten = rw (eats, width_ascii c small, utf8-one c small, le-ltb longest (s.marks.len + 1) room)

  pub turned_eaten : turn_of s c ≡ on eaten
  turned_eaten = turn_ascii s b (Busy st p) here c small ∙ so_eaten

-- in an item, a byte before which it ends: it has one meaning, which sets no range and is not skipped
module _ (s : State) (b : Between s) (st : ℕ) (p : Phase) (o : Outcome) (here : s.marks.stage ≡ Busy st p) (c : ℕ) (small : c < 0x80)
    (stops : step_of (report s) p (item_so_far s) c ≡ Stop o)
    (quiet : (last : Place) → range_after (report s) last st o (item_so_far s) ≡ last)
    (m : Means) (means : m ∷ [] ≡ sized_all (meaning_of (report s) o st s.marks.at (item_so_far s).bytes))
    (kept : (s.marks.skip && eqb m.kind kind.Comment) ≡ false) where
  ended_so : ends s st o (Some c)
      ≡ off (begin (deeper m.kind s) (last_of s) c)
      (item (given_by s.marks.depth (report s) m (standing (report s) (last_of s)) st s.marks.at (item_so_far s).bytes))
  ended_so =
      sym (ends_one s st o (Some c) s.marks.at refl m means)
      ∙ rw (quiet (standing (report s) (last_of s)), quiet (last_of s), kept)

  stop_so : on_stage s (Busy st p) c ≡ ends s st o (Some c)
  stop_so = rw stops

  pub fed_ended : (rest : List ℕ) (n : ℕ) → feed_of s (c ∷ rest) n
      ≡ reply (n + 1)
      (item (given_by s.marks.depth (report s) m (standing (report s) (last_of s)) st s.marks.at (item_so_far s).bytes))
      (begin (deeper m.kind s) (last_of s) c)
  unfolding feed_of
  fed_ended rest n =
      ap (λ (x : Turn). after x (λ u. feed_of u rest (n + 1)) (n + 1))
      (turn_ascii s b (Busy st p) here c small ∙ stop_so ∙ ended_so)
