-- Calls on words one after the other are the calls by value one after the other, so what holds of those holds here: the answer of the
-- declared end is the whole text's (`lent_answer`), and the memory holds the starts found (`lent_held`).
use mathlib.Core.Path.{◌≡◌, refl, ap, ◌∙◌}
use mathlib.Core.Bool.{true, ◌&&◌}
use mathlib.Core.List.{List, [], ◌∷◌, append-nil}
use Prim.Native.Nat.{ℕ, ◌+◌, ◌≤◌}
use native.Mathlib.Omega.{arith}
use lib.Dec.{eqb, leb, ltb}
use lib.ListN.{length, set, drop_of_length-le}
use borrow.Author.Tests.{eq-eqb, le-leb}
use Rattle.laws.specs.Lent.{written}
use Rattle.laws.specs.Quoted.{within}
use Rattle.laws.proofs.Choice.{if_all}
use Rattle.refusal.specs.Refusals.{over_long, not_utf8}
use Rattle.chars.specs.Utf8.{ascii, first}
use Rattle.chars.specs.Machine.{step, start, told}
use Rattle.chars.specs.declared.Begun as begun
use Rattle.chars.specs.declared.Step.{Step}
use Rattle.chars.specs.declared.Step.TheVariants as steps
use Rattle.refusal.specs.Refusals.{limit}
use Rattle.lines.specs.Starts.{starts, build_of}
use Rattle.lines.specs.Pieces.{Fed, fresh, open_of, moved_of, stopped_of, step_of, noted, fed_of, piece_of, end_of, pieces, joined, before, laid}
use Rattle.lines.specs.declared.LineState.{LineState}
use Rattle.lines.proofs.Joined.{cut, same_answer}
use Rattle.lines.proofs.Held.{held}
use Rattle.lines.specs.Words.{state_words, listed, is_a_state, Contents, contents, open_left, piece_left, end_for, calls}

-- ---- the states that calls produce have bytes where the words ask for bytes

abbrev Slim : begun.Begun → Type 0
Slim u = (u.need ≤ 255) × (u.low ≤ 255) × (u.high ≤ 255)

abbrev After : Step → Type 0
After (steps.More u) = Slim u
After (steps.Char c) = Unit {0}
After steps.Bad = Unit {0}

first_slim : (b : ℕ) → After (first b)
unfolding first
first_slim b =
    if_all After (ascii b) tt
    (if_all After (within 0xC2 0xDF b) (omega arith, omega arith, omega arith)
    (if_all After (within 0xE0 0xE0 b) (omega arith, omega arith, omega arith)
    (if_all After (within 0xE1 0xEC b) (omega arith, omega arith, omega arith)
    (if_all After (within 0xED 0xED b) (omega arith, omega arith, omega arith)
    (if_all After (within 0xEE 0xEF b) (omega arith, omega arith, omega arith)
    (if_all After (within 0xF0 0xF0 b) (omega arith, omega arith, omega arith)
    (if_all After (within 0xF1 0xF3 b) (omega arith, omega arith, omega arith)
    (if_all After (within 0xF4 0xF4 b) (omega arith, omega arith, omega arith) tt))))))))

byte_slim : (u : begun.Begun) (b : ℕ) → Slim u → After (step u b)
unfolding step
byte_slim u b h =
    if_all After (eqb u.need 0) (first_slim b)
    (if_all After (within u.low u.high b && leb u.code 0x7FFF)
    (if_all After (eqb u.need 1) tt (omega (arith, h.0), omega arith, omega arith))
    tt)

step_slim : (t : LineState) (b : ℕ) → Slim t.begun → Slim (step_of t b).begun
unfolding step_of
step_slim t b h =
    if_all P (eqb t.stop over_long) h
    (if_all P (eqb t.at limit) h
    (if_all P (eqb t.stop not_utf8) h (go (step t.begun b) (byte_slim t.begun b h))))
  where
    P : LineState → Type 0
    P u = Slim u.begun

    go : (o : Step) → After o → Slim (told o (λ u. moved_of t b u t.from) (λ c. moved_of t b start (t.at + 1)) (stopped_of t (t.at + 1) not_utf8)).begun
    go (steps.More u) a = a
    go (steps.Char c) a = (omega arith, omega arith, omega arith)
    go steps.Bad a = h

fed_slim : (s : List ℕ) (t : LineState) (m : List ℕ) → Slim t.begun → Slim (fed_of t s m).state.begun
unfolding fed_of
fed_slim [] t m h = h
fed_slim (b ∷ s) t m h = fed_slim s (step_of t b) (noted t (step_of t b) m) (step_slim t b h)

piece_slim : (t : LineState) (s m : List ℕ) → Slim t.begun → Slim (piece_of t s m).state.begun
unfolding piece_of
piece_slim t s m h = if_all (λ (f : Fed). Slim f.state.begun) (ltb t.at t.lines) h (fed_slim s t m h)

listed_state : (t : LineState) → Slim t.begun → is_a_state (listed t) ≡ true
unfolding is_a_state
listed_state t h = rw (le-leb t.begun.need 255 h.0, le-leb t.begun.low 255 h.1, le-leb t.begun.high 255 h.2)

-- ---- call by call

-- a state's words, written over as many, are all that is there
over : (t : LineState) (w : List ℕ) → length w ≡ state_words → written (listed t) w ≡ listed t
over t w h =
    let all : length w ≤ state_words = omega (arith, h) in
    rw (drop_of_length-le w all) (append-nil (listed t))

abbrev words : Fed → Contents
words f = contents (listed f.state) f.memory

piece_same : (f : Fed) (s : List ℕ) → Slim f.state.begun → piece_left (listed f.state) s f.memory ≡ words (piece_of f.state s f.memory)
unfolding piece_left
piece_same f s h =
    rw (listed_state f.state h)
    (ap (λ (w : List ℕ). contents w (piece_of f.state s f.memory).memory) (over (piece_of f.state s f.memory).state (listed f.state) refl))

calls_same : (ps : List (List ℕ)) (f : Fed) → Slim f.state.begun → (calls (words f) ps ≡ words (pieces f ps)) × Slim (pieces f ps).state.begun
calls_same [] f h = (refl, h)
calls_same (p ∷ ps) f h =
    let r = calls_same ps (piece_of f.state p f.memory) (piece_slim f.state p f.memory h) in
    (ap (λ (l : Contents). calls l ps) (piece_same f p h) ∙ r.0, r.1)

module _ (ps : List (List ℕ)) (w m : List ℕ) (h : length w ≡ state_words) where
  opened : open_left w m ≡ words (open_of m)
  unfolding open_left
  opened = rw (eq-eqb (length w) state_words h) (ap (λ (x : List ℕ). contents x (set m 0 0)) (over fresh w h))

  slim : Slim (open_of m).state.begun
  slim = (omega arith, omega arith, omega arith)

  -- opening and pieces on words leave the words of what they leave by value
  pub lent_same : calls (open_left w m) ps ≡ contents (listed (pieces (open_of m) ps).state) (pieces (open_of m) ps).memory
  lent_same = ap (λ (l : Contents). calls l ps) opened ∙ (calls_same ps (open_of m) slim).0

  pub lent_held : (calls (open_left w m) ps).memory ≡ laid (starts (before (joined ps))) m
  lent_held = ap (λ (l : Contents). l.memory) lent_same ∙ ap (λ (f : Fed). f.memory) (cut ps m) ∙ held (joined ps) m

  pub lent_answer : end_for (calls (open_left w m) ps).words (length m) ≡ (build_of (joined ps) m).answer
  unfolding end_for
  lent_answer =
      ap (λ (l : Contents). end_for l.words (length m)) lent_same
      ∙ rw (listed_state (pieces (open_of m) ps).state (calls_same ps (open_of m) slim).1)
      (ap (λ (f : Fed). end_of f.state (length m)) (cut ps m) ∙ same_answer (joined ps) m)
