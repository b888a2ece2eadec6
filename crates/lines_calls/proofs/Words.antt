-- The calls on words, from what the calls by value say.
use mathlib.Core.Path.{◌≡◌, ap, ◌∙◌}
use mathlib.Core.Bool.{true, false, ◌&&◌}
use mathlib.Core.List.{List}
use Prim.Native.Nat.{ℕ, ◌≤◌, ◌<◌}
use lib.Dec.{eqb, leb}
use lib.ListN.{length, get_or}
use borrow.Author.Tests.{eq-eqb, ne_eqb, eqb-true, le-leb, lt-leb, leb-true}
use Rattle.laws.specs.Lent.{written}
use Rattle.laws.proofs.Choice.{and_true, if_yes}
use Rattle.refusal.specs.Refusals.{out_of_bounds}
use Rattle.lines.specs.Pieces.{Fed, fed, open_of, piece_of, end_of}
use Rattle.lines.specs.declared.LineState.{LineState}
use Rattle.lines.specs.Starts.{Told, Refused}
use Rattle.lines.specs.Words.{state_words, listed, state_in, is_byte, is_a_state, contents, open_left, piece_left, end_for}

-- ---- which words are a state's

module _ (w : List ℕ) where
  pub other_length : (length w ≡ state_words → ⊥) → false ≡ is_a_state w
  unfolding is_a_state
  other_length h = rw (ne_eqb (length w) state_words h)

  module _ (e : length w ≡ state_words) where
    pub first_wide : 255 < get_or w 0 0 → false ≡ is_a_state w
    unfolding is_a_state
    first_wide h = rw (eq-eqb (length w) state_words e, lt-leb (get_or w 0 0) 255 h)

    pub second_wide : get_or w 0 0 ≤ 255 → 255 < get_or w 1 0 → false ≡ is_a_state w
    unfolding is_a_state
    second_wide a h = rw (eq-eqb (length w) state_words e, le-leb (get_or w 0 0) 255 a, lt-leb (get_or w 1 0) 255 h)

    pub third_says : get_or w 0 0 ≤ 255 → get_or w 1 0 ≤ 255 → leb (get_or w 2 0) 255 ≡ is_a_state w
    unfolding is_a_state
    third_says a b = rw (eq-eqb (length w) state_words e, le-leb (get_or w 0 0) 255 a, le-leb (get_or w 1 0) 255 b)

  pub state_is : is_a_state w ≡ true → (length w ≡ state_words) × (get_or w 0 0 ≤ 255) × (get_or w 1 0 ≤ 255) × (get_or w 2 0 ≤ 255)
  unfolding is_a_state
  state_is e =
      let a = and_true (eqb (length w) state_words) (is_byte (get_or w 0 0) && (is_byte (get_or w 1 0) && is_byte (get_or w 2 0))) e in
      let b = and_true (is_byte (get_or w 0 0)) (is_byte (get_or w 1 0) && is_byte (get_or w 2 0)) a.1 in
      let c = and_true (is_byte (get_or w 1 0)) (is_byte (get_or w 2 0)) b.1 in
      (eqb-true (length w) state_words a.0, leb-true (get_or w 0 0) 255 b.0, leb-true (get_or w 1 0) 255 c.0, leb-true (get_or w 2 0) 255 c.1)

-- ---- what the calls leave

contents_of : {w v m k : List ℕ} → w ≡ v → m ≡ k → contents w m ≡ contents v k
contents_of a b = rw (a, b)

module _ (w m : List ℕ) where
  pub opens : {t : LineState} {w' m' : List ℕ} → length w ≡ state_words → fed t m' ≡ open_of m → w' ≡ written (listed t) w → contents w' m' ≡ open_left w m
  unfolding open_left
  opens h f e =
      if_yes (eqb (length w) state_words) _ _ (eq-eqb (length w) state_words h)
      (contents_of (e ∙ ap (λ (x : Fed). written (listed x.state) w) f) (ap (λ (x : Fed). x.memory) f))

  pub opens_not : (length w ≡ state_words → ⊥) → contents w m ≡ open_left w m
  unfolding open_left
  opens_not h = rw (ne_eqb (length w) state_words h)

  module _ (s : List ℕ) where
    pub feeds : {t : LineState} {w' m' : List ℕ} → is_a_state w ≡ true → fed t m' ≡ piece_of (state_in w) s m → w' ≡ written (listed t) w
        → contents w' m' ≡ piece_left w s m
    unfolding piece_left
    feeds i f e =
        if_yes (is_a_state w) _ _ i
        (contents_of (e ∙ ap (λ (x : Fed). written (listed x.state) w) f) (ap (λ (x : Fed). x.memory) f))

    pub feeds_not : is_a_state w ≡ false → contents w m ≡ piece_left w s m
    unfolding piece_left
    feeds_not i = rw i

pub ends : (w : List ℕ) (n : ℕ) {r : Told} → is_a_state w ≡ true → r ≡ end_of (state_in w) n → r ≡ end_for w n
unfolding end_for
ends w n i e = rw i e

pub ends_not : (w : List ℕ) (n : ℕ) → is_a_state w ≡ false → Refused out_of_bounds 0 ≡ end_for w n
unfolding end_for
ends_not w n i = rw i
