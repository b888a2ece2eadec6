-- The bytes of a piece, one by one.
use mathlib.Core.Path.{◌≡◌, refl, sym, ap, ◌∙◌}
use mathlib.Core.List.{List}
use Prim.Native.Nat.{ℕ, ◌+◌, ◌≤◌, ◌<◌}
use native.Mathlib.Omega.{arith}
use native.Mathlib.Numerals.{add-one}
use lib.ListN.{length, get_or, drop, length-set, drop_of_length-le}
use lib.Seq.{drop-cons}
use lib.Dec.{ltb}
use borrow.Author.Tests.{lt-ltb, le-ltb, eq-eqb, ne_eqb}
use Rattle.chars.specs.Machine.{step, start, told}
use Rattle.chars.specs.declared.Begun as begun
use Rattle.chars.specs.declared.Step.{Step}
use Rattle.chars.specs.declared.Step.TheVariants as steps
use Rattle.refusal.specs.Refusals.{limit}
use Rattle.lines.specs.Starts.{newline}
use Rattle.lines.specs.Pieces.{fed, moved_of, stopped_of, step_of, noted, fed_of, piece_of, end_of}
use Rattle.lines.specs.declared.LineState.{LineState}
use Rattle.lines.specs.Starts.{Served, Refused}
use Rattle.lines.proofs.Tests.{by_equal}
use Rattle.laws.proofs.Choice.{if_all}
use Rattle.refusal.specs.Refusals.{over_long, not_utf8, lines_no_room}

module _ (t : LineState) (b : ℕ) where
  pub step_stands : t.stop ≡ over_long → step_of t b ≡ t
  unfolding step_of
  step_stands e = rw (eq-eqb t.stop over_long e)

  module _ (n : t.stop ≡ over_long → ⊥) where
    pub step_full : t.at ≡ limit → step_of t b ≡ stopped_of t limit over_long
    unfolding step_of
    step_full e = rw (ne_eqb t.stop over_long n, eq-eqb t.at limit e)

    module _ (m : t.at ≡ limit → ⊥) where
      pub step_counts : t.stop ≡ not_utf8 → step_of t b ≡ stopped_of t (t.at + 1) not_utf8
      unfolding step_of
      step_counts e = rw (ne_eqb t.stop over_long n, ne_eqb t.at limit m, eq-eqb t.stop not_utf8 e)

      pub step_did : {o : Step} → (t.stop ≡ not_utf8 → ⊥) → step t.begun b ≡ o
          → step_of t b ≡ told o (λ u. moved_of t b u t.from) (λ c. moved_of t b start (t.at + 1)) (stopped_of t (t.at + 1) not_utf8)
      unfolding step_of
      step_did k e = rw (ne_eqb t.stop over_long n, ne_eqb t.at limit m, ne_eqb t.stop not_utf8 k, e)

-- a byte leaves no more newline bytes than bytes
moved_low : (t : LineState) (b : ℕ) (u : begun.Begun) (f : ℕ) → t.lines ≤ t.at → (moved_of t b u f).lines ≤ t.at + 1
moved_low t b u f h = by_equal b newline (λ e. rw (eq-eqb b newline e) (omega arith)) (λ e. rw (ne_eqb b newline e) (omega arith))

told_low : (t : LineState) (b : ℕ) (o : Step) → t.lines ≤ t.at
    → let n = told o (λ u. moved_of t b u t.from) (λ c. moved_of t b start (t.at + 1)) (stopped_of t (t.at + 1) not_utf8) in n.lines ≤ n.at
told_low t b (steps.More u) h = moved_low t b u t.from h
told_low t b (steps.Char c) h = moved_low t b start (t.at + 1) h
told_low t b steps.Bad h = omega arith

pub step_low : (t : LineState) (b : ℕ) → t.lines ≤ t.at → (step_of t b).lines ≤ (step_of t b).at
step_low t b h =
    by_equal t.stop over_long (λ e. rw (step_stands t b e) h) (λ n.
    by_equal t.at limit (λ e. rw (step_full t b n e) (omega arith)) (λ m.
    by_equal t.stop not_utf8 (λ e. rw (step_counts t b n m e) (omega arith)) (λ k.
    rw (step_did t b n m k refl) (told_low t b (step t.begun b) h))))

pub fed_at : (s : List ℕ) (t : LineState) (m : List ℕ) (i : ℕ) → i < length s
    → fed_of t (drop i s) m ≡ fed_of (step_of t (get_or s i 0)) (drop (i + 1) s) (noted t (step_of t (get_or s i 0)) m)
unfolding fed_of
fed_at s t m i h = rw (drop-cons s i 0 h, add-one i)

noted-length : (t next : LineState) (m : List ℕ) → length (noted t next m) ≡ length m
noted-length t next m = if_all (λ (l : List ℕ). length l ≡ length m) (ltb t.lines next.lines) (length-set m next.lines next.at) refl

pub record Feeding (st : LineState) (s old : List ℕ) (t : LineState) (m : List ℕ) (i : ℕ) : Type 0 where
  pub inside : i ≤ length s
  pub low : t.lines ≤ t.at
  pub size : length m ≡ length old
  pub rest : fed_of st s old ≡ fed_of t (drop i s) m

pub feeding_start : (st : LineState) (s old : List ℕ) → st.lines ≤ st.at → Feeding st s old st old 0
feeding_start st s old h = record { inside = omega arith; low = h; size = refl; rest = refl }

module _ (st : LineState) (s old : List ℕ) (t : LineState) (m : List ℕ) (i : ℕ) (g : Feeding st s old t m i) where
  module _ {next : LineState} (h : i < length s) (e : next ≡ step_of t (get_or s i 0)) where
    pub feeding_next : {now : List ℕ} → now ≡ noted t next m → Feeding st s old next now (i + 1)
    feeding_next w = record {
      inside = omega arith;
      low = rw e (step_low t (get_or s i 0) g.low);
      size = ap length w ∙ noted-length t next m ∙ g.size;
      rest = g.rest ∙ fed_at s t m i h ∙ rw (← e, w);
    }

  pub feeding_end : length s ≤ i → fed t m ≡ fed_of st s old
  unfolding fed_of
  feeding_end h = sym (g.rest ∙ rw (drop_of_length-le s h))

-- ---- the declared end

module _ (t : LineState) (n : ℕ) {k : ℕ} (l : t.lines ≤ t.at) (a : t.stop ≡ over_long → ⊥) (b : t.stop ≡ not_utf8 → ⊥) (d : t.begun.need ≡ 0) (e : k ≡ t.lines) where
  pub end_short : n < k + 1 → Refused lines_no_room (k + 1) ≡ end_of t n
  unfolding end_of
  end_short h = rw (le-ltb t.at t.lines l, ne_eqb t.stop over_long a, ne_eqb t.stop not_utf8 b, eq-eqb t.begun.need 0 d, ← e, lt-ltb n (k + 1) h)

  pub end_served : k + 1 ≤ n → Served (k + 1) ≡ end_of t n
  unfolding end_of
  end_served h = rw (le-ltb t.at t.lines l, ne_eqb t.stop over_long a, ne_eqb t.stop not_utf8 b, eq-eqb t.begun.need 0 d, ← e, le-ltb n (k + 1) h)

pub piece_stays : (t : LineState) (s m : List ℕ) → t.at < t.lines → fed t m ≡ piece_of t s m
unfolding piece_of
piece_stays t s m h = rw (lt-ltb t.at t.lines h)

pub piece_feeds : (t : LineState) (s m : List ℕ) → t.lines ≤ t.at → fed_of t s m ≡ piece_of t s m
unfolding piece_of
piece_feeds t s m h = rw (le-ltb t.at t.lines h)
