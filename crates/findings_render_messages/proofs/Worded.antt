-- The table's pieces, and how a text is filled in.
use Prim.Native.Nat.{ℕ, suc, ◌+◌, ◌-◌, ◌≤◌, ◌<◌, min}
use mathlib.Core.Bool.{Bool, true, false, not, ◌&&◌, ◌||◌}
use mathlib.Core.List.{List, [], ◌∷◌, ◌++◌}
use mathlib.Core.Path.{◌≡◌, refl, sym, ◌∙◌}
use native.Mathlib.Omega.{arith}
use borrow.Author.Tests.{lt-ltb, ltb-true, ltb-false}
use lib.Dec.{eqb, ltb}
use lib.ListN.{length, get_or, take, drop, length-drop}
use lib.Seq.{drop-drop}
use Rattle.std.specs.Prelude.{if◌then◌else◌}
use Rattle.laws.specs.Texts.{before, begins}
use Rattle.laws.proofs.Choice.{by_bool, and_true, no_yes}
use Rattle.laws.proofs.Places.{past, here}
use Rattle.findings_render_messages.specs.declared.ToldFinding.{ToldFinding}
use Rattle.findings_render_parts.specs.Shown.{is_nil}
use Rattle.findings_render_messages.specs.Messages.{behind, piece_of, inserted, filled}

begins-length : (p s : List ℕ) → begins p s ≡ true → length p ≤ length s
unfolding begins
begins-length [] s e = omega arith
begins-length (x ∷ p) [] e = no_yes e
begins-length (x ∷ p) (y ∷ s) e = omega (arith, begins-length p s (and_true (eqb x y) (begins p s) e).1)

module _ (key t : List ℕ) (i : ℕ) (start : Bool) (h : i < length t) where
  behind_cons : (b : ℕ) (s : List ℕ) → drop i t ≡ b ∷ s
      → behind key start (drop i t) ≡ (if start && begins key (drop i t) then drop (length key) (drop i t) else behind key (eqb b 0) s)
  unfolding behind
  behind_cons b s e = rw e

  pub behind_here : (start && begins key (drop i t)) ≡ true → drop (i + length key) t ≡ behind key start (drop i t)
  behind_here e = sym (behind_cons (get_or t i 0) (drop (i + 1) t) (here t i h) ∙ rw e (drop-drop (length key) i t))

  pub behind_on : (start && begins key (drop i t)) ≡ false → behind key (eqb (get_or t i 0) 0) (drop (i + 1) t) ≡ behind key start (drop i t)
  behind_on e = sym (behind_cons (get_or t i 0) (drop (i + 1) t) (here t i h) ∙ rw e)

  pub key_fits : (start && begins key (drop i t)) ≡ true → i + length key ≤ length t
  key_fits e = omega (arith, begins-length key (drop i t) (and_true start (begins key (drop i t)) e).1, length-drop i t)

pub behind_end : (key t : List ℕ) (i : ℕ) (start : Bool) → length t ≤ i → drop i t ≡ behind key start (drop i t)
unfolding behind
behind_end key t i start h = rw (past t i h)

pub piece_is : (key t : List ℕ) (from end : ℕ) → drop from t ≡ behind key true t → end ≡ from + before 0 (drop from t) → take (end - from) (drop from t) ≡ piece_of key t
unfolding piece_of
piece_is key t from end h e = let n : end - from ≡ before 0 (drop from t) = omega arith in rw (n, h)

module _ (t : ToldFinding) (s text : List ℕ) (i : ℕ) where
  pub filled_on : i < length text → filled t s (drop i text) ≡ inserted t s (get_or text i 0) ++ filled t s (drop (i + 1) text)
  unfolding filled
  filled_on h = rw (here text i h)

  pub filled_end : length text ≤ i → filled t s (drop i text) ≡ []
  unfolding filled
  filled_end h = rw (past text i h)

pub some_text : (l : List ℕ) → ltb 0 (length l) ≡ not (is_nil l)
unfolding is_nil
some_text [] = refl
some_text (b ∷ l) = lt-ltb 0 (suc (length l)) (omega arith)

pub or_no : (x : Bool) → x ≡ (x || false)
or_no true = refl
or_no false = refl

pub least : (n : ℕ) → min n 9 ≡ (if ltb n 9 then n else 9)
least n = by_bool (ltb n 9) (λ y. let h = ltb-true n 9 y in rw y (omega arith)) (λ e. let h = ltb-false n 9 e in rw e (omega arith))
