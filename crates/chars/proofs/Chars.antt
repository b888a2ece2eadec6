-- The characters of a text one after the other, by what stands at a place and by what `decode_at` answers there.
use Prim.Native.Nat.{ℕ, zero, suc, ◌+◌, ◌-◌, ◌≤◌}
use native.Mathlib.Omega.{arith}
use mathlib.Core.Path.{◌≡◌, refl, sym, ap, ◌∙◌}
use mathlib.Core.List.{List, [], ◌∷◌}
use mathlib.Core.Bool.{true}
use lib.ListN.{length, take, drop, length-drop}
use lib.Seq.{drop-drop, length-take-le}
use Rattle.laws.proofs.Choice.{impossible}
use Rattle.chars.specs.declared.Decoded.{Decoded}
use Rattle.chars.specs.declared.Decoded.TheVariants as decoded
use Rattle.chars.specs.Utf8.{Front, char, bad, cut, none, front, placed, Sequence, onward, sequences, code_points, chars}
use Rattle.chars.specs.Encode.{is_scalar, utf8, width}
use Rattle.chars.proofs.Sequences.{sequences-char, sequences-bad, sequences-cut, sequences-none}
use Rattle.chars.proofs.Spells.{Spells, spells}
use Rattle.chars.proofs.Width.{width-utf8}

-- which characters a text has does not hang on the place that it starts at
onward_free : (F : Front) (at at' : ℕ) (f g : ℕ → List Sequence) → ((k : ℕ) → code_points (f k) ≡ code_points (g k)) → code_points (onward at F f) ≡ code_points (onward at' F g)
onward_free (char c n) at at' f g h = ap (λ (l : List ℕ). c ∷ l) (h (n - 1))
onward_free (bad n) at at' f g h = refl
onward_free cut at at' f g h = refl
onward_free none at at' f g h = refl

pub place_free : (k at at' : ℕ) (s : List ℕ) → code_points (sequences k at s) ≡ code_points (sequences k at' s)
unfolding sequences
place_free k at at' [] = refl
place_free (suc k) at at' (b ∷ s) = place_free k (at + 1) (at' + 1) s
place_free zero at at' (b ∷ s) = onward_free (front (b ∷ s)) at at' _ _ (λ k. place_free k (at + 1) (at' + 1) s)

module _ (l : List ℕ) where
  pub chars-char : (c n : ℕ) → front l ≡ char c n → chars l ≡ c ∷ chars (drop n l)
  unfolding chars
  chars-char c n e = ap code_points (sequences-char 0 l c n e) ∙ ap (λ (x : List ℕ). c ∷ x) (place_free 0 (0 + n) 0 (drop n l))

  pub chars-bad : (n : ℕ) → front l ≡ bad n → chars l ≡ []
  unfolding chars
  chars-bad n e = ap code_points (sequences-bad 0 l n e)

  pub chars-cut : front l ≡ cut → chars l ≡ []
  unfolding chars
  chars-cut e = ap code_points (sequences-cut 0 l e)

  pub chars-none : front l ≡ none → chars l ≡ []
  unfolding chars
  chars-none e = ap code_points (sequences-none 0 l e)

-- a decoded character is as wide as its encoding
pub char-width : (l : List ℕ) (c n : ℕ) → Spells l (char c n) → n ≡ width c
char-width l c n w = sym (length-take-le n l w.2) ∙ ap length w.0 ∙ width-utf8 c

-- ---- by what `decode_at` answers

-- a character at a place, and the place past it
pub record CharAt (s : List ℕ) (at c next : ℕ) : Type 0 where
  pub first : chars (drop at s) ≡ c ∷ chars (drop next s)
  pub bytes : take (next - at) (drop at s) ≡ utf8 c
  pub scalar : is_scalar c ≡ true
  pub on : next ≡ at + width c
  pub inside : next ≤ length s

module _ (s : List ℕ) (at : ℕ) where
  pub char_at : (c next : ℕ) → decoded.Char c next ≡ placed at (front (drop at s)) → at ≤ length s → CharAt s at c next
  char_at c next e h = go (front (drop at s)) refl (spells (drop at s)) e
    where
      go : (F : Front) → front (drop at s) ≡ F → Spells (drop at s) F → decoded.Char c next ≡ placed at F → CharAt s at c next
      go (char d n) f w q =
          let p : next ≡ at + n = cc in
          let o : d ≡ c = cc in
          let k : n ≡ width c = char-width (drop at s) d n w ∙ ap width o in
          let q1 : next - at ≡ n = omega arith in
          let q2 : drop n (drop at s) ≡ drop next s = drop-drop n at s ∙ ap (λ (i : ℕ). drop i s) (sym p) in
          record {
            first = chars-char (drop at s) c n (f ∙ ap (λ (x : ℕ). char x n) o) ∙ ap (λ (l : List ℕ). c ∷ chars l) q2;
            bytes = ap (λ (i : ℕ). take i (drop at s)) q1 ∙ w.0 ∙ ap utf8 o;
            scalar = sym (ap is_scalar o) ∙ w.1;
            on = p ∙ ap (λ (i : ℕ). at + i) k;
            inside = omega (arith, p, w.2, length-drop at s, h);
          }
      go (bad n) f w q = impossible cc
      go cut f w q = impossible cc
      go none f w q = impossible cc

  pub nothing_at : (o : Decoded) → o ≡ placed at (front (drop at s)) → ((c n : ℕ) → o ≡ decoded.Char c n → ⊥) → chars (drop at s) ≡ []
  nothing_at o e h = go (front (drop at s)) refl e
    where
      go : (F : Front) → front (drop at s) ≡ F → o ≡ placed at F → chars (drop at s) ≡ []
      go (char d n) f q = absurd (h d (at + n) q)
      go (bad n) f q = chars-bad (drop at s) n f
      go cut f q = chars-cut (drop at s) f
      go none f q = chars-none (drop at s) f
