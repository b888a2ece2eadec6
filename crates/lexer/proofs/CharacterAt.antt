-- The character at a place of a source, by the characters from there on; and how far those reach.
use Rattle.chars.specs.Utf8.{Front, char, bad, cut, none, front, placed, chars, sequences}
use Rattle.chars.specs.Encode.{width}
use Rattle.chars.specs.declared.Decoded.TheVariants as decoded
use Rattle.chars.proofs.Chars.{CharAt, char_at, nothing_at}
use Rattle.laws.proofs.Choice.{by_bool, impossible}
use Rattle.laws.proofs.Places.{past}
use Rattle.items.specs.Items.{byte_count}
use Prim.Native.Nat.{ℕ, ◌+◌, ◌≤◌, ◌<◌}
use mathlib.Core.Path.{◌≡◌, refl, sym, ap, ◌∙◌, subst}
use mathlib.Core.List.{List, [], ◌∷◌}
use lib.ListN.{length, drop}
use lib.Dec.{leb}
use native.Mathlib.Omega.{arith}
use borrow.Author.Tests.{leb-true, leb-false}

nothing_left : (s : List ℕ) (at : ℕ) → length s < at → (front (drop at s) ≡ none) × (chars (drop at s) ≡ [])
unfolding chars sequences front
nothing_left s at h = let p : drop at s ≡ [] = past s at (omega arith) in rw p (refl, refl)

-- the character c at a place, and the characters cs after it
pub record Here (s : List ℕ) (at c : ℕ) (cs : List ℕ) : Type 0 where
  pub char : CharAt s at c (at + width c)
  pub rest : cs ≡ chars (drop (at + width c) s)

module _ (s : List ℕ) (at : ℕ) where
  -- what `decode_at` found, wherever the place is
  pub char_found : (c next : ℕ) → decoded.Char c next ≡ placed at (front (drop at s)) → CharAt s at c next
  char_found c next e =
      by_bool (leb at (length s)) (λ h. char_at s at c next e (leb-true at (length s) h))
      (λ h. let q : front (drop at s) ≡ none = (nothing_left s at (leb-false at (length s) h)).0 in
      let z : decoded.Char c next ≡ decoded.End = e ∙ ap (placed at) q in
      impossible cc)

  pub char_here : (c : ℕ) (cs : List ℕ) → chars (drop at s) ≡ c ∷ cs → Here s at c cs
  char_here c cs e = go (front (drop at s)) refl
    where
      absurdly : chars (drop at s) ≡ [] → Here s at c cs
      absurdly n = let z : c ∷ cs ≡ [] = sym e ∙ n in impossible cc

      go : (F : Front) → front (drop at s) ≡ F → Here s at c cs
      go (char d n) f =
          let k : CharAt s at d (at + n) = char_found d (at + n) (sym (ap (placed at) f)) in
          let q : d ∷ chars (drop (at + n) s) ≡ c ∷ cs = sym k.first ∙ e in
          let o : d ≡ c = cc in
          let r : chars (drop (at + n) s) ≡ cs = cc in
          let w : at + n ≡ at + width c = k.on ∙ ap (λ (x : ℕ). at + width x) o in
          record {
            char = subst (λ (x : ℕ). CharAt s at c x) w (subst (λ (x : ℕ). CharAt s at x (at + n)) o k);
            rest = sym r ∙ ap (λ (x : ℕ). chars (drop x s)) w;
          }
      go (bad n) f = absurdly (nothing_at s at decoded.Bad (sym (ap (placed at) f)) (λ c n z. impossible cc))
      go cut f = absurdly (nothing_at s at decoded.Cut (sym (ap (placed at) f)) (λ c n z. impossible cc))
      go none f = absurdly (nothing_at s at decoded.End (sym (ap (placed at) f)) (λ c n z. impossible cc))

-- the characters from a place on lie in the source
pub room : (s : List ℕ) (cs : List ℕ) (at : ℕ) → at ≤ length s → cs ≡ chars (drop at s) → at + byte_count cs ≤ length s
room s [] at h e = omega arith
room s (c ∷ cs) at h e =
    let k : Here s at c cs = char_here s at c cs (sym e) in
    omega (arith, room s cs (at + width c) k.char.inside k.rest)

-- where there is a character the place is in the source
pub char_inside_lem : (s : List ℕ) (at c : ℕ) (cs : List ℕ) → chars (drop at s) ≡ c ∷ cs → at + byte_count (c ∷ cs) ≤ length s
char_inside_lem s at c cs e =
    let k : Here s at c cs = char_here s at c cs e in
    omega (arith, room s cs (at + width c) k.char.inside k.rest)
