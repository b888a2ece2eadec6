-- A byte of ASCII splits the bytes of characters into those of the characters before it and after it.
use Prim.Native.Nat.{ℕ, ◌<◌}
use mathlib.Core.Path.{◌≡◌, refl, sym, ap, ◌∙◌}
use mathlib.Core.List.{List, [], ◌∷◌, ◌++◌}
use native.Mathlib.Omega.{arith}
use Rattle.laws.proofs.Choice.{impossible}
use Rattle.chars.specs.Encode.{utf8, bytes_of}
use Rattle.items.proofs.Every.{Every}
use Rattle.items_coverage.proofs.Bytes.{High, Spelt, low, high, spelt}

module _ (b : ℕ) (ascii : b < 0x80) (v : List ℕ) where
  -- high bytes before it stand before it
  past_high : (w l u : List ℕ) → Every High w → w ++ l ≡ u ++ b ∷ v → (r : List ℕ) × (u ≡ w ++ r) × (l ≡ r ++ b ∷ v)
  past_high [] l u h e = (u, refl, e)
  past_high (x ∷ w) l [] h e = let z : x ≡ b = cc in absurd (omega (arith, h.0))
  past_high (x ∷ w) l (y ∷ u) h e =
      let z : x ≡ y = cc in
      let t : w ++ l ≡ u ++ b ∷ v = cc in
      let r = past_high w l u h.1 t in
      (r.0, ap (λ (k : ℕ). k ∷ u) (sym z) ∙ ap (λ (k : List ℕ). x ∷ k) r.1, r.2)

  -- characters whose bytes are u, b and v
  pub record Split (cs u : List ℕ) : Type 0 where
    pub us : List ℕ
    pub vs : List ℕ
    pub chars : cs ≡ us ++ b ∷ vs
    pub before : bytes_of us ≡ u
    pub after : bytes_of vs ≡ v

  pub split : (cs u : List ℕ) → bytes_of cs ≡ u ++ b ∷ v → Split cs u
  unfolding bytes_of
  split [] [] e = impossible cc
  split [] (y ∷ u) e = impossible cc
  split (c ∷ cs) u e = go (λ k f. split cs k f) (utf8 c) refl (spelt c) u e
    where
      -- a split of what follows c, with c before it
      with_first : (w u : List ℕ) → w ≡ utf8 c → (k : List ℕ) → Split cs k → w ++ k ≡ u → Split (c ∷ cs) u
      with_first w u f k r e = record {
        us = c ∷ r.us;
        vs = r.vs;
        chars = ap (λ (l : List ℕ). c ∷ l) r.chars;
        before = ap (λ (l : List ℕ). l ++ bytes_of r.us) (sym f) ∙ ap (λ (l : List ℕ). w ++ l) r.before ∙ e;
        after = r.after;
      }

      go : ((k : List ℕ) → bytes_of cs ≡ k ++ b ∷ v → Split cs k) → (w : List ℕ) → w ≡ utf8 c → Spelt c w → (u : List ℕ)
          → w ++ bytes_of cs ≡ u ++ b ∷ v
          → Split (c ∷ cs) u
      go on w f (low h) [] e =
          let z : c ≡ b = cc in
          let t : bytes_of cs ≡ v = cc in
          record { us = []; vs = cs; chars = ap (λ (k : ℕ). k ∷ cs) z; before = refl; after = t }
      go on w f (low h) (y ∷ u) e =
          let z : c ≡ y = cc in let t : bytes_of cs ≡ u ++ b ∷ v = cc in with_first (c ∷ []) (y ∷ u) f u (on u t) (ap (λ (k : ℕ). k ∷ u) z)
      go on w f (high x x2 g h) u e =
          let p = past_high (x ∷ x2) (bytes_of cs) u h e in with_first (x ∷ x2) u f p.0 (on p.0 p.2) (sym p.1)
