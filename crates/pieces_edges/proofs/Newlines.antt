-- Bytes replaced one by one, from the first on.
use Rattle.std.proofs.Common.{◌≡◌, ℕ, zero, suc, ◌+◌, ◌<◌, ◌≤◌, List, [], ◌∷◌, map, length, get_or, set, refl, ap, add-one, arith}
use Rattle.pieces_edges.specs.Fields.{real_of}

-- the first i of them are
unfoldable pub replaced : ℕ → List ℕ → List ℕ
replaced zero s = s
replaced (suc i) [] = []
replaced (suc i) (b ∷ s) = real_of b ∷ replaced i s

pub replaced_none : (s : List ℕ) → s ≡ replaced 0 s
unfolding replaced
replaced_none s = refl

replaced-suc : (i : ℕ) (s : List ℕ) → i < length s → set (replaced i s) i (real_of (get_or (replaced i s) i 0)) ≡ replaced (suc i) s
unfolding replaced
replaced-suc i [] h = absurd (omega arith)
replaced-suc zero (b ∷ s) h = refl
replaced-suc (suc i) (b ∷ s) h = ap (λ (l : List ℕ). real_of b ∷ l) (replaced-suc i s (omega arith))

pub replaced_next : (i : ℕ) (s : List ℕ) {now : List ℕ} {x : ℕ} → i < length s → now ≡ replaced i s → x ≡ real_of (get_or now i 0)
    → set now i x ≡ replaced (i + 1) s
replaced_next i s h e f = rw (f, e, add-one i) (replaced-suc i s h)

pub replaced_all : (i : ℕ) (s : List ℕ) → length s ≤ i → replaced i s ≡ map real_of s
unfolding replaced
replaced_all zero [] h = refl
replaced_all zero (b ∷ s) h = absurd (omega arith)
replaced_all (suc i) [] h = refl
replaced_all (suc i) (b ∷ s) h = ap (λ (l : List ℕ). real_of b ∷ l) (replaced_all i s (omega arith))
