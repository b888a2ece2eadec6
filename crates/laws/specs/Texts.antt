-- Texts as lists of numbers: how far a run goes, and how two texts compare.
use Rattle.std.specs.Prelude.{ℕ, suc, Bool, true, false, not, ◌&&◌, List, [], ◌∷◌, eqb, if◌then◌else◌}

-- how many elements s starts with that pass the test f
unfoldable pub span : (ℕ → Bool) → List ℕ → ℕ
span f [] = 0
span f (c ∷ s) = if f c then suc (span f s) else 0

-- how many elements of s stand before the first b; all of them where there is none
abbrev pub before : ℕ → List ℕ → ℕ
before b s = span (λ c. not (eqb c b)) s

-- whether s starts with b
unfoldable pub starts : ℕ → List ℕ → Bool
starts b [] = false
starts b (c ∷ s) = eqb c b

-- whether p begins s
unfoldable pub begins : List ℕ → List ℕ → Bool
begins [] s = true
begins (x ∷ p) [] = false
begins (x ∷ p) (y ∷ s) = eqb x y && begins p s

-- whether s and t are one text
unfoldable pub same : List ℕ → List ℕ → Bool
same [] [] = true
same [] (y ∷ t) = false
same (x ∷ s) [] = false
same (x ∷ s) (y ∷ t) = eqb x y && same s t
