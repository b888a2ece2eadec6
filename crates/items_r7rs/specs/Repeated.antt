-- `<thing>*` and `<thing>+` for things of one character each.
use Rattle.std.specs.Prelude.{ℕ, List, [], ◌∷◌}

pub data Many (Thing : ℕ → Type 0) : List ℕ → Type 0 where
  done : Many Thing []
  more : {c : ℕ} {t : List ℕ} → Thing c → Many Thing t → Many Thing (c ∷ t)

pub data Some (Thing : ℕ → Type 0) : List ℕ → Type 0 where
  some : {c : ℕ} {t : List ℕ} → Thing c → Many Thing t → Some Thing (c ∷ t)
