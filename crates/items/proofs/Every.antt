-- What holds of every element of a list.
use mathlib.Core.List.{List, [], ◌∷◌, ◌++◌}

abbrev pub Every : {A : Type 0} → (A → Type 0) → List A → Type 0
Every P [] = Unit {0}
Every P (x ∷ xs) = P x × Every P xs

module _ {A : Type 0} where
  pub every_append : (P : A → Type 0) (xs ys : List A) → Every P xs → Every P ys → Every P (xs ++ ys)
  every_append P [] ys p q = q
  every_append P (x ∷ xs) ys p q = (p.0, every_append P xs ys p.1 q)

  pub every_any : (P : A → Type 0) → ((x : A) → P x) → (xs : List A) → Every P xs
  every_any P f [] = tt
  every_any P f (x ∷ xs) = (f x, every_any P f xs)

  pub every_then : (P Q : A → Type 0) → ((x : A) → P x → Q x) → (xs : List A) → Every P xs → Every Q xs
  every_then P Q f [] p = tt
  every_then P Q f (x ∷ xs) p = (f x p.0, every_then P Q f xs p.1)
