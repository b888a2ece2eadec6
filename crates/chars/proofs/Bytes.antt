-- The bytes of characters one after the other: those of a text in two parts, and of a text with one character more.
use Prim.Native.Nat.{ℕ}
use mathlib.Core.Path.{◌≡◌, refl, ap, ◌∙◌}
use mathlib.Core.List.{List, [], ◌∷◌, ◌++◌, append_assoc, append-nil}
use Rattle.chars.specs.Encode.{utf8, bytes_of}

pub bytes_append : (t u : List ℕ) → bytes_of (t ++ u) ≡ bytes_of t ++ bytes_of u
unfolding bytes_of
bytes_append [] u = refl
bytes_append (c ∷ t) u = rw (bytes_append t u, append_assoc (utf8 c) (bytes_of t) (bytes_of u))

pub bytes_snoc : (t : List ℕ) (c : ℕ) → bytes_of (t ++ (c ∷ [])) ≡ bytes_of t ++ utf8 c
unfolding bytes_of
bytes_snoc t c = bytes_append t (c ∷ []) ∙ ap (λ (l : List ℕ). bytes_of t ++ l) (append-nil (utf8 c))
