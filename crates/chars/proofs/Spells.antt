-- The bytes of a decoded character are its encoding, and it is a character's number: the inverse of Round.
use Prim.Native.Nat.{ℕ, ◌+◌, ◌-◌, ◌*◌, ◌/◌, ◌%◌, ◌≤◌, ◌<◌}
use native.Mathlib.Omega.{arith}
use mathlib.Core.Path.{◌≡◌, sym, ◌∙◌}
use mathlib.Core.List.{List, [], ◌∷◌}
use mathlib.Core.Bool.{true}
use mathlib.Core.Logic.{◌⊎◌, inl, inr, ⊎_elim}
use lib.ListN.{length, take}
use Rattle.laws.proofs.Choice.{if_is, within_is}
use Rattle.chars.specs.declared.Step.{Step}
use Rattle.laws.specs.Quoted.{within}
use Rattle.chars.specs.Utf8.{ascii, first, Front, char, bad, cut, none, rest, after, front}
use Rattle.chars.specs.Encode.{is_scalar, utf8}
use Rattle.chars.proofs.SixBits.{high, low, div_4096, div_262144}
use Rattle.chars.proofs.Scalar.{scalar_low, scalar_high}
use Rattle.chars.proofs.Width.{utf8-one, utf8-two, utf8-three, utf8-four}

-- what stands at the front of l, if it is a character c of n bytes: they are c's encoding
abbrev pub Spells : List ℕ → Front → Type 0
Spells l (char c n) = (take n l ≡ utf8 c) × (is_scalar c ≡ true) × (n ≤ length l)
Spells l (bad n) = Unit {0}
Spells l cut = Unit {0}
Spells l none = Unit {0}

-- ---- two, three and four bytes within their ranges

spells_two : (b x : ℕ) (t : List ℕ) → 0xC2 ≤ b → b ≤ 0xDF → 0x80 ≤ x → x ≤ 0xBF → Spells (b ∷ x ∷ t) (char ((b - 0xC0) * 64 + x % 64) 2)
spells_two b x t g h g' h' =
    let c : ℕ = (b - 0xC0) * 64 + x % 64 in
    let l : 0x80 ≤ c = omega arith in
    let u : c < 0x800 = omega arith in
    let p : 0xC0 + c / 64 ≡ b = omega arith in
    (sym (utf8-two c l u ∙ rw (p, low (b - 0xC0) x g' h')), scalar_low c (omega arith), omega arith)

-- no surrogate among c..d
abbrev Clear : ℕ → ℕ → Type 0
Clear c d = (d < 0xD800) ⊎ (0xE000 ≤ c)

spells_three : (b x y : ℕ) (t : List ℕ) → 0xE0 ≤ b → b ≤ 0xEF → 0x80 ≤ x → x ≤ 0xBF → 0x80 ≤ y → y ≤ 0xBF → 0x800 ≤ ((b - 0xE0) * 64 + x % 64) * 64 + y % 64
    → Clear (((b - 0xE0) * 64 + x % 64) * 64 + y % 64) (((b - 0xE0) * 64 + x % 64) * 64 + y % 64)
    → Spells (b ∷ x ∷ y ∷ t) (char (((b - 0xE0) * 64 + x % 64) * 64 + y % 64) 3)
spells_three b x y t g h g' h' g'' h'' l clear =
    let w : ℕ = (b - 0xE0) * 64 + x % 64 in
    let c : ℕ = w * 64 + y % 64 in
    let u : c < 0x10000 = omega arith in
    let p : 0xE0 + w / 64 ≡ b = omega arith in (
      sym (utf8-three c l u ∙ rw (div_4096 c, high w y, p, low (b - 0xE0) x g' h', low w y g'' h'')),
      ⊎_elim (λ k. scalar_low c k) (λ k. scalar_high c k (omega arith)) clear,
      omega arith,
    )

spells_four : (b x y z : ℕ) (t : List ℕ) → 0xF0 ≤ b → b ≤ 0xF4 → 0x80 ≤ x → x ≤ 0xBF → 0x80 ≤ y → y ≤ 0xBF → 0x80 ≤ z → z ≤ 0xBF
    → 0x10000 ≤ (((b - 0xF0) * 64 + x % 64) * 64 + y % 64) * 64 + z % 64 → (b - 0xF0) * 64 + x % 64 < 0x110
    → Spells (b ∷ x ∷ y ∷ z ∷ t) (char ((((b - 0xF0) * 64 + x % 64) * 64 + y % 64) * 64 + z % 64) 4)
spells_four b x y z t g h g' h' g'' h'' g''' h''' l top =
    let v : ℕ = (b - 0xF0) * 64 + x % 64 in
    let w : ℕ = v * 64 + y % 64 in
    let c : ℕ = w * 64 + z % 64 in
    let p : 0xF0 + v / 64 ≡ b = omega arith in (
      sym (utf8-four c l ∙ rw (div_262144 c, div_4096 c, high w z, high v y, p, low (b - 0xF0) x g' h', low v y g'' h'', low w z g''' h''')),
      scalar_high c (omega arith) (omega arith),
      omega arith,
    )

-- ---- the bytes after the first, by their count

module _ (b lo hi : ℕ) where
  rest_two : 0xC2 ≤ b → b ≤ 0xDF → 0x80 ≤ lo → hi ≤ 0xBF → (t : List ℕ) → Spells (b ∷ t) (rest 1 lo hi (b - 0xC0) 1 t)
  unfolding rest
  rest_two g h l u [] = tt
  rest_two g h l u (x ∷ t) =
      if_is (Spells (b ∷ x ∷ t)) (within lo hi x)
      (λ e. let k = within_is lo hi x e in spells_two b x t g h (omega arith) (omega arith))
      (λ _. tt)

  rest_three : 0xE0 ≤ b → b ≤ 0xEF → 0x80 ≤ lo → hi ≤ 0xBF → 0x800 ≤ ((b - 0xE0) * 64 + (lo - 0x80)) * 64
      → Clear (((b - 0xE0) * 64 + (lo - 0x80)) * 64) (((b - 0xE0) * 64 + (hi - 0x80)) * 64 + 63)
      → (t : List ℕ) → Spells (b ∷ t) (rest 2 lo hi (b - 0xE0) 1 t)
  unfolding rest
  rest_three g h l u m clear [] = tt
  rest_three g h l u m clear (x ∷ []) = if_is (Spells (b ∷ x ∷ [])) (within lo hi x) (λ _. tt) (λ _. tt)
  rest_three g h l u m clear (x ∷ y ∷ t) =
      let S : Front → Type 0 = Spells (b ∷ x ∷ y ∷ t) in
      if_is S (within lo hi x)
      (λ e. if_is S (within 0x80 0xBF y)
      (λ f. let k = within_is lo hi x e in let j = within_is 0x80 0xBF y f in
      spells_three b x y t g h (omega arith) (omega arith) j.0 j.1 (omega arith) (⊎_elim (λ d. inl (omega arith)) (λ d. inr (omega arith)) clear))
      (λ _. tt))
      (λ _. tt)

  rest_four : 0xF0 ≤ b → b ≤ 0xF4 → 0x80 ≤ lo → hi ≤ 0xBF → 0x10 ≤ (b - 0xF0) * 64 + (lo - 0x80) → (b - 0xF0) * 64 + (hi - 0x80) < 0x110
      → (t : List ℕ) → Spells (b ∷ t) (rest 3 lo hi (b - 0xF0) 1 t)
  unfolding rest
  rest_four g h l u m top [] = tt
  rest_four g h l u m top (x ∷ []) = if_is (Spells (b ∷ x ∷ [])) (within lo hi x) (λ _. tt) (λ _. tt)
  rest_four g h l u m top (x ∷ y ∷ []) =
      let S : Front → Type 0 = Spells (b ∷ x ∷ y ∷ []) in
      if_is S (within lo hi x) (λ _. if_is S (within 0x80 0xBF y) (λ _. tt) (λ _. tt)) (λ _. tt)
  rest_four g h l u m top (x ∷ y ∷ z ∷ t) =
      let S : Front → Type 0 = Spells (b ∷ x ∷ y ∷ z ∷ t) in
      if_is S (within lo hi x)
      (λ e. if_is S (within 0x80 0xBF y)
      (λ f. if_is S (within 0x80 0xBF z)
      (λ i. let k = within_is lo hi x e in let j = within_is 0x80 0xBF y f in let q = within_is 0x80 0xBF z i in
      let w : lo - 0x80 ≤ x % 64 = omega arith in
      let w' : x % 64 ≤ hi - 0x80 = omega arith in
      let n : 0x10 ≤ (b - 0xF0) * 64 + x % 64 = omega arith in
      spells_four b x y z t g h (omega arith) (omega arith) j.0 j.1 q.0 q.1 (omega arith) (omega arith))
      (λ _. tt))
      (λ _. tt))
      (λ _. tt)

-- ---- the lines of the table

spells_first : (b : ℕ) (t : List ℕ) → Spells (b ∷ t) (after (first b) t)
unfolding first
spells_first b t =
    if_is P (ascii b) (λ e. let h = within_is 0x00 0x7F b e in (sym (utf8-one b (omega arith)), scalar_low b (omega arith), omega arith)) (λ _.
    if_is P (within 0xC2 0xDF b) (λ e. let h = within_is 0xC2 0xDF b e in rest_two b 0x80 0xBF h.0 h.1 (omega arith) (omega arith) t) (λ _.
    if_is P (within 0xE0 0xE0 b) (λ e. let h = within_is 0xE0 0xE0 b e in three 0xA0 0xBF (omega arith) (omega arith) (omega arith) (omega arith) (omega arith) (inl (omega arith))) (λ _.
    if_is P (within 0xE1 0xEC b) (λ e. let h = within_is 0xE1 0xEC b e in three 0x80 0xBF (omega arith) (omega arith) (omega arith) (omega arith) (omega arith) (inl (omega arith))) (λ _.
    if_is P (within 0xED 0xED b) (λ e. let h = within_is 0xED 0xED b e in three 0x80 0x9F (omega arith) (omega arith) (omega arith) (omega arith) (omega arith) (inl (omega arith))) (λ _.
    if_is P (within 0xEE 0xEF b) (λ e. let h = within_is 0xEE 0xEF b e in three 0x80 0xBF (omega arith) (omega arith) (omega arith) (omega arith) (omega arith) (inr (omega arith))) (λ _.
    if_is P (within 0xF0 0xF0 b) (λ e. let h = within_is 0xF0 0xF0 b e in four 0x90 0xBF (omega arith) (omega arith) (omega arith) (omega arith) (omega arith) (omega arith)) (λ _.
    if_is P (within 0xF1 0xF3 b) (λ e. let h = within_is 0xF1 0xF3 b e in four 0x80 0xBF (omega arith) (omega arith) (omega arith) (omega arith) (omega arith) (omega arith)) (λ _.
    if_is P (within 0xF4 0xF4 b) (λ e. let h = within_is 0xF4 0xF4 b e in four 0x80 0x8F (omega arith) (omega arith) (omega arith) (omega arith) (omega arith) (omega arith)) (λ _. tt)))))))))
  where
    P : Step → Type 0
    P o = Spells (b ∷ t) (after o t)

    three : (lo hi : ℕ) → 0xE0 ≤ b → b ≤ 0xEF → 0x80 ≤ lo → hi ≤ 0xBF → 0x800 ≤ ((b - 0xE0) * 64 + (lo - 0x80)) * 64
        → Clear (((b - 0xE0) * 64 + (lo - 0x80)) * 64) (((b - 0xE0) * 64 + (hi - 0x80)) * 64 + 63) → Spells (b ∷ t) (rest 2 lo hi (b - 0xE0) 1 t)
    three lo hi g h l u m c = rest_three b lo hi g h l u m c t

    four : (lo hi : ℕ) → 0xF0 ≤ b → b ≤ 0xF4 → 0x80 ≤ lo → hi ≤ 0xBF → 0x10 ≤ (b - 0xF0) * 64 + (lo - 0x80) → (b - 0xF0) * 64 + (hi - 0x80) < 0x110
        → Spells (b ∷ t) (rest 3 lo hi (b - 0xF0) 1 t)
    four lo hi g h l u m c = rest_four b lo hi g h l u m c t

pub spells : (l : List ℕ) → Spells l (front l)
unfolding front
spells [] = tt
spells (b ∷ t) = spells_first b t
