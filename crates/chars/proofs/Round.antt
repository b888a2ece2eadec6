-- Decoding what was encoded gives the character back, whatever follows it.
use Prim.Native.Nat.{ℕ, ◌+◌, ◌-◌, ◌*◌, ◌/◌, ◌%◌, ◌≤◌, ◌<◌}
use native.Mathlib.Omega.{arith}
use native.Mathlib.Nat.{add-sub_cancel_left}
use mathlib.Core.Path.{◌≡◌, ap, ◌∙◌}
use mathlib.Core.List.{List, [], ◌∷◌, ◌++◌}
use mathlib.Core.Bool.{true, false}
use mathlib.Core.Logic.{⊎_elim}
use lib.Dec.{ltb}
use lib.ListN.{length}
use borrow.Author.Tests.{ltb-true, ltb-false}
use Rattle.laws.proofs.Choice.{by_bool}
use Rattle.chars.specs.Utf8.{more, first, char, rest, front}
use Rattle.chars.specs.Encode.{is_scalar, two, three, four, utf8, width, encode}
use Rattle.chars.proofs.Table.{within_in, first_ascii, first_c2, first_e0, first_e1, first_ed, first_ee, first_f0, first_f1, first_f4}
use Rattle.chars.proofs.SixBits.{low_six, join_three, div_4096, div_262144}
use Rattle.chars.proofs.Scalar.{scalar_true}
use Rattle.chars.proofs.Width.{utf8-one, utf8-two, utf8-three, utf8-four, width-utf8}

-- ---- from the first byte's line of the table, and the later bytes within their ranges

pub one_read : (b : ℕ) (t : List ℕ) → b < 0x80 → front (b ∷ t) ≡ char b 1
unfolding front
one_read b t h = rw (first_ascii b h)

pub two_read : (b x : ℕ) (t : List ℕ) → first b ≡ more 1 0x80 0xBF (b - 0xC0) → 0x80 ≤ x → x ≤ 0xBF
    → front (b ∷ x ∷ t) ≡ char ((b - 0xC0) * 64 + x % 64) 2
unfolding front rest
two_read b x t e l h = rw (e, within_in 0x80 0xBF x l h)

pub three_read : (b lo hi x y : ℕ) (t : List ℕ) → first b ≡ more 2 lo hi (b - 0xE0) → lo ≤ x → x ≤ hi → 0x80 ≤ y → y ≤ 0xBF
    → front (b ∷ x ∷ y ∷ t) ≡ char (((b - 0xE0) * 64 + x % 64) * 64 + y % 64) 3
unfolding front rest
three_read b lo hi x y t e l h l' h' = rw (e, within_in lo hi x l h, within_in 0x80 0xBF y l' h')

pub four_read : (b lo hi x y z : ℕ) (t : List ℕ) → first b ≡ more 3 lo hi (b - 0xF0) → lo ≤ x → x ≤ hi → 0x80 ≤ y → y ≤ 0xBF → 0x80 ≤ z → z ≤ 0xBF
    → front (b ∷ x ∷ y ∷ z ∷ t) ≡ char ((((b - 0xF0) * 64 + x % 64) * 64 + y % 64) * 64 + z % 64) 4
unfolding front rest
four_read b lo hi x y z t e l h l' h' l'' h'' = rw (e, within_in lo hi x l h, within_in 0x80 0xBF y l' h', within_in 0x80 0xBF z l'' h'')

-- the bits of four bytes join, three at a time
join_four : (c : ℕ) → (((0xF0 + c / 262144 - 0xF0) * 64 + (0x80 + c / 4096 % 64) % 64) * 64 + (0x80 + c / 64 % 64) % 64) * 64 + (0x80 + c % 64) % 64 ≡ c
join_four c = simp (add-sub_cancel_left, low_six, div_262144, div_4096) (omega (arith, join_three (c / 64)))

-- ---- the encodings, by the line of the table that their first byte is on

module _ (c : ℕ) (t : List ℕ) where
  two_back : 0x80 ≤ c → c < 0x800 → front (two c ++ t) ≡ char c 2
  two_back l h =
      two_read _ _ t (first_c2 _ (omega arith) (omega arith)) (omega arith) (omega arith)
      ∙ ap (λ (x : ℕ). char x 2) (omega arith)

  three_e0 : 0x800 ≤ c → c < 0x1000 → front (three c ++ t) ≡ char c 3
  three_e0 l h =
      three_read _ 0xA0 0xBF _ _ t (first_e0 _ (omega arith) (omega arith)) (omega arith) (omega arith) (omega arith) (omega arith)
      ∙ ap (λ (x : ℕ). char x 3) (omega arith)

  three_e1 : 0x1000 ≤ c → c < 0xD000 → front (three c ++ t) ≡ char c 3
  three_e1 l h =
      three_read _ 0x80 0xBF _ _ t (first_e1 _ (omega arith) (omega arith)) (omega arith) (omega arith) (omega arith) (omega arith)
      ∙ ap (λ (x : ℕ). char x 3) (omega arith)

  three_ed : 0xD000 ≤ c → c < 0xD800 → front (three c ++ t) ≡ char c 3
  three_ed l h =
      three_read _ 0x80 0x9F _ _ t (first_ed _ (omega arith) (omega arith)) (omega arith) (omega arith) (omega arith) (omega arith)
      ∙ ap (λ (x : ℕ). char x 3) (omega arith)

  three_ee : 0xE000 ≤ c → c < 0x10000 → front (three c ++ t) ≡ char c 3
  three_ee l h =
      three_read _ 0x80 0xBF _ _ t (first_ee _ (omega arith) (omega arith)) (omega arith) (omega arith) (omega arith) (omega arith)
      ∙ ap (λ (x : ℕ). char x 3) (omega arith)

  four_f0 : 0x10000 ≤ c → c < 0x40000 → front (four c ++ t) ≡ char c 4
  four_f0 l h =
      four_read _ 0x90 0xBF _ _ _ t (first_f0 _ (omega arith) (omega arith)) (omega arith) (omega arith) (omega arith) (omega arith) (omega arith) (omega arith)
      ∙ ap (λ (x : ℕ). char x 4) (join_four c)

  four_f1 : 0x40000 ≤ c → c < 0x100000 → front (four c ++ t) ≡ char c 4
  four_f1 l h =
      four_read _ 0x80 0xBF _ _ _ t (first_f1 _ (omega arith) (omega arith)) (omega arith) (omega arith) (omega arith) (omega arith) (omega arith) (omega arith)
      ∙ ap (λ (x : ℕ). char x 4) (join_four c)

  four_f4 : 0x100000 ≤ c → c < 0x110000 → front (four c ++ t) ≡ char c 4
  four_f4 l h =
      four_read _ 0x80 0x8F _ _ _ t (first_f4 _ (omega arith) (omega arith)) (omega arith) (omega arith) (omega arith) (omega arith) (omega arith) (omega arith)
      ∙ ap (λ (x : ℕ). char x 4) (join_four c)

  three_back : 0x800 ≤ c → c < 0xD800 → front (three c ++ t) ≡ char c 3
  three_back l h =
      by_bool (ltb c 0x1000) (λ e. three_e0 l (ltb-true c 0x1000 e)) (λ e.
      by_bool (ltb c 0xD000) (λ f. three_e1 (ltb-false c 0x1000 e) (ltb-true c 0xD000 f)) (λ f. three_ed (ltb-false c 0xD000 f) h))

  four_back : 0x10000 ≤ c → c < 0x110000 → front (four c ++ t) ≡ char c 4
  four_back l h =
      by_bool (ltb c 0x40000) (λ e. four_f0 l (ltb-true c 0x40000 e)) (λ e.
      by_bool (ltb c 0x100000) (λ f. four_f1 (ltb-false c 0x40000 e) (ltb-true c 0x100000 f)) (λ f. four_f4 (ltb-false c 0x100000 f) h))

-- ---- every character

pub back : (c : ℕ) (t : List ℕ) → is_scalar c ≡ true → front (utf8 c ++ t) ≡ char c (width c)
back c t scalar =
    rw (← width-utf8 c)
    (by_bool (ltb c 0x80) (λ e. rw (utf8-one c (ltb-true c 0x80 e)) (one_read c t (ltb-true c 0x80 e))) (λ e₁.
    let l : 0x80 ≤ c = ltb-false c 0x80 e₁ in
    by_bool (ltb c 0x800) (λ e. rw (utf8-two c l (ltb-true c 0x800 e)) (two_back c t l (ltb-true c 0x800 e))) (λ e₂.
    let m : 0x800 ≤ c = ltb-false c 0x800 e₂ in
    by_bool (ltb c 0x10000)
    (λ e. let h : c < 0x10000 = ltb-true c 0x10000 e in rw (utf8-three c m h) (⊎_elim (λ s. three_back c t m s) (λ s. three_ee c t s.0 h) (scalar_true c scalar)))
    (λ e₃. let n : 0x10000 ≤ c = ltb-false c 0x10000 e₃ in
    rw (utf8-four c n) (four_back c t n (⊎_elim (λ s. omega arith) (λ s. s.1) (scalar_true c scalar)))))))

pub encode_scalar : (c : ℕ) → is_scalar c ≡ true → encode c ≡ utf8 c
unfolding encode
encode_scalar c e = rw e

pub encode_other : (c : ℕ) → is_scalar c ≡ false → encode c ≡ []
unfolding encode
encode_other c e = rw e

pub encode_back : (c : ℕ) (t : List ℕ) → is_scalar c ≡ true → front (encode c ++ t) ≡ char c (length (encode c))
encode_back c t e = rw (encode_scalar c e, width-utf8 c) (back c t e)
