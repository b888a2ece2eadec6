-- What error 11 points at in report mode starts and ends between two characters of the text: the empty place stands after a byte of ASCII,
-- the digit too many is one, and the character that is no digit is one of the text's characters, since its first byte starts one.
use Prim.Native.Nat.{ℕ, zero, suc, ◌+◌, ◌-◌, ◌<◌}
use mathlib.Core.Path.{◌≡◌, refl, sym, ap, subst, ◌∙◌}
use mathlib.Core.Bool.{true}
use mathlib.Core.List.{List, [], ◌∷◌, ◌++◌}
use mathlib.Core.Logic.{inl}
use lib.ListN.{length, get_or, drop, length-append, length-drop, get_or-append}
use lib.Seq.{drop-drop, drop-append_seam}
use native.Mathlib.Omega.{arith}
use native.Mathlib.Nat.{zero-add}
use Rattle.laws.proofs.Choice.{impossible}
use Rattle.chars.specs.Utf8.{front, char}
use Rattle.chars.specs.Encode.{utf8, width, bytes_of, is_scalar}
use Rattle.chars.proofs.Round.{back}
use Rattle.chars.proofs.Width.{wide, width-utf8}
use Rattle.items.proofs.Every.{Every}
use Rattle.items_coverage.proofs.Bytes.{passed}
use Rattle.items_errors.specs.Failing.{NoDigits, BadDigit, Overflow, Fails}
use Rattle.items_errors.proofs.Digits.{digit_small}
use Rattle.lines.proofs.Tests.{by_less}
use Rattle.lines_theorems.proofs.Along.{Along, at_start, at_end_case}
use Rattle.lines_theorems.proofs.Bytes.{Starts, placed, tidy, fresh_char, fresh_at, inner_byte}
use Rattle.lines_theorems.proofs.Texts.{at_byte, past_byte}

abbrev pub IsChar : ℕ → Type 0
IsChar c = is_scalar c ≡ true

-- a byte that stands at a place
pub stands_at : (a : ℕ) (l : List ℕ) (k : ℕ) (t : List ℕ) → drop a l ≡ k ∷ t → (a < length l) × (get_or l a 0 ≡ k)
stands_at zero [] k t e = impossible cc
stands_at (suc a) [] k t e = impossible cc
stands_at zero (b ∷ l) k t e = (omega arith, cc)
stands_at (suc a) (b ∷ l) k t e = let r = stands_at a l k t e in (omega (arith, r.0), r.1)

-- characters whose bytes start alike are one
same_char : (x c : ℕ) (l t : List ℕ) → IsChar x → IsChar c → utf8 x ++ l ≡ utf8 c ++ t → x ≡ c
same_char x c l t g h e =
    let f : char x (width x) ≡ char c (width c) = sym (back x l g) ∙ ap front e ∙ back c t h in
    let z : x ≡ c = cc in z

module _ (M : ℕ → Type 0) where
  -- a character that stands in the bytes of characters is one of them
  pub char_there : (at : ℕ) (cs : List ℕ) → Every IsChar cs → Along M at cs → (a c : ℕ) (t : List ℕ) → IsChar c → drop a (bytes_of cs) ≡ utf8 c ++ t
      → M (at + a) × M (at + a + width c)
  unfolding bytes_of
  char_there at [] good h a c t g e = absurd (omega (arith, ap length e, length-drop {A = ℕ} a [], length-append (utf8 c) t, width-utf8 c, wide c))
  char_there at (x ∷ cs) good h a c t g e =
      by_less a (width x)
      (λ l. by_less 0 a
      (λ n. inner_byte x a n (omega (arith, width-utf8 x)) (subst Starts (get_or-append (utf8 x) (bytes_of cs) 0 a (omega (arith, width-utf8 x))) starts))
      (λ n.
      let z : a ≡ 0 = omega arith in
      let f : utf8 x ++ bytes_of cs ≡ utf8 c ++ t = ap (λ (k : ℕ). drop k (bytes_of (x ∷ cs))) (sym z) ∙ e in
      let y : x ≡ c = same_char x c (bytes_of cs) t good.0 g f in
      let p : at ≡ at + a = omega arith in
      let q : at + width x ≡ at + a + width c = omega (arith, ap width y) in
      (subst M p h.0, subst M q (at_start M (at + width x) cs h.1))))
      (λ l.
      let n : ℕ = a - width x in
      let k : a ≡ length (utf8 x) + n = omega (arith, width-utf8 x) in
      let f : drop n (bytes_of cs) ≡ utf8 c ++ t =
      ap (drop n) (sym (drop-append_seam (utf8 x) (bytes_of cs))) ∙ drop-drop n (length (utf8 x)) (bytes_of (x ∷ cs))
      ∙ ap (λ (m : ℕ). drop m (bytes_of (x ∷ cs))) (sym k) ∙ e in
      let r = char_there (at + width x) cs good.1 h.1 n c t g f in
      let p : at + width x + n ≡ at + a = omega arith in
      let q : at + width x + n + width c ≡ at + a + width c = omega arith in
      (subst M p r.0, subst M q r.1))
    where
      -- the byte at a starts a character
      starts : Starts (get_or (bytes_of (x ∷ cs)) a 0)
      starts =
          let l : a < length (bytes_of (x ∷ cs)) =
          omega (arith, ap length e, length-drop a (bytes_of (x ∷ cs)), length-append (utf8 c) t, width-utf8 c, wide c) in
          fresh_at a (bytes_of (x ∷ cs)) l (rw e (fresh_char c t))

  module _ (cs : List ℕ) (good : Every IsChar cs) (h : Along M 0 cs) where
    abbrev whole : List ℕ
    whole = bytes_of cs

    -- a byte of ASCII
    pub byte_there : (n : ℕ) → n < length whole → get_or whole n 0 < 0x80 → M n × M (suc n)
    byte_there n l g =
        let here : M (0 + n) = at_byte M 0 (0 + length whole) whole refl (at_start M 0 cs h) (at_end_case M 0 cs h) (placed M 0 cs h) (tidy cs) n l (inl g) in
        let next : M (0 + suc n) = past_byte M 0 (0 + length whole) whole refl (at_start M 0 cs h) (at_end_case M 0 cs h) (placed M 0 cs h) (tidy cs) n l g in
        (subst M (zero-add n) here, subst M (zero-add (suc n)) next)

    none_there : (a b : ℕ) → NoDigits whole a b → M a × M b
    none_there a b r =
        let k = stands_at (a - 1) whole r.k r.after r.stands in
        let z : suc (a - 1) ≡ a = omega (arith, r.back) in
        let m : M a = subst M z (byte_there (a - 1) k.0 (omega (arith, k.1, r.ascii))).1 in
        (m, subst M (sym r.empty) m)

    bad_there : (a b : ℕ) → BadDigit whole a b → M a × M b
    bad_there a b r =
        let m = char_there 0 cs good h a r.c r.after r.scalar r.stands in
        let z : 0 + a + width r.c ≡ b = omega (arith, r.one) in
        (subst M (zero-add a) m.0, subst M z m.1)

    over_there : (a b : ℕ) → Overflow whole a b → M a × M b
    over_there a b r =
        let z : a ≡ a - length r.ds + length r.ds = omega (arith, r.back) in
        let k = stands_at a whole r.c r.after (ap (λ (n : ℕ). drop n whole) z ∙ passed whole (a - length r.ds) r.ds (r.c ∷ r.after) r.stands) in
        let m = byte_there a k.0 (omega (arith, k.1, digit_small r.c r.digit)) in
        let y : suc a ≡ b = omega (arith, r.one) in
        (m.0, subst M y m.1)

    pub fails_marked : (a b d : ℕ) → Fails whole a b d → M a × M b
    fails_marked a b d (Fails.none r) = none_there a b r
    fails_marked a b d (Fails.bad r) = bad_there a b r
    fails_marked a b d (Fails.over r) = over_there a b r
