-- A character past ASCII by direct tests of its bytes: what they say is what the table says.
use Prim.Native.Nat.{ℕ, zero, suc, ◌+◌, ◌-◌, ◌*◌, ◌/◌, ◌%◌, ◌≤◌, ◌<◌}
use native.Mathlib.Omega.{arith}
use mathlib.Core.Path.{◌≡◌, refl, sym, ap, subst, ◌∙◌}
use mathlib.Core.List.{List, [], ◌∷◌}
use mathlib.Core.Bool.{Bool, true, false}
use lib.Dec.{eqb, ltb}
use lib.ListN.{length, get_or, take, drop}
use lib.Seq.{drop-cons, drop-drop}
use borrow.Author.Tests.{lt-ltb, le-ltb, eqb-true, eqb-false, ltb-true, ltb-false}
use Rattle.std.specs.Prelude.{Option, Some, None, IfSome, if◌then◌else◌}
use Rattle.std.specs.Option.{unwrap_or}
use Rattle.laws.specs.Quoted.{within}
use Rattle.laws.proofs.Choice.{by_bool, within_is, impossible}
use Rattle.chars.specs.Utf8.{more, first, char, front, sequences, verdict}
use Rattle.chars.specs.Wide.{second3, second4, PastAscii, Wide, Wides, empty, longer, Solid, Passed}
use Rattle.chars.proofs.Table.{within_in, first_c2, first_e0, first_e1, first_ed, first_ee, first_f0, first_f1, first_f4}
use Rattle.chars.proofs.Sequences.{char_some, sequences-char}
use Rattle.chars.specs.Blank.{is_blank}
use Rattle.chars.specs.Encode.{utf8}
use Rattle.chars.proofs.Blanks.{between_blanks, past_blanks}
use Rattle.chars.proofs.Width.{utf8-one, utf8-two, utf8-three}
use Rattle.chars.proofs.Spells.{Spells, spells}
use Rattle.chars.proofs.Round.{one_read, two_read, three_read, four_read}

-- ---- two, three and four bytes

pub wide_two : (b x : ℕ) (t : List ℕ) → 0xC2 ≤ b → b < 0xE0 → within 0x80 0xBF x ≡ true → PastAscii (b ∷ x ∷ t) 2
wide_two b x t l h e =
    let k = within_is 0x80 0xBF x e in
    record { letter = (b - 0xC0) * 64 + x % 64; reads = two_read b x t (first_c2 b l h) k.0 k.1; past = omega arith }

module _ (b x y : ℕ) (t : List ℕ) (f : within 0x80 0xBF y ≡ true) where
  three_of : (lo hi : ℕ) → first b ≡ more 2 lo hi (b - 0xE0) → within lo hi x ≡ true → 0x80 ≤ ((b - 0xE0) * 64 + x % 64) * 64 + y % 64
      → PastAscii (b ∷ x ∷ y ∷ t) 3
  three_of lo hi e k past =
      let i = within_is lo hi x k in
      let j = within_is 0x80 0xBF y f in
      record { letter = ((b - 0xE0) * 64 + x % 64) * 64 + y % 64; reads = three_read b lo hi x y t e i.0 i.1 j.0 j.1; past = past }

  pub wide_three : 0xE0 ≤ b → b < 0xF0 → second3 b x ≡ true → PastAscii (b ∷ x ∷ y ∷ t) 3
  wide_three l h s =
      by_bool (eqb b 0xE0)
      (λ e. let d = eqb-true b 0xE0 e in
      let k : within 0xA0 0xBF x ≡ true = rw e at s in
      let i = within_is 0xA0 0xBF x k in
      three_of 0xA0 0xBF (first_e0 b (omega arith) (omega arith)) k (omega arith))
      (λ e. let d = eqb-false b 0xE0 e in
      by_bool (eqb b 0xED)
      (λ g. let m = eqb-true b 0xED g in
      let k : within 0x80 0x9F x ≡ true = rw (e, g) at s in
      three_of 0x80 0x9F (first_ed b (omega arith) (omega arith)) k (omega arith))
      (λ g. let m = eqb-false b 0xED g in
      let k : within 0x80 0xBF x ≡ true = rw (e, g) at s in
      by_bool (ltb b 0xED)
      (λ u. let v = ltb-true b 0xED u in three_of 0x80 0xBF (first_e1 b (omega arith) (omega arith)) k (omega arith))
      (λ u. let v = ltb-false b 0xED u in three_of 0x80 0xBF (first_ee b (omega arith) (omega arith)) k (omega arith))))

  module _ (z : ℕ) (g : within 0x80 0xBF z ≡ true) where
    four_of : (lo hi : ℕ) → first b ≡ more 3 lo hi (b - 0xF0) → within lo hi x ≡ true → 0x80 ≤ (((b - 0xF0) * 64 + x % 64) * 64 + y % 64) * 64 + z % 64
        → PastAscii (b ∷ x ∷ y ∷ z ∷ t) 4
    four_of lo hi e k past =
        let i = within_is lo hi x k in
        let j = within_is 0x80 0xBF y f in
        let m = within_is 0x80 0xBF z g in
        record {
          letter = (((b - 0xF0) * 64 + x % 64) * 64 + y % 64) * 64 + z % 64;
          reads = four_read b lo hi x y z t e i.0 i.1 j.0 j.1 m.0 m.1;
          past = past;
        }

    pub wide_four : 0xF0 ≤ b → b ≤ 0xF4 → second4 b x ≡ true → PastAscii (b ∷ x ∷ y ∷ z ∷ t) 4
    wide_four l h s =
        by_bool (eqb b 0xF0)
        (λ e. let d = eqb-true b 0xF0 e in
        let k : within 0x90 0xBF x ≡ true = rw e at s in
        let i = within_is 0x90 0xBF x k in
        four_of 0x90 0xBF (first_f0 b (omega arith) (omega arith)) k (omega arith))
        (λ e. let d = eqb-false b 0xF0 e in
        by_bool (eqb b 0xF4)
        (λ u. let m = eqb-true b 0xF4 u in
        let k : within 0x80 0x8F x ≡ true = rw (e, u) at s in
        four_of 0x80 0x8F (first_f4 b (omega arith) (omega arith)) k (omega arith))
        (λ u. let m = eqb-false b 0xF4 u in
        let k : within 0x80 0xBF x ≡ true = rw (e, u) at s in
        four_of 0x80 0xBF (first_f1 b (omega arith) (omega arith)) k (omega arith)))

-- the test of the second byte, by the first
module _ (b x : ℕ) {r : Bool} (e : r ≡ (if ltb b 0xF0 then second3 b x else second4 b x)) (y : r ≡ true) where
  pub second_three : b < 0xF0 → second3 b x ≡ true
  second_three h = rw (lt-ltb b 0xF0 h) at (sym e ∙ y)

  pub second_four : 0xF0 ≤ b → second4 b x ≡ true
  second_four h = rw (le-ltb b 0xF0 h) at (sym e ∙ y)

-- ---- the bytes at a place

module _ (s : List ℕ) (at : ℕ) where
  one_byte : (k : ℕ) → at + k < length s → drop (at + k) s ≡ get_or s (at + k) 0 ∷ drop (at + (k + 1)) s
  one_byte k h =
      let e : suc (at + k) ≡ at + (k + 1) = omega arith in
      drop-cons s (at + k) 0 h ∙ ap (λ (n : ℕ). get_or s (at + k) 0 ∷ drop n s) e

  first_byte : at < length s → drop at s ≡ get_or s at 0 ∷ drop (at + 1) s
  first_byte h =
      let e : suc at ≡ at + 1 = omega arith in
      drop-cons s at 0 h ∙ ap (λ (n : ℕ). get_or s at 0 ∷ drop n s) e

  pub two_bytes : at + 1 < length s → drop at s ≡ get_or s at 0 ∷ get_or s (at + 1) 0 ∷ drop (at + 2) s
  two_bytes h = first_byte (omega arith) ∙ ap (λ (l : List ℕ). get_or s at 0 ∷ l) (one_byte 1 h)

  pub three_bytes : at + 2 < length s → drop at s ≡ get_or s at 0 ∷ get_or s (at + 1) 0 ∷ get_or s (at + 2) 0 ∷ drop (at + 3) s
  three_bytes h = two_bytes (omega arith) ∙ ap (λ (l : List ℕ). get_or s at 0 ∷ get_or s (at + 1) 0 ∷ l) (one_byte 2 h)

  pub four_bytes : at + 3 < length s → drop at s ≡ get_or s at 0 ∷ get_or s (at + 1) 0 ∷ get_or s (at + 2) 0 ∷ get_or s (at + 3) 0 ∷ drop (at + 4) s
  four_bytes h = three_bytes (omega arith) ∙ ap (λ (l : List ℕ). get_or s at 0 ∷ get_or s (at + 1) 0 ∷ get_or s (at + 2) 0 ∷ l) (one_byte 3 h)

  pub at_two : at + 1 < length s → 0xC2 ≤ get_or s at 0 → get_or s at 0 < 0xE0 → within 0x80 0xBF (get_or s (at + 1) 0) ≡ true → PastAscii (drop at s) 2
  at_two h l u e = rw (two_bytes h) (wide_two _ _ _ l u e)

  pub at_three : at + 2 < length s → 0xE0 ≤ get_or s at 0 → get_or s at 0 < 0xF0 → within 0x80 0xBF (get_or s (at + 2) 0) ≡ true
      → second3 (get_or s at 0) (get_or s (at + 1) 0) ≡ true → PastAscii (drop at s) 3
  at_three h l u e f = rw (three_bytes h) (wide_three _ _ _ _ e l u f)

  pub at_four : at + 3 < length s → 0xF0 ≤ get_or s at 0 → get_or s at 0 ≤ 0xF4 → within 0x80 0xBF (get_or s (at + 2) 0) ≡ true
      → within 0x80 0xBF (get_or s (at + 3) 0) ≡ true → second4 (get_or s at 0) (get_or s (at + 1) 0) ≡ true → PastAscii (drop at s) 4
  at_four h l u e f g = rw (four_bytes h) (wide_four _ _ _ _ e _ f l u g)

-- ---- what an answer says

pub is_past : (l : List ℕ) (n : ℕ) → 0 < n → Wide l n → PastAscii l n
is_past l zero h w = absurd (omega arith)
is_past l (suc n) h w = w

pub wide_or : (l : List ℕ) (o : Option ℕ) → IfSome o (λ n. PastAscii l n) → Wide l (unwrap_or o 0)
wide_or l None w = tt
wide_or l (Some zero) w = tt
wide_or l (Some (suc n)) w = w

-- it has a byte or more
pub past_some : (l : List ℕ) (n : ℕ) → PastAscii l n → 1 ≤ n
past_some l n w = char_some l w.letter n w.reads

-- it stands in the text
pub past_fits : (l : List ℕ) (n : ℕ) → PastAscii l n → n ≤ length l
past_fits l n w = (subst (Spells l) w.reads (spells l)).2

-- ---- passing

pub passed_none : (s : List ℕ) (at : ℕ) → Passed s at at
passed_none s at = (omega arith, refl)

pub passed_on : (s : List ℕ) (at m r : ℕ) → Passed s at m → Passed s m r → Passed s at r
passed_on s at m r x y = (omega (arith, x.0, y.0), y.1 ∙ x.1)

passed_char : (s : List ℕ) (at c n : ℕ) → front (drop at s) ≡ char c n → Passed s at (at + n)
passed_char s at c n e =
    (omega arith, sym (ap verdict (sequences-char at (drop at s) c n e) ∙ ap (λ (l : List ℕ). verdict (sequences 0 (at + n) l)) (drop-drop n at s)))

pub passed_wide : (s : List ℕ) (at n : ℕ) → PastAscii (drop at s) n → Passed s at (at + n)
passed_wide s at n w = passed_char s at w.letter n w.reads

pub passed_wides : (s : List ℕ) (at r : ℕ) → Wides s at r → Passed s at r
passed_wides s at r empty = passed_none s at
passed_wides s at r (longer {m} {n} x w) = passed_on s at m (m + n) (passed_wides s at m x) (passed_wide s m n w)

pub passed_small : (s : List ℕ) (at : ℕ) → at < length s → get_or s at 0 < 0x80 → Passed s at (at + 1)
passed_small s at h l = passed_char s at (get_or s at 0) 1 (rw (first_byte s at h) (one_read (get_or s at 0) (drop (at + 1) s) l))

-- ---- a first byte that no blank has

-- no character has no bytes
pub no_solid : (l : List ℕ) → Solid l 0
no_solid l c e = absurd (omega (arith, char_some l c 0 e))

module _ (b : ℕ) (t : List ℕ) (no-c2 : b ≡ 0xC2 → ⊥) (no-e : within 0xE1 0xE3 b ≡ false) where
  off : (lo hi : ℕ) → within lo hi b ≡ false → (lo ≤ b) → b ≤ hi → ⊥
  off lo hi e l h = let z : true ≡ false = sym (within_in lo hi b l h) ∙ e in impossible cc

  spelled_solid : (c n : ℕ) → take (suc n) (b ∷ t) ≡ utf8 c → 0x80 ≤ b → is_blank c ≡ false
  spelled_solid c n w past =
      by_bool (ltb c 0x80)
      (λ e. let h = ltb-true c 0x80 e in
      let k : b ∷ take n t ≡ c ∷ [] = w ∙ utf8-one c h in
      let d : b ≡ c = cc in absurd (omega arith))
      (λ e. let l = ltb-false c 0x80 e in
      by_bool (ltb c 0x800)
      (λ f. let h = ltb-true c 0x800 f in
      let k : b ∷ take n t ≡ (0xC0 + c / 64) ∷ (0x80 + c % 64) ∷ [] = w ∙ utf8-two c l h in
      let d : b ≡ 0xC0 + c / 64 = cc in
      between_blanks c (omega arith) (omega arith) (λ x. omega arith) (λ x. no-c2 (omega arith)) (λ x. no-c2 (omega arith)) (λ x. omega arith))
      (λ f. let m = ltb-false c 0x800 f in
      by_bool (ltb c 0x10000)
      (λ g. let h = ltb-true c 0x10000 g in
      let k : b ∷ take n t ≡ (0xE0 + c / 4096) ∷ (0x80 + c / 64 % 64) ∷ (0x80 + c % 64) ∷ [] = w ∙ utf8-three c m h in
      let d : b ≡ 0xE0 + c / 4096 = cc in
      by_bool (ltb c 0x1000)
      (λ u. let v = ltb-true c 0x1000 u in
      between_blanks c (omega arith) (omega arith) (λ x. omega arith) (λ x. omega arith) (λ x. omega arith) (λ x. omega arith))
      (λ u. let v = ltb-false c 0x1000 u in
      by_bool (ltb c 0x4000)
      (λ q. let r = ltb-true c 0x4000 q in absurd (off 0xE1 0xE3 no-e (omega arith) (omega arith)))
      (λ q. let r = ltb-false c 0x4000 q in past_blanks c (omega arith))))
      (λ g. let h = ltb-false c 0x10000 g in past_blanks c (omega arith))))

  pub lead_solid : (n : ℕ) → 0x80 ≤ b → Solid (b ∷ t) n
  lead_solid zero past = no_solid (b ∷ t)
  lead_solid (suc n) past = λ c e. spelled_solid c n (subst (Spells (b ∷ t)) e (spells (b ∷ t))).0 past

-- the first byte of a character past ASCII is past ASCII
lead_past : (b : ℕ) (t : List ℕ) (n : ℕ) → PastAscii (b ∷ t) n → 0x80 ≤ b
lead_past b t n w =
    by_bool (ltb b 0x80)
    (λ e. let z : char w.letter n ≡ char b 1 = sym w.reads ∙ one_read b t (ltb-true b 0x80 e) in
    let d : w.letter ≡ b = cc in absurd (omega (arith, w.past, ltb-true b 0x80 e)))
    (λ e. ltb-false b 0x80 e)

pub solid_at : (s : List ℕ) (at n : ℕ) → at < length s → (get_or s at 0 ≡ 0xC2 → ⊥) → within 0xE1 0xE3 (get_or s at 0) ≡ false
    → Wide (drop at s) n → Solid (drop at s) n
solid_at s at zero h d e w = no_solid (drop at s)
solid_at s at (suc n) h d e w =
    rw (first_byte s at h)
    (lead_solid (get_or s at 0) (drop (at + 1) s) d e (suc n) (lead_past (get_or s at 0) (drop (at + 1) s) (suc n) (rw (first_byte s at h) at w)))
