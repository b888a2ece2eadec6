-- What the digit reader refuses, in the digits' characters and bytes: the character that is no digit, and the digit that is one too many.
use Rattle.std.proofs.Common.{Ok, Err}
use Prim.Native.Nat.{ℕ, ◌+◌, ◌*◌, ◌^◌, ◌≤◌, ◌<◌}
use mathlib.Core.Path.{◌≡◌, refl, sym, ap, subst, ◌∙◌}
use mathlib.Core.Bool.{true, false}
use mathlib.Core.List.{List, [], ◌∷◌, ◌++◌, append_assoc}
use mathlib.Core.Logic.{◌⊎◌, inl, inr}
use lib.ListN.{length}
use lib.Dec.{ltb, eqb}
use native.Mathlib.Omega.{arith}
use borrow.Author.Tests.{lt-ltb, ltb-true, ltb-false, eq-eqb, eqb-true, ne_eqb}
use Rattle.laws.specs.Quoted.{code, within}
use Rattle.laws.specs.Texts.{starts}
use Rattle.laws.proofs.Choice.{by_bool, if_all, within_is, impossible}
use Rattle.chars.specs.Encode.{utf8, bytes_of, is_scalar}
use Rattle.chars.proofs.Bytes.{bytes_append}
use Rattle.digits.specs.Digits.{digit_of, value}
use Rattle.digits.proofs.HexDigits.{same_wrong}
use Rattle.digits.specs.Hex.{hex_digits, hex_after_plus, hex_value, empty, bad_digit, overflow, Hex, wrong}
use Rattle.items.proofs.Every.{Every}
use Rattle.items_coverage.proofs.Bytes.{bytes_some, Spelt, low, high, spelt}
use Rattle.items_errors.specs.Failing.{IsDigit}
use Rattle.items_errors.specs.First.{plus}

pub every_right : (P : ℕ → Type 0) (xs ys : List ℕ) → Every P (xs ++ ys) → Every P ys
every_right P [] ys h = h
every_right P (x ∷ xs) ys h = every_right P xs ys h.1

-- no byte and no character past ASCII is a digit
high_none : (c : ℕ) → 0x80 ≤ c → 16 ≤ digit_of c
unfolding digit_of
high_none c h =
    by_bool (within (code "0") (code "9") c) (λ e. absurd (omega (arith, (within_is (code "0") (code "9") c e).1)))
    (λ e. by_bool (within (code "A") (code "F") c) (λ f. absurd (omega (arith, (within_is (code "A") (code "F") c f).1)))
    (λ f. by_bool (within (code "a") (code "f") c) (λ g. absurd (omega (arith, (within_is (code "a") (code "f") c g).1)))
    (λ g. rw (e, f, g) (omega arith))))

pub digit_small : (c : ℕ) → IsDigit c → c < 0x80
digit_small c h = by_bool (ltb c 0x80) (λ e. ltb-true c 0x80 e) (λ e. absurd (omega (arith, high_none c (ltb-false c 0x80 e))))

plus_no_digit : 16 ≤ digit_of (code "+")
unfolding digit_of within
plus_no_digit = omega arith

-- ---- a bad digit, after digits of the value v

pub record Bad (hs : List ℕ) (q v p : ℕ) : Type 0 where
  pub good : List ℕ
  pub c : ℕ
  pub after : List ℕ
  pub is : hs ≡ good ++ c ∷ after
  pub plain : bytes_of good ≡ good
  pub place : q + length good ≡ p
  pub digits : Every IsDigit good
  pub fits : value 16 v good < 2 ^ 32
  pub wrong : 16 ≤ digit_of c

pub bad_digits : (hs : List ℕ) (q v p : ℕ) → v < 2 ^ 32 → hex_digits q v (bytes_of hs) ≡ wrong bad_digit p → Bad hs q v p
unfolding hex_digits bytes_of value
bad_digits [] q v p small e = impossible cc
bad_digits (c ∷ hs) q v p small e = go (λ n l f. bad_digits hs (q + 1) n p l f) (utf8 c) refl (spelt c) e
  where
    here : q ≡ p → 16 ≤ digit_of c → Bad (c ∷ hs) q v p
    here z w = record { good = []; c = c; after = hs; is = refl; plain = refl; place = omega arith; digits = tt; fits = small; wrong = w }

    go : ((n : ℕ) → n < 2 ^ 32 → hex_digits (q + 1) n (bytes_of hs) ≡ wrong bad_digit p → Bad hs (q + 1) n p)
        → (w : List ℕ) → w ≡ utf8 c → Spelt c w → hex_digits q v (w ++ bytes_of hs) ≡ wrong bad_digit p → Bad (c ∷ hs) q v p
    go on w f (low h) e = by_bool (ltb (digit_of c) 16)
        (λ g. by_bool (ltb (v * 16 + digit_of c) (2 ^ 32))
        (λ k. let r = on (v * 16 + digit_of c) (ltb-true _ _ k) (rw (g, k, hex_digits) at e) in
        record {
          good = c ∷ r.good;
          c = r.c;
          after = r.after;
          is = ap (λ (l : List ℕ). c ∷ l) r.is;
          plain = ap (λ (l : List ℕ). l ++ bytes_of r.good) (sym f) ∙ ap (λ (l : List ℕ). c ∷ l) r.plain;
          place = omega (arith, r.place);
          digits = (ltb-true _ _ g, r.digits);
          fits = r.fits;
          wrong = r.wrong;
        })
        (λ k. let t : wrong overflow q ≡ wrong bad_digit p = rw (g, k, hex_digits) at e in let z : ◌≡◌ {A = ℕ} 3 2 = (same_wrong overflow bad_digit q p t).0 in absurd (omega arith)))
        (λ g. let t : wrong bad_digit q ≡ wrong bad_digit p = rw (g, hex_digits) at e in let z : q ≡ p = (same_wrong bad_digit bad_digit q p t).1 in here z (ltb-false _ _ g))
    go on w f (high x u g h) e =
        let no : ltb (digit_of x) 16 ≡ false = not_digit (high_none x h.0) in
        let t : wrong bad_digit q ≡ wrong bad_digit p = rw (no, hex_digits) at e in
        let z : q ≡ p = (same_wrong bad_digit bad_digit q p t).1 in here z (high_none c g)
      where
        not_digit : {n : ℕ} → 16 ≤ n → ltb n 16 ≡ false
        not_digit {n} h = by_bool (ltb n 16) (λ e. absurd (omega (arith, ltb-true n 16 e))) (λ e. e)

-- ---- one digit too many, after the digits of the value v

pub record Over (s : List ℕ) (q v p : ℕ) : Type 0 where
  pub ds : List ℕ
  pub c : ℕ
  pub after : List ℕ
  pub is : s ≡ ds ++ c ∷ after
  pub place : q + length ds ≡ p
  pub digits : Every IsDigit ds
  pub digit : IsDigit c
  pub fits : value 16 v ds < 2 ^ 32
  pub large : 2 ^ 32 ≤ value 16 v (ds ++ c ∷ [])

pub over_digits : (s : List ℕ) (q v p : ℕ) → v < 2 ^ 32 → hex_digits q v s ≡ wrong overflow p → Over s q v p
unfolding hex_digits value
over_digits [] q v p h e = impossible cc
over_digits (c ∷ s) q v p h e = by_bool (ltb (digit_of c) 16)
    (λ g. by_bool (ltb (v * 16 + digit_of c) (2 ^ 32))
    (λ k. let r = over_digits s (q + 1) (v * 16 + digit_of c) p (ltb-true _ _ k) (rw (g, k, hex_digits) at e) in
    record {
      ds = c ∷ r.ds;
      c = r.c;
      after = r.after;
      is = ap (λ (l : List ℕ). c ∷ l) r.is;
      place = omega (arith, r.place);
      digits = (ltb-true _ _ g, r.digits);
      digit = r.digit;
      fits = r.fits;
      large = r.large;
    })
    (λ k. let t : wrong overflow q ≡ wrong overflow p = rw (g, k, hex_digits) at e in
    let z : q ≡ p = (same_wrong overflow overflow q p t).1 in
    record { ds = []; c = c; after = s; is = refl; place = omega arith; digits = tt; digit = ltb-true _ _ g; fits = h; large = ltb-false _ _ k }))
    (λ g. let t : wrong bad_digit q ≡ wrong overflow p = rw (g, hex_digits) at e in let z : ◌≡◌ {A = ℕ} 2 3 = (same_wrong bad_digit overflow q p t).0 in absurd (omega arith))

-- ---- all of the digits, one plus before them or none

module _ (b : ℕ) where
  plus_one : (l : List ℕ) → eqb b (code "+") ≡ true → 0 < length l → plus (b ∷ l) ≡ 1
  unfolding plus starts
  plus_one l e h = rw (e, lt-ltb 1 (length (b ∷ l)) (omega arith))

  plus_none : (l : List ℕ) → eqb b (code "+") ≡ false → plus (b ∷ l) ≡ 0
  unfolding plus starts
  plus_none l e = rw e

  plus_lone : plus (b ∷ []) ≡ 0
  unfolding plus starts
  plus_lone = by_bool (eqb b (code "+")) (λ e. rw e) (λ e. rw e)

-- an error's detail is one of three
abbrev pub Known : Hex → Type 0
Known (Ok v) = Unit {0}
Known (Err w) = (w.detail ≡ empty) ⊎ ((w.detail ≡ bad_digit) ⊎ (w.detail ≡ overflow))

known_digits : (q v : ℕ) (s : List ℕ) → Known (hex_digits q v s)
unfolding hex_digits
known_digits q v [] = tt
known_digits q v (c ∷ s) =
    if_all Known (ltb (digit_of c) 16)
    (if_all Known (ltb (v * 16 + digit_of c) (2 ^ 32)) (known_digits (q + 1) (v * 16 + digit_of c) s) (inr (inr refl)))
    (inr (inl refl))

pub known : (s : List ℕ) → Known (hex_value s)
unfolding hex_value hex_after_plus
known [] = inl refl
known (c ∷ []) = if_all Known (eqb c (code "+")) (inr (inl refl)) (known_digits 0 0 (c ∷ []))
known (c ∷ d ∷ s) = if_all Known (eqb c (code "+")) (known_digits 1 0 (d ∷ s)) (known_digits 0 0 (c ∷ d ∷ s))

-- only no digits at all are empty
abbrev NotEmpty : Hex → Type 0
NotEmpty (Ok v) = Unit {0}
NotEmpty (Err w) = (w.detail ≡ empty → ⊥)

digits_not_empty : (q v : ℕ) (s : List ℕ) → NotEmpty (hex_digits q v s)
unfolding hex_digits
digits_not_empty q v [] = tt
digits_not_empty q v (c ∷ s) =
    if_all NotEmpty (ltb (digit_of c) 16)
    (if_all NotEmpty (ltb (v * 16 + digit_of c) (2 ^ 32)) (digits_not_empty (q + 1) (v * 16 + digit_of c) s) (λ e. omega arith))
    (λ e. omega arith)

some_not_empty : (c : ℕ) (s : List ℕ) → NotEmpty (hex_value (c ∷ s))
unfolding hex_value hex_after_plus
some_not_empty c [] = if_all NotEmpty (eqb c (code "+")) (λ e. omega arith) (digits_not_empty 0 0 (c ∷ []))
some_not_empty c (d ∷ s) = if_all NotEmpty (eqb c (code "+")) (digits_not_empty 1 0 (d ∷ s)) (digits_not_empty 0 0 (c ∷ d ∷ s))

pub empty_value : (s : List ℕ) (p : ℕ) → hex_value s ≡ wrong empty p → p ≡ 0
unfolding hex_value
empty_value [] p e = let z : p ≡ 0 = sym (same_wrong empty empty 0 p e).1 in z
empty_value (c ∷ s) p e = absurd (subst NotEmpty e (some_not_empty c s) refl)

pub empty_none : (s : List ℕ) (p : ℕ) → hex_value s ≡ wrong empty p → s ≡ []
empty_none [] p e = refl
empty_none (c ∷ s) p e = absurd (subst NotEmpty e (some_not_empty c s) refl)

after_plus : (l : List ℕ) → 0 < length l → hex_after_plus l ≡ hex_digits 1 0 l
unfolding hex_after_plus
after_plus [] h = absurd (omega arith)
after_plus (c ∷ l) h = refl

-- the bad digit stands after digits, and these after a plus or nothing
pub record Signed (hs : List ℕ) (p : ℕ) : Type 0 where
  pub sign : List ℕ
  pub rest : List ℕ
  pub is : hs ≡ sign ++ rest
  pub plain : bytes_of sign ≡ sign
  pub taken : plus (bytes_of hs) ≡ length sign
  pub bad : Bad rest (length sign) 0 p

bad_value : (hs : List ℕ) (p : ℕ) → hex_value (bytes_of hs) ≡ wrong bad_digit p → Signed hs p
unfolding hex_value bytes_of hex_after_plus value
bad_value [] p e = let z : ◌≡◌ {A = ℕ} 1 2 = (same_wrong empty bad_digit 0 p e).0 in absurd (omega arith)
bad_value (c ∷ hs) p e = go (utf8 c) refl (spelt c) e
  where
    unsigned : plus (bytes_of (c ∷ hs)) ≡ 0 → Bad (c ∷ hs) 0 0 p → Signed (c ∷ hs) p
    unsigned z b = record { sign = []; rest = c ∷ hs; is = refl; plain = refl; taken = z; bad = b }

    -- after a plus
    signed : (l : List ℕ) → l ≡ hs → utf8 c ≡ c ∷ [] → c ≡ code "+" → hex_after_plus (bytes_of l) ≡ wrong bad_digit p → Signed (c ∷ hs) p
    signed [] g f z e =
        let t : wrong bad_digit 0 ≡ wrong bad_digit p = e in
        let y : 0 ≡ p = (same_wrong bad_digit bad_digit 0 p t).1 in
        let lone : bytes_of (c ∷ hs) ≡ c ∷ [] = ap (λ (m : List ℕ). m ++ bytes_of hs) f ∙ ap (λ (m : List ℕ). c ∷ bytes_of m) (sym g) in
        unsigned (ap plus lone ∙ plus_lone c)
        (record {
          good = [];
          c = c;
          after = hs;
          is = refl;
          plain = refl;
          place = omega arith;
          digits = tt;
          fits = omega arith;
          wrong = rw z plus_no_digit;
        })
    signed (h ∷ l) g f z e =
        let r : Bad (h ∷ l) 1 0 p = bad_digits (h ∷ l) 1 0 p (omega arith) (sym (after_plus (bytes_of (h ∷ l)) (bytes_some h l)) ∙ e) in
        let all : bytes_of (c ∷ hs) ≡ c ∷ bytes_of (h ∷ l) = ap (λ (m : List ℕ). m ++ bytes_of hs) f ∙ ap (λ (m : List ℕ). c ∷ bytes_of m) (sym g) in
        record {
          sign = c ∷ [];
          rest = h ∷ l;
          is = ap (λ (m : List ℕ). c ∷ m) (sym g);
          plain = ap (λ (m : List ℕ). m ++ []) f;
          taken = ap plus all ∙ plus_one c (bytes_of (h ∷ l)) (eq-eqb c (code "+") z) (bytes_some h l);
          bad = r;
        }

    go : (w : List ℕ) → w ≡ utf8 c → Spelt c w → hex_value (w ++ bytes_of hs) ≡ wrong bad_digit p → Signed (c ∷ hs) p
    go w f (low h) e = by_bool (eqb c (code "+"))
        (λ g. signed hs refl (sym f) (eqb-true c (code "+") g) (rw (g, hex_value) at e))
        (λ g. unsigned (ap (λ (m : List ℕ). plus (m ++ bytes_of hs)) (sym f) ∙ plus_none c (bytes_of hs) g)
        (bad_digits (c ∷ hs) 0 0 p (omega arith) (ap (λ (m : List ℕ). hex_digits 0 0 (m ++ bytes_of hs)) (sym f) ∙ (rw (g, hex_value) at e))))
    go w f (high x u k h) e =
        let g : eqb x (code "+") ≡ false = ne_eqb x (code "+") (λ z. omega (arith, h.0)) in
        unsigned (ap (λ (m : List ℕ). plus (m ++ bytes_of hs)) (sym f) ∙ plus_none x (u ++ bytes_of hs) g)
        (bad_digits (c ∷ hs) 0 0 p (omega arith) (ap (λ (m : List ℕ). hex_digits 0 0 (m ++ bytes_of hs)) (sym f) ∙ (rw (g, hex_value) at e)))

-- the same in the digits' bytes
pub record BadAt (ds : List ℕ) (p : ℕ) : Type 0 where
  pub sign : List ℕ
  pub good : List ℕ
  pub c : ℕ
  pub after : List ℕ
  pub is : ds ≡ (sign ++ good) ++ (utf8 c ++ after)
  pub taken : plus ds ≡ length sign
  pub place : p ≡ length sign + length good
  pub digits : Every IsDigit good
  pub fits : value 16 0 good < 2 ^ 32
  pub scalar : is_scalar c ≡ true
  pub wrong : 16 ≤ digit_of c

pub bad_at : (hs : List ℕ) (p : ℕ) → Every (λ (c : ℕ). is_scalar c ≡ true) hs → hex_value (bytes_of hs) ≡ wrong bad_digit p → BadAt (bytes_of hs) p
unfolding bytes_of
bad_at hs p chars e =
    let m : Signed hs p = bad_value hs p e in
    let r : Bad m.rest (length m.sign) 0 p = m.bad in
    let all : hs ≡ (m.sign ++ r.good) ++ (r.c ∷ r.after)
    = m.is ∙ ap (λ (l : List ℕ). m.sign ++ l) r.is ∙ sym (append_assoc m.sign r.good (r.c ∷ r.after)) in
    let front : bytes_of (m.sign ++ r.good) ≡ m.sign ++ r.good
    = bytes_append m.sign r.good ∙ ap (λ (l : List ℕ). l ++ bytes_of r.good) m.plain ∙ ap (λ (l : List ℕ). m.sign ++ l) r.plain in
    record {
      sign = m.sign;
      good = r.good;
      c = r.c;
      after = bytes_of r.after;
      is = ap bytes_of all ∙ bytes_append (m.sign ++ r.good) (r.c ∷ r.after) ∙ ap (λ (l : List ℕ). l ++ bytes_of (r.c ∷ r.after)) front;
      taken = m.taken;
      place = sym r.place;
      digits = r.digits;
      fits = r.fits;
      scalar = (every_right (λ (c : ℕ). is_scalar c ≡ true) (m.sign ++ r.good) (r.c ∷ r.after) (subst (Every (λ (c : ℕ). is_scalar c ≡ true)) all chars)).0;
      wrong = r.wrong;
    }

-- the digits that are too many stand after a plus or nothing
pub record Many (s : List ℕ) (p : ℕ) : Type 0 where
  pub sign : List ℕ
  pub rest : List ℕ
  pub is : s ≡ sign ++ rest
  pub taken : plus s ≡ length sign
  pub over : Over rest (length sign) 0 p

pub over_value : (s : List ℕ) (p : ℕ) → hex_value s ≡ wrong overflow p → Many s p
unfolding hex_value hex_after_plus
over_value [] p e = let z : ◌≡◌ {A = ℕ} 1 3 = (same_wrong empty overflow 0 p e).0 in absurd (omega arith)
over_value (c ∷ s) p e = by_bool (eqb c (code "+"))
    (λ g. signed s g (rw (g, hex_value) at e))
    (λ g. record { sign = []; rest = c ∷ s; is = refl; taken = plus_none c s g; over = over_digits (c ∷ s) 0 0 p (omega arith) (rw (g, hex_value) at e) })
  where
    signed : (l : List ℕ) → eqb c (code "+") ≡ true → hex_after_plus l ≡ wrong overflow p → Many (c ∷ l) p
    signed [] g e = let z : ◌≡◌ {A = ℕ} 2 3 = (same_wrong bad_digit overflow 0 p e).0 in absurd (omega arith)
    signed (b ∷ l) g e = record {
      sign = c ∷ [];
      rest = b ∷ l;
      is = refl;
      taken = plus_one c (b ∷ l) g (omega arith);
      over = over_digits (b ∷ l) 1 0 p (omega arith) e;
    }
