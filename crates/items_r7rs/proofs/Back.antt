-- From bytes back to characters: what bytes begin and end with, and digits that have a value, are the characters that the standard has there.
use Rattle.std.proofs.Common.{Ok, Err, Result}
use Prim.Native.Nat.{ℕ, zero, suc, ◌+◌, ◌-◌, ◌*◌, ◌^◌, ◌≤◌, ◌<◌}
use mathlib.Core.Path.{◌≡◌, refl, sym, ap, subst, ◌∙◌}
use mathlib.Core.Bool.{Bool, true, false}
use mathlib.Core.List.{List, [], ◌∷◌, ◌++◌, map, append-nil}
use lib.ListN.{length, take, length-append}
use lib.Seq.{take-append_seam, get_or-append-add}
use lib.Dec.{eqb, ltb}
use native.Mathlib.Omega.{arith}
use borrow.Author.Tests.{eqb-true, eqb-false, ltb-true, ne_eqb}
use Rattle.laws.specs.Quoted.{code, one_of, within}
use Rattle.laws.specs.Texts.{begins}
use Rattle.laws.proofs.Choice.{by_bool, within_is}
use Rattle.chars.specs.Encode.{is_scalar, utf8, bytes_of}
use Rattle.items_coverage.proofs.Bytes.{begins_other}
use Rattle.digits.specs.Hex.{hex_value, hex_after_plus, hex_digits, Hex}
use Rattle.digits.specs.Digits.{digit_of}
use Rattle.items.specs.declared.CharError.{CharError}
use Rattle.items.specs.declared.CharError.TheVariants.{Wrong, WrongAt}
use Rattle.items.specs.Readers.{last_is, scalar_of}
use Rattle.items_numbers.proofs.Stands.{other}
use Rattle.items_r7rs.specs.Converse.{SignedScalar, unsigned, after_plus}
use Rattle.items_r7rs.specs.Escape.{HexDigit, decimal, lower, upper, HexDigits, no_more, and_more, HexScalar, scalar}
use Rattle.items_r7rs.specs.Repeated.{Many, done, more}
use Rattle.items_r7rs.proofs.Bytes.{High, utf8_low, utf8_high, bytes_some, Beyond, all_high}
use Rattle.items_r7rs.proofs.Hex.{Hexadecimal, a_digit, at_digit, scalar_digits}

-- ---- what a text begins with

before_one : (b c : ℕ) (p t : List ℕ) → c ≡ b → (r : List ℕ) × (t ≡ p ++ r) → (r : List ℕ) × (c ∷ t ≡ b ∷ p ++ r)
before_one b c p t e g = (g.0, ap (λ (n : ℕ). n ∷ t) e ∙ ap (λ (l : List ℕ). b ∷ l) g.1)

-- bytes that begin with some ASCII characters are those of a text that does
pub begins_chars : (p t : List ℕ) → map (λ k. ltb k 0x80) p ≡ map (λ k. true) p → begins p (bytes_of t) ≡ true → (r : List ℕ) × (t ≡ p ++ r)
unfolding begins bytes_of
begins_chars [] t low h = (t, refl)
begins_chars (b ∷ p) [] low h = other refl h
begins_chars (b ∷ p) (c ∷ t) low h =
    let ascii : ltb b 0x80 ≡ true = cc in
    by_bool (eqb c b)
    (λ e. let f : c ≡ b = eqb-true c b e in
    before_one b c p t f (begins_chars p t (cc) (rw (f, utf8_low b ascii, refl_eqb b) at h)))
    (λ e. other (begins_other b (ltb-true b 0x80 ascii) c p (bytes_of t) e) h)
  where
    refl_eqb : (n : ℕ) → eqb n n ≡ true
    refl_eqb n = by_bool (eqb n n) (λ e. e) (λ e. absurd (eqb-false n n e refl))

-- two fronts before one end
pub same_front : (t u r : List ℕ) → t ++ r ≡ u ++ r → t ≡ u
same_front t u r e =
    let l : length t ≡ length u = omega (arith, ap length e, length-append t r, length-append u r) in
    sym (take-append_seam t r) ∙ ap (take (length t)) e ∙ ap (λ (n : ℕ). take n (u ++ r)) l ∙ take-append_seam u r

-- ---- what a text ends with

pub last_behind : (x : ℕ) (a b : List ℕ) → 0 < length b → last_is x (a ++ b) ≡ last_is x b
last_behind x a b h =
    let n : length (a ++ b) - 1 ≡ length a + (length b - 1) = omega (arith, length-append a b) in
    rw n (ap (λ (y : ℕ). eqb y x) (get_or-append-add a b (length b - 1) 0))

-- bytes past ASCII do not end with an ASCII character
high_last : (x : ℕ) → x < 0x80 → (b : ℕ) (bs : List ℕ) → High b → Many High bs → last_is x (b ∷ bs) ≡ false
high_last x l b [] h m = ne_eqb b x (λ e. omega arith)
high_last x l b (d ∷ bs) h (more g m) = last_behind x (b ∷ []) (d ∷ bs) (omega arith) ∙ high_last x l d bs g m

beyond_last : (x : ℕ) → x < 0x80 → {bs : List ℕ} → Beyond bs → last_is x bs ≡ false
beyond_last x l (all_high {b = b} {bs = bs} h m) = high_last x l b bs h m

-- bytes that end with an ASCII character are those of a text that does
pub last_of : (x : ℕ) → x < 0x80 → eqb 0 x ≡ false → (t : List ℕ) → last_is x (bytes_of t) ≡ true → (u : List ℕ) × (t ≡ u ++ (x ∷ []))
unfolding bytes_of
last_of x l z [] h = other z h
last_of x l z (c ∷ []) h =
    by_bool (ltb c 0x80)
    (λ e. ([], ap (λ (n : ℕ). n ∷ []) (eqb-true c x (rw (utf8_low c e) at h))))
    (λ e. other (ap (last_is x) (append-nil (utf8 c)) ∙ beyond_last x l (utf8_high c e)) h)
last_of x l z (c ∷ d ∷ t) h =
    let some : 0 < length (bytes_of (d ∷ t)) = ltb-true 0 (length (bytes_of (d ∷ t))) (bytes_some d t) in
    let r = last_of x l z (d ∷ t) (sym (last_behind x (utf8 c) (bytes_of (d ∷ t)) some) ∙ h) in
    (c ∷ r.0, ap (λ (k : List ℕ). c ∷ k) r.1)

-- ---- digits

abbrev up_from : ℕ → ℕ → List ℕ
up_from zero a = []
up_from (suc n) a = a ∷ up_from n (suc a)

one_up : (n a c : ℕ) → a ≤ c → c < a + n → one_of (up_from n a) c ≡ true
one_up zero a c l h = absurd (omega arith)
one_up (suc n) a c l h = by_bool (eqb c a) (λ e. rw e) (λ e. let f = eqb-false c a e in rw e (one_up n (suc a) c (omega arith) (omega arith)))

digit_back : (c : ℕ) → ltb (digit_of c) 16 ≡ true → HexDigit c (digit_of c)
unfolding digit_of
digit_back c h =
    by_bool (within (code "0") (code "9") c)
    (λ e. let w = within_is (code "0") (code "9") c e in rw e (decimal (one_up 10 (code "0") c w.0 (omega arith))))
    (λ e. by_bool (within (code "A") (code "F") c)
    (λ f. let w = within_is (code "A") (code "F") c f in rw (e, f) (upper (one_up 6 (code "A") c w.0 (omega arith))))
    (λ f. by_bool (within (code "a") (code "f") c)
    (λ g. let w = within_is (code "a") (code "f") c g in rw (e, f, g) (lower (one_up 6 (code "a") c w.0 (omega arith))))
    (λ g. other refl (rw (e, f, g) at h))))

-- a value, or 0
abbrev value_or : Hex → ℕ
value_or (Ok v) = v
value_or (Err w) = 0

abbrev has_value : Hex → Bool
has_value (Ok v) = true
has_value (Err w) = false

digits_back : (p n : ℕ) (s : List ℕ) → has_value (hex_digits p n s) ≡ true → HexDigits n s (value_or (hex_digits p n s))
unfolding hex_digits
digits_back p n [] h = no_more
digits_back p n (c ∷ s) h =
    by_bool (ltb (digit_of c) 16)
    (λ e. by_bool (ltb (n * 16 + digit_of c) (2 ^ 32))
    (λ f. rw (e, f) (and_more (digit_back c e) (digits_back (p + 1) (n * 16 + digit_of c) s (rw (e, f) at h))))
    (λ f. other refl (rw (e, f) at h)))
    (λ e. other refl (rw e at h))

-- ---- bytes of ASCII alone

abbrev pub Low : ℕ → Type 0
Low b = ltb b 0x80 ≡ true

-- they are their characters
pub low_chars : (h : List ℕ) → Many Low (bytes_of h) → h ≡ bytes_of h
unfolding bytes_of
low_chars [] m = refl
low_chars (c ∷ h) m = by_bool (ltb c 0x80) (λ e. rw (utf8_low c e) (low (low_chars h) (rw (utf8_low c e) at m))) (λ e. high (utf8_high c e) m)
  where
    low : (Many Low (bytes_of h) → h ≡ bytes_of h) → Many Low (c ∷ bytes_of h) → c ∷ h ≡ c ∷ bytes_of h
    low rest (more d m) = ap (λ (l : List ℕ). c ∷ l) (rest m)

    high : {A : Type 0} {u : List ℕ} → Beyond u → Many Low (u ++ bytes_of h) → A
    high (all_high {b = b} l k) (more d m) = absurd (omega (arith, ltb-true b 0x80 d))

digits_low : {t : List ℕ} → Many Hexadecimal t → Many Low t
digits_low done = done
digits_low (more {c = c} (a_digit d) m) = more (at_digit (λ k. ltb k 0x80) true refl refl refl c d) (digits_low m)

-- a character that some digits stand for
abbrev pub is_value : Result ℕ CharError → Bool
is_value (Ok c) = true
is_value (Err (Wrong n d)) = false
is_value (Err (WrongAt n d p)) = false

abbrev pub char_or : Result ℕ CharError → ℕ
char_or (Ok c) = c
char_or (Err (Wrong n d)) = 0
char_or (Err (WrongAt n d p)) = 0

of_value : (v : Hex) → is_value (scalar_of v) ≡ true → (has_value v ≡ true) × (is_scalar (value_or v) ≡ true) × (char_or (scalar_of v) ≡ value_or v)
unfolding scalar_of
of_value (Ok v) h = by_bool (is_scalar v) (λ e. rw e (refl, refl, refl)) (λ e. other refl (rw e at h))
of_value (Err w) h = other refl h

-- the bytes of digits that stand for a character: a <hex scalar value>, a plus before it or not
plus_back : (s : List ℕ) → is_value (scalar_of (hex_after_plus s)) ≡ true → HexScalar s (char_or (scalar_of (hex_after_plus s)))
unfolding hex_after_plus
plus_back [] h = other refl (of_value (hex_after_plus []) h).0
plus_back (c ∷ s) h =
    let w = of_value (hex_digits 1 0 (c ∷ s)) h in
    subst (HexScalar (c ∷ s)) (sym w.2) (scalar (digits_back 1 0 (c ∷ s) w.0) w.1)

value_back : (s : List ℕ) → is_value (scalar_of (hex_value s)) ≡ true → SignedScalar s (char_or (scalar_of (hex_value s)))
unfolding hex_value
value_back [] h = other refl (of_value (hex_value []) h).0
value_back (c ∷ s) h =
    by_bool (eqb c (code "+"))
    (λ e. rw e (subst (λ (n : ℕ). SignedScalar (n ∷ s) (char_or (scalar_of (hex_after_plus s)))) (sym (eqb-true c (code "+") e)) (after_plus (plus_back s (rw e at h)))))
    (λ e. let k : is_value (scalar_of (hex_digits 0 0 (c ∷ s))) ≡ true = rw e at h in
    let w = of_value (hex_digits 0 0 (c ∷ s)) k in
    rw e (unsigned (subst (HexScalar (c ∷ s)) (sym w.2) (scalar (digits_back 0 0 (c ∷ s) w.0) w.1))))

signed_low : {t : List ℕ} {c : ℕ} → SignedScalar t c → Many Low t
signed_low (unsigned s) = digits_low (scalar_digits s)
signed_low (after_plus s) = more refl (digits_low (scalar_digits s))

pub hex_back : (h : List ℕ) (x : ℕ) → scalar_of (hex_value (bytes_of h)) ≡ Ok x → SignedScalar h x
hex_back h x e =
    let s : SignedScalar (bytes_of h) (char_or (scalar_of (hex_value (bytes_of h)))) = value_back (bytes_of h) (ap is_value e) in
    subst (λ (l : List ℕ). SignedScalar l x) (sym (low_chars h (signed_low s))) (subst (SignedScalar (bytes_of h)) (ap char_or e) s)
