-- <number> whole: its characters are those of a number run, so it is read to its delimiter; and its bytes are a number with the parts that
-- the productions give, which crate numbers_difference proves.
use Rattle.std.proofs.Common.{Some, Ok}
use Prim.Native.Nat.{ℕ, ◌+◌, ◌≤◌, ◌<◌}
use mathlib.Core.Path.{◌≡◌, refl, sym, ap, ◌∙◌}
use mathlib.Core.Bool.{Bool, true, false, not, ◌||◌}
use mathlib.Core.List.{List, [], ◌∷◌, ◌++◌, map}
use mathlib.Core.Logic.{◌⊎◌, inl, inr}
use lib.ListN.{length, get_or}
use lib.Dec.{eqb, ltb}
use native.Mathlib.Omega.{arith}
use borrow.Author.Tests.{eqb-true, lt-ltb, ne_eqb}
use Rattle.laws.specs.Quoted.{codes, code, one_of, within}
use Rattle.laws.proofs.Choice.{by_bool, within_is, yes_no, impossible}
use Rattle.chars.specs.Encode.{bytes_of}
use Rattle.digits.specs.Digits.{digit_of}
use Rattle.numbers.specs.declared.Real.{Real}
use Rattle.numbers.specs.declared.Parts.{Parts}
use Rattle.numbers.specs.Grammar.{complex, judged, parse_number, zero_parts}
use Rattle.laws.specs.Letters.{lower, is_sign}
use Rattle.numbers_standard.proofs.Letters.{lower_is, UpperOf}
use Rattle.numbers_difference.specs.Productions.{Letter, Sign, Prefix}
use Rattle.numbers_difference.specs.R7rs.{Infnan, RealAt, ImaginaryAt, ComplexAt, URealAt}
use Rattle.numbers_difference.specs.Conditions.{capital, sign_after_odd_e, somewhere, is_capital, is_n}
use Rattle.numbers_difference.proofs.Runs.{all, all_head, all_tail, all_cons, all_append, all_imp}
use Rattle.numbers_difference.proofs.Derived.{plain, plain_sign, plain_ureal, Head, head_ureal}
use Rattle.numbers_difference.proofs.Walk.{other, radix_le}
use Rattle.numbers_difference.proofs.Whole.{prefix_radix, Seen, seen}
use Rattle.numbers_difference.proofs.LowerCase.{complex_low}
use Rattle.items.specs.Classes.{starts_run, stays_run}
use Rattle.items.specs.Kinds as kind
use Rattle.items_r7rs.specs.Delimiter.{number_delimiters, Ends}
use Rattle.items_r7rs.specs.Reading.{nothing, ReadAs}
use Rattle.items_r7rs.specs.Repeated.{Many, done, more}
use Rattle.items_r7rs.specs.Written.{Written, written}
use Rattle.items_r7rs.proofs.BelowBound.{all_below, below_all}
use Rattle.items_r7rs.proofs.Bytes.{bytes_ascii}
use Rattle.items_r7rs.proofs.Classes.{at_one_of}
use Rattle.items_r7rs.proofs.Number.{Stays, number_run, prefixed_run}

-- ---- single characters

digit_low : (c : ℕ) → ltb (digit_of c) 16 ≡ true → c < 128
unfolding digit_of
digit_low c h =
    by_bool (within (code "0") (code "9") c) (λ e. let w = within_is (code "0") (code "9") c e in omega (arith, w.1)) (λ a.
    by_bool (within (code "A") (code "F") c) (λ e. let w = within_is (code "A") (code "F") c e in omega (arith, w.1)) (λ b.
    by_bool (within (code "a") (code "f") c) (λ e. let w = within_is (code "a") (code "f") c e in omega (arith, w.1)) (λ d.
    yes_no (sym (rw (a, b, d) at h)))))

plain_low : (c : ℕ) → plain c ≡ true → c < 128
unfolding plain is_sign
plain_low c h =
    by_bool (ltb (digit_of c) 16) (λ e. digit_low c e) (λ a.
    by_bool (eqb c (code ".")) (λ e. omega (arith, eqb-true c (code ".") e)) (λ b.
    by_bool (eqb c (code "/")) (λ e. omega (arith, eqb-true c (code "/") e)) (λ d.
    by_bool (eqb c (code "+")) (λ e. omega (arith, eqb-true c (code "+") e)) (λ f.
    omega (arith, eqb-true c (code "-") (rw (a, b, d, f) at h))))))

-- in lower case a character of a run
abbrev loose : ℕ → Bool
loose c = stays_run (lower c)

either : (a b : Bool) → (not a || b) ≡ true → a ≡ true → b ≡ true
either a b h e = rw e at h

plain-loose : (c : ℕ) → plain c ≡ true → loose c ≡ true
unfolding all_below plain is_sign digit_of within stays_run lower
plain-loose c h = either (plain c) (loose c) (below_all (λ k. not (plain k) || loose k) 128 refl c (plain_low c h)) h

digit_starts : (c : ℕ) → digit_of c < 10 → starts_run c ≡ true
unfolding all_below digit_of within starts_run
digit_starts c h =
    either (ltb (digit_of c) 10) (starts_run c)
    (below_all (λ k. not (ltb (digit_of k) 10) || starts_run k) 128 refl c (digit_low c (lt-ltb (digit_of c) 16 (omega arith))))
    (lt-ltb (digit_of c) 10 h)

-- and one itself, where it is no capital of i or n
upper_stays : (c : ℕ) → c < 128 → loose c ≡ true → eqb c (code "I") ≡ false → eqb c (code "N") ≡ false → stays_run c ≡ true
unfolding all_below stays_run lower within
upper_stays c l h i n =
    let f = either (loose c) (eqb c (code "I") || (eqb c (code "N") || stays_run c)) (below_all (λ k. not (loose k) || (eqb k (code "I") || (eqb k (code "N") || stays_run k))) 128 refl c l) h in
    rw (i, n) at f

loose_stays : (b : Bool) (c : ℕ) → loose c ≡ true → is_capital b c ≡ false → stays_run c ≡ true
unfolding lower is_capital
loose_stays b c h k =
    by_bool (within (code "A") (code "Z") c)
    (λ e. let w = within_is (code "A") (code "Z") c e in
    by_bool (eqb c (code "I")) (λ i. let z = rw i at k in cc) (λ i.
    by_bool (eqb c (code "N")) (λ n. let z = rw (i, n) at k in cc) (λ n. upper_stays c (omega (arith, w.1)) h i n)))
    (λ e. rw e at h)

-- ---- the characters of a number

loose_word : (s w : List ℕ) → map lower s ≡ w → all stays_run w ≡ true → all loose s ≡ true
unfolding all
loose_word s w e h = go s (ap (all stays_run) e ∙ h)
  where
    go : (t : List ℕ) → all stays_run (map lower t) ≡ true → all loose t ≡ true
    go [] k = refl
    go (c ∷ t) k = all_cons loose c t (all_head stays_run (lower c) (map lower t) k) (go t (all_tail stays_run (lower c) (map lower t) k))

infnan_loose : {s : List ℕ} {r : Real} → Infnan s r → all loose s ≡ true
unfolding all stays_run
infnan_loose {s} (Infnan.inf e) = loose_word s (codes "+inf.0") e refl
infnan_loose {s} (Infnan.minus_inf e) = loose_word s (codes "-inf.0") e refl
infnan_loose {s} (Infnan.nan e) = loose_word s (codes "+nan.0") e refl
infnan_loose {s} (Infnan.minus_nan e) = loose_word s (codes "-nan.0") e refl

ureal_loose : {R : ℕ} {neg : Bool} {p : ℕ} {s : List ℕ} {r : Real} → R ≤ 16 → URealAt R neg p s r → all loose s ≡ true
ureal_loose {s = s} l u = all_imp plain loose plain-loose s (plain_ureal l u)

real_loose : {R p : ℕ} {s : List ℕ} {r : Real} → R ≤ 16 → RealAt R p s r → all loose s ≡ true
real_loose l (RealAt.ureal {g = g} {s = s} z u) = all_append loose g s (all_imp plain loose plain-loose g (plain_sign z)) (ureal_loose l u)
real_loose l (RealAt.infnan i) = infnan_loose i

sign_loose : (loose (code "+") ≡ true) × (loose (code "-") ≡ true) × (loose (code "@") ≡ true)
unfolding stays_run lower within
sign_loose = (refl, refl, refl)

nil_loose : all loose [] ≡ true
unfolding all
nil_loose = refl

imaginary_loose : {R p : ℕ} {s : List ℕ} {r : Real} → R ≤ 16 → ImaginaryAt R p s r → all loose s ≡ true
imaginary_loose l (ImaginaryAt.positive {s = s} u) = all_cons loose (code "+") s sign_loose.0 (ureal_loose l u)
imaginary_loose l (ImaginaryAt.negative {s = s} u) = all_cons loose (code "-") s sign_loose.1 (ureal_loose l u)
imaginary_loose l (ImaginaryAt.infnan i) = infnan_loose i
imaginary_loose l ImaginaryAt.one = all_cons loose (code "+") [] sign_loose.0 nil_loose
imaginary_loose l ImaginaryAt.minus_one = all_cons loose (code "-") [] sign_loose.1 nil_loose

i_loose : {c : ℕ} → Letter "i" c → all loose (c ∷ []) ≡ true
unfolding stays_run
i_loose {c} (Letter.letter e) = all_cons loose c [] (ap stays_run e) nil_loose

complex_loose : {R p : ℕ} {s : List ℕ} {a : Parts} → R ≤ 16 → ComplexAt R p s a → all loose s ≡ true
complex_loose l (ComplexAt.real d) = real_loose l d
complex_loose l (ComplexAt.polar {a = a} {b = b} d e) =
    all_append loose a (code "@" ∷ b) (real_loose l d) (all_cons loose (code "@") b sign_loose.2 (real_loose l e))
complex_loose l (ComplexAt.rectangular {a = a} {b = b} {c = c} d e m) =
    all_append loose a (b ++ c ∷ []) (real_loose l d) (all_append loose b (c ∷ []) (imaginary_loose l e) (i_loose m))
complex_loose l (ComplexAt.imaginary {b = b} {c = c} e m) = all_append loose b (c ∷ []) (imaginary_loose l e) (i_loose m)

all_stay : (b : Bool) (s : List ℕ) → capital b s ≡ false → all loose s ≡ true → Many Stays s
unfolding somewhere
all_stay b [] k h = done
all_stay b (c ∷ s) k h =
    by_bool (is_capital b c)
    (λ e. yes_no (rw e at k))
    (λ e. more (loose_stays b c (all_head loose c s h) e) (all_stay (is_n b c) s (rw e at k) (all_tail loose c s h)))

pub stays_ascii : (c : ℕ) → stays_run c ≡ true → ltb c 0x80 ≡ true
unfolding stays_run
stays_ascii c h = at_one_of (λ k. ltb k 0x80) true (codes "+-./@0123456789aAbBcCdDeEfFin") c refl h

stays_other : (c : ℕ) → stays_run c ≡ true → other (code "#") c ≡ true
unfolding stays_run
stays_other c h = at_one_of (other (code "#")) true (codes "+-./@0123456789aAbBcCdDeEfFin") c refl h

stays_bytes : {t : List ℕ} → Many Stays t → bytes_of t ≡ t
unfolding bytes_of
stays_bytes done = refl
stays_bytes (more {c = c} {t = t} h m) = bytes_ascii c t (stays_ascii c h) ∙ ap (λ l. c ∷ l) (stays_bytes m)

no_mark : {t : List ℕ} → Many Stays t → all (other (code "#")) t ≡ true
unfolding all
no_mark done = refl
no_mark (more {c = c} {t = t} h m) = all_cons (other (code "#")) c t (stays_other c h) (no_mark m)

-- ---- its first character

abbrev Starts : List ℕ → Type 0
Starts t = (0 < length t) × (starts_run (get_or t 0 0) ≡ true)

starts_append : (a b : List ℕ) → Starts a → Starts (a ++ b)
starts_append [] b h = absurd (omega (arith, h.0))
starts_append (c ∷ a) b h = (omega arith, h.1)

head_starts : (s : List ℕ) → Head 10 s → Starts s
unfolding starts_run
head_starts s h = rw h.2 (omega arith, go h.3)
  where
    go : (digit_of h.0 < 10) ⊎ (h.0 ≡ code ".") → starts_run h.0 ≡ true
    go (inl d) = digit_starts h.0 d
    go (inr d) = rw d

word_starts : (s w : List ℕ) (x : ℕ) → map lower s ≡ x ∷ w → x < code "A" → starts_run x ≡ true → Starts s
word_starts [] w x e l h = impossible cc
word_starts (c ∷ s) w x e l h = let q : lower c ≡ x = cc in (omega arith, go (lower_is c x q))
  where
    go : (c ≡ x) ⊎ UpperOf c x → starts_run c ≡ true
    go (inl q) = rw q h
    go (inr q) = absurd (omega arith)

infnan_starts : {s : List ℕ} {r : Real} → Infnan s r → Starts s
unfolding starts_run
infnan_starts {s} (Infnan.inf e) = word_starts s (codes "inf.0") (code "+") e (omega arith) refl
infnan_starts {s} (Infnan.minus_inf e) = word_starts s (codes "inf.0") (code "-") e (omega arith) refl
infnan_starts {s} (Infnan.nan e) = word_starts s (codes "nan.0") (code "+") e (omega arith) refl
infnan_starts {s} (Infnan.minus_nan e) = word_starts s (codes "nan.0") (code "-") e (omega arith) refl

real_starts : {p : ℕ} {s : List ℕ} {r : Real} → RealAt 10 p s r → Starts s
unfolding starts_run
real_starts (RealAt.ureal {s = s} Sign.empty u) = head_starts s (head_ureal u)
real_starts (RealAt.ureal {s = s} Sign.positive u) = (omega arith, refl)
real_starts (RealAt.ureal {s = s} Sign.negative u) = (omega arith, refl)
real_starts (RealAt.infnan i) = infnan_starts i

imaginary_starts : {R p : ℕ} {s : List ℕ} {r : Real} → ImaginaryAt R p s r → Starts s
unfolding starts_run
imaginary_starts (ImaginaryAt.positive u) = (omega arith, refl)
imaginary_starts (ImaginaryAt.negative u) = (omega arith, refl)
imaginary_starts (ImaginaryAt.infnan i) = infnan_starts i
imaginary_starts ImaginaryAt.one = (omega arith, refl)
imaginary_starts ImaginaryAt.minus_one = (omega arith, refl)

complex_starts : {p : ℕ} {s : List ℕ} {a : Parts} → ComplexAt 10 p s a → Starts s
complex_starts (ComplexAt.real d) = real_starts d
complex_starts (ComplexAt.polar {a = a} {b = b} d e) = starts_append a (code "@" ∷ b) (real_starts d)
complex_starts (ComplexAt.rectangular {a = a} {b = b} {c = c} d e m) = starts_append a (b ++ c ∷ []) (real_starts d)
complex_starts (ComplexAt.imaginary {b = b} {c = c} e m) = starts_append b (c ∷ []) (imaginary_starts e)

-- ---- the letter of a prefix

mark_letter : (c x : ℕ) → lower c ≡ x → one_of (codes "xXdDoObB") x ≡ true → ((c : ℕ) → c + 32 ≡ x → one_of (codes "xXdDoObB") c ≡ true) → one_of (codes "xXdDoObB") c ≡ true
mark_letter c x e h k = go (lower_is c x e)
  where
    go : (c ≡ x) ⊎ UpperOf c x → one_of (codes "xXdDoObB") c ≡ true
    go (inl q) = rw q h
    go (inr q) = k c q.2

upper_mark : (x y : ℕ) → y + 32 ≡ x → one_of (codes "xXdDoObB") y ≡ true → (c : ℕ) → c + 32 ≡ x → one_of (codes "xXdDoObB") c ≡ true
upper_mark x y e h c q = let z : c ≡ y = omega arith in rw z h

-- ---- <number>

parse_seen : (R : ℕ) (g s : List ℕ) → Seen R g s → parse_number (g ++ s) ≡ judged (complex R (length g) s)
unfolding parse_number
parse_seen R g s (inl e) = rw (e.2, e.1, e.0)
parse_seen R g s (inr e) = rw (e.1, e.3, e.2, ne_eqb R 0 e.0)

judged_is : (a : Parts) → zero_parts a ≡ false → judged (Some a) ≡ Ok a
unfolding judged
judged_is a h = rw h

module _ {R : ℕ} {s : List ℕ} {a : Parts} where
  parses : {g : List ℕ} → Prefix R g → ComplexAt R (length g) s a → capital false s ≡ false → (R ≡ 16 → sign_after_odd_e false s ≡ false) → zero_parts a ≡ false → Many Stays s
      → parse_number (g ++ s) ≡ Ok a
  parses {g} m d k o z y = parse_seen R g s (seen s m (no_mark y)) ∙ (ap judged (complex_low (prefix_radix m) d k o) ∙ judged_is a z)

  stays : {g : List ℕ} → Prefix R g → ComplexAt R (length g) s a → capital false s ≡ false → Many Stays s
  stays m d k = all_stay false s k (complex_loose (radix_le (prefix_radix m)) d)

marked_bytes : (c : ℕ) {s : List ℕ} → one_of (codes "xXdDoObB") c ≡ true → Many Stays s → bytes_of (code "#" ∷ c ∷ s) ≡ code "#" ∷ c ∷ s
marked_bytes c {s} h y =
    bytes_ascii (code "#") (c ∷ s) refl
    ∙ ap (λ l. code "#" ∷ l) (bytes_ascii c s (at_one_of (λ k. ltb k 0x80) true (codes "xXdDoObB") c refl h) ∙ ap (λ l. c ∷ l) (stays_bytes y))

b_mark : {c : ℕ} → Letter "b" c → one_of (codes "xXdDoObB") c ≡ true
b_mark {c} (Letter.letter e) = mark_letter c (code "b") e refl (upper_mark (code "b") (code "B") refl refl)

o_mark : {c : ℕ} → Letter "o" c → one_of (codes "xXdDoObB") c ≡ true
o_mark {c} (Letter.letter e) = mark_letter c (code "o") e refl (upper_mark (code "o") (code "O") refl refl)

d_mark : {c : ℕ} → Letter "d" c → one_of (codes "xXdDoObB") c ≡ true
d_mark {c} (Letter.letter e) = mark_letter c (code "d") e refl (upper_mark (code "d") (code "D") refl refl)

x_mark : {c : ℕ} → Letter "x" c → one_of (codes "xXdDoObB") c ≡ true
x_mark {c} (Letter.letter e) = mark_letter c (code "x") e refl (upper_mark (code "x") (code "X") refl refl)

-- the parts that the number call gives are the production's
pub written_parts : {t : List ℕ} {a : Parts} → Written t a → parse_number (bytes_of t) ≡ Ok a
written_parts (written Prefix.empty d k o z) = let y = stays Prefix.empty d k in ap parse_number (stays_bytes y) ∙ parses Prefix.empty d k o z y
written_parts (written (Prefix.binary {c = c} m) d k o z) = let y = stays (Prefix.binary m) d k in ap parse_number (marked_bytes c (b_mark m) y) ∙ parses (Prefix.binary m) d k o z y
written_parts (written (Prefix.octal {c = c} m) d k o z) = let y = stays (Prefix.octal m) d k in ap parse_number (marked_bytes c (o_mark m) y) ∙ parses (Prefix.octal m) d k o z y
written_parts (written (Prefix.decimal {c = c} m) d k o z) = let y = stays (Prefix.decimal m) d k in ap parse_number (marked_bytes c (d_mark m) y) ∙ parses (Prefix.decimal m) d k o z y
written_parts (written (Prefix.hex {c = c} m) d k o z) = let y = stays (Prefix.hex m) d k in ap parse_number (marked_bytes c (x_mark m) y) ∙ parses (Prefix.hex m) d k o z y

-- a number run: from a sign, a dot or a digit on, or after the prefix of a radix
pub data RunText : List ℕ → Type 0 where
  bare : {c : ℕ} {t : List ℕ} → starts_run c ≡ true → Many Stays t → RunText (c ∷ t)
  prefixed : {c : ℕ} {t : List ℕ} → one_of (codes "xXdDoObB") c ≡ true → Many Stays t → RunText (code "#" ∷ c ∷ t)

bare_run : {s : List ℕ} → Starts s → Many Stays s → RunText s
bare_run h done = absurd (omega (arith, h.0))
bare_run h (more k m) = bare h.1 m

pub written_run : {t : List ℕ} {a : Parts} → Written t a → RunText t
written_run (written Prefix.empty d k o z) = bare_run (complex_starts d) (stays Prefix.empty d k)
written_run (written (Prefix.binary m) d k o z) = prefixed (b_mark m) (stays (Prefix.binary m) d k)
written_run (written (Prefix.octal m) d k o z) = prefixed (o_mark m) (stays (Prefix.octal m) d k)
written_run (written (Prefix.decimal m) d k o z) = prefixed (d_mark m) (stays (Prefix.decimal m) d k)
written_run (written (Prefix.hex m) d k o z) = prefixed (x_mark m) (stays (Prefix.hex m) d k)

run_read : (report : Bool) {t : List ℕ} (cs : List ℕ) → RunText t → (a : Parts) → parse_number (bytes_of t) ≡ Ok a → Ends (number_delimiters report) cs
    → ReadAs report t cs kind.Number 0 nothing
run_read report cs (bare {c = c} h m) a n e = number_run report c h m a n e
run_read report cs (prefixed {c = c} h m) a n e = prefixed_run report c h m a n e

-- and it is read as one Number
pub written_number : (report : Bool) {t : List ℕ} {a : Parts} (cs : List ℕ) → Written t a → Ends (number_delimiters report) cs → ReadAs report t cs kind.Number 0 nothing
written_number report {a = a} cs w e = run_read report cs (written_run w) a (written_parts w) e
