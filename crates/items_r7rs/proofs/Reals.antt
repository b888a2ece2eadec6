-- Real numbers of radix 10: the productions below <real 10> are numbers to crate numbers' grammar.
use Prim.Native.Nat.{ℕ, zero, suc, ◌+◌, ◌-◌, ◌<◌}
use mathlib.Core.Path.{◌≡◌, refl, sym, ap, ◌∙◌}
use mathlib.Core.Bool.{Bool, true, false, not}
use mathlib.Core.List.{List, [], ◌∷◌, ◌++◌, map, append-nil}
use lib.ListN.{length, get_or, drop, length-append, length-drop}
use lib.Dec.{eqb, ltb}
use native.Mathlib.Omega.{arith}
use native.Mathlib.Nat.{le_refl, zero-add, suc_inj, suc-add}
use borrow.Author.Tests.{le-ltb, eqb-true}
use Rattle.std.specs.Prelude.{if◌then◌else◌, None}
use Rattle.laws.specs.Quoted.{codes, code, one_of}
use Rattle.laws.specs.Texts.{span, before, starts, same}
use Rattle.laws.proofs.Choice.{by_bool}
use Rattle.chars.specs.Encode.{bytes_of}
use Rattle.digits.specs.Digits.{sign}
use Rattle.digits.specs.Digits as digit
use Rattle.numbers.specs.Grammar.{just_of, ends_i, alone_of, to_sign, starts_e, rectangular, complex, judged, prefix, parse_number}
use Rattle.numbers.specs.Reals.{exponent_marker, infnan, or_else, ureal, real}
use Rattle.items_r7rs.specs.Escape.{digits}
use Rattle.items_r7rs.specs.Number.{Digit, Sign, no_sign, plus_sign, minus_sign, Suffix, no_suffix, e_suffix, Decimal, scaled, dot_first, dot_inside, Ureal, is_integer, is_ratio, is_decimal}
use Rattle.items_r7rs.specs.Repeated.{Many, done, more, Some, some}
use Rattle.items_r7rs.proofs.Bytes.{utf8_low}
use Rattle.items_r7rs.proofs.Classes.{at_one_of}

-- ---- runs of characters that pass a test

module _ {P Q : ℕ → Type 0} (f : (c : ℕ) → P c → Q c) where
  pub many_map : {t : List ℕ} → Many P t → Many Q t
  many_map done = done
  many_map (more {c = c} h m) = more (f c h) (many_map m)

pub some_many : {P : ℕ → Type 0} {t : List ℕ} → Some P t → Many P t
some_many (some h m) = more h m

pub some_length : {P : ℕ → Type 0} {t : List ℕ} → Some P t → 0 < length t
some_length (some h m) = omega arith

pub many_append : {P : ℕ → Type 0} {t u : List ℕ} → Many P t → Many P u → Many P (t ++ u)
many_append done n = n
many_append (more h m) n = more h (many_append m n)

module _ (f : ℕ → Bool) where
  pub span_on : (r : List ℕ) {t : List ℕ} → Many (λ c. f c ≡ true) t → span f (t ++ r) ≡ length t + span f r
  unfolding span
  span_on r done = sym (zero-add (span f r))
  span_on r (more {t = t} h m) = rw (h, span_on r m) (sym (suc-add (length t) (span f r)))

  pub span-all : {t : List ℕ} → Many (λ c. f c ≡ true) t → span f t ≡ length t
  unfolding span
  span-all done = refl
  span-all (more h m) = rw (h, span-all m)

-- ---- characters

abbrev pub numerals : List ℕ
numerals = codes "0123456789./eE+-"

abbrev pub Numeral : ℕ → Type 0
Numeral c = one_of numerals c ≡ true

digit_numeral : (c : ℕ) → Digit c → Numeral c
digit_numeral c h = at_one_of (λ k. one_of numerals k) true digits c refl h

pub numeral_is : (f : ℕ → Bool) (b : Bool) → map f numerals ≡ map (λ k. b) numerals → (c : ℕ) → Numeral c → f c ≡ b
numeral_is f b e c h = at_one_of f b numerals c e h

numerals_bytes : {t : List ℕ} → Many Numeral t → bytes_of t ≡ t
unfolding bytes_of
numerals_bytes done = refl
numerals_bytes (more {c = c} h m) = rw (utf8_low c (numeral_is (λ k. ltb k 0x80) true refl c h), numerals_bytes m)

-- a text that has a character which the other has none of
foreign : (f : ℕ → Bool) → List ℕ → Bool
foreign f [] = false
foreign f (c ∷ w) = if f c then foreign f w else true

same-foreign : (f : ℕ → Bool) (w : List ℕ) {t : List ℕ} → Many (λ c. f c ≡ true) t → foreign f w ≡ true → same t w ≡ false
unfolding same foreign
same-foreign f [] m h = cc
same-foreign f (x ∷ w) done h = refl
same-foreign f (x ∷ w) (more {c = c} {t = t} p m) h =
    by_bool (eqb c x)
    (λ e. rw e (same-foreign f w m (rw (rw (eqb-true c x e) at p) at h)))
    (λ e. rw e)

-- ---- the four special numbers are no others, and no imaginary part

not_infnan : {t : List ℕ} → Many Numeral t → infnan t ≡ None
unfolding infnan foreign
not_infnan m =
    rw (
      same-foreign (one_of numerals) (codes "+inf.0") m refl,
      same-foreign (one_of numerals) (codes "-inf.0") m refl,
      same-foreign (one_of numerals) (codes "+nan.0") m refl,
      same-foreign (one_of numerals) (codes "-nan.0") m refl,
    )

drop-starts : (n : ℕ) {t : List ℕ} → Many Numeral t → starts (code "i") (drop n t) ≡ false
unfolding starts
drop-starts zero done = refl
drop-starts zero (more {c = c} h m) = numeral_is (λ k. eqb k (code "i")) false refl c h
drop-starts (suc n) done = refl
drop-starts (suc n) (more h m) = drop-starts n m

not_imaginary : {t : List ℕ} → Many Numeral t → ends_i t ≡ false
unfolding ends_i
not_imaginary {t} m = drop-starts (length t - 1) m

no_at : {t : List ℕ} → Many Numeral t → before (code "@") t ≡ length t
no_at m = span-all (λ c. not (eqb c (code "@"))) (many_map (numeral_is (λ c. not (eqb c (code "@"))) true refl) m)

-- ---- signs: one at the start, and one after an exponent marker

abbrev Calm : ℕ → Type 0
Calm c = one_of (codes "0123456789./") c ≡ true

calm_is : (f : ℕ → Bool) (b : Bool) → map f (codes "0123456789./") ≡ map (λ k. b) (codes "0123456789./") → (c : ℕ) → Calm c → f c ≡ b
calm_is f b e c h = at_one_of f b (codes "0123456789./") c e h

digit_calm : (c : ℕ) → Digit c → Calm c
digit_calm c h = at_one_of (λ k. one_of (codes "0123456789./") k) true digits c refl h

calm_step : (c : ℕ) (r : List ℕ) → Calm c → to_sign false (c ∷ r) ≡ suc (to_sign false r)
unfolding to_sign exponent_marker
calm_step c r h =
    rw (
      calm_is (λ k. eqb k (code "+")) false refl c h,
      calm_is (λ k. eqb k (code "-")) false refl c h,
      calm_is (λ k. eqb k (code "e")) false refl c h,
      calm_is (λ k. eqb k (code "E")) false refl c h,
    )

calm_on : (r : List ℕ) {t : List ℕ} → Many Calm t → to_sign false (t ++ r) ≡ length t + to_sign false r
calm_on r done = sym (zero-add (to_sign false r))
calm_on r (more {c = c} {t = t} h m) = calm_step c (t ++ r) h ∙ rw (calm_on r m) (sym (suc-add (length t) (to_sign false r)))

digits_calm : {t : List ℕ} → Many Digit t → to_sign false t ≡ length t
unfolding to_sign
digits_calm done = refl
digits_calm (more {c = c} {t = t} h m) = calm_step c t (digit_calm c h) ∙ ap suc (digits_calm m)

marker_step : (c : ℕ) (r : List ℕ) → one_of (codes "eE") c ≡ true → to_sign false (c ∷ r) ≡ suc (to_sign true r)
unfolding to_sign exponent_marker
marker_step c r h = rw (mark (λ k. eqb k (code "+")) refl, mark (λ k. eqb k (code "-")) refl, at_one_of exponent_marker true (codes "eE") c refl h)
  where
    mark : (f : ℕ → Bool) → map f (codes "eE") ≡ map (λ k. false) (codes "eE") → f c ≡ false
    mark f e = at_one_of f false (codes "eE") c e h

after_marker : {s d : List ℕ} {b : Bool} → Sign s b → Some Digit d → to_sign true (s ++ d) ≡ length (s ++ d)
unfolding to_sign
after_marker no_sign (some h m) = ap suc (digits_calm m)
after_marker plus_sign (some {c = c} h m) = ap suc (digits_calm (more {c = c} h m))
after_marker minus_sign (some {c = c} h m) = ap suc (digits_calm (more {c = c} h m))

suffix_calm : {s : List ℕ} → Suffix s → to_sign false s ≡ length s
unfolding to_sign
suffix_calm no_suffix = refl
suffix_calm (e_suffix {c = c} s d h g m) = marker_step c (s ++ d) h ∙ ap suc (after_marker g m)

-- what begins a <ureal 10>
abbrev pub leaders : List ℕ
leaders = codes "0123456789."

-- what every <ureal 10> is: numerals, with no sign to cut it at, and with a digit or a dot at its start
pub record Shape (u : List ℕ) : Type 0 where
  pub all : Many Numeral u
  pub calm : to_sign false u ≡ length u
  pub leads : one_of leaders (get_or u 0 0) ≡ true
  pub length_some : 0 < length u

digits_numerals : {t : List ℕ} → Many Digit t → Many Numeral t
digits_numerals m = many_map digit_numeral m

digit_leads : (c : ℕ) → Digit c → one_of leaders c ≡ true
digit_leads c h = at_one_of (λ k. one_of leaders k) true digits c refl h

pub sign_numerals : {s : List ℕ} {b : Bool} → Sign s b → Many Numeral s
sign_numerals no_sign = done
sign_numerals plus_sign = more refl done
sign_numerals minus_sign = more refl done

suffix_numerals : {s : List ℕ} → Suffix s → Many Numeral s
suffix_numerals no_suffix = done
suffix_numerals (e_suffix {c = c} s d h g m) =
    more (at_one_of (λ k. one_of numerals k) true (codes "eE") c refl h) (many_append (sign_numerals g) (digits_numerals (some_many m)))

-- digits, and what follows them
digits_then : {d r : List ℕ} → Some Digit d → Many Numeral r → to_sign false r ≡ length r → Shape (d ++ r)
digits_then {r = r} (some {c = c} {t = t} h m) n e = record {
  all = many_append (digits_numerals (more h m)) n;
  calm = calm_on r (many_map digit_calm (more h m)) ∙ rw (e, ← length-append (c ∷ t) r);
  leads = digit_leads c h;
  length_some = omega arith;
}

-- a dot, and what follows it
dot_then : {r : List ℕ} → Many Numeral r → to_sign false r ≡ length r → to_sign false (code "." ∷ r) ≡ length (code "." ∷ r)
dot_then {r} n e = calm_step (code ".") r refl ∙ ap suc e

fraction_calm : {f s : List ℕ} → Many Digit f → Suffix s → to_sign false (f ++ s) ≡ length (f ++ s)
fraction_calm {f} {s} m x = calm_on s (many_map digit_calm m) ∙ rw (suffix_calm x, ← length-append f s)

fraction_numerals : {f s : List ℕ} → Many Digit f → Suffix s → Many Numeral (f ++ s)
fraction_numerals m x = many_append (digits_numerals m) (suffix_numerals x)

decimal_shape : {u : List ℕ} → Decimal u → Shape u
decimal_shape (scaled d s m x) = digits_then m (suffix_numerals x) (suffix_calm x)
decimal_shape (dot_first f s m x) = record {
  all = more refl (fraction_numerals (some_many m) x);
  calm = dot_then (fraction_numerals (some_many m) x) (fraction_calm (some_many m) x);
  leads = refl;
  length_some = omega arith;
}
decimal_shape (dot_inside d f s m n x) = digits_then m (more refl (fraction_numerals n x)) (dot_then (fraction_numerals n x) (fraction_calm n x))

pub shape : {u : List ℕ} → Ureal u → Shape u
unfolding to_sign
shape (is_integer {d = d} m) = rw (append-nil d) at (digits_then m done refl)
shape (is_ratio n d m k z) = digits_then m (more refl (digits_numerals (some_many k))) (calm_step (code "/") d refl ∙ ap suc (digits_calm (some_many k)))
shape (is_decimal x) = decimal_shape x

-- ---- from <number> down to <ureal 10>

leader_is : (f : ℕ → Bool) (b : Bool) → map f leaders ≡ map (λ k. b) leaders → (c : ℕ) → one_of leaders c ≡ true → f c ≡ b
leader_is f b e c h = at_one_of f b leaders c e h

-- what a text with a sign, or with none, is to the grammar: its cut, its sign and what follows it
pub record Signed (t u : List ℕ) (b : Bool) (n : ℕ) : Type 0 where
  pub cut_at_end : to_sign (starts_e t) (drop 1 t) ≡ length (drop 1 t)
  pub nonempty : 0 < length t
  pub sign-length : sign t ≡ n
  pub after_sign : drop n t ≡ u
  pub sign_is : digit.negative t ≡ b
  pub no_prefix : eqb (get_or t 0 0) (code "#") ≡ false

pub signed_text : {s u : List ℕ} {b : Bool} → Sign s b → Shape u → Signed (s ++ u) u b (length s)
unfolding starts_e exponent_marker sign starts to_sign
signed_text no_sign h = unsigned _ h
  where
    unsigned : (u : List ℕ) → Shape u → Signed u u false 0
    unsigned [] h = absurd (omega (arith, h.length_some))
    unsigned (c ∷ u) h =
        let plain : Calm c = leader_is (λ k. one_of (codes "0123456789./") k) true refl c h.leads in
        let no-e : exponent_marker c ≡ false = leader_is exponent_marker false refl c h.leads in
        let no_plus : eqb c (code "+") ≡ false = leader_is (λ k. eqb k (code "+")) false refl c h.leads in
        let no_minus : eqb c (code "-") ≡ false = leader_is (λ k. eqb k (code "-")) false refl c h.leads in
        record {
          cut_at_end = rw no-e (suc_inj (sym (calm_step c u plain) ∙ h.calm));
          nonempty = omega arith;
          sign-length = rw (no_plus, no_minus);
          after_sign = refl;
          sign_is = no_minus;
          no_prefix = leader_is (λ k. eqb k (code "#")) false refl c h.leads;
        }
signed_text plus_sign h = record { cut_at_end = h.calm; nonempty = omega arith; sign-length = refl; after_sign = refl; sign_is = refl; no_prefix = refl }
signed_text minus_sign h = record { cut_at_end = h.calm; nonempty = omega arith; sign-length = refl; after_sign = refl; sign_is = refl; no_prefix = refl }

module _ {t u : List ℕ} {b : Bool} {n : ℕ} (m : Many Numeral t) (g : Signed t u b n) where
  not_cut : ltb (1 + to_sign (starts_e t) (drop 1 t)) (length t) ≡ false
  not_cut = rw g.cut_at_end (le-ltb (1 + length (drop 1 t)) (length t) (omega (arith, length-drop 1 t, g.nonempty)))

  pub real_parse : parse_number (bytes_of t) ≡ judged (just_of (ureal 10 b n u))
  unfolding parse_number prefix complex rectangular alone_of real or_else
  real_parse =
      rw (numerals_bytes m)
      (rw (g.no_prefix, no_at m, le-ltb (length t) (length t) (le_refl (length t)), not_cut, not_imaginary m, not_infnan m)
      (rw (g.sign_is, g.sign-length, g.after_sign, zero-add n)))
