-- In report mode every item of error 11 points at what fails (specs/Failing).
use Prim.Native.Nat.{ℕ, ◌+◌, ◌-◌, ◌<◌}
use mathlib.Core.Path.{◌≡◌, refl, sym, ap, subst, ◌∙◌}
use mathlib.Core.Bool.{true}
use mathlib.Core.List.{List, [], ◌∷◌, ◌++◌, append_assoc, append-nil}
use mathlib.Core.Logic.{inl, inr}
use lib.ListN.{length, drop, length-append}
use lib.Seq.{drop-append_seam}
use native.Mathlib.Omega.{arith}
use Rattle.chars.specs.Encode.{utf8, bytes_of}
use Rattle.chars.proofs.Round.{back, one_read}
use Rattle.digits.specs.Hex.{hex_value, empty, bad_digit, overflow, wrong}
use Rattle.items.specs.Items.{Place, items}
use Rattle.items.specs.Readers.{SoFar, past_failing}
use Rattle.items.proofs.Every.{Every}
use Rattle.items_coverage.proofs.Bytes.{passed}
use Rattle.items_coverage.proofs.Located.{items_there}
use Rattle.items_errors.specs.Failing.{NoDigits, BadDigit, Overflow, Fails, Pointed}
use Rattle.items_errors.proofs.Ascii.{Split, split}
use Rattle.items_errors.proofs.Digits.{every_right, digit_small, BadAt, bad_at, Over, Many, Known, known, empty_value, over_value}
use Rattle.items_errors.proofs.Phases.{Stops, Digits}
use Rattle.items_errors.proofs.Eleven.{IsChar, every_left, FailingDigits, extent_eleven, eleven_items}

-- the digits are whole characters
pub record Whole (ds : List ℕ) : Type 0 where
  pub hs : List ℕ
  pub is : ds ≡ bytes_of hs
  pub chars : Every IsChar hs

whole_digits : (ds ys : List ℕ) → Stops ys → (vs : List ℕ) → bytes_of vs ≡ ds ++ ys → Every IsChar vs → Whole ds
whole_digits ds ys Stops.over vs e h = record { hs = vs; is = sym (append-nil ds) ∙ sym e; chars = h }
whole_digits ds ys (Stops.byte y zs small) vs e h =
    let r : Split y small zs vs ds = split y small zs vs ds e in
    record { hs = r.us; is = sym r.before; chars = every_left IsChar r.us (y ∷ r.vs) (subst (Every IsChar) r.chars h) }

pub whole_bad : (ds : List ℕ) (p : ℕ) → Whole ds → hex_value ds ≡ wrong bad_digit p → BadAt ds p
whole_bad ds p w e = subst (λ (l : List ℕ). BadAt l p) (sym w.is) (bad_at w.hs p w.chars (sym (ap hex_value w.is) ∙ e))

-- ---- what fails among the digits ds, which stand after x and k in the text and before v

module _ (whole : List ℕ) (s : ℕ) (x : List ℕ) (k : ℕ) (ascii : k < 0x80) (ds v : List ℕ) (stands : drop s whole ≡ (x ++ (k ∷ [])) ++ (ds ++ v))
    (zs : List ℕ) (a b p : ℕ) (from : a ≡ s + (length (x ++ (k ∷ [])) + p)) where
  abbrev u : List ℕ
  u = x ++ (k ∷ [])

  none_there : hex_value ds ≡ wrong empty p → b ≡ past_failing empty a (drop p ds ++ zs) → NoDigits whole a b
  unfolding past_failing
  none_there e to =
      let z : p ≡ 0 = empty_value ds p e in
      let at : a - 1 ≡ s + length x = omega (arith, from, length-append x (k ∷ [])) in
      record {
        k = k;
        after = ds ++ v;
        back = omega (arith, from, length-append x (k ∷ []));
        stands = ap (λ (n : ℕ). drop n whole) at ∙ passed whole s x (k ∷ (ds ++ v)) (stands ∙ append_assoc x (k ∷ []) (ds ++ v));
        ascii = ascii;
        empty = to;
      }

  bad_there : Whole ds → hex_value ds ≡ wrong bad_digit p → b ≡ past_failing bad_digit a (drop p ds ++ zs) → BadDigit whole a b
  unfolding past_failing
  bad_there w e to =
      let r : BadAt ds p = whole_bad ds p w e in
      let t : List ℕ = utf8 r.c ++ r.after in
      let n : p ≡ length (r.sign ++ r.good) = r.place ∙ sym (length-append r.sign r.good) in
      let left : drop p ds ≡ t
      = ap (drop p) r.is ∙ ap (λ (k : ℕ). drop k ((r.sign ++ r.good) ++ t)) n ∙ drop-append_seam (r.sign ++ r.good) t in
      let more : List ℕ = r.after ++ zs in
      let f : drop p ds ++ zs ≡ utf8 r.c ++ more = ap (λ (l : List ℕ). l ++ zs) left ∙ append_assoc (utf8 r.c) r.after zs in
      let there : drop s whole ≡ (u ++ (r.sign ++ r.good)) ++ (t ++ v)
      = stands ∙ ap (λ (l : List ℕ). u ++ (l ++ v)) r.is ∙ ap (λ (l : List ℕ). u ++ l) (append_assoc (r.sign ++ r.good) t v)
      ∙ sym (append_assoc u (r.sign ++ r.good) (t ++ v)) in
      let at : a ≡ s + length (u ++ (r.sign ++ r.good)) = omega (arith, length-append u (r.sign ++ r.good)) in
      record {
        c = r.c;
        after = r.after ++ v;
        stands = ap (λ (k : ℕ). drop k whole) at ∙ passed whole s (u ++ (r.sign ++ r.good)) (t ++ v) there ∙ append_assoc (utf8 r.c) r.after v;
        one = to ∙ ap (past_failing bad_digit a) f ∙ (rw (back r.c more r.scalar));
        scalar = r.scalar;
        wrong = r.wrong;
      }

  over_there : hex_value ds ≡ wrong overflow p → b ≡ past_failing overflow a (drop p ds ++ zs) → Overflow whole a b
  unfolding past_failing
  over_there e to =
      let m : Many ds p = over_value ds p e in
      let r : Over m.rest (length m.sign) 0 p = m.over in
      let t : List ℕ = r.c ∷ r.after in
      let cut : ds ≡ (m.sign ++ r.ds) ++ t = m.is ∙ ap (λ (l : List ℕ). m.sign ++ l) r.is ∙ sym (append_assoc m.sign r.ds t) in
      let n : p ≡ length (m.sign ++ r.ds) = omega (arith, r.place, length-append m.sign r.ds) in
      let left : drop p ds ≡ t
      = ap (drop p) cut ∙ ap (λ (k : ℕ). drop k ((m.sign ++ r.ds) ++ t)) n ∙ drop-append_seam (m.sign ++ r.ds) t in
      let small : r.c < 0x80 = digit_small r.c r.digit in
      let back : a - length r.ds ≡ s + length (u ++ m.sign) = omega (arith, r.place, length-append u m.sign) in
      let there : drop s whole ≡ (u ++ m.sign) ++ (r.ds ++ (t ++ v))
      = stands ∙ ap (λ (l : List ℕ). u ++ (l ++ v)) cut
      ∙ ap (λ (l : List ℕ). u ++ l) (append_assoc (m.sign ++ r.ds) t v ∙ append_assoc m.sign r.ds (t ++ v))
      ∙ sym (append_assoc u m.sign (r.ds ++ (t ++ v))) in
      record {
        ds = r.ds;
        c = r.c;
        after = r.after ++ v;
        back = omega (arith, r.place);
        stands = ap (λ (k : ℕ). drop k whole) back ∙ passed whole s (u ++ m.sign) (r.ds ++ (t ++ v)) there;
        one = to ∙ ap (λ (l : List ℕ). past_failing overflow a (l ++ zs)) left ∙ (rw (one_read r.c (r.after ++ zs) small));
        digits = r.digits;
        digit = r.digit;
        fits = r.fits;
        large = r.large;
      }

  fails_there : (d : ℕ) → Known (wrong d p) → Whole ds → hex_value ds ≡ wrong d p → b ≡ past_failing d a (drop p ds ++ zs) → Fails whole a b d
  fails_there d (inl f) w e to =
      subst (Fails whole a b) (sym f) (Fails.none (none_there (e ∙ ap (λ (n : ℕ). wrong n p) f) (to ∙ ap (λ (n : ℕ). past_failing n a (drop p ds ++ zs)) f)))
  fails_there d (inr (inl f)) w e to =
      subst (Fails whole a b) (sym f) (Fails.bad (bad_there w (e ∙ ap (λ (n : ℕ). wrong n p) f) (to ∙ ap (λ (n : ℕ). past_failing n a (drop p ds ++ zs)) f)))
  fails_there d (inr (inr f)) w e to =
      subst (Fails whole a b) (sym f) (Fails.over (over_there (e ∙ ap (λ (n : ℕ). wrong n p) f) (to ∙ ap (λ (n : ℕ). past_failing n a (drop p ds ++ zs)) f)))

-- ---- an extent, whose bytes are whole characters

pub digits_whole : (s : ℕ) (raw cs : List ℕ) → raw ≡ bytes_of cs → Every IsChar cs → (d a b : ℕ) (g : Digits s raw d a b) → Whole g.ds
digits_whole s raw cs chars good d a b g =
    let sp : Split g.k g.ascii (g.ds ++ g.ys) cs g.x = split g.k g.ascii (g.ds ++ g.ys) cs g.x (sym chars ∙ g.is) in
    let after : Every IsChar sp.vs = (every_right IsChar sp.us (g.k ∷ sp.vs) (subst (Every IsChar) sp.chars good)).1 in
    whole_digits g.ds g.ys g.stop sp.vs sp.after after

digits_fail : (whole : List ℕ) (s : ℕ) (raw rest : List ℕ) → drop s whole ≡ raw ++ rest → (d a b : ℕ) (g : Digits s raw d a b) → Whole g.ds
    → Fails whole a b d
digits_fail whole s raw rest stands d a b g w =
    let there : drop s whole ≡ (g.x ++ (g.k ∷ [])) ++ (g.ds ++ (g.ys ++ rest))
    = stands ∙ ap (λ (l : List ℕ). l ++ rest) (g.is ∙ sym (append_assoc g.x (g.k ∷ []) (g.ds ++ g.ys)))
    ∙ append_assoc (g.x ++ (g.k ∷ [])) (g.ds ++ g.ys) rest ∙ ap (λ (l : List ℕ). (g.x ++ (g.k ∷ [])) ++ l) (append_assoc g.ds g.ys rest) in
    fails_there whole s g.x g.k g.ascii g.ds (g.ys ++ rest) there g.zs a b g.p
    (omega (arith, g.from, length-append g.x (g.k ∷ []))) d (subst Known g.fails (known g.ds)) w g.fails g.to

module _ (whole : List ℕ) where
  abbrev FailsThere : ℕ → ℕ → ℕ → ℕ → ℕ → Type 0
  FailsThere s e d a b = Fails whole a b d

  extent_told : (s : ℕ) (i : SoFar) (rest cs : List ℕ) → drop s whole ≡ i.bytes ++ rest → i.at ≡ s + length i.bytes → i.bytes ≡ bytes_of cs → Every IsChar cs
      → (d a b : ℕ) → FailingDigits s i.bytes d a b → FailsThere s i.at d a b
  extent_told s i rest cs stands long is good d a b g = digits_fail whole s i.bytes rest stands d a b g.0 (digits_whole s i.bytes cs is good d a b g.0)

  -- every item of an extent, wherever it starts, that is error 11 points at what fails
  pub extent_points : (last : Place) (at c : ℕ) (cs : List ℕ) → drop at whole ≡ bytes_of (c ∷ cs) → Every IsChar (c ∷ cs)
      → Every (Pointed whole) (items_there true last at c cs)
  extent_points = extent_eleven FailsThere whole extent_told

-- every item of a text that is error 11 points at what fails
pub points_at_what_fails : (cs : List ℕ) → Every IsChar cs → Every (Pointed (bytes_of cs)) (items true cs)
points_at_what_fails cs good = eleven_items (FailsThere (bytes_of cs)) (bytes_of cs) (extent_told (bytes_of cs)) cs refl good
