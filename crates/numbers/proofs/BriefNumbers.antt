-- Brief numbers, for both grammars: two plain reals with @ between them have no @ before it, and two with a sign between them and `i` at the end
-- have no @ and no other sign; so the text is cut there, and each part is the real that it is by itself.
use Rattle.std.proofs.Common.{Option, Some}
use Rattle.numbers.specs.declared.Real.{Real}
use Rattle.numbers.specs.declared.Parts.{Parts}
use Rattle.numbers.specs.declared.Parts.TheVariants.{Complex, Polar}
use Rattle.numbers.specs.Brief.{plain_from}
use Rattle.numbers.specs.Grammar.{complex_of, polar_of, init, to_sign, prefix}
use Rattle.numbers.specs.Plain.{plain}
use Rattle.numbers.specs.Reals.{exponent_marker}
use Rattle.numbers.specs.Reals as bought
use Rattle.numbers.proofs.Ascii.{Ascii}
use Rattle.numbers.specs.Grammars.{Grammar}
use Rattle.numbers.proofs.Grammars.{init_is, imaginary-real, pair_is, complex_polar, complex-rectangular}
use Rattle.numbers.proofs.Judged.{prefix_none}
use Rattle.numbers.proofs.Plain.{All, Numeral, all_map, Avoids, before_all, sign_all, plain_first, plain_some}
use Rattle.numbers.proofs.PlainReals.{plain-told}
use Rattle.laws.specs.Quoted.{code}
use Rattle.laws.specs.Texts.{span, before, same}
use Rattle.laws.proofs.Choice.{by_bool, and_no, no_yes}
use Rattle.laws.proofs.Places.{past, here}
use Rattle.digits.specs.Digits.{sign}
use Prim.Native.Nat.{ℕ, zero, suc, ◌+◌, ◌-◌, ◌≤◌, ◌<◌}
use mathlib.Core.Path.{◌≡◌, refl, sym, ap, ◌∙◌}
use mathlib.Core.Bool.{Bool, true, false}
use mathlib.Core.List.{List, [], ◌∷◌}
use mathlib.Core.Logic.{◌⊎◌, inl, inr}
use lib.ListN.{length, get_or, take, drop, length-drop}
use lib.Seq.{get_or-drop, length-take-le}
use lib.Dec.{eqb, ltb}
use native.Mathlib.Omega.{arith}
use native.Mathlib.Nat.{zero-add}
use native.Mathlib.Numerals.{add-one}
use borrow.Author.Tests.{eq-eqb, ne_eqb, eqb-true, ltb-true, ltb-false}

-- ---- a text by its parts

-- what holds before the place k, there and behind it holds everywhere
all_join : (P : ℕ → Type 0) (k : ℕ) (t : List ℕ) → k < length t → All P (take k t) → P (get_or t k 0) → All P (drop (suc k) t) → All P t
all_join P k [] i a b c = absurd (omega arith)
all_join P zero (x ∷ t) i a b c = (b, c)
all_join P (suc k) (x ∷ t) i a b c = (a.0, all_join P k t (omega arith) a.1 b c)

all_last : (P : ℕ → Type 0) (s : List ℕ) → 0 < length s → All P (init s) → P (get_or s (length s - 1) 0) → All P s
all_last P s h a b =
    let e : drop (suc (length s - 1)) s ≡ [] = past s (suc (length s - 1)) (omega arith) in
    all_join P (length s - 1) s (omega arith) a b (rw e tt)

-- the first b at k
before_cut_lem : (b k : ℕ) (t : List ℕ) → k < length t → Avoids b (take k t) → get_or t k 0 ≡ b → before b t ≡ k
unfolding span
before_cut_lem b k [] i h e = absurd (omega arith)
before_cut_lem b zero (c ∷ t) i h e = simp (eq-eqb c b e)
before_cut_lem b (suc k) (c ∷ t) i h e = simp (ne_eqb c b h.0) (ap suc (before_cut_lem b k t (omega arith) h.1 e))

abbrev pub SignAt : List ℕ → ℕ → Type 0
SignAt t k = (get_or t k 0 ≡ code "+") ⊎ (get_or t k 0 ≡ code "-")

-- the first sign at k, after numerals
sign_cut : (k : ℕ) (t : List ℕ) → k < length t → All Numeral (take k t) → SignAt t k → to_sign false t ≡ k
unfolding to_sign exponent_marker
sign_cut k [] i h e = absurd (omega arith)
sign_cut zero (c ∷ t) i h (inl e) = simp (eq-eqb c (code "+") e)
sign_cut zero (c ∷ t) i h (inr e) = simp (ne_eqb c (code "+") (λ f. omega arith), eq-eqb c (code "-") e)
sign_cut (suc k) (c ∷ t) i h e =
    let n = h.0.0 in
    let m = h.0.1 in
    simp (
      ne_eqb c (code "+") (λ f. omega arith),
      ne_eqb c (code "-") (λ f. omega arith),
      ne_eqb c (code "e") (λ f. omega arith),
      ne_eqb c (code "E") (λ f. omega arith),
    ) (ap suc (sign_cut k t (omega arith) h.1 e))

-- ---- the characters of a plain real

abbrev First : ℕ → Type 0
First c = (code "+" ≤ c) × (c ≤ code "9")

plain_firsts : (s : List ℕ) → plain s ≡ true → All First s
plain_firsts [] h = tt
plain_firsts (c ∷ s) h =
    let n = plain_first c s h in
    ((n.0, n.1), all_map Numeral First (λ d m. let l = m.0 in (omega arith, m.1)) s n.2)

plain-length : (s : List ℕ) → plain s ≡ true → 0 < length s
plain-length [] h = no_yes (sym plain_some ∙ h)
plain-length (c ∷ s) h = omega arith

-- neither sign alone is one
plain_unsigned : (b : ℕ) (s : List ℕ) → sign (b ∷ []) ≡ 1 → plain s ≡ true → false ≡ same s (b ∷ [])
unfolding same plain sign
plain_unsigned b [] e h = refl
plain_unsigned b (c ∷ []) e h = by_bool (eqb c b)
    (λ f. let g : c ≡ b = eqb-true c b f in no_yes (sym plain_some ∙ (rw (g, e) at h)))
    (λ f. simp f)
plain_unsigned b (c ∷ d ∷ s) e h = sym (and_no (eqb c b))

-- ---- what one real and the rest say of all

-- the first character is no prefix's
first_of_case : (k : ℕ) (t : List ℕ) → plain (take k t) ≡ true → First (get_or t 0 0)
first_of_case zero t h = no_yes (sym plain_some ∙ h)
first_of_case (suc k) [] h = no_yes (sym plain_some ∙ h)
first_of_case (suc k) (c ∷ t) h = let n = plain_first c (take k t) h in (n.0, n.1)

all_ascii : (s : List ℕ) → All (λ c. c < 0x80) s → Ascii s
all_ascii [] h = tt
all_ascii (c ∷ s) h = (h.0, all_ascii s h.1)

module _ (t : List ℕ) (k : ℕ) (i : k < length t) (u : plain (take k t) ≡ true) where
  before_all_of : (P : ℕ → Type 0) → ((c : ℕ) → First c → P c) → All P (take k t)
  before_all_of P f = all_map First P f (take k t) (plain_firsts (take k t) u)

  pub unmarked : 0 ≡ prefix t
  unmarked = let n = first_of_case k t u in let m = n.1 in let l = n.0 in prefix_none t (λ e. omega arith)

  -- two reals and @
  module _ (g : get_or t k 0 ≡ code "@") where
    at_first : k ≡ 0 + before (code "@") t
    at_first =
        sym (before_cut_lem (code "@") k t i (before_all_of (λ c. c ≡ code "@" → ⊥) (λ c n e. let m = n.1 in omega arith)) g) ∙ sym (zero-add (before (code "@") t))

    pub polar_ascii : plain (drop (k + 1) t) ≡ true → Ascii t
    polar_ascii w =
        all_ascii t
        (all_join (λ c. c < 0x80) k t i (before_all_of (λ c. c < 0x80) (λ c n. let m = n.1 in omega arith)) (omega arith)
        (rw (← add-one k) (all_map First (λ c. c < 0x80) (λ c n. let m = n.1 in omega arith) (drop (k + 1) t) (plain_firsts (drop (k + 1) t) w))))

  -- two reals, the second's sign at k, and `i`
  module _ (g : SignAt t k) (z : get_or t (length t - 1) 0 ≡ code "i") (w : plain (drop k (take (length t - 1) t)) ≡ true) where
    inner : k < length t - 1
    inner = by_bool (ltb k (length t - 1))
        (λ e. ltb-true k (length t - 1) e)
        (λ e. let l = ltb-false k (length t - 1) e in
        let n : drop k (take (length t - 1) t) ≡ [] = past (take (length t - 1) t) k (rw (length-take-le (length t - 1) t (omega arith)) l) in
        no_yes (sym plain_some ∙ (rw n at w)))

    rest : All Numeral (init (drop (k + 1) t))
    rest =
        let e = here (take (length t - 1) t) k (rw (length-take-le (length t - 1) t (omega arith)) inner) in
        rw (← init_is t (k + 1) (omega (arith, inner))) (plain_first _ _ (rw e at w)).2

    last : get_or (drop (k + 1) t) (length (drop (k + 1) t) - 1) 0 ≡ code "i"
    last =
        let e : k + 1 + (length (drop (k + 1) t) - 1) ≡ length t - 1 = omega (arith, length-drop (k + 1) t, inner) in
        get_or-drop (k + 1) t (length (drop (k + 1) t) - 1) 0 ∙ ap (λ (n : ℕ). get_or t n 0) e ∙ z

    behind : (P : ℕ → Type 0) → ((c : ℕ) → Numeral c → P c) → P (code "i") → All P (drop (k + 1) t)
    behind P f y =
        all_last P (drop (k + 1) t) (omega (arith, length-drop (k + 1) t, inner)) (all_map Numeral P f (init (drop (k + 1) t)) rest) (rw last y)

    everywhere : (P : ℕ → Type 0) → ((c : ℕ) → First c → P c) → P (get_or t k 0) → P (code "i") → All P t
    everywhere P f x y =
        all_join P k t i (before_all_of P f) x (rw (← add-one k) (behind P (λ c n. let l = n.0 in let m = n.1 in f c (omega arith, m)) y))

    sign_byte : (get_or t k 0 ≤ code "-")
    sign_byte = at g
      where
        at : SignAt t k → get_or t k 0 ≤ code "-"
        at (inl e) = omega arith
        at (inr e) = omega arith

    pub complex_ascii : Ascii t
    complex_ascii = all_ascii t (everywhere (λ c. c < 0x80) (λ c n. let m = n.1 in omega arith) (omega (arith, sign_byte)) (omega arith))

    pub no_at : before (code "@") t ≡ length t
    no_at =
        before_all (code "@") t
        (everywhere (λ c. c ≡ code "@" → ⊥) (λ c n e. let m = n.1 in omega arith) (λ e. omega (arith, sign_byte)) (λ e. omega arith))

    -- the first sign past the first character, and no other behind it
    pub sign_there : k ≡ 0 + 1 + to_sign false (drop (0 + 1) t)
    sign_there = there k t i u g
      where
        there : (k : ℕ) (t : List ℕ) → k < length t → plain (take k t) ≡ true → SignAt t k → k ≡ 0 + 1 + to_sign false (drop (0 + 1) t)
        there zero t i u g = no_yes (sym plain_some ∙ u)
        there (suc k) [] i u g = absurd (omega arith)
        there (suc k) (c ∷ t) i u g =
            let e = sign_cut k t (omega arith) (plain_first c (take k t) u).2 g in omega arith

    pub sign_alone : length t ≤ k + 1 + to_sign false (drop (k + 1) t)
    sign_alone =
        let e = sign_all false (drop (k + 1) t) (behind (λ c. c ≡ code "+" → ⊥) (λ c n e. let l = n.0 in omega arith) (λ e. omega arith))
        (behind (λ c. c ≡ code "-" → ⊥) (λ c n e. let l = n.0 in omega arith) (λ e. omega arith)) in
        omega (arith, length-drop (k + 1) t)

    pub markless : false ≡ exponent_marker (get_or t 0 0)
    unfolding exponent_marker
    markless =
        let n = first_of_case k t u in
        let m = n.1 in
        simp (ne_eqb (get_or t 0 0) (code "e") (λ e. omega arith), ne_eqb (get_or t 0 0) (code "E") (λ e. omega arith))

-- ---- the parts by a grammar whose reals are the same on plain texts

module _ {ends_i : List ℕ → Bool} {real imaginary : ℕ → ℕ → List ℕ → (Option Real)} {alone_of : ℕ → ℕ → List ℕ → (Option Parts)}
    {pair_of : ℕ → ℕ → ℕ → List ℕ → (Option Parts)} {rectangular complex : ℕ → ℕ → List ℕ → (Option Parts)}
    (G : Grammar ends_i real imaginary alone_of pair_of rectangular complex) (agree : (p : ℕ) (s : List ℕ) → plain s ≡ true → real 10 p s ≡ bought.real 10 p s) where
  real_told : (p : ℕ) (s : List ℕ) (x : Real) → Some x ≡ plain_from p s → Some x ≡ real 10 p s
  real_told p s x e = let h = plain-told p s x e in h.1 ∙ sym (agree p s h.0)

  module _ (t : List ℕ) (k : ℕ) (i : k < length t) (a b : Real) (x : Some a ≡ plain_from 0 (drop 0 (take k t))) where
    pub polar_parts : get_or t k 0 ≡ code "@" → Some b ≡ plain_from (k + 1) (drop (k + 1) t) → Some (Polar a b) ≡ complex 10 0 (drop 0 t)
    unfolding polar_of
    polar_parts g y =
        complex_polar G 10 t 0 k (at_first t k i (plain-told 0 (take k t) a x).0 g) (Some (Polar a b)) (Some a) (Some b) i
        (real_told 0 (take k t) a x) (real_told (k + 1) (drop (k + 1) t) b y) refl

    pub complex_parts : SignAt t k → get_or t (length t - 1) 0 ≡ code "i" → Some b ≡ plain_from k (drop k (take (length t - 1) t)) → true ≡ ends_i (drop k t)
        → ((r : Option Parts) → r ≡ pair_of 10 0 (k - 0) (drop 0 t) → r ≡ rectangular 10 0 (drop 0 t)) → Some (Complex a b) ≡ complex 10 0 (drop 0 t)
    unfolding complex_of sign
    complex_parts g z y n f =
        let u = (plain-told 0 (take k t) a x).0 in
        let part : List ℕ = drop k (take (length t - 1) t) in
        let w = (plain-told k part b y).0 in
        let e : 0 + before (code "@") t ≡ length t = zero-add (before (code "@") t) ∙ no_at t k i u g z w in
        complex-rectangular G 10 t 0 (0 + before (code "@") t) refl (Some (Complex a b)) (omega arith)
        (f (Some (Complex a b))
        (pair_is G 10 t 0 k (omega arith) (Some (Complex a b)) (Some a) (Some b) n (real_told 0 (take k t) a x)
        (imaginary-real G 10 k part (plain_unsigned (code "+") part refl w) (Some b) (plain_unsigned (code "-") part refl w) (real_told k part b y))
        refl))
