-- What a letter and a digit begin.
use Rattle.laws.specs.Quoted.{code, codes, one_of}
use Rattle.laws.proofs.Choice.{by_bool, no_yes, and_true}
use Rattle.chars.specs.Blank.{is_blank}
use Rattle.chars.proofs.Blanks.{between_blanks}
use Rattle.items.specs.Classes.{First, semicolon, quote, comma, hash, number, single, vertical, backslash, wordy, starts_run, first_of}
use Rattle.items.specs.Machine.{on_first}
use Rattle.items.specs.declared.Phase.TheVariants as ph
use Rattle.steps.proofs.Characters.{upto, in_run_lem}
use Prim.Native.Nat.{ℕ, ◌+◌, ◌≤◌, ◌<◌}
use mathlib.Core.Path.{◌≡◌, refl, sym, ap, subst}
use mathlib.Core.Bool.{Bool, true, false, not, ◌&&◌, ◌||◌}
use mathlib.Core.List.{List, [], ◌∷◌}
use mathlib.Core.Logic.{◌⊎◌, inl, inr, ⊎_elim}
use lib.Dec.{eqb, ltb}
use native.Mathlib.Omega.{arith}
use borrow.Author.Tests.{eqb-true, ltb-true, ne_eqb, not-true}

-- ---- what begins a word

abbrev is_wordy : First → Bool
is_wordy semicolon = false
is_wordy quote = false
is_wordy comma = false
is_wordy hash = false
is_wordy number = false
is_wordy (single k d) = false
is_wordy vertical = false
is_wordy backslash = false
is_wordy wordy = true

wordy_is : (f : First) → is_wordy f ≡ true → f ≡ wordy
wordy_is semicolon e = no_yes e
wordy_is quote e = no_yes e
wordy_is comma e = no_yes e
wordy_is hash e = no_yes e
wordy_is number e = no_yes e
wordy_is (single k d) e = no_yes e
wordy_is vertical e = no_yes e
wordy_is backslash e = no_yes e
wordy_is wordy e = refl

abbrev begins_word : ℕ → Bool
begins_word c = is_wordy (first_of c) && not (is_blank c)

abbrev pub all_begin : List ℕ → Bool
all_begin [] = true
all_begin (k ∷ ks) = begins_word k && all_begin ks

each_begins : (ks : List ℕ) (c : ℕ) → all_begin ks ≡ true → one_of ks c ≡ true → begins_word c ≡ true
each_begins [] c h e = no_yes e
each_begins (k ∷ ks) c h e = by_bool (eqb c k)
    (λ b. subst (λ (x : ℕ). begins_word x ≡ true) (sym (eqb-true c k b)) (and_true (begins_word k) (all_begin ks) h).0)
    (λ b. each_begins ks c (and_true (begins_word k) (all_begin ks) h).1 (subst (λ (t : Bool). (t || one_of ks c) ≡ true) b e))

-- one of so many characters from one on, each of which begins a word
pub words_from : (n a c : ℕ) → all_begin (upto n a) ≡ true → a ≤ c → c < a + n → (is_blank c ≡ false) × (on_first (first_of c) ≡ ph.InWord)
words_from n a c all low high =
    let w = and_true (is_wordy (first_of c)) (not (is_blank c)) (each_begins (upto n a) c all (in_run_lem n a c low high)) in
    (not-true (is_blank c) w.1, ap on_first (wordy_is (first_of c) w.0))

pub letters : all_begin (upto 26 (code "a")) ≡ true
unfolding first_of starts_run is_blank
letters = refl

-- a small letter
module _ (c : ℕ) (low : code "a" ≤ c) (high : c ≤ code "z") where
  pub letter_solid : is_blank c ≡ false
  letter_solid = (words_from 26 (code "a") c letters low (omega arith)).0

  pub letter_first : on_first (first_of c) ≡ ph.InWord
  letter_first = (words_from 26 (code "a") c letters low (omega arith)).1

pub capitals : all_begin (upto 31 (code "<")) ≡ true
unfolding first_of starts_run is_blank
capitals = refl

-- a capital letter, and < = > ? @ before them
pub capital_begins : (c : ℕ) → code "<" ≤ c → c ≤ code "Z" → (is_blank c ≡ false) × (on_first (first_of c) ≡ ph.InWord)
capital_begins c low high = words_from 31 (code "<") c capitals low (omega arith)

-- ---- a character past ASCII is none of those that begin something else

-- whether all are below
abbrev pub below : List ℕ → Bool
below [] = true
below (k ∷ l) = ltb k 0x80 && below l

pub past_other : (c k : ℕ) → 0x80 ≤ c → ltb k 0x80 ≡ true → eqb c k ≡ false
past_other c k h e = ne_eqb c k (λ f. omega (arith, ltb-true k 0x80 e))

pub past_all : (l : List ℕ) → below l ≡ true → (c : ℕ) → 0x80 ≤ c → one_of l c ≡ false
past_all [] e c h = refl
past_all (k ∷ l) e c h = let t = and_true (ltb k 0x80) (below l) e in rw (past_other c k h t.0) (past_all l t.1 c h)

pub past_first : (c : ℕ) → 0x80 ≤ c → on_first (first_of c) ≡ ph.InWord
unfolding first_of starts_run
past_first c past = rw (
  past_other c (code ";") past refl,
  past_other c (code "\"") past refl,
  past_other c (code ",") past refl,
  past_other c (code "#") past refl,
  past_other c (code "(") past refl,
  past_other c (code "[") past refl,
  past_other c (code "{") past refl,
  past_other c (code ")") past refl,
  past_other c (code "]") past refl,
  past_other c (code "}") past refl,
  past_other c (code "'") past refl,
  past_other c (code "`") past refl,
  past_all (codes "+-.0123456789") refl c past,
  past_other c (code "|") past refl,
  past_other c (code "\\") past refl,
)

-- ---- a digit begins a number run

module _ (c : ℕ) (low : code "0" ≤ c) (high : c ≤ code "9") where
  outside : (k : ℕ) → (k < code "0") ⊎ (code "9" < k) → eqb c k ≡ false
  outside k d = ne_eqb c k (λ f. ⊎_elim (λ x. omega arith) (λ x. omega arith) d)

  pub digit_solid : is_blank c ≡ false
  digit_solid = between_blanks c (omega arith) (omega arith) (λ f. omega arith) (λ f. omega arith) (λ f. omega arith) (λ f. omega arith)

  runs : starts_run c ≡ true
  unfolding starts_run
  runs = rw (outside (code "+") (inl (omega arith)), outside (code "-") (inl (omega arith)), outside (code ".") (inl (omega arith))) (in_run_lem 10 0x30 c low (omega arith))

  pub digit_first : on_first (first_of c) ≡ ph.InRun
  unfolding first_of
  digit_first = rw (
    outside (code ";") (inr (omega arith)),
    outside (code "\"") (inl (omega arith)),
    outside (code ",") (inl (omega arith)),
    outside (code "#") (inl (omega arith)),
    outside (code "(") (inl (omega arith)),
    outside (code "[") (inr (omega arith)),
    outside (code "{") (inr (omega arith)),
    outside (code ")") (inl (omega arith)),
    outside (code "]") (inr (omega arith)),
    outside (code "}") (inr (omega arith)),
    outside (code "'") (inl (omega arith)),
    outside (code "`") (inr (omega arith)),
    runs,
  )
