-- Signed values in two words, and an answer's words put together.
use Prim.Native.Nat.{ℕ, suc, ◌+◌, ◌-◌, ◌^◌, ◌≤◌, ◌<◌}
use mathlib.Core.Path.{◌≡◌, refl, sym, ap, ◌∙◌}
use mathlib.Core.Bool.{true, false}
use mathlib.Core.List.{List, [], ◌∷◌, ◌++◌}
use lib.ListN.{length, take, drop, set}
use lib.IntN.{ℤ, pos, negsuc, nat_abs, ◌-ℤ◌}
use lib.Signed.{lt_z}
use mir.Syntax.{w64}
use mir.Val.{SFits}
use native.Mathlib.Omega.{arith}
use native.Mathlib.Numerals.{sub-one, add-one}
use borrow.Author.Tests.{ltb-true, lt-ltb, le-ltb}
use borrow.Rule.Slice.PartMut.{put_mid}
use Rattle.refusal.specs.Refusals as refusal
use Rattle.laws.specs.Lent.{written}
use Rattle.laws.proofs.Choice.{impossible}
use Rattle.laws.proofs.Lent.{written_push, length-written, length_part, part_written}
use Rattle.chars.specs.Encode.{lay}
use Rattle.numbers.specs.Call.{Answer}
use Rattle.numbers_words.specs.declared.Flat.{Flat}
use Rattle.numbers_words.specs.Words.{minus, value, formed, joined, flattened, number_words, room_or, number_or, figure, real}

-- -1 less a negative value is its magnitude less 1
less : (n : ℕ) → negsuc 0 -ℤ negsuc n ≡ pos n
less n = simp (le-ltb (suc n) 1 (omega arith), sub-one)

-- what the test of its sign says of a value v that 64 bits hold
pub record Negative (v : ℤ) : Type 0 where
  pub below : ℕ
  pub is : v ≡ negsuc below
  pub less : negsuc 0 -ℤ v ≡ pos below
  pub fits : below < 2 ^ 63

pub negative : (v : ℤ) → SFits w64 v → lt_z v (pos 0) ≡ true → Negative v
negative (pos n) s e = absurd (omega (arith, ltb-true n 0 e))
negative (negsuc n) s e = record { below = n; is = refl; less = less n; fits = s.sfits }

pub magnitude_of : (v : ℤ) (n : Negative v) {m : ℕ} → m ≡ n.below → m + 1 ≡ nat_abs v
magnitude_of v n e = ap (λ (m : ℕ). m + 1) e ∙ add-one n.below ∙ sym (ap nat_abs n.is)

pub record Positive (v : ℤ) : Type 0 where
  pub value : ℕ
  pub is : v ≡ pos value
  pub fits : value < 2 ^ 63

pub positive : (v : ℤ) → SFits w64 v → lt_z v (pos 0) ≡ false → Positive v
positive (pos n) s e = record { value = n; is = refl; fits = s.sfits }
positive (negsuc n) s e = impossible cc

pub value_is : (v : ℤ) {m a : ℕ} → m ≡ minus v → a ≡ nat_abs v → 1 ∷ m ∷ a ∷ 0 ∷ [] ≡ value v
value_is v {m} {a} e f = ap (λ (x : ℕ). 1 ∷ x ∷ a ∷ 0 ∷ []) e ∙ ap (λ (x : ℕ). 1 ∷ minus v ∷ x ∷ 0 ∷ []) f

-- the structs' words
pub real_is : (r : Flat) (a b c : List ℕ) → figure r.one ≡ a → figure r.two ≡ b → figure r.three ≡ c → real r ≡ formed r.form a b c
unfolding real
real_is r a b c e f g =
    ap (λ (x : List ℕ). formed r.form x (figure r.two) (figure r.three)) e
    ∙ ap (λ (x : List ℕ). formed r.form a x (figure r.three)) f
    ∙ ap (λ (x : List ℕ). formed r.form a b x) g

-- an answer's words by those of its reals
pub joined_is : (first : ℕ) {a b c d : List ℕ} → a ≡ c → b ≡ d → joined first a b ≡ joined first c d
joined_is first {b = b} {c = c} e f = ap (λ (x : List ℕ). joined first x b) e ∙ ap (λ (x : List ℕ). joined first c x) f

-- every answer that is no refusal has as many words
length_answer : (first : ℕ) (one two : Flat) → length (joined first (real one) (real two)) ≡ number_words
unfolding joined real formed
length_answer first one two = refl

-- words are laid where there is room for all of them
module _ (w memory : List ℕ) where
  pub laid_none : length memory < length w → memory ≡ lay w memory
  unfolding lay
  laid_none h = simp (lt-ltb (length memory) (length w) h)

  pub laid_all : {now : List ℕ} → length w ≤ length memory → now ≡ written w memory → now ≡ lay w memory
  unfolding lay
  laid_all h e = simp (le-ltb (length memory) (length w) h) e

-- 22, or the number of an answer that there is room for
module _ (n first : ℕ) (one two : Flat) (memory : List ℕ) where
  abbrev words : List ℕ
  words = joined first (real one) (real two)

  pub too_few : length memory < number_words → (refusal.too_few ≡ room_or memory n) × (memory ≡ lay words memory)
  too_few h =
      (simp (lt-ltb (length memory) number_words h), laid_none words memory (omega (arith, length_answer first one two)))

  pub served : {now : List ℕ} → number_words ≤ length memory → now ≡ written words memory → (n ≡ room_or memory n) × (now ≡ lay words memory)
  served h e = (simp (le-ltb (length memory) number_words h), laid_all words memory (omega (arith, length_answer first one two)) e)

-- an answer told by the words that it is known to have
pub served_as : (memory : List ℕ) (n : ℕ) {w l : List ℕ} {r : ℕ} {now : List ℕ} → w ≡ l
    → (r ≡ room_or memory n) × (now ≡ lay w memory) → (r ≡ room_or memory n) × (now ≡ lay l memory)
served_as memory n e t = (t.0, t.1 ∙ ap (λ (x : List ℕ). lay x memory) e)

-- the one word of a refusal
module _ (x : ℕ) (memory : List ℕ) where
  pub refused_none : length memory < 1 → memory ≡ lay (x ∷ []) memory
  refused_none h = laid_none (x ∷ []) memory h

  pub refused_one : 1 ≤ length memory → set memory 0 x ≡ lay (x ∷ []) memory
  refused_one h = laid_all (x ∷ []) memory h (written_push [] memory x (omega arith))

-- no word
pub none_laid : (memory : List ℕ) → memory ≡ lay [] memory
none_laid memory = laid_all [] memory (omega arith) refl

-- what is told of an answer is told of one that it equals
pub told_of : (memory : List ℕ) {a b : Answer} {r : ℕ} {now : List ℕ} → a ≡ b
    → (r ≡ number_or memory a) × (now ≡ lay (flattened a) memory) → (r ≡ number_or memory b) × (now ≡ lay (flattened b) memory)
told_of memory e t = (
  t.0 ∙ ap (λ (x : Answer). number_or memory x) e,
  t.1 ∙ ap (λ (x : Answer). lay (flattened x) memory) e,
)

-- the words put one part after the other: the first, then the reals
module _ (old : List ℕ) (x : ℕ) (h : number_words ≤ length old) where
  abbrev first : List ℕ
  first = set old 0 x

  first_put : first ≡ written (x ∷ []) old
  first_put = written_push [] old x (omega arith)

  module _ (r : Flat) (last : List ℕ) (e : last ≡ written (real r) (take (length first - 1) (drop 1 first))) where
    abbrev second : List ℕ
    second = put_mid 1 (length first - 1) first last

    second_put : second ≡ written (x ∷ real r) old
    second_put = part_written (x ∷ []) (real r) old first_put refl (omega arith) e

    length-second : length second ≡ length old
    unfolding real formed
    length-second = rw second_put (length-written (x ∷ real r) old (omega arith))

    pub second_in : 14 ≤ length second
    second_in = omega (arith, length-second)

    pub second_room : 13 ≤ length (take (length second - 14) (drop 14 second))
    second_room = rw (length_part second 14) (omega (arith, length-second))

    module _ (q : Flat) (end : List ℕ) (f : end ≡ written (real q) (take (length second - 14) (drop 14 second))) where
      pub third_put : put_mid 14 (length second - 14) second end ≡ written ((x ∷ real r) ++ real q) old
      unfolding real formed
      third_put = part_written (x ∷ real r) (real q) old second_put refl (omega arith) f

      pub length_third : length (put_mid 14 (length second - 14) second end) ≡ length old
      unfolding real formed
      length_third = rw third_put (length-written ((x ∷ real r) ++ real q) old (omega arith))
