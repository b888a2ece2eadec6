-- The search for an odd character, one turn at a time: over a printable character of ASCII, which is never odd, and by what `decode_at`
-- answers.
use Rattle.findings.specs.declared.Finding.{Finding}
use Prim.Native.Nat.{ℕ, ◌+◌, ◌≤◌, ◌<◌}
use mathlib.Core.Path.{◌≡◌, refl, sym, ap, ◌∙◌}
use mathlib.Core.Bool.{true, false}
use mathlib.Core.List.{List}
use native.Mathlib.Omega.{arith}
use native.Mathlib.Nat.{add_assoc}
use lib.Dec.{eqb}
use lib.ListN.{length, get_or, drop}
use lib.Seq.{drop-drop}
use borrow.Author.Tests.{ne_eqb}
use Rattle.std.specs.Prelude.{if◌then◌else◌, None, Option, Some}
use Rattle.laws.specs.Quoted.{within}
use Rattle.laws.proofs.Choice.{by_bool, impossible, within_is}
use Rattle.laws.proofs.Places.{past, here}
use Rattle.chars.specs.Utf8.{Front, char, bad, cut, none, front, placed, sequences}
use Rattle.chars.specs.declared.Decoded.{Decoded}
use Rattle.chars.specs.declared.Decoded.TheVariants as decoded
use Rattle.chars.proofs.Table.{within_below, within_above}
use Rattle.chars.proofs.Sequences.{sequences-char, sequences-bad, sequences-cut, sequences-none}
use Rattle.chars.proofs.Round.{one_read}
use Rattle.findings.specs.Finding.{warning, single}
use Rattle.findings.specs.Slips.{is_quote, is_dash, is_invisible, odd_code, some_code, first_odd}

-- a printable character of ASCII is not odd
pub plain_even : (c : ℕ) → within 0x20 0x7E c ≡ true → odd_code c ≡ 0
unfolding odd_code is_quote is_dash is_invisible
plain_even c w =
    let h = within_is 0x20 0x7E c w in
    let below : (lo hi : ℕ) → 0x7E < lo → within lo hi c ≡ false = λ lo hi l. within_below lo hi c (omega arith) in
    let no : (k : ℕ) → 0x7E < k → eqb c k ≡ false = λ k l. ne_eqb c k (λ e. omega arith) in
    simp (
      below 0x2018 0x201F (omega arith),
      no 0xAB (omega arith),
      no 0xBB (omega arith),
      below 0x2010 0x2015 (omega arith),
      no 0x2212 (omega arith),
      within_above 0x00 0x1F c (omega arith),
      below 0x7F 0x9F (omega arith),
      no 0xAD (omega arith),
      no 0x061C (omega arith),
      no 0x180E (omega arith),
      below 0x200B 0x200F (omega arith),
      below 0x202A 0x202E (omega arith),
      below 0x2060 0x206F (omega arith),
      no 0xFEFF (omega arith),
    )

-- a code that is one, and one that is none
module _ (n : ℕ) where
  pub code_some : {m : ℕ} → Some m ≡ some_code n → (eqb n 0 ≡ false) × (m ≡ n)
  unfolding some_code
  code_some {m} e = by_bool (eqb n 0)
      (λ t. let z : Some m ≡ None = e ∙ rw t in impossible cc)
      (λ f. let z : Some m ≡ Some n = e ∙ rw f in (f, cc))

  pub code_none : {o : Option ℕ} → o ≡ some_code n → ((m : ℕ) → o ≡ Some m → ⊥) → eqb n 0 ≡ true
  unfolding some_code
  code_none {o} e never = by_bool (eqb n 0) (λ t. t) (λ f. absurd (never n (e ∙ rw f)))

-- what the characters of s from place i on tell, where the text of s starts at a
abbrev pub odd_from : List ℕ → ℕ → ℕ → Option Finding
odd_from s a i = first_odd (sequences 0 (a + i) (drop i s))

-- the same by what stands at i
abbrev pub odd_said : List ℕ → ℕ → ℕ → Decoded → Option Finding
odd_said s a i (decoded.Char c next) = if eqb (odd_code c) 0 then odd_from s a next else Some (single warning (odd_code c) c (a + i) (a + next))
odd_said s a i decoded.Bad = None
odd_said s a i decoded.Cut = None
odd_said s a i decoded.End = None

module _ (s : List ℕ) (a i : ℕ) where
  pub odd_turn : {o : Decoded} → o ≡ placed i (front (drop i s)) → odd_from s a i ≡ odd_said s a i o
  unfolding first_odd
  odd_turn e = rw e (go (front (drop i s)) refl)
    where
      go : (F : Front) → front (drop i s) ≡ F → odd_from s a i ≡ odd_said s a i (placed i F)
      go (char c n) f =
          ap first_odd (sequences-char (a + i) (drop i s) c n f)
          ∙ rw (drop-drop n i s, add_assoc a i n)
      go (bad n) f = ap first_odd (sequences-bad (a + i) (drop i s) n f)
      go cut f = ap first_odd (sequences-cut (a + i) (drop i s) f)
      go none f = ap first_odd (sequences-none (a + i) (drop i s) f)

  module _ (h : i < length s) {b : ℕ} (e : b ≡ get_or s i 0) (w : within 0x20 0x7E b ≡ true) where
    pub plain_turn : odd_from s a i ≡ odd_from s a (i + 1)
    plain_turn =
        let k = within_is 0x20 0x7E b w in
        let f : front (drop i s) ≡ char b 1 = ap front (here s i h) ∙ rw (← e) (one_read b (drop (i + 1) s) (omega arith)) in
        odd_turn (sym (ap (placed i) f)) ∙ rw (plain_even b w)

  pub odd_end : length s ≤ i → None ≡ odd_from s a i
  unfolding first_odd sequences
  odd_end h = rw (past s i h)
