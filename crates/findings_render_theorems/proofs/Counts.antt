-- How many bytes of a part lie in a range, as a sum over its bytes. Of the bytes of a character all but one continue it.
use Prim.Native.Nat.{ℕ, zero, suc, ◌+◌, ◌≤◌, ◌<◌}
use mathlib.Core.Path.{◌≡◌, refl, sym, ap, ◌∙◌}
use mathlib.Core.List.{List, [], ◌∷◌, ◌++◌}
use lib.ListN.{length, get_or, take, drop, length-drop}
use lib.Seq.{take-suc, take-add, drop-drop, get_or-drop}
use native.Mathlib.Omega.{arith}
use borrow.Author.Tests.{le-leb, lt-leb}
use Rattle.std.specs.Prelude.{if◌then◌else◌}
use Rattle.laws.specs.Quoted.{within}
use Rattle.laws.proofs.Choice.{if_all, within_below, within_from}
use Rattle.chars.specs.Encode.{utf8, width}
use Rattle.chars.proofs.Width.{width-utf8}
use Rattle.items.proofs.Every.{Every}
use Rattle.lines_theorems.proofs.Bytes.{Within, Spelt, low, high, spelt}
use Rattle.findings_render_parts.specs.Spots.{count_in}

module _ (a b : ℕ) where
  abbrev one : ℕ → ℕ
  one x = if within a b x then 1 else 0

  unfoldable pub tally : List ℕ → ℕ
  tally [] = 0
  tally (x ∷ l) = one x + tally l

  tally_append : (l m : List ℕ) → tally (l ++ m) ≡ tally l + tally m
  unfolding tally
  tally_append [] m = omega arith
  tally_append (x ∷ l) m = omega (arith, tally_append l m)

  count_tally : (s : List ℕ) (from n : ℕ) → from + n ≤ length s → count_in a b s from n ≡ tally (take n (drop from s))
  unfolding count_in tally
  count_tally s from zero h = refl
  count_tally s from (suc n) h =
      let last : take (suc n) (drop from s) ≡ take n (drop from s) ++ (get_or (drop from s) n 0 ∷ []) = take-suc (drop from s) n 0 (omega (arith, length-drop from s)) in
      let byte : one (get_or (drop from s) n 0) ≡ one (get_or s (from + n) 0) = ap one (get_or-drop from s n 0) in
      sym (ap tally last ∙ tally_append (take n (drop from s)) (get_or (drop from s) n 0 ∷ []) ∙ omega (arith, byte, count_tally s from n (omega arith)))

  -- no more than there are
  pub count_le : (s : List ℕ) (from n : ℕ) → count_in a b s from n ≤ n
  unfolding count_in
  count_le s from zero = omega arith
  count_le s from (suc n) = omega (arith, count_le s from n, if_all (λ (k : ℕ). k ≤ 1) (within a b (get_or s (from + n) 0)) {x = 1} {y = 0} (omega arith) (omega arith))

  -- a part and what follows it
  pub count_parts : (s : List ℕ) (from n m : ℕ) → from + n + m ≤ length s → count_in a b s from (n + m) ≡ tally (take n (drop from s)) + count_in a b s (from + n) m
  count_parts s from n m h =
      count_tally s from (n + m) (omega arith)
      ∙ ap tally (take-add n m (drop from s) ∙ ap (λ (l : List ℕ). take n (drop from s) ++ take m l) (drop-drop n from s))
      ∙ tally_append (take n (drop from s)) (take m (drop (from + n) s))
      ∙ ap (λ (k : ℕ). tally (take n (drop from s)) + k) (sym (count_tally s (from + n) m h))

-- ---- the bytes of a character

abbrev tails : List ℕ → ℕ
tails = tally 0x80 0xBF

tail_one : (b : ℕ) → Within b → one 0x80 0xBF b ≡ 1
tail_one b h = rw (← (within_from 0x80 0xBF b h.0), le-leb b 0xBF (omega (arith, h.1)))

first_low : (b : ℕ) → b < 0x80 → one 0x80 0xBF b ≡ 0
first_low b h = rw (← (within_below 0x80 0xBF b h))

first_high : (b : ℕ) → 0xC0 ≤ b → one 0x80 0xBF b ≡ 0
first_high b h = rw (← (within_from 0x80 0xBF b (omega arith)), lt-leb b 0xBF (omega arith))

tails_all : (u : List ℕ) → Every Within u → tails u ≡ length u
unfolding tally
tails_all [] h = refl
tails_all (b ∷ u) h = omega (arith, tail_one b h.0, tails_all u h.1)

pub tails_char : (c : ℕ) → tails (utf8 c) + 1 ≡ width c
unfolding tally
tails_char c = go (utf8 c) (spelt c) ∙ width-utf8 c
  where
    go : (u : List ℕ) → Spelt c u → tails u + 1 ≡ length u
    go u (low h) = omega (arith, first_low c h)
    go u (high x v h r) = omega (arith, first_high x h, tails_all v r)
