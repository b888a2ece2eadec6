-- In a good text the bytes before the first of two characters of ASCII are whole characters, so that quotes and comments, which only those
-- two change, are passed up to there.
use Rattle.std.proofs.Common.{None}
use Prim.Native.Nat.{ℕ, ◌+◌, ◌≤◌, ◌<◌}
use native.Mathlib.Omega.{arith}
use mathlib.Core.Path.{◌≡◌, refl, sym, ap, subst, ◌∙◌}
use mathlib.Core.Bool.{false}
use mathlib.Core.List.{List, [], ◌∷◌, ◌++◌, append_assoc}
use lib.Dec.{eqb, ltb}
use lib.ListN.{length, get_or, take, drop, take-append-drop, length-append}
use lib.Seq.{drop_at, drop-drop, get_or-drop, length-take-le}
use borrow.Author.Tests.{eqb-true, ltb-true, ltb-false, lt-ltb, le-leb}
use Rattle.laws.specs.Quoted.{within}
use Rattle.laws.specs.Texts.{span}
use Rattle.laws.proofs.Choice.{by_bool, yes_no}
use Rattle.laws.proofs.Runs.{span_le, span_hit, span_stop}
use Rattle.laws.proofs.Blocks.{block_on}
use Rattle.byte_runs.specs.Runs.{apart, plain}
use Rattle.chars.specs.Utf8.{char, front, first_bad, chars}
use Rattle.chars.specs.Encode.{utf8, width, bytes_of}
use Rattle.chars.proofs.Table.{within_below}
use Rattle.chars.proofs.Width.{wide, width-utf8, utf8-one}
use Rattle.chars.proofs.Round.{back}
use Rattle.chars.proofs.Chars.{char_at}
use Rattle.chars.proofs.Good.{Scalars, good_bytes_lem, good_scalars}
use Rattle.chars.proofs.Cuts.{good_cut}
use Rattle.items.specs.declared.Phase.{Phase}
use Rattle.steps.specs.Scan.{Passes}
use Rattle.steps.specs.Held.{Holds}
use Rattle.steps.proofs.Kept.{passes}
use Rattle.steps.proofs.Letters.{passes_none, passes_on, passes_letter}

-- ---- where the run ends

-- a byte that is not apart is one of the two
pub not_apart : (a b c : ℕ) (A : Type 0) → apart a b c ≡ false → (c ≡ a → A) → (c ≡ b → A) → A
not_apart a b c A e x y =
    by_bool (eqb c a)
    (λ f. x (eqb-true c a f))
    (λ f. by_bool (eqb c b)
    (λ g. y (eqb-true c b g))
    (λ g. yes_no (rw (f, g) at e)))

-- no character goes on there
no_tail : (a b : ℕ) → a < 0x80 → b < 0x80 → (l : List ℕ) → within 0x80 0xBF (get_or l (span (apart a b) l) 0) ≡ false
unfolding span
no_tail a b small-a small_b [] = within_below 0x80 0xBF 0 (omega arith)
no_tail a b small-a small_b (c ∷ l) =
    by_bool (apart a b c)
    (λ e. rw e (no_tail a b small-a small_b l))
    (λ e. rw e (within_below 0x80 0xBF c (not_apart a b c (c < 0x80) e (λ f. omega arith) (λ f. omega arith))))

-- ---- character by character

module _ (s : List ℕ) (p : Phase) (a b : ℕ) (holds : Holds p a b) where
  -- one of ASCII that is neither
  small_passes : (at : ℕ) → at < length s → get_or s at 0 < 0x80 → 1 ≤ span (apart a b) (drop at s) → Passes s p at (at + 1)
  small_passes at h k some =
      by_bool (apart a b (get_or s at 0))
      (λ e. let on = span_hit (plain a b) s at h (rw (lt-ltb (get_or s at 0) 0x80 k) e) in
      passes s at p (at + 1) (omega arith) (omega arith) (omega (arith, on, holds.runs (drop at s))))
      (λ e. absurd (omega (arith, span_stop (apart a b) s at h e)))

  module _ (at c : ℕ) (t : List ℕ) (f : front (drop at s) ≡ char c (width c)) (d : drop at s ≡ utf8 c ++ t) (h : at ≤ length s) where
    inside : at + width c ≤ length s
    inside = (char_at s at c (at + width c) (rw f) h).inside

    one_wide : c < 0x80 → width c ≡ 1
    unfolding width
    one_wide k = rw (lt-ltb c 0x80 k)

    here : c < 0x80 → get_or s at 0 ≡ c
    here k =
        let z : at + 0 ≡ at = omega arith in
        ap (λ (i : ℕ). get_or s i 0) (sym z) ∙ sym (get_or-drop at s 0 0) ∙ ap (λ (l : List ℕ). get_or l 0 0) (d ∙ ap (λ (l : List ℕ). l ++ t) (utf8-one c k))

    char_passes : 1 ≤ span (apart a b) (drop at s) → Passes s p at (at + width c)
    char_passes some =
        by_bool (ltb c 0x80)
        (λ e. let k = ltb-true c 0x80 e in
        let q : at + 1 ≡ at + width c = omega (arith, one_wide k) in
        subst (Passes s p at) q (small_passes at (omega (arith, inside, wide c)) (omega (arith, here k)) some))
        (λ e. passes_letter s p at (width c) h (record { letter = c; reads = f; past = ltb-false c 0x80 e }) (λ report i. holds.lasts report i c (ltb-false c 0x80 e)))

  walk : (cs t : List ℕ) (at : ℕ) → Scalars cs → at ≤ length s → drop at s ≡ bytes_of cs ++ t → length (bytes_of cs) ≤ span (apart a b) (drop at s)
      → Passes s p at (at + length (bytes_of cs))
  unfolding bytes_of
  walk [] t at fine h d k = let e : at + 0 ≡ at = omega arith in subst (Passes s p at) (sym e) (passes_none s p at h)
  walk (c ∷ cs) t at fine h d k =
      let more = bytes_of cs ++ t in
      let e : drop at s ≡ utf8 c ++ more = d ∙ append_assoc (utf8 c) (bytes_of cs) t in
      let f : front (drop at s) ≡ char c (width c) = ap front e ∙ back c more fine.0 in
      let long : length (bytes_of (c ∷ cs)) ≡ width c + length (bytes_of cs) = length-append (utf8 c) (bytes_of cs) ∙ ap (λ (n : ℕ). n + length (bytes_of cs)) (width-utf8 c) in
      let fits : width c ≤ span (apart a b) (drop at s) = omega (arith, long, k) in
      let on = block_on (apart a b) s at (width c) refl (le-leb (width c) (span (apart a b) (drop at s)) fits) in
      let next : drop (at + width c) s ≡ more = sym (drop-drop (width c) at s) ∙ ap (drop (width c)) e ∙ drop_at (utf8 c) more (width c) (width-utf8 c) in
      let there : at + width c + length (bytes_of cs) ≡ at + length (bytes_of (c ∷ cs)) = omega (arith, long) in
      subst (Passes s p at) there
      (passes_on s p at (at + width c) (at + width c + length (bytes_of cs)) (char_passes at c more f e h (omega (arith, fits, wide c)))
      (walk cs t (at + width c) fine.1 (inside at c more f e h) next (omega (arith, on, long, k))))

-- ---- the run

pub passes_apart : (s : List ℕ) (p : Phase) (a b from e : ℕ) → Holds p a b → a < 0x80 → b < 0x80 → from ≤ length s → first_bad (drop from s) ≡ None
    → e ≡ from + span (apart a b) (drop from s) → Passes s p from e
passes_apart s p a b from e holds small-a small_b h g q =
    let l = drop from s in
    let n = span (apart a b) l in
    let fine = (good_cut l g n (no_tail a b small-a small_b l)).0 in
    let cs = chars (take n l) in
    let w : bytes_of cs ≡ take n l = good_bytes_lem (take n l) fine in
    let long : length (bytes_of cs) ≡ n = ap length w ∙ length-take-le n l (span_le (apart a b) l) in
    let there : from + length (bytes_of cs) ≡ e = omega (arith, long, q) in
    subst (Passes s p from) there
    (walk s p a b holds cs (drop n l) from (good_scalars (take n l) fine) h (sym (ap (λ (x : List ℕ). x ++ drop n l) w ∙ take-append-drop n l)) (omega (arith, long)))
