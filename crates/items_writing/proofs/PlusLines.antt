-- Vertical lines after a plus, `+a|b c|`: of what stands before the first line the machine looks at nothing but, at their end, the first
-- byte. So they close after a plus, as a word, exactly where they close with nothing before them, as an identifier in vertical lines.
use Rattle.std.proofs.Common.{Option}
use Rattle.items.specs.declared.Outcome.{Outcome}
use Prim.Native.Nat.{ℕ, suc, ◌+◌, ◌<◌}
use mathlib.Core.Path.{◌≡◌, refl, ap, ◌∙◌}
use mathlib.Core.Bool.{false}
use mathlib.Core.List.{List, [], ◌∷◌, ◌++◌, append_assoc}
use lib.ListN.{length, drop, length-append}
use lib.Dec.{eqb, leb}
use native.Mathlib.Omega.{arith}
use borrow.Author.Tests.{eqb-true, lt-ltb, lt-leb}
use Rattle.laws.specs.Quoted.{code, codes}
use Rattle.laws.proofs.Choice.{by_bool, impossible}
use Rattle.chars.specs.Encode.{utf8}
use Rattle.digits.specs.Hex.{hex_value}
use Rattle.items.specs.declared.Quotes.TheVariants.{Lines}
use Rattle.items.specs.declared.Outcome.TheVariants as outcome
use Rattle.items.specs.declared.Phase.TheVariants as ph
use Rattle.items.specs.Classes.{in_quotes, ends, after_backslash, in_hex, stops_hex, in_trim}
use Rattle.items.specs.Readers.{SoFar, eat, lined_of, scalar_of}
use Rattle.items.proofs.Cases.{by_quotes, by_backslash, by_hex, by_trim, by_value}
use Rattle.items_r7rs.proofs.Lined.{last_line}
use Rattle.items_writing.specs.Decide.{stand_from, is_pair_of, pairs_as, is_lined, lines_as}

-- ---- the end of the lines

-- what is closed with nothing before it
closed_alone : (l : List ℕ) → lined_of (code "|" ∷ l ++ codes "|") ≡ outcome.Lined
unfolding lined_of
closed_alone l =
    let n : leb (length (code "|" ∷ l ++ codes "|")) 1 ≡ false = lt-leb (length (code "|" ∷ l ++ codes "|")) 1 (omega (arith, length-append l (codes "|"))) in
    rw (n, last_line l)

-- and after a plus
closed_plus : (p l : List ℕ) → lined_of (code "+" ∷ p ++ (code "|" ∷ l)) ≡ outcome.Word
unfolding lined_of
closed_plus p l =
    let n : leb (length (code "+" ∷ p ++ (code "|" ∷ l))) 1 ≡ false = lt-leb (length (code "+" ∷ p ++ (code "|" ∷ l))) 1 (omega (arith, length-append p (code "|" ∷ l))) in
    rw n

line_closes : (c : ℕ) → in_quotes Lines c ≡ ends → utf8 c ≡ codes "|"
unfolding in_quotes utf8
line_closes c e = by_bool (eqb c (code "|"))
    (λ f. rw (eqb-true c (code "|") f))
    (λ f. by_bool (eqb c (code "\\"))
    (λ g. let z = rw (f, g) at e in impossible cc)
    (λ g. let z = rw (f, g) at e in impossible cc))

past_front : (p l : List ℕ) (n : ℕ) → drop (length p + n) (p ++ l) ≡ drop n l
past_front [] l n = let e : 0 + n ≡ n = omega arith in rw e
past_front (b ∷ p) l n = let e : suc (length p) + n ≡ suc (length p + n) = omega arith in rw e (past_front p l n)

-- ---- the machine in the lines, p between the plus and them, t all that follows the plus

module _ (p t : List ℕ) (some : 0 < length t) where
  abbrev pub Pairs : Option Outcome → Option Outcome → Type 0
  Pairs s w = pairs_as s t ≡ lines_as w

  -- two items so far: after the plus and p, and alone
  pub record Before (i j : SoFar) : Type 0 where
    pub inside : List ℕ
    pub alone : j.bytes ≡ code "|" ∷ inside
    pub after : i.bytes ≡ code "+" ∷ p ++ (code "|" ∷ inside)

  next : {i j : SoFar} (c : ℕ) → Before i j → Before (eat i c) (eat j c)
  next c b = record {
    inside = b.inside ++ utf8 c;
    alone = ap (λ (l : List ℕ). l ++ utf8 c) b.alone;
    after = ap (λ (l : List ℕ). l ++ utf8 c) b.after ∙ append_assoc (code "+" ∷ p) (code "|" ∷ b.inside) (utf8 c);
  }

  -- as many bytes more as stand before the lines
  longer : {i j : SoFar} → Before i j → length i.bytes ≡ suc (length p) + length j.bytes
  longer b = rw (b.alone, b.after) (omega (arith, length-append p (code "|" ∷ b.inside)))

  same_digits : {i j : SoFar} {n : ℕ} (m : ℕ) → Before i j → n ≡ suc (length p) + m → drop n i.bytes ≡ drop m j.bytes
  same_digits m b e = rw (e, b.alone, b.after) (past_front (code "+" ∷ p) (code "|" ∷ b.inside) m)

  closed_so : {i j : SoFar} (c : ℕ) (cs : List ℕ) → Before i j → in_quotes Lines c ≡ ends → Pairs (stand_from false (ph.Closed Lines) (eat i c) cs) (stand_from false (ph.Closed Lines) (eat j c) cs)
  unfolding stand_from is_pair_of is_lined
  closed_so c [] b e =
      let u = line_closes c e in
      let n = next c b in
      rw (n.after, closed_plus p n.inside, lt-ltb 0 (length t) some) (rw (b.alone, u, closed_alone b.inside))
  closed_so c (d ∷ cs) b e = refl

  -- an escape that fails
  failed : (e d x y f g z w : ℕ) (i j : SoFar) (cs : List ℕ)
      → Pairs (stand_from false (ph.Done (outcome.ErrorAt e d x y)) i cs) (stand_from false (ph.Done (outcome.ErrorAt f g z w)) j cs)
  unfolding stand_from is_pair_of is_lined
  failed e d x y f g z w i j [] = refl
  failed e d x y f g z w i j (c ∷ cs) = refl

  -- before a space, none of them is closed
  module _ (i j : SoFar) where
    open_lines : Pairs (stand_from false (ph.Quoted Lines) i []) (stand_from false (ph.Quoted Lines) j [])
    unfolding stand_from in_quotes
    open_lines = refl

    open_escape : (x y : ℕ) → Pairs (stand_from false (ph.Escape Lines x) i []) (stand_from false (ph.Escape Lines y) j [])
    unfolding stand_from after_backslash
    open_escape x y = refl

    open_brace : (x y : ℕ) → Pairs (stand_from false (ph.Brace Lines x) i []) (stand_from false (ph.Brace Lines y) j [])
    unfolding stand_from in_hex stops_hex
    open_brace x y = refl

    open_before_lem : Pairs (stand_from false (ph.TrimBefore Lines) i []) (stand_from false (ph.TrimBefore Lines) j [])
    unfolding stand_from in_trim
    open_before_lem = refl

    open_after : Pairs (stand_from false (ph.TrimAfter Lines) i []) (stand_from false (ph.TrimAfter Lines) j [])
    unfolding stand_from in_trim
    open_after = refl

  mutual
    unfolding stand_from is_pair_of is_lined

    pub in_lines : (i j : SoFar) (cs : List ℕ) → Before i j → Pairs (stand_from false (ph.Quoted Lines) i cs) (stand_from false (ph.Quoted Lines) j cs)
    in_lines i j [] b = open_lines i j
    in_lines i j (c ∷ cs) b = by_quotes (in_quotes Lines c)
        (λ e. rw (e, stand_from) (closed_so c cs b e))
        (λ e. rw (e, stand_from) (in_escape i.at j.at (eat i c) (eat j c) cs (next c b)))
        (λ e. rw (e, stand_from) (in_lines (eat i c) (eat j c) cs (next c b)))

    in_escape : (x y : ℕ) (i j : SoFar) (cs : List ℕ) → Before i j → Pairs (stand_from false (ph.Escape Lines x) i cs) (stand_from false (ph.Escape Lines y) j cs)
    in_escape x y i j [] b = open_escape i j x y
    in_escape x y i j (c ∷ cs) b = by_backslash (after_backslash c)
        (λ v e. rw (e, stand_from) (in_lines (eat i c) (eat j c) cs (next c b)))
        (λ e. rw (e, stand_from) (in_hex_lem (code ";") x y _ _ (longer (next c b)) (eat i c) (eat j c) cs (next c b)))
        (λ e. rw (e, stand_from) (in_brace x y (eat i c) (eat j c) cs (next c b)))
        (λ e. rw (e, stand_from) (before_line (eat i c) (eat j c) cs (next c b)))
        (λ e. rw (e, stand_from) (after_line (eat i c) (eat j c) cs (next c b)))
        (λ e. rw (e, stand_from))

    in_brace : (x y : ℕ) (i j : SoFar) (cs : List ℕ) → Before i j → Pairs (stand_from false (ph.Brace Lines x) i cs) (stand_from false (ph.Brace Lines y) j cs)
    in_brace x y i j [] b = open_brace i j x y
    in_brace x y i j (c ∷ cs) b = by_bool (eqb c (code "{"))
        (λ f. rw (f, stand_from) (in_hex_lem (code "}") x y _ _ (longer (next c b)) (eat i c) (eat j c) cs (next c b)))
        (λ f. by_hex (in_hex Lines (code ";") c)
        (λ e. rw (f, e, stand_from) (failed _ _ _ _ _ _ _ _ _ _ cs))
        (λ e. rw (f, e, stand_from) (failed _ _ _ _ _ _ _ _ _ _ cs))
        (λ e. rw (f, e, stand_from) (in_hex_lem (code ";") x y _ _ (longer b) (eat i c) (eat j c) cs (next c b))))

    in_hex_lem : (closer x y n m : ℕ) → n ≡ suc (length p) + m → (i j : SoFar) (cs : List ℕ) → Before i j
        → Pairs (stand_from false (ph.Hex Lines closer x n) i cs) (stand_from false (ph.Hex Lines closer y m) j cs)
    in_hex_lem closer x y n m l i j [] b = by_hex (in_hex Lines closer (code " "))
        (λ e. by_value (scalar_of (hex_value (drop m j.bytes)))
        (λ v g. rw (e, same_digits m b l, g))
        (λ v d g. rw (e, same_digits m b l, g))
        (λ v d q g. rw (e, same_digits m b l, g)))
        (λ e. rw e)
        (λ e. rw e)
    in_hex_lem closer x y n m l i j (c ∷ cs) b = by_hex (in_hex Lines closer c)
        (λ e. by_value (scalar_of (hex_value (drop m j.bytes)))
        (λ v g. rw (e, same_digits m b l, g, stand_from) (in_lines (eat i c) (eat j c) cs (next c b)))
        (λ v d g. rw (e, same_digits m b l, g, stand_from) (failed _ _ _ _ _ _ _ _ _ _ cs))
        (λ v d q g. rw (e, same_digits m b l, g, stand_from) (failed _ _ _ _ _ _ _ _ _ _ cs)))
        (λ e. rw (e, stand_from) (failed _ _ _ _ _ _ _ _ _ _ cs))
        (λ e. rw (e, stand_from) (in_hex_lem closer x y n m l (eat i c) (eat j c) cs (next c b)))

    before_line : (i j : SoFar) (cs : List ℕ) → Before i j → Pairs (stand_from false (ph.TrimBefore Lines) i cs) (stand_from false (ph.TrimBefore Lines) j cs)
    before_line i j [] b = open_before_lem i j
    before_line i j (c ∷ cs) b = by_trim (in_trim c)
        (λ e. rw (e, stand_from) (before_line (eat i c) (eat j c) cs (next c b)))
        (λ e. rw (e, stand_from) (after_line (eat i c) (eat j c) cs (next c b)))
        (λ e. rw (e, stand_from))

    after_line : (i j : SoFar) (cs : List ℕ) → Before i j → Pairs (stand_from false (ph.TrimAfter Lines) i cs) (stand_from false (ph.TrimAfter Lines) j cs)
    after_line i j [] b = open_after i j
    after_line i j (c ∷ cs) b = by_trim (in_trim c)
        (λ e. rw (e, stand_from) (after_line (eat i c) (eat j c) cs (next c b)))
        (λ e. rw (e, stand_from) (in_lines (eat i c) (eat j c) cs (next c b)))
        (λ e. by_quotes (in_quotes Lines c)
        (λ f. rw (e, f, stand_from) (closed_so c cs b f))
        (λ f. rw (e, f, stand_from) (in_escape i.at j.at (eat i c) (eat j c) cs (next c b)))
        (λ f. rw (e, f, stand_from) (in_lines (eat i c) (eat j c) cs (next c b))))
