-- A hex escape: its digits place by place, its closer, and `\u` without a brace, which is read as `\x` is.
use Prim.Native.Nat.{ℕ, suc, ◌+◌, ◌-◌, ◌≤◌, ◌<◌}
use mathlib.Core.Path.{◌≡◌, refl, sym, ◌∙◌}
use mathlib.Core.Bool.{true, false}
use mathlib.Core.List.{List, [], ◌∷◌, ◌++◌}
use native.Mathlib.Omega.{arith}
use lib.Dec.{eqb}
use lib.ListN.{length, get_or, take, drop, length-drop}
use lib.Seq.{take-suc, get_or-drop}
use borrow.Author.Tests.{eq-eqb, ne_eqb}
use Rattle.laws.specs.Quoted.{code}
use Rattle.laws.specs.Texts.{starts}
use Rattle.laws.proofs.Places.{past, here}
use Rattle.laws.proofs.Compared.{starts_here, starts_in}
use Rattle.digits.specs.Hex.{hex_value}
use Rattle.items.specs.declared.Quotes.{Quotes}
use Rattle.items.specs.Classes.{delim_of, stops_hex, in_hex, closes, stops, digit}
use Rattle.items.specs.Readers.{scalar_of}
use Rattle.items.specs.Meaning.{unescape_brace, unescape_hex}
use Rattle.items.proofs.Cases.{by_hex, by_value}
use Rattle.items.proofs.Shorter.{scalar_is}
use Rattle.escapes.specs.declared.ElementValue.TheVariants.{Nothing}
use Rattle.escapes.specs.Elements.{element, closed_hex, Unescapes}
use Rattle.escapes.proofs.Cases.{over}

-- ---- a byte in the digits, by the tests of the code

module _ (k : Quotes) (closer c : ℕ) where
  pub is_closer : c ≡ closer → in_hex k closer c ≡ closes
  unfolding in_hex
  is_closer e = rw (eq-eqb c closer e)

  module _ (n : c ≡ closer → ⊥) where
    pub is_stop : stops_hex c ≡ true → in_hex k closer c ≡ stops
    unfolding in_hex
    is_stop e = rw (ne_eqb c closer n, e)

    pub is_quote_lem : stops_hex c ≡ false → c ≡ delim_of k → in_hex k closer c ≡ stops
    unfolding in_hex
    is_quote_lem e d = rw (ne_eqb c closer n, e, eq-eqb c (delim_of k) d)

    pub is_digit : stops_hex c ≡ false → (c ≡ delim_of k → ⊥) → in_hex k closer c ≡ digit
    unfolding in_hex
    is_digit e d = rw (ne_eqb c closer n, e, ne_eqb c (delim_of k) d)

-- ---- the digits, place by place

-- the digits from the place `from` to before the place i
abbrev pub digits_to : List ℕ → ℕ → ℕ → List ℕ
digits_to raw from i = take (i - from) (drop from raw)

pub digits_none : (raw : List ℕ) (from : ℕ) → digits_to raw from from ≡ []
digits_none raw from = let e : from - from ≡ 0 = omega arith in rw e

digits_more : (raw : List ℕ) (from i : ℕ) → from ≤ i → i < length raw → digits_to raw from (i + 1) ≡ digits_to raw from i ++ (get_or raw i 0 ∷ [])
digits_more raw from i h k =
    let e : i + 1 - from ≡ suc (i - from) = omega arith in
    let p : from + (i - from) ≡ i = omega arith in
    let q : i - from < length (drop from raw) = rw length-drop (omega arith) in
    rw (e, take-suc (drop from raw) (i - from) 0 q, get_or-drop from raw (i - from) 0, p)

module _ (k : Quotes) (raw : List ℕ) (closer from i : ℕ) (h : from ≤ i) where
  pub hex_cut : from ≤ length raw → length raw ≤ i → Unescapes k raw (unescape_hex k closer (digits_to raw from i) (drop i raw)) from (element Nothing (length raw))
  unfolding unescape_hex
  hex_cut g e = over k raw from g (rw (past raw i e))

  module _ (j : i < length raw) where
    pub hex_digit : in_hex k closer (get_or raw i 0) ≡ digit
        → unescape_hex k closer (digits_to raw from i) (drop i raw) ≡ unescape_hex k closer (digits_to raw from (i + 1)) (drop (i + 1) raw)
    unfolding unescape_hex
    hex_digit e = rw (digits_more raw from i h j, here raw i j) (rw (e, unescape_hex))

    pub hex_stops : in_hex k closer (get_or raw i 0) ≡ stops → Unescapes k raw (unescape_hex k closer (digits_to raw from i) (drop i raw)) from (element Nothing (length raw))
    unfolding unescape_hex
    hex_stops e = over k raw from (omega arith) (rw (here raw i j) (rw (e, unescape_hex)))

    pub hex_closes : in_hex k closer (get_or raw i 0) ≡ closes
        → Unescapes k raw (unescape_hex k closer (digits_to raw from i) (drop i raw)) from (closed_hex (scalar_of (hex_value (digits_to raw from i))) (i + 1) (length raw))
    unfolding unescape_hex
    hex_closes e =
        by_value (scalar_of (hex_value (digits_to raw from i)))
        (λ c f. rw f (record {
          ahead = omega arith;
          inside = omega arith;
          whole = rw (here raw i j) (rw (e, unescape_hex) (rw f));
          safe = scalar_is (hex_value (digits_to raw from i)) c f;
        }))
        (λ n d f. rw f (over k raw from (omega arith) (rw (here raw i j) (rw (e, unescape_hex) (rw f)))))
        (λ n d p f. rw f (over k raw from (omega arith) (rw (here raw i j) (rw (e, unescape_hex) (rw f)))))

-- ---- after `\u`

pub brace_open : (k : Quotes) (raw : List ℕ) (i : ℕ) → true ≡ starts (code "{") (drop i raw) → unescape_brace k (drop i raw) ≡ unescape_hex k (code "}") [] (drop (i + 1) raw)
unfolding unescape_brace
brace_open k raw i e =
    let h : i < length raw = starts_in (code "{") raw i e in
    let f : eqb (get_or raw i 0) (code "{") ≡ true = starts_here (code "{") raw i h ∙ sym e in
    rw (here raw i h) (rw (f, unescape_brace))

-- no digits have no value, so that `\u;` is wrong as `\x;` is
pub brace_missing : (k : Quotes) (l : List ℕ) → false ≡ starts (code "{") l → unescape_brace k l ≡ unescape_hex k (code ";") [] l
unfolding unescape_brace unescape_hex starts hex_value scalar_of
brace_missing k [] e = refl
brace_missing k (c ∷ cs) e =
    rw (sym e, unescape_brace)
    (by_hex (in_hex k (code ";") c) (λ f. rw (f, unescape_hex)) (λ f. rw (f, unescape_hex)) (λ f. rw (f, unescape_hex)))
