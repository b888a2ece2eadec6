-- What an element gives, by the class of the byte at its place: one law for each case of the definition.
use Prim.Native.Nat.compare
use Prim.Native.Nat.{ℕ, suc, ◌+◌, ◌≤◌, ◌<◌}
use mathlib.Core.Path.{◌≡◌, refl, ◌∙◌}
use mathlib.Core.Bool.{true, false}
use mathlib.Core.List.{List, [], ◌∷◌}
use native.Mathlib.Nat.{le_refl}
use native.Mathlib.Omega.{arith}
use lib.Dec.{eqb, ltb}
use lib.ListN.{length, get_or, drop}
use borrow.Author.Tests.{eq-eqb, ne_eqb, lt-ltb}
use Rattle.laws.specs.Quoted.{code}
use Rattle.laws.specs.Texts.{span, before}
use Rattle.laws.proofs.Places.{past, here}
use Rattle.laws.proofs.Choice.{by_bool}
use Rattle.items.specs.declared.Quotes.{Quotes}
use Rattle.items.specs.Classes.{delim_of, in_quotes, ends, escapes, plain, after_backslash, simple, hex_x, hex_u, blank, newline, invalid}
use Rattle.items.specs.Meaning.{escaped, unescape, unescape_next, unescape_brace, unescape_hex}
use Rattle.escapes.specs.declared.ElementValue.TheVariants.{Nothing, Byte}
use Rattle.escapes.specs.declared.Element.{Element}
use Rattle.escapes.specs.Elements.{element, GoesOn, Unescapes}

module _ (k : Quotes) (raw : List ℕ) where
  -- nothing more: the element that has the end for its place
  pub over : {text : List ℕ} (from : ℕ) → from ≤ length raw → text ≡ [] → Unescapes k raw text from (element Nothing (length raw))
  unfolding unescape
  over from h e = record { ahead = h; inside = le_refl _; whole = rw (e, past raw (length raw) (le_refl _)); safe = refl }

  -- a text that is another's, which starts no earlier
  pub same_text : {text other : List ℕ} {from to : ℕ} {e : Element} → text ≡ other → from ≤ to → Unescapes k raw other to e → Unescapes k raw text from e
  same_text q h u = record { ahead = omega (arith, u.ahead); inside = u.inside; whole = q ∙ u.whole; safe = u.safe }

-- ---- a byte in quotes, by the tests of the code

module _ (k : Quotes) (c : ℕ) where
  pub is_end : c ≡ delim_of k → in_quotes k c ≡ ends
  unfolding in_quotes
  is_end e = rw (eq-eqb c (delim_of k) e)

  module _ (n : c ≡ delim_of k → ⊥) where
    pub is_backslash : c ≡ code "\\" → in_quotes k c ≡ escapes
    unfolding in_quotes
    is_backslash e = rw (ne_eqb c (delim_of k) n, eq-eqb c (code "\\") e)

    pub is_plain : (c ≡ code "\\" → ⊥) → in_quotes k c ≡ plain
    unfolding in_quotes
    is_plain e = rw (ne_eqb c (delim_of k) n, ne_eqb c (code "\\") e)

-- ---- in quotes, and after a backslash, at the place i

module _ (k : Quotes) (raw : List ℕ) (i : ℕ) (h : i < length raw) where
  pub quotes_end : in_quotes k (get_or raw i 0) ≡ ends → Unescapes k raw (unescape k (drop i raw)) (i + 1) (element Nothing (length raw))
  unfolding unescape
  quotes_end e = over k raw (i + 1) (omega arith) (rw (here raw i h) (rw (e, unescape)))

  pub quotes_plain : in_quotes k (get_or raw i 0) ≡ plain → Unescapes k raw (unescape k (drop i raw)) (i + 1) (element (Byte (get_or raw i 0)) (i + 1))
  unfolding unescape
  quotes_plain e = record { ahead = le_refl _; inside = omega arith; whole = rw (here raw i h) (rw (e, unescape)); safe = refl }

  pub quotes_escape : {r : Element} → in_quotes k (get_or raw i 0) ≡ escapes → Unescapes k raw (unescape_next k (drop (i + 1) raw)) (i + 1) r
      → Unescapes k raw (unescape k (drop i raw)) (i + 1) r
  unfolding unescape
  quotes_escape e u = same_text k raw (rw (here raw i h) (rw (e, unescape))) (le_refl _) u

  pub next_simple : (x : ℕ) → after_backslash (get_or raw i 0) ≡ simple x → Unescapes k raw (unescape_next k (drop i raw)) i (element (Byte x) (i + 1))
  unfolding unescape_next
  next_simple x e = record { ahead = omega arith; inside = omega arith; whole = rw (here raw i h) (rw (e, unescape_next)); safe = refl }

  pub next_invalid : after_backslash (get_or raw i 0) ≡ invalid → Unescapes k raw (unescape_next k (drop i raw)) i (element Nothing (length raw))
  unfolding unescape_next
  next_invalid e = over k raw i (omega arith) (rw (here raw i h) (rw (e, unescape_next)))

  pub next_x : {r : Element} → after_backslash (get_or raw i 0) ≡ hex_x → Unescapes k raw (unescape_hex k (code ";") [] (drop (i + 1) raw)) (i + 1) r
      → Unescapes k raw (unescape_next k (drop i raw)) i r
  unfolding unescape_next
  next_x e u = same_text k raw (rw (here raw i h) (rw (e, unescape_next))) (omega arith) u

  pub next_u : {r : Element} → after_backslash (get_or raw i 0) ≡ hex_u → Unescapes k raw (unescape_brace k (drop (i + 1) raw)) (i + 1) r
      → Unescapes k raw (unescape_next k (drop i raw)) i r
  unfolding unescape_next
  next_u e u = same_text k raw (rw (here raw i h) (rw (e, unescape_next))) (omega arith) u

  pub next_blank : {n : ℕ} → after_backslash (get_or raw i 0) ≡ blank → GoesOn false raw (i + 1) n → Unescapes k raw (unescape_next k (drop i raw)) i (element Nothing n)
  unfolding unescape_next
  next_blank e g = record { ahead = omega (arith, g.ahead); inside = g.inside; whole = rw (here raw i h) (rw (e, unescape_next) (g.rest k)); safe = refl }

  pub next_newline : {n : ℕ} → after_backslash (get_or raw i 0) ≡ newline → GoesOn true raw (i + 1) n → Unescapes k raw (unescape_next k (drop i raw)) i (element Nothing n)
  unfolding unescape_next
  next_newline e g = record { ahead = omega (arith, g.ahead); inside = g.inside; whole = rw (here raw i h) (rw (e, unescape_next) (g.rest k)); safe = refl }

pub next_cut : (k : Quotes) (raw : List ℕ) (i : ℕ) → i ≤ length raw → length raw ≤ i → Unescapes k raw (unescape_next k (drop i raw)) i (element Nothing (length raw))
unfolding unescape_next
next_cut k raw i h e = over k raw i h (rw (past raw i e))

-- ---- whether there is an escape

escaped-before : (l : List ℕ) → ltb (before (code "\\") l) (length l) ≡ escaped l
unfolding escaped span
escaped-before [] = refl
escaped-before (c ∷ l) =
    by_bool (eqb c (code "\\")) (λ e. rw e (lt-ltb 0 (suc (length l)) (omega arith))) (λ e. rw e (rw compare.suc-suc (escaped-before l)))

pub escape_found : (l : List ℕ) (n : ℕ) → n ≡ 0 + before (code "\\") (drop 0 l) → ltb n (length l) ≡ escaped l
escape_found l n e = let f : n ≡ before (code "\\") l = omega arith in rw f (escaped-before l)
