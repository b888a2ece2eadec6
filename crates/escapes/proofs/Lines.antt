-- A line that goes on. Its spaces and tabs vanish with one newline among them, and what follows is read as if nothing had been there: a
-- second newline stays.
use Prim.Native.Nat.{ℕ, ◌+◌, ◌≤◌}
use mathlib.Core.Path.{◌≡◌, refl, sym, ap, ◌∙◌}
use mathlib.Core.Bool.{Bool, true, false}
use mathlib.Core.List.{List, [], ◌∷◌}
use native.Mathlib.Omega.{arith}
use lib.Dec.{eqb}
use lib.ListN.{length, drop, length-drop}
use lib.Seq.{drop-drop}
use borrow.Author.Tests.{eqb-true}
use Rattle.std.specs.Prelude.{if◌then◌else◌}
use Rattle.laws.specs.Quoted.{code}
use Rattle.laws.specs.Texts.{span, starts}
use Rattle.laws.proofs.Choice.{by_bool, impossible}
use Rattle.laws.proofs.Compared.{starts_in}
use Rattle.laws.proofs.Places.{cut_at}
use Rattle.laws.proofs.Runs.{span_le}
use Rattle.items.specs.declared.Quotes.{Quotes}
use Rattle.items.specs.declared.Quotes.TheVariants.{Double, Lines}
use Rattle.items.specs.Classes.{in_quotes, in_trim}
use Rattle.items.specs.Meaning.{unescape, unescape_trim}
use Rattle.escapes.specs.Elements.{is_space, GoesOn}

module _ (k : Quotes) where
  -- a newline is no quote
  newline_plain : (l : List ℕ) → code "\n" ∷ unescape k l ≡ unescape k (code "\n" ∷ l)
  unfolding unescape in_quotes
  newline_plain l = both k
    where
      both : (k : Quotes) → code "\n" ∷ unescape k l ≡ unescape k (code "\n" ∷ l)
      both Double = refl
      both Lines = refl

  second_line : (c : ℕ) (l : List ℕ) → c ≡ code "\n" → unescape_trim k true (c ∷ l) ≡ unescape k (c ∷ l)
  unfolding unescape_trim in_trim
  second_line c l e = rw e (newline_plain l)

  first_line : (c : ℕ) (l : List ℕ) → c ≡ code "\n" → unescape_trim k false (c ∷ l) ≡ unescape_trim k true l
  unfolding unescape_trim in_trim
  first_line c l e = rw e

  module _ (seen : Bool) (c : ℕ) (l : List ℕ) where
    trim_space : is_space c ≡ true → unescape_trim k seen (c ∷ l) ≡ unescape_trim k seen l
    unfolding unescape_trim in_trim
    trim_space e =
        by_bool (eqb c (code " "))
        (λ f. rw (f, unescape_trim))
        (λ f. let g = rw f at e in rw (f, g, unescape_trim))

    trim_solid : is_space c ≡ false → eqb c (code "\n") ≡ false → unescape_trim k seen (c ∷ l) ≡ unescape k (c ∷ l)
    unfolding unescape_trim in_trim unescape
    trim_solid e n =
        by_bool (eqb c (code " "))
        (λ f. let g = rw f at e in impossible cc)
        (λ f. let g = rw f at e in rw (f, g, n, unescape_trim, unescape))

  -- past its newline
  newline_past : (l : List ℕ) → unescape_trim k true l ≡ unescape k (drop (span is_space l) l)
  unfolding span unescape_trim unescape
  newline_past [] = refl
  newline_past (c ∷ l) =
      by_bool (is_space c)
      (λ e. rw (e, span) (trim_space true c l e ∙ newline_past l))
      (λ e. rw (e, span) (by_bool (eqb c (code "\n"))
      (λ n. second_line c l (eqb-true _ _ n))
      (λ n. trim_solid true c l e n)))

  -- its newline to come
  abbrev goes_on : List ℕ → List ℕ
  goes_on l = if starts (code "\n") l then unescape_trim k true (drop 1 l) else unescape k l

  newline_ahead : (l : List ℕ) → unescape_trim k false l ≡ goes_on (drop (span is_space l) l)
  unfolding span unescape_trim unescape starts
  newline_ahead [] = refl
  newline_ahead (c ∷ l) =
      by_bool (is_space c)
      (λ e. rw (e, span) (trim_space false c l e ∙ newline_ahead l))
      (λ e. rw (e, span) (by_bool (eqb c (code "\n"))
      (λ n. rw n (first_line c l (eqb-true _ _ n)))
      (λ n. rw n (trim_solid false c l e n))))

-- ---- by places

module _ (raw : List ℕ) (from n : ℕ) (e : n ≡ from + span is_space (drop from raw)) where
  pub spaces_in : from ≤ length raw → n ≤ length raw
  spaces_in h = omega (arith, span_le is_space (drop from raw), length-drop from raw)

  pub seen_goes_on : from ≤ length raw → GoesOn true raw from n
  seen_goes_on h = record {
    ahead = omega arith;
    inside = spaces_in h;
    rest = λ k. newline_past k (drop from raw) ∙ ap (unescape k) (sym (cut_at raw from (span is_space (drop from raw)) n e));
  }

  ahead_at : (k : Quotes) → unescape_trim k false (drop from raw) ≡ goes_on k (drop n raw)
  ahead_at k = newline_ahead k (drop from raw) ∙ ap (goes_on k) (sym (cut_at raw from (span is_space (drop from raw)) n e))

  pub missing_goes_on : from ≤ length raw → false ≡ starts (code "\n") (drop n raw) → GoesOn false raw from n
  missing_goes_on h s = record { ahead = omega arith; inside = spaces_in h; rest = λ k. rw (sym s) at (ahead_at k) }

  pub ahead_goes_on : {m : ℕ} → true ≡ starts (code "\n") (drop n raw) → GoesOn true raw (n + 1) m → GoesOn false raw from m
  ahead_goes_on s g = record {
    ahead = omega (arith, g.ahead);
    inside = g.inside;
    rest = λ k. (rw (sym s) at (ahead_at k)) ∙ ap (unescape_trim k true) (drop-drop 1 n raw) ∙ g.rest k;
  }

  pub past_newline : true ≡ starts (code "\n") (drop n raw) → n + 1 ≤ length raw
  past_newline s = omega (arith, starts_in (code "\n") raw n s)
