-- An item in quotes without an escape ends where they are closed, and its text is what stands between them: a string, or an identifier where
-- the item begins with its quote. One law serves both.
use Rattle.std.proofs.Common.{None, Option, Some}
use Rattle.laws.specs.Quoted.{code}
use Rattle.laws.proofs.Places.{here}
use Rattle.chars.specs.Blank.{is_blank}
use Rattle.items.specs.Classes.{delim_of, starts_run, first_of}
use Rattle.items.specs.Readers.{SoFar, closed, lined_of}
use Rattle.items.specs.Meaning.{escaped}
use Rattle.items.specs.Items.{Place, range_after}
use Rattle.items.specs.Whole.{limit}
use Rattle.items.specs.declared.Outcome.{Outcome}
use Rattle.items.specs.declared.Phase.TheVariants as ph
use Rattle.items.specs.declared.Quotes.{Quotes}
use Rattle.items.specs.declared.Quotes.TheVariants.{Double, Lines}
use Rattle.steps.specs.Scan.{part, answer}
use Rattle.steps.specs.Ended.{ClosesAt, Closes}
use Rattle.steps.proofs.Ended.{delim_other}
use Rattle.meaning.specs.Meant.{means}
use Rattle.meaning.specs.declared.Means.{Means}
use Rattle.meaning.specs.declared.Text.TheVariants.{Source}
use Rattle.items_telling.specs.Tells.{quoted_as, quoted_kind}
use Rattle.items_telling.specs.declared.Quick.TheVariants.{Item}
use Rattle.items_telling.proofs.Tells.{quoted_tells}
use Rattle.lexer.specs.Glance.{Begins, Quoting, GlanceAt, SkimAt}
use Rattle.lexer.proofs.Glances.{begins}
use Rattle.lexer.proofs.Tells.{part_byte, first_byte, spans, ended_told}
use Prim.Native.Nat.{ℕ, suc, ◌+◌, ◌-◌, ◌≤◌, ◌<◌}
use mathlib.Core.Path.{◌≡◌, refl, sym, ap, ◌∙◌}
use mathlib.Core.Bool.{Bool, false}
use mathlib.Core.List.{List, ◌∷◌}
use lib.ListN.{length, get_or, take}
use native.Mathlib.Omega.{arith}
use borrow.Author.Tests.{eq-eqb, ne_eqb, lt-leb}

-- a quote begins an item in quotes
pub quote_begins : (s : List ℕ) (at : ℕ) (k : Quotes) → at < length s → get_or s at 0 ≡ delim_of k → Begins s at (at + 1) (ph.Quoted k)
unfolding first_of starts_run is_blank
quote_begins s at Double h e = begins s at (code "\"") (ph.Quoted Double) h e (omega arith) refl refl
quote_begins s at Lines h e = begins s at (code "|") (ph.Quoted Lines) h e (omega arith) refl refl

pub quoting : (s : List ℕ) (at : ℕ) (k : Quotes) → at < length s → get_or s at 0 ≡ delim_of k → Quoting s at (delim_of k) (quoted_kind k)
quoting s at k h e = record { quotes = k; some = h; opens = e; closes = refl; is = refl }

-- bytes that begin and end with a vertical line, of which there are two, are an identifier
whole : (k : Quotes) (raw : List ℕ) → 1 < length raw → get_or raw 0 0 ≡ delim_of k → get_or raw (length raw - 1) 0 ≡ delim_of k → closed k raw ≡ quoted_as k
unfolding lined_of
whole Double raw h f l = refl
whole Lines raw h f l =
    rw (
      lt-leb (length raw) 1 h,
      ne_eqb (get_or raw 0 0) (code "+") (λ e. omega (arith, e, f)),
      eq-eqb (get_or raw 0 0) (code "|") f,
      eq-eqb (get_or raw (length raw - 1) 0) (code "|") l,
    )

quotes_quiet : (k : Quotes) (report : Bool) (at : ℕ) (last : Place) (i : SoFar) → range_after report last at (quoted_as k) i ≡ last
quotes_quiet Double report at last i = refl
quotes_quiet Lines report at last i = refl

module _ (s : List ℕ) (at e : ℕ) (k : Quotes) (short : length s ≤ limit) (some : at < length s) (opens : get_or s at 0 ≡ delim_of k) (C : ClosesAt s k (at + 1) e) where
  B : Begins s at (at + 1) (ph.Quoted k)
  B = quote_begins s at k some opens

  scans : (report : Bool) → record { what = closed k (part s at e); end = e } ≡ answer s report at (ph.Quoted k) (at + 1)
  scans report = sym (C.is report at (omega arith))

  long : at + length (part s at e) ≡ e
  long = (spans s false at (at + 1) e (closed k (part s at e)) (ph.Quoted k) B (scans false) short).long

  last_byte : get_or (part s at e) (length (part s at e) - 1) 0 ≡ delim_of k
  last_byte =
      let n = length (part s at e) - 1 in
      let there : at + n ≡ e - 1 = omega (arith, long, C.some) in
      part_byte s at e n (omega (arith, long, C.some)) ∙ ap (λ (i : ℕ). get_or s i 0) there ∙ C.last

  is_whole : closed k (part s at e) ≡ quoted_as k
  is_whole = whole k (part s at e) (omega (arith, long, C.some)) (first_byte s at e (omega (arith, C.some)) ∙ opens) last_byte

  -- the quote that opens it is no backslash
  no_escape : escaped (part s at e) ≡ false
  unfolding escaped
  no_escape =
      let n : e - at ≡ suc (e - (at + 1)) = omega (arith, C.some) in
      let split : part s at e ≡ get_or s at 0 ∷ part s (at + 1) e = rw n (ap (take (suc (e - (at + 1)))) (here s at some)) in
      rw split (rw (ne_eqb (get_or s at 0) (code "\\") (λ x. delim_other k (sym opens ∙ x))) C.unescaped)

  abbrev pub quoted : Means
  quoted = means (quoted_kind k) 0 (Source (at + 1) (e - 1))

  pub quoted_told : (report skip : Bool) → GlanceAt s report skip at (Item quoted at e)
  quoted_told report skip =
      ended_told s report at (at + 1) e (quoted_as k) (ph.Quoted k) B (ap (λ (o : Outcome). record { what = o; end = e }) (sym is_whole) ∙ scans report) short
      (quotes_quiet k report at) (Item quoted at e) (quoted_tells at e (part s at e) (sym long) k no_escape) skip

pub quoted_skims : (s : List ℕ) (at : ℕ) (k : Quotes) → length s ≤ limit → at < length s → get_or s at 0 ≡ delim_of k → (r : Option ℕ) → Closes s k (at + 1) r
    → (report skip : Bool) → SkimAt s report skip at r
quoted_skims s at k short some opens None C report skip = tt
quoted_skims s at k short some opens (Some e) C report skip = (quoted s at e k short some opens C, (quoted_told s at e k short some opens C report skip).2)
