-- An extent of a source: its items' words fit, and the numbers that the code makes of it. What is known of outcomes and meanings is of
-- crate `items`.
use Rattle.chars.specs.Utf8.{chars}
use Rattle.items.specs.Readers.{Read, read_item}
use Rattle.items.specs.Meaning.{Text, none, source, decoded, Meaning, meaning_of}
use Rattle.items.specs.declared.Outcome.{Outcome}
use Rattle.items.specs.declared.Outcome.TheVariants.{Token, Str, HereStr, Word, Run, Lined, Keyword, Character, Error, ErrorAt}
use Rattle.items.proofs.Every.{Every, every_any}
use Rattle.items.proofs.Fine.{Fine}
use Rattle.items.proofs.Meanings.{Inside, Meant, Made, made}
use Rattle.items.proofs.Outcomes.{read_fine}
use Rattle.items.proofs.Splits.{read_at, read_longer}
use Rattle.chars.proofs.Width.{wide}
use Rattle.meaning.specs.Meant.{sized_text, error_of, last_error}
use Rattle.meaning.specs.Places.{reach, reach_from}
use Rattle.meaning.specs.Records.{TextFits}
use Rattle.lexer.specs.Inner.{TextsFit, ExtentFits}
use Rattle.lexer.proofs.CharacterAt.{char_inside_lem}
use Rattle.lexer.proofs.Left.{ReadTo, left_here}
use Prim.Native.Nat.{ℕ, ◌+◌, ◌^◌, ◌≤◌, ◌<◌}
use mathlib.Core.Path.{◌≡◌, subst}
use mathlib.Core.Bool.{Bool}
use mathlib.Core.List.{List, [], ◌∷◌}
use lib.ListN.{length, drop}
use native.Mathlib.Omega.{arith}

-- nothing is asked of a detail: the code has it in a word
abbrev pub Any : ℕ → Type 0
Any d = Unit {0}

any : (d : ℕ) → d < 2 ^ 32 → Any d
any d h = tt

fine_error : (n : ℕ) (raw : List ℕ) (o : Outcome) → Fine Any n raw o → (error_of o ≤ last_error) × (reach_from o ≤ n) × (reach o ≤ n)
fine_error n raw (Token k d) h = (omega arith, omega arith, omega arith)
fine_error n raw Str h = (omega arith, omega arith, omega arith)
fine_error n raw HereStr h = (omega arith, omega arith, omega arith)
fine_error n raw Word h = (omega arith, omega arith, omega arith)
fine_error n raw Run h = (omega arith, omega arith, omega arith)
fine_error n raw Lined h = (omega arith, omega arith, omega arith)
fine_error n raw Keyword h = (omega arith, omega arith, omega arith)
fine_error n raw Character h = (omega arith, omega arith, omega arith)
fine_error n raw (Error e d) h = (h.0, omega arith, omega arith)
fine_error n raw (ErrorAt e d a b) h = (h.0.0, omega (arith, h.1), omega (arith, h.1))

module _ (free s e : ℕ) (short : e < 2 ^ 32) (behind : free ≤ s) where
  text_fits_lem : (t : Text) → Inside s e t → TextFits free (sized_text t)
  text_fits_lem none h = tt
  text_fits_lem (source a b) h = (omega arith, omega arith)
  text_fits_lem (decoded bs) h = omega arith

  texts_fit : (ms : List Meaning) → Every (Meant Any s e) ms → TextsFit free ms
  texts_fit [] h = tt
  texts_fit (m ∷ ms) h = (text_fits_lem m.text h.0.1.1, texts_fit ms h.1)

-- the extent that starts with c at a place
module _ (s : List ℕ) (report : Bool) (at c : ℕ) (cs : List ℕ) (here : chars (drop at s) ≡ c ∷ cs) where
  abbrev r : Read
  r = read_item report at c cs

  extent_fine : Fine Any (length s) r.item.bytes r.what
  extent_fine = read_fine Any any (length s) report at c cs (char_inside_lem s at c cs here) (every_any Any (λ d. tt) (c ∷ cs))

  pub extent_made : Made Any at r.item.at (meaning_of report r.what at r.item.at r.item.bytes)
  extent_made =
      made Any any at r.item.at r.item.bytes (read_at report at c cs) (omega (arith, read_longer report at c cs, wide c)) report (length s) r.what
      extent_fine

  pub extent_fits : (free : ℕ) → length s < 2 ^ 32 → free ≤ at → ExtentFits report free at r.item.bytes r.what
  extent_fits free short behind =
      let f = fine_error (length s) r.item.bytes r.what extent_fine in
      let e : r.item.at ≡ at + length r.item.bytes = read_at report at c cs in
      let l : ReadTo s at r = left_here s report at c cs here in
      let t : TextsFit free (meaning_of report r.what at r.item.at r.item.bytes) =
      texts_fit free at r.item.at (omega (arith, l.inside)) behind (meaning_of report r.what at r.item.at r.item.bytes) extent_made.meant in
      record {
        some = omega (arith, read_longer report at c cs, wide c);
        short = omega (arith, e, l.inside);
        error = f.0;
        from = omega (arith, f.1);
        to = omega (arith, f.2);
        texts = subst (λ (x : ℕ). TextsFit free (meaning_of report r.what at x r.item.bytes)) e t;
      }
