-- A run of plain characters of ASCII stands in the text as it stands in the item.
use Prim.Native.Nat.{ℕ, ◌+◌, ◌-◌, ◌≤◌}
use mathlib.Core.Path.{◌≡◌, refl, sym, ap, ◌∙◌}
use mathlib.Core.Bool.{Bool, true, not, ◌&&◌}
use mathlib.Core.List.{List, [], ◌∷◌, ◌++◌}
use native.Mathlib.Omega.{arith}
use lib.Dec.{eqb, ltb}
use lib.ListN.{length, take, drop, length-drop}
use lib.Seq.{length-take-le}
use borrow.Author.Tests.{eqb-false, not-true}
use Rattle.laws.specs.Quoted.{code}
use Rattle.laws.specs.Texts.{span}
use Rattle.laws.proofs.Choice.{by_bool, and_true}
use Rattle.laws.proofs.Places.{cut_at}
use Rattle.laws.proofs.Runs.{span_le}
use Rattle.byte_runs.specs.Runs.{plain}
use Rattle.items.specs.declared.Quotes.{Quotes}
use Rattle.items.specs.Classes.{delim_of, in_quotes}
use Rattle.items.specs.Classes as class
use Rattle.items.specs.Meaning.{unescape}
use Rattle.laws.specs.Lent.{written}
use borrow.Rule.Slice.PartMut.{put_mid}
use Rattle.escapes.proofs.Cases.{is_plain}
use Rattle.escapes.proofs.Laying.{Reading, reading_more, Laying, more_room, laying_more}

module _ (k : Quotes) where
  abbrev in_run : ℕ → Bool
  in_run c = plain (delim_of k) (code "\\") c

  plain-class : (c : ℕ) → in_run c ≡ true → in_quotes k c ≡ class.plain
  plain-class c h =
      let a = and_true (ltb c 0x80) (not (eqb c (delim_of k)) && not (eqb c (code "\\"))) h in
      let b = and_true (not (eqb c (delim_of k))) (not (eqb c (code "\\"))) a.1 in
      is_plain k c (eqb-false c (delim_of k) (not-true _ b.0)) (eqb-false c (code "\\") (not-true _ b.1))

  unescape_run : (s : List ℕ) → unescape k s ≡ take (span in_run s) s ++ unescape k (drop (span in_run s) s)
  unfolding unescape span
  unescape_run [] = refl
  unescape_run (c ∷ s) = by_bool (in_run c)
      (λ h. rw (h, plain-class c h, unescape) (ap (λ (l : List ℕ). c ∷ l) (unescape_run s)))
      (λ h. rw h)

  module _ (raw : List ℕ) (i stop : ℕ) (e : stop ≡ i + span in_run (drop i raw)) where
    run_inside : i ≤ length raw → stop ≤ length raw
    run_inside h = omega (arith, span_le in_run (drop i raw), length-drop i raw)

    run_whole : unescape k (drop i raw) ≡ take (stop - i) (drop i raw) ++ unescape k (drop stop raw)
    run_whole =
        let m : stop - i ≡ span in_run (drop i raw) = omega arith in
        unescape_run (drop i raw) ∙ rw (m, cut_at raw i (span in_run (drop i raw)) stop e)

    run_length : stop - i ≡ length (take (stop - i) (drop i raw))
    run_length = sym (length-take-le (stop - i) (drop i raw) (omega (arith, span_le in_run (drop i raw))))

-- the run from i to `stop`, read and laid
module _ {k : Quotes} {raw all : List ℕ} {n i stop : ℕ} (e : stop ≡ i + span (plain (delim_of k) (code "\\")) (drop i raw)) where
  pub run_ends : Reading k raw all n i → stop ≤ length raw
  run_ends r = run_inside k raw i stop e r.inside

  pub reading_run : Reading k raw all n i → Reading k raw all (n + (stop - i)) stop
  reading_run r = reading_more r (take (stop - i) (drop i raw)) stop (run_ends r) (run_whole k raw i stop e) (stop - i) (run_length k raw i stop e)

  module _ {old free : List ℕ} (l : Laying k raw all old free n i) (fit : length all ≤ length old) where
    pub run_room : length (take (stop - i) (drop i raw)) ≤ length (take (length free - n) (drop n free))
    run_room = more_room l fit (take (stop - i) (drop i raw)) stop (run_ends l.reading) (run_whole k raw i stop e)

    pub laying_run : (last : List ℕ) → last ≡ written (take (stop - i) (drop i raw)) (take (length free - n) (drop n free))
        → Laying k raw all old (put_mid n (length free - n) free last) (n + (stop - i)) stop
    laying_run last q = laying_more l fit (take (stop - i) (drop i raw)) stop (run_ends l.reading) (run_whole k raw i stop e) (stop - i) last (run_length k raw i stop e) q
