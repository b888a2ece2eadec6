-- An item that is skimmed has one meaning and no decoded text, whatever it means: a word or a number run that does not begin with a plus
-- is a word of the table, an identifier, a number or an error.
use Rattle.items.specs.Kinds as kind
use Rattle.items.specs.Readers.{SoFar, comment, first_is}
use Rattle.items.specs.Meaning.{word_kind, run_means}
use Rattle.items.specs.Items.{Item, Place, range, range_after}
use Rattle.items.specs.Whole.{limit}
use Rattle.items.specs.declared.Outcome.{Outcome}
use Rattle.items.specs.declared.Outcome.TheVariants.{Word, Run}
use Rattle.items.specs.declared.Phase.{Phase}
use Rattle.items.specs.declared.Phase.TheVariants as ph
use Rattle.items.specs.declared.Nine.{Nine}
use Rattle.laws.specs.Quoted.{code}
use Rattle.laws.proofs.Choice.{by_bool}
use Rattle.numbers.specs.Grammar.{parse_number, Parsed}
use Rattle.numbers.specs.declared.ParseError.TheVariants as parsed
use Rattle.steps.specs.Scan.{part, answer}
use Rattle.steps.specs.Ended.{EndsAs}
use Rattle.meaning.specs.Meant.{means}
use Rattle.meaning.specs.declared.Means.{Means}
use Rattle.meaning.specs.declared.Text.TheVariants.{Nowhere, Source}
use Rattle.meaning.specs.Places.{range_of}
use Rattle.meaning.specs.Records.{nine_for}
use Rattle.std.specs.Prelude.{if◌then◌else◌, None, Option, Some, Ok, Err}
use Rattle.lexer.specs.Glance.{Begins, WordedTo, Glanced, SkimAt}
use Rattle.items_telling.specs.Tells.{Alone}
use Rattle.lexer.specs.Writing.{Going, Counting, Counts, Further, told_to}
use Rattle.lexer.specs.declared.Spot.{Spot}
use Rattle.lexer.specs.Reading.{next_at, size_of, found_of, one_found}
use Rattle.lexer.proofs.Glances.{next_told, told_place, bare_nine}
use Rattle.lexer.proofs.ReadingOn.{going_on, it, it_moved, size_le}
use Rattle.lexer.proofs.ToldTurns.{here, Blanks, going_blanks, none_halfway}
use Rattle.items_telling.proofs.Tells.{identifier_tells, word_tells, run_tells}
use Rattle.lexer.proofs.Tells.{and_false, first_byte, spans, ends_here, comment-told}
use Prim.Native.Nat.{ℕ, ◌+◌, ◌*◌, ◌≤◌, ◌<◌}
use mathlib.Core.Path.{◌≡◌, refl, sym, ◌∙◌, subst}
use mathlib.Core.Bool.{Bool, false}
use mathlib.Core.List.{List, [], ◌∷◌, ◌++◌}
use lib.Dec.{eqb}
use lib.ListN.{length, length-append, get_or}
use native.Mathlib.Omega.{arith}
use borrow.Author.Tests.{eq-eqb, eqb-true, ne_eqb}

-- ---- what is skimmed

-- an extent has one meaning, without decoded text, and is no comment
abbrev Sole : Outcome → ℕ → List ℕ → Type 0
Sole what at raw = (m : Means) × (Alone what at raw m × (eqb m.kind kind.Comment ≡ false))

module _ (at : ℕ) (raw : List ℕ) (n : first_is (code "+") raw ≡ false) where
  word_sole : Sole Word at raw
  word_sole =
      by_bool (eqb (word_kind raw) kind.Identifier)
      (λ b. let t = identifier_tells at (at + length raw) raw refl n (eqb-true (word_kind raw) kind.Identifier b) in
      (means kind.Identifier 0 (Source at (at + length raw)), (t.4, t.2)))
      (λ b. let t = word_tells at (at + length raw) raw refl (word_kind raw) refl b in
      (means (word_kind raw) 0 Nowhere, (t.4, t.2)))

  run_sole : (p : Parsed) → parse_number raw ≡ p → Sole Run at raw
  unfolding run_means
  run_sole (Ok q) f = let t = run_tells at (at + length raw) raw refl q f in (means kind.Number 0 Nowhere, (t.4, t.2))
  run_sole (Err parsed.NoNumber) f =
      let w = word_sole in
      (w.0, (record { means = λ r. rw f (w.1.0.means r); undecoded = w.1.0.undecoded }, w.1.1))
  run_sole (Err parsed.ZeroDenominator) f = (means (kind.first_error + kind.ZeroDenominator) 0 Nowhere, (record { means = λ r. rw f; undecoded = tt }, refl))

module _ (s : List ℕ) (report skip : Bool) (at next : ℕ) (short : length s ≤ limit) where
  sole_skims : (o : Outcome) (p : Phase) (e : ℕ) → Begins s at next p → record { what = o; end = e } ≡ answer s report at p next
      → ((last : Place) (i : SoFar) → range_after report last at o i ≡ last) → Sole o at (part s at e) → SkimAt s report skip at (Some e)
  sole_skims o p e B h quiet S =
      (S.0, record { what = o; phase = p; next = next; begins = B; scan = h; quiet = λ last end. quiet last _; alone = S.1.0; kept = and_false skip (eqb S.0.kind kind.Comment) S.1.1 })

  no_plus : (o : Outcome) (p : Phase) (e : ℕ) → Begins s at next p → record { what = o; end = e } ≡ answer s report at p next
      → (get_or s at 0 ≡ code "+" → ⊥) → first_is (code "+") (part s at e) ≡ false
  no_plus o p e B h n = rw (first_byte s at e (spans s report at next e o p B h short).some) (ne_eqb (get_or s at 0) (code "+") n)

  pub word_skims : Begins s at next ph.InWord → (get_or s at 0 ≡ code "+" → ⊥) → (r : Option ℕ) → EndsAs s report ph.InWord Word next r → SkimAt s report skip at r
  word_skims B n None h = tt
  word_skims B n (Some e) h =
      let scan = ends_here s report at next ph.InWord Word e B h in
      sole_skims Word ph.InWord e B scan (λ last i. refl) (word_sole at (part s at e) (no_plus Word ph.InWord e B scan n))

  pub run_skims : Begins s at next ph.InRun → (get_or s at 0 ≡ code "+" → ⊥) → (r : Option ℕ) → EndsAs s report ph.InRun Run next r → SkimAt s report skip at r
  run_skims B n None h = tt
  run_skims B n (Some e) h =
      let scan = ends_here s report at next ph.InRun Run e B h in
      sole_skims Run ph.InRun e B scan (λ last i. refl) (run_sole at (part s at e) (no_plus Run ph.InRun e B scan n) (parse_number (part s at e)) refl)

  pub line_skims : skip ≡ false → Begins s at next ph.InLine → (r : Option ℕ) → EndsAs s report ph.InLine comment next r → SkimAt s report skip at r
  line_skims k B None h = tt
  line_skims k B (Some e) h = (means kind.Comment 0 Nowhere, (comment-told s report skip at next e ph.InLine k B (ends_here s report at next ph.InLine comment e B h)).2)

pub worded_skims : (s : List ℕ) (report skip : Bool) (at : ℕ) → length s ≤ limit → (r : Option ℕ) → WordedTo s at r → SkimAt s report skip at r
worded_skims s report skip at short None w = tt
worded_skims s report skip at short (Some e) w = word_skims s report skip at w.0 short w.1.0.begins w.1.0.other (Some e) (w.1.1 report)

-- ---- a turn of the counting loop

module _ (s : List ℕ) (start p : Spot) (at : ℕ) (second : Bool) (free : ℕ) (done : List Item) (g : Going s start (here p at second) free done) (e : ℕ)
    (h : SkimAt s p.report p.skip at (Some e)) where
  abbrev pub m : Means
  m = h.0

  abbrev pub G : Glanced s p.report p.skip at e m
  G = h.1

  abbrev pub written : Nine
  written = nine_for free m (range_of (range at e)) (told_place s p.report p.skip at e m G (here p at second))

  pub next : one_found written (here p e false) ≡ found_of free (next_at s (here p at second))
  next = next_told s p.report p.skip at e m G free (here p at second) refl refl refl

  abbrev pub skimmed : Item
  skimmed = it s start (here p at second) free done g written (here p e false) next

  pub skim_smaller : size_of s (here p e false) < size_of s (here p at second)
  skim_smaller = (it_moved s start (here p at second) free done g written (here p e false) next).smaller

  pub skim_on : Going s start (here p e false) free (done ++ (skimmed ∷ []))
  skim_on =
      let b = bare_nine s free (range_of (range at e)) (told_place s p.report p.skip at e m G (here p at second)) m G.alone.undecoded in
      subst (λ (k : ℕ). Going s start (here p e false) k (done ++ (skimmed ∷ []))) b.0
      (going_on s start (here p at second) free done g written (here p e false) next)

-- ---- the loop

module _ (s : List ℕ) (p : Spot) (n₀ : ℕ) where
  further_past : (at : ℕ) (second : Bool) {n : ℕ} → Further s p n₀ (here p at second) n → (next : ℕ) → Blanks s at next → Further s p n₀ (here p next second) n
  further_past at second so_far next b = record {
    ahead = omega (arith, so_far.ahead, b.0);
    on = λ start free before. let c = so_far.on start free before in
        record { done = c.done; going = going_blanks s p at second start free c.done c.going next b; count = c.count };
  }

  pub none_counted : (next : ℕ) → Blanks s p.at next → Further s p n₀ (told_to p next n₀ n₀) n₀
  none_counted next b =
      subst (λ (x : Bool). Further s p n₀ (here p next (if x then p.second else false)) n₀) (sym (eq-eqb n₀ n₀ refl))
      (further_past p.at p.second (record { ahead = omega arith; on = λ start free before. before }) next b)

  module _ (counts : Counts s p n₀) (at : ℕ) {n : ℕ} (so_far : Further s p n₀ (told_to p at n₀ n) n) where
    abbrev second : Bool
    second = (told_to p at n₀ n).second

    abbrev c : Counting s counts.start (told_to p at n₀ n) counts.free n
    c = so_far.on counts.start counts.free counts.counting

    pub counted_few : n ≤ 2 * length s + 1
    counted_few = omega (arith, c.going.few, c.count, size_le s counts.start)

    module _ (r : Option ℕ) (e : ℕ) (is : r ≡ Some e) (h : SkimAt s p.report p.skip at r) (next : ℕ) (b : Blanks s e next) (l : n₀ ≤ n) where
      there : SkimAt s p.report p.skip at (Some e)
      there = subst (λ (x : Option ℕ). SkimAt s p.report p.skip at x) is h

      gone : here p next false ≡ told_to p next n₀ (n + 1)
      gone = none_halfway p n₀ next (n + 1) (omega arith)

      pub counted_smaller : size_of s (told_to p next n₀ (n + 1)) < size_of s (told_to p at n₀ n)
      counted_smaller =
          subst (λ (q : Spot). size_of s q < size_of s (told_to p at n₀ n)) gone
          (omega (arith, b.0, skim_smaller s counts.start p at second counts.free c.done c.going e there))

      pub counted_on : Further s p n₀ (told_to p next n₀ (n + 1)) (n + 1)
      counted_on =
          subst (λ (q : Spot). Further s p n₀ q (n + 1)) gone
          (further_past e false
          (record {
            ahead = omega (arith, skim_smaller s counts.start p at second counts.free c.done c.going e there, so_far.ahead);
            on = λ start free before. let d = so_far.on start free before in
                let i = skimmed s start p at second free d.done d.going e there in
                record {
                  done = d.done ++ (i ∷ []);
                  going = skim_on s start p at second free d.done d.going e there;
                  count = length-append d.done (i ∷ []) ∙ omega (arith, d.count);
                };
          }) next b)
