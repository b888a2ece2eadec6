-- Every item of the mended reading has its extent in the text, points at a place from its start on, up to its end, and that place lies in the
-- text.
use Rattle.std.proofs.Common.{None, Option, Some}
use Prim.Native.Nat.{ℕ, zero, suc, ◌+◌, ◌≤◌, ◌<◌}
use mathlib.Core.Path.{◌≡◌, refl, sym, ◌∙◌, subst}
use mathlib.Core.Bool.{true}
use mathlib.Core.List.{List}
use mathlib.Core.Logic.{⊎_elim}
use lib.ListN.{length}
use lib.Dec.{eqb, ltb}
use native.Mathlib.Omega.{arith}
use Rattle.laws.specs.Quoted.{code}
use Rattle.laws.proofs.Choice.{by_bool, no_yes, if_all, impossible}
use Rattle.items.specs.Kinds as kind
use Rattle.items.specs.Items.{Item, range}
use Rattle.items.specs.Whole.{limit}
use Rattle.items.proofs.Every.{Every}
use Rattle.lexer.specs.Reading.{Turn, gives, ends, next_at, size_of}
use Rattle.lexer.specs.declared.Spot.{Spot}
use Rattle.lexer.proofs.Moves.{Moved}
use Rattle.lexer.proofs.Nexts.{next_moved}
use Rattle.findings_rows.specs.Mended.{slips, quote_of, closing_of, spot_at, ended_at, unclosed_at, slip_turn, mend_turn, mended_at, mended_from, mended_of, opening_spot}
use Rattle.findings_rows.proofs.Mends.{mend_slip, mend_fine, closing_past}
use Rattle.findings_rows.proofs.Lays.{from_gives, from_ends}
use Rattle.findings_theorems.proofs.Unmended.{fine_unslipped}
use Rattle.findings_theorems.proofs.Turns.{Given}
use Rattle.findings_theorems.proofs.Order.{Went, turn_went, Came, came}
use Rattle.findings_theorems.proofs.Within.{Within, turn_within}
use Rattle.findings_theorems.proofs.Spans.{Spans, Spanned, turn_span}

pub record Placed (s : List ℕ) (i : Item) : Type 0 where
  pub some : i.start < i.end
  pub ends : i.end ≤ length s
  pub from : i.start ≤ i.place.from
  pub to : i.place.from ≤ i.end
  pub span : Spanned (length s) i

module _ (s : List ℕ) where
  abbrev Good : Item → Spot → Type 0
  Good i q = Placed s i × (q.report ≡ true)

  good_same : (x i : Item) (t q : Spot) → gives x t ≡ gives i q → Good x t → Good i q
  good_same x i t q z g = let o : x ≡ i = cc in let u : t ≡ q = cc in subst (Good i) u (subst (λ (y : Item). Good y t) o g)

  -- an opening quote that nothing closes
  unclosed_span : (quote start : ℕ) → start < length s → Spanned (length s) (unclosed_at quote start (length s))
  unclosed_span quote start h =
      if_all (λ (k : ℕ). Spans (length s) start (kind.first_error + k) (range start (length s))) (eqb quote (code "\""))
      (omega arith, omega arith, (λ q. refl), (λ q. absurd (omega arith))) (omega arith, omega arith, (λ q. refl), (λ q. absurd (omega arith)))

  module _ (p : Spot) (report : p.report ≡ true) (x : Item) (t : Spot) (e : next_at s p ≡ gives x t) where
    abbrev m : Moved s p x t
    m = next_moved s p t x e

    abbrev k : Came s p x t
    k = came s p x t e

    within : Within x
    within = subst (Given Within) k.gave (turn_within s k.from (k.reports_too ∙ report))

    went : Went s k.from x t
    went = turn_went s k.from x t k.gave

    span : Spanned (length s) x
    span = subst (Given (Spanned (length s))) k.gave
        (turn_span s k.from (k.reports_too ∙ report) (omega (arith, went.ahead, m.whole.some, m.whole.ends)))

    after_report : t.report ≡ true
    after_report = m.report ∙ report

    good_fine : Good x t
    good_fine = (record { some = m.whole.some; ends = m.whole.ends; from = within.0; to = within.1; span = span }, after_report)

    module _ (b : slips s x.kind x.start ≡ true) where
      ends_there : t.at ≡ x.end
      ends_there = ⊎_elim (λ a. a) (λ r. no_yes (sym (fine_unslipped s x (omega (arith, r.1.1.3))) ∙ b)) went.after

      good_slip : (c : Option ℕ) → closing_of s x.kind x.start t.at ≡ c → (i : Item) (q : Spot) → slip_turn s x t c ≡ gives i q → Good i q
      good_slip (Some y) f i q h =
          let r = closing_past s x.kind x.start t.at y m.inside f in
          good_same (ended_at y x) i (spot_at t y) q h (
            record {
              some = omega (arith, r.0, ends_there, m.whole.some);
              ends = r.1;
              from = within.0;
              to = omega (arith, r.0, ends_there, within.1);
              span = span;
            },
            after_report,
          )
      good_slip None f i q h =
          good_same (unclosed_at (quote_of s x.start) x.start (length s)) i (spot_at t (length s)) q h (
            record {
              some = omega (arith, m.whole.some, m.whole.ends);
              ends = omega arith;
              from = omega arith;
              to = omega (arith, m.whole.some, m.whole.ends);
              span = unclosed_span (quote_of s x.start) x.start (omega (arith, m.whole.some, m.whole.ends));
            },
            after_report,
          )

  good_step : (p : Spot) → p.report ≡ true → (t : Turn) → next_at s p ≡ t → (i : Item) (q : Spot) → mend_turn s t ≡ gives i q → Good i q
  good_step p r ends e i q h = impossible cc
  good_step p r (gives x t) e i q h = by_bool (slips s x.kind x.start)
      (λ b. good_slip p r x t e b (closing_of s x.kind x.start t.at) refl i q (sym (mend_slip s x t b) ∙ h))
      (λ b. good_same x i t q (sym (mend_fine s x t b) ∙ h) (good_fine p r x t e))

  good_at : (p : Spot) → p.report ≡ true → (i : Item) (q : Spot) → mended_at s p ≡ gives i q → Good i q
  unfolding mended_at
  good_at p r i q h = good_step p r (next_at s p) refl i q h

  placed_from : (n : ℕ) (p : Spot) → p.report ≡ true → Every (Placed s) (mended_from n s p)
  unfolding mended_from
  placed_from zero p r = tt
  placed_from (suc n) p r = go (mended_at s p) refl (λ q k. placed_from n q k)
    where
      go : (t : Turn) → mended_at s p ≡ t → ((q : Spot) → q.report ≡ true → Every (Placed s) (mended_from n s q)) → Every (Placed s) (mended_from (suc n) s p)
      go ends e rec = subst (Every (Placed s)) (sym (from_ends s n p e)) tt
      go (gives i q) e rec = let g : Good i q = good_at p r i q e in subst (Every (Placed s)) (sym (from_gives s n p q i e)) (g.0, rec q g.1)

  pub mended_placed : Every (Placed s) (mended_of s)
  unfolding mended_of
  mended_placed = by_bool (ltb limit (length s)) (λ b. rw b tt) (λ b. rw b (placed_from (suc (size_of s (opening_spot s))) (opening_spot s) refl))
