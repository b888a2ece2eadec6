-- An identifier that is a <number> (specs/Follows): its characters are those of a run, so the run was left at the character behind it, which ends a word
-- and no run.
use Rattle.std.proofs.Common.{Ok}
use Rattle.numbers.specs.Grammar.{Parsed}
use Prim.Native.Nat.{ℕ}
use mathlib.Core.Path.{◌≡◌, refl, sym, ap, subst, ◌∙◌}
use mathlib.Core.Bool.{Bool, true, false}
use mathlib.Core.List.{List, [], ◌∷◌, ◌++◌}
use mathlib.Core.Logic.{◌⊎◌, inl, inr}
use lib.ListN.{length, get_or, drop, length-append}
use lib.Dec.{eqb}
use native.Mathlib.Omega.{arith}
use Rattle.laws.specs.Quoted.{codes, code, one_of}
use Rattle.laws.proofs.Choice.{by_bool, no_yes, yes_no, if_all, if_is}
use Rattle.chars.specs.Blank.{is_blank}
use Rattle.chars.specs.Encode.{bytes_of}
use Rattle.numbers.specs.declared.Parts.{Parts}
use Rattle.items.specs.declared.Next.{Next}
use Rattle.items.specs.declared.Next.TheVariants.{Eat, Stop}
use Rattle.items.specs.declared.Outcome.{Outcome}
use Rattle.items.specs.declared.Outcome.TheVariants.{Run}
use Rattle.items.specs.declared.Phase.{Phase}
use Rattle.items.specs.declared.Phase.TheVariants as ph
use Rattle.items.specs.Classes.{first_of, breaks_word, InWord, in_word, stays_run, ends_run, bars_run, InRun, in_run, after_hash}
use Rattle.items.specs.Items.{Item, items}
use Rattle.items.specs.Kinds as kind
use Rattle.items.specs.Machine.{on_first, on_word, enter_word, on_run, step_of, scan_of}
use Rattle.items.specs.Meaning.{Meaning, means, run_means, meaning_of}
use Rattle.items.specs.Readers.{SoFar, so_far, eat, Read, got, read_item}
use Rattle.items.proofs.Cases.{by_next}
use Rattle.items.proofs.Every.{Every}
use Rattle.items.proofs.Same.{item_same}
use Rattle.items_r7rs.specs.Repeated.{Many, done, more}
use Rattle.items_r7rs.specs.Written.{Written}
use Rattle.items_r7rs.proofs.Classes.{at_one_of}
use Rattle.items_r7rs.proofs.Inside.{scan_back}
use Rattle.items_r7rs.proofs.Number.{Stays, begins_run}
use Rattle.items_r7rs.proofs.Reading.{eats}
use Rattle.items_r7rs.proofs.Written.{RunText, bare, prefixed, written_run, written_parts}
use Rattle.items_r7rs_words.specs.Follows.{KeepsNumber, Kept, kept, NumberKept}
use Rattle.items_r7rs_words.specs.Follows as keeps
use Rattle.items_r7rs_words.proofs.Behind.{each_of}
use Rattle.items_r7rs_words.proofs.Readings.{In, every_in, OneRead, of_reads}

-- ---- what ends a word and no run

abbrev NoEnd : Bool → ℕ → Type 0
NoEnd report c = ends_run report c ≡ false → KeepsNumber report c

breaker_keeps : (report : Bool) (c : ℕ) → one_of (codes "([)]{}'\"`;,") c ≡ true → NoEnd report c
unfolding ends_run
breaker_keeps report c h = each_of (NoEnd report) (codes "([)]{}'\"`;,") all c h
  where
    all : Every (NoEnd report) (codes "([)]{}'\"`;,")
    all = (
      λ e. yes_no e,
      (
        λ e. yes_no e,
        (
          λ e. yes_no e,
          (
            λ e. yes_no e,
            (
              λ e. keeps.brace refl,
              (
                λ e. keeps.brace refl,
                (
                  λ e. keeps.KeepsNumber.mark refl,
                  (
                    λ e. keeps.plain e refl,
                    (
                      λ e. keeps.KeepsNumber.mark refl,
                      (
                        λ e. keeps.plain e refl,
                        (λ e. keeps.KeepsNumber.mark refl, tt),
                      ),
                    ),
                  ),
                ),
              ),
            ),
          ),
        ),
      ),
    )

word_keeps : (report : Bool) (c : ℕ) → breaks_word c ≡ true → NoEnd report c
unfolding breaks_word ends_run
word_keeps report c h e =
    by_bool (one_of (codes "([)]{}'\"`;,") c)
    (λ f. breaker_keeps report c f e)
    (λ f. let b : is_blank c ≡ true = rw f at h in
    by_bool (one_of (codes "()[]") c)
    (λ g. no_yes (sym f ∙ at_one_of (one_of (codes "([)]{}'\"`;,")) true (codes "()[]") c refl g))
    (λ g. by_bool (one_of (codes ";\"") c)
    (λ k. no_yes (sym f ∙ at_one_of (one_of (codes "([)]{}'\"`;,")) true (codes ";\"") c refl k))
    (λ k. no_yes (sym (rw (g, k) at e) ∙ b))))

-- ---- a step of a run that stops

abbrev Stopped : Bool → ℕ → Next → Type 0
Stopped report c (Eat q) = Unit {0}
Stopped report c (Stop o) = (o ≡ Run) ⊎ KeepsNumber report c

module _ (report : Bool) (raw : List ℕ) (c : ℕ) where
  left_run : ends_run report c ≡ false → Stopped report c (enter_word c)
  unfolding in_word
  left_run e =
      let P : InWord → Type 0 = λ k. Stopped report c (on_word k) in
      if_all (Stopped report c) (eqb c (code "|")) tt
      (if_is P (breaks_word c) (λ f. inr (word_keeps report c f e)) (λ _. if_all P (eqb c (code "\\")) tt tt))

  run_stops : Stopped report c (on_run (in_run report raw c) c)
  unfolding in_run
  run_stops =
      let P : InRun → Type 0 = λ k. Stopped report c (on_run k c) in
      if_all P (stays_run c) tt (if_is P (ends_run report c) (λ _. inl refl) (λ e. if_all P (bars_run report raw c) (inl refl) (left_run e)))

module _ (report : Bool) where
  -- what was eaten is not left
  eaten : {A : Type 0} (q : Phase) (i : SoFar) (c : ℕ) (cs : List ℕ) → (scan_of report q i cs).rest ≡ c ∷ cs → A
  eaten q i c cs e =
      let h = scan_back report q i cs in
      let z : cs ≡ h.0 ++ (c ∷ cs) = h.1 ∙ ap (λ (l : List ℕ). h.0 ++ l) e in
      absurd (omega (arith, ap length z, length-append h.0 (c ∷ cs)))

  run_kept : (i : SoFar) (rest : List ℕ) → (scan_of report ph.InRun i rest).rest ≡ rest → ((scan_of report ph.InRun i rest).what ≡ Run) ⊎ Kept report rest
  unfolding scan_of
  run_kept i [] h = inl refl
  run_kept i (c ∷ cs) h =
      let s : Stopped report c (step_of report ph.InRun i c) = run_stops report i.bytes c in
      by_next (step_of report ph.InRun i c)
      (λ q e. eaten q (eat i c) c cs (rw (e, scan_of) at h))
      (λ o e. rw (e, scan_of) (stopped o (rw e at s)))
    where
      stopped : (o : Outcome) → Stopped report c (Stop o) → (o ≡ Run) ⊎ Kept report (c ∷ cs)
      stopped o (inl e) = inl e
      stopped o (inr k) = inr (kept k)

  scan_stays : (i : SoFar) (rest : List ℕ) {t : List ℕ} → Many Stays t → scan_of report ph.InRun i (t ++ rest) ≡ scan_of report ph.InRun (eats i t) rest
  unfolding scan_of in_run
  scan_stays i rest done = refl
  scan_stays i rest (more {c = c} h m) = rw (h, scan_of) (scan_stays (eat i c) rest m)

  -- a run from its first character on
  module _ (s e : ℕ) (what : Outcome) (raw rest : List ℕ) where
    abbrev Known : Type 0
    Known = (what ≡ Run) ⊎ Kept report rest

    from_run : (i : SoFar) {t : List ℕ} → Many Stays t → scan_of report ph.InRun i (t ++ rest) ≡ got what (so_far raw e) rest → Known
    from_run i {t} m h =
        let z : scan_of report ph.InRun (eats i t) rest ≡ got what (so_far raw e) rest = sym (scan_stays i rest m) ∙ h in
        go (run_kept (eats i t) rest (ap (λ (r : Read). r.rest) z)) (ap (λ (r : Read). r.what) z)
      where
        go : ((scan_of report ph.InRun (eats i t) rest).what ≡ Run) ⊎ Kept report rest → (scan_of report ph.InRun (eats i t) rest).what ≡ what → Known
        go (inl f) g = inl (sym g ∙ f)
        go (inr k) g = inr k

    run_item : {t : List ℕ} → RunText t → read_item report s (get_or t 0 0) (drop 1 t ++ rest) ≡ got what (so_far raw e) rest → Known
    unfolding scan_of first_of after_hash
    run_item (bare {c = c} {t = t} b m) h =
        from_run (eat (so_far [] s) c) m
        (ap (λ f. scan_of report (on_first f) (eat (so_far [] s) c) (t ++ rest)) (sym (begins_run c b)) ∙ item_same report s c (t ++ rest) ∙ h)
    run_item (prefixed {c = c} {t = t} b m) h =
        from_run (eat (eat (so_far [] s) (code "#")) c) m (rw (b, scan_of) at (item_same report s (code "#") (c ∷ t ++ rest) ∙ h))

-- a run that is a number means no identifier
number_kind : (a : Parts) (s e : ℕ) (raw : List ℕ) {m : Meaning} → In m (run_means (Ok a) s e raw) → eqb m.kind kind.Identifier ≡ false
unfolding run_means
number_kind a s e raw h = every_in (λ (m : Meaning). eqb m.kind kind.Identifier ≡ false) (refl, tt) h

-- of the items of a text, in both modes
pub number_kept : (report : Bool) (cs : List ℕ) → Every (NumberKept report (bytes_of cs)) (items report cs)
number_kept report cs = of_reads report cs (NumberKept report (bytes_of cs)) (λ i z k. (z.first ∷ z.more, z.rest, z.bytes, z.left, λ a w. keeps_it i z k a w))
  where
    keeps_it : (i : Item) (z : OneRead report (bytes_of cs) i) → eqb i.kind kind.Identifier ≡ true → (a : Parts) → Written (z.first ∷ z.more) a
        → Kept report z.rest
    keeps_it i z k a w = go (run_item report i.start i.end z.what raw z.rest (written_run w) z.read)
      where
        raw : List ℕ
        raw = bytes_of (z.first ∷ z.more)

        go : (z.what ≡ Run) ⊎ Kept report z.rest → Kept report z.rest
        go (inr h) = h
        go (inl e) =
            let m : In (means i.kind i.detail i.text) (run_means (Ok a) i.start i.end raw)
            = subst (λ (p : Parsed). In (means i.kind i.detail i.text) (run_means p i.start i.end raw)) (written_parts w)
            (subst (λ (o : Outcome). In (means i.kind i.detail i.text) (meaning_of report o i.start i.end raw)) e z.meant) in
            no_yes (sym (number_kind a i.start i.end raw m) ∙ k)
