-- What the memory holds when a text has come in pieces.
use Rattle.std.proofs.Common.{None, Option, Some}
use mathlib.Core.Path.{◌≡◌, refl, sym, ap, ◌∙◌}
use mathlib.Core.List.{List, [], ◌∷◌, ◌++◌, append_assoc, append-nil}
use Prim.Native.Nat.{ℕ, zero, suc, ◌+◌, ◌-◌, ◌≤◌, ◌<◌}
use native.Mathlib.Omega.{arith}
use lib.ListN.{length, drop, take, set, length-append, drop_of_length-le}
use lib.Seq.{take_all, take-append-le, set_out, take-nil}
use lib.Dec.{eqb}
use borrow.Author.Tests.{lt-ltb, le-ltb, eq-eqb, ne_eqb}
use Rattle.chars.specs.Utf8.{Sequence, read, broken, short, sequences, verdict, first_bad}
use Rattle.chars.specs.Machine.{step, start, told, run}
use Rattle.chars.specs.declared.Begun as begun
use Rattle.chars.specs.declared.Step.{Step}
use Rattle.chars.specs.declared.Step.TheVariants as steps
use Rattle.chars.proofs.Run.{run-sequences}
use Rattle.laws.specs.Lent.{written}
use Rattle.refusal.specs.Refusals.{limit}
use Rattle.lines.specs.Starts.{newline, starts_from, starts, fit, if_good, build_of}
use Rattle.lines.specs.Starts.{Served, Refused}
use Rattle.lines.specs.Pieces.{Fed, fresh, moved_of, stopped_of, noted, fed_of, shown, before, laid}
use Rattle.lines.specs.declared.LineState.{LineState}
use Rattle.lines.proofs.Tests.{by_less, by_equal}
use Rattle.laws.proofs.Choice.{by_bool, impossible}
use Rattle.laws.proofs.Lent.{written_push}
use Rattle.refusal.specs.Refusals.{over_long, not_utf8, lines_no_room}
use Rattle.lines.proofs.Feeding.{step_full, step_counts, step_did}
use Rattle.lines.proofs.Joined.{fed_cons, fed_nil, stands, below, moved_low}

laid_first : (m : List ℕ) → set m 0 0 ≡ laid (0 ∷ []) m
laid_first [] = refl
laid_first (x ∷ m) = rw (take-nil {A = ℕ} (length m))

laid_push : (l m : List ℕ) (v : ℕ) → set (laid l m) (length l) v ≡ laid (l ++ (v ∷ [])) m
laid_push l m v = by_less (length l) (length m)
    (λ h.
    let a : take (length m) l ≡ l = take_all (length m) l (omega arith) in
    let b : take (length m) (l ++ (v ∷ [])) ≡ l ++ (v ∷ []) = take_all (length m) (l ++ (v ∷ [])) (omega (arith, length-append l (v ∷ []))) in
    rw (a, b) (written_push l m v h))
    (λ h.
    let a : drop (length l) m ≡ [] = drop_of_length-le m h in
    let b : drop (length (l ++ (v ∷ []))) m ≡ [] = drop_of_length-le m (let q : length m ≤ length (l ++ (v ∷ [])) = omega (arith, length-append l (v ∷ [])) in q) in
    let c : length (take (length m) l ++ []) ≤ length l = rw (append-nil (take (length m) l)) (omega (arith, length-take_min l (length m))) in
    rw (a, b) (set_out (take (length m) l ++ []) (length l) v c ∙ ap (λ (k : List ℕ). k ++ []) (sym (take-append-le (length m) l (v ∷ []) h))))
  where
    length-take_min : (l : List ℕ) (n : ℕ) → length (take n l) ≤ length l
    length-take_min [] zero = omega arith
    length-take_min [] (suc n) = omega arith
    length-take_min (x ∷ l) zero = omega arith
    length-take_min (x ∷ l) (suc n) = omega (arith, length-take_min l n)

-- no start is noted after 21 any more
after_bad : (s : List ℕ) (t : LineState) (m : List ℕ) → t.stop ≡ not_utf8 → (fed_of t s m).memory ≡ m
after_bad [] t m e = ap (λ (f : Fed). f.memory) (fed_nil t m)
after_bad (b ∷ s) t m e =
    let z : t.stop ≡ over_long → ⊥ = λ q. omega arith in
    let n : t.lines ≤ t.lines = omega arith in
    by_equal t.at limit
    (λ q. ap (λ (f : Fed). f.memory) (fed_cons t b s m (step_full t b z q) ∙ stands s (stopped_of t limit over_long) (noted t (stopped_of t limit over_long) m) refl) ∙ rw (le-ltb t.lines t.lines n))
    (λ q. ap (λ (f : Fed). f.memory) (fed_cons t b s m (step_counts t b z q e))
    ∙ after_bad s (stopped_of t (t.at + 1) not_utf8) (noted t (stopped_of t (t.at + 1) not_utf8) m) refl ∙ rw (le-ltb t.lines t.lines n))

shown_past : (s : List ℕ) (u : begun.Begun) (f at : ℕ) → at ≤ shown (run u f at s) (at + length s)
unfolding run shown
shown_past [] u f at = by_bool (eqb u.need 0) (λ e. rw e (omega arith)) (λ e. rw e (omega arith))
shown_past (b ∷ s) u f at = go (step u b) (λ v g. shown_past s v g (at + 1))
  where
    go : (o : Step) → ((v : begun.Begun) (g : ℕ) → at + 1 ≤ shown (run v g (at + 1) s) (at + 1 + length s))
        → at ≤ shown (told o (λ v. run v f (at + 1) s) (λ c. read c f (at + 1) ∷ run start (at + 1) (at + 1) s) (broken f (at + 1) ∷ [])) (at + suc (length s))
    go (steps.More v) ih = let y : at + suc (length s) ≡ at + 1 + length s = omega arith in rw y (omega (arith, ih v f))
    go (steps.Char c) ih = let y : at + suc (length s) ≡ at + 1 + length s = omega arith in rw y (omega (arith, ih start (at + 1)))
    go steps.Bad ih = omega arith

-- the bytes before any byte that shows 20 or 21, from place `at` on, of a text that is read so
abbrev from : List Sequence → ℕ → List ℕ → List ℕ
from l at s = take (limit - at) (take (shown l (at + length s) - at) s)

from_cons : (l : List Sequence) (at b : ℕ) (s : List ℕ) → at + 1 ≤ limit → at + 1 ≤ shown l (at + 1 + length s) → from l at (b ∷ s) ≡ b ∷ from l (at + 1) s
from_cons l at b s h k =
    let y : at + suc (length s) ≡ at + 1 + length s = omega arith in
    let a : limit - at ≡ suc (limit - (at + 1)) = omega arith in
    let c : shown l (at + 1 + length s) - at ≡ suc (shown l (at + 1 + length s) - (at + 1)) = omega arith in
    rw (y, a, c)

-- a byte that moves on, with the starts done so far
moved_memory : (t : LineState) (b : ℕ) (u : begun.Begun) (f : ℕ) (done m rest : List ℕ) → length done ≡ t.lines + 1
    → (l : List ℕ) × (noted t (moved_of t b u f) (laid done m) ≡ laid l m) × (length l ≡ (moved_of t b u f).lines + 1) × (done ++ starts_from t.at (b ∷ rest) ≡ l ++ starts_from (t.at + 1) rest)
unfolding starts_from
moved_memory t b u f done m rest h = by_equal b newline
    (λ e.
    let g : t.lines < t.lines + 1 = omega arith in
    rw (eq-eqb b newline e, lt-ltb t.lines (t.lines + 1) g) (
      done ++ ((t.at + 1) ∷ []),
      ap (λ (k : ℕ). set (laid done m) k (t.at + 1)) (sym h) ∙ laid_push done m (t.at + 1),
      length-append done ((t.at + 1) ∷ []) ∙ rw h,
      sym (append_assoc done ((t.at + 1) ∷ []) (starts_from (t.at + 1) rest)),
    ))
    (λ e.
    let g : t.lines ≤ t.lines = omega arith in
    rw (ne_eqb b newline e, le-ltb t.lines t.lines g) (done, refl, h, refl))

abbrev Holds : List ℕ → Type 0
Holds s = (t : LineState) (done m : List ℕ) → t.lines ≤ t.at → t.at ≤ limit → t.stop ≡ 0 → length done ≡ t.lines + 1
    → (fed_of t s (laid done m)).memory ≡ laid (done ++ starts_from t.at (from (run t.begun t.from t.at s) t.at s)) m

moves : (t : LineState) (b : ℕ) (s : List ℕ) (u : begun.Begun) (f : ℕ) (done m : List ℕ) → Holds s → t.lines ≤ t.at → t.at ≤ limit → (t.at ≡ limit → ⊥) → length done ≡ t.lines + 1
    → (fed_of (moved_of t b u f) s (noted t (moved_of t b u f) (laid done m))).memory ≡ laid (done ++ starts_from t.at (from (run u f (t.at + 1) s) t.at (b ∷ s))) m
moves t b s u f done m ih h a q k =
    let rest = from (run u f (t.at + 1) s) (t.at + 1) s in
    let v = moved_memory t b u f done m rest k in
    ap (λ (x : List ℕ). (fed_of (moved_of t b u f) s x).memory) v.1
    ∙ ih (moved_of t b u f) v.0 m (moved_low t b u f h) (below t.at a q) refl v.2
    ∙ ap (λ (x : List ℕ). laid x m) (sym v.3 ∙ ap (λ (x : List ℕ). done ++ starts_from t.at x)
    (sym (from_cons (run u f (t.at + 1) s) t.at b s (below t.at a q) (shown_past s u f (t.at + 1)))))

held_step : (o : Step) (b : ℕ) (s : List ℕ) (t : LineState) (done m : List ℕ) → Holds s → t.lines ≤ t.at → t.at ≤ limit → t.stop ≡ 0 → length done ≡ t.lines + 1 → (t.at ≡ limit → ⊥)
    → step t.begun b ≡ o
    → (fed_of t (b ∷ s) (laid done m)).memory ≡ laid (done ++ starts_from t.at (from (run t.begun t.from t.at (b ∷ s)) t.at (b ∷ s))) m
unfolding run shown starts_from
held_step o b s t done m ih h a e k q d =
    let z : t.stop ≡ over_long → ⊥ = λ x. omega arith in
    let y : t.stop ≡ not_utf8 → ⊥ = λ x. omega arith in
    ap (λ (f : Fed). f.memory) (fed_cons t b s (laid done m) (step_did t b z q y d)) ∙ rw d (go o)
  where
    go : (o : Step)
        → let u = told o (λ v. moved_of t b v t.from) (λ c. moved_of t b start (t.at + 1)) (stopped_of t (t.at + 1) not_utf8) in
        (fed_of u s (noted t u (laid done m))).memory
        ≡ laid (done ++ starts_from t.at (from (told o (λ v. run v t.from (t.at + 1) s)
        (λ c. read c t.from (t.at + 1) ∷ run start (t.at + 1) (t.at + 1) s) (broken t.from (t.at + 1) ∷ [])) t.at (b ∷ s))) m
    go (steps.More v) = moves t b s v t.from done m ih h a q k
    go (steps.Char c) = moves t b s start (t.at + 1) done m ih h a q k
    go steps.Bad =
        let n : t.lines ≤ t.lines = omega arith in
        let x : t.at + 1 - 1 - t.at ≡ 0 = omega arith in
        after_bad s (stopped_of t (t.at + 1) not_utf8) (noted t (stopped_of t (t.at + 1) not_utf8) (laid done m)) refl
        ∙ rw (le-ltb t.lines t.lines n, x, take-nil {A = ℕ} (limit - t.at), append-nil done)

holds : (s : List ℕ) → Holds s
unfolding starts_from
holds [] t done m h a e k =
    ap (λ (f : Fed). f.memory) (fed_nil t (laid done m))
    ∙ ap (λ (l : List ℕ). laid l m) (sym (rw (take-nil {A = ℕ} (shown (run t.begun t.from t.at []) (t.at + 0) - t.at), take-nil {A = ℕ} (limit - t.at)) (append-nil done)))
holds (b ∷ s) t done m h a e k =
    by_equal t.at limit
    (λ q.
    let z : t.stop ≡ over_long → ⊥ = λ x. omega arith in
    let n : t.lines ≤ t.lines = omega arith in
    let x : limit - t.at ≡ 0 = omega arith in
    ap (λ (f : Fed). f.memory) (fed_cons t b s (laid done m) (step_full t b z q) ∙ stands s (stopped_of t limit over_long) (noted t (stopped_of t limit over_long) (laid done m)) refl)
    ∙ rw (le-ltb t.lines t.lines n, x, append-nil done))
    (λ q. held_step (step t.begun b) b s t done m (holds s) h a e k q refl)

-- the memory holds the starts found before any byte that shows 20 or 21, as many as fit
pub held : (s m : List ℕ) → (fed_of fresh s (set m 0 0)).memory ≡ laid (starts (before s)) m
held s m =
    ap (λ (x : List ℕ). (fed_of fresh s x).memory) (laid_first m)
    ∙ holds s fresh (0 ∷ []) m (omega arith) (omega arith) refl refl
    ∙ ap (λ (x : List ℕ). laid (0 ∷ starts_from 0 x) m) (ap (λ (l : List Sequence). from l 0 s) (run-sequences s 0) ∙ whole)
  where
    whole : from (sequences 0 0 s) 0 s ≡ before s
    whole = let a : limit - 0 ≡ limit = omega arith in let b : shown (sequences 0 0 s) (0 + length s) - 0 ≡ shown (sequences 0 0 s) (length s) =
        ap (λ (k : ℕ). k - 0) (ap (shown (sequences 0 0 s)) (let q : 0 + length s ≡ length s = omega arith in q)) ∙ omega arith in rw (a, b)

-- ---- a text that is served: the same index as in one

shown_good : (l : List Sequence) (n : ℕ) → verdict l ≡ None → shown l n ≡ n
unfolding shown
shown_good [] n e = refl
shown_good (read c f t ∷ l) n e = shown_good l n e
shown_good (broken f t ∷ l) n e = impossible cc
shown_good (short f ∷ l) n e = impossible cc

fit_served : (l m : List ℕ) (k : ℕ) → (fit l m).answer ≡ Served k → (length l ≤ length m) × ((fit l m).memory ≡ written l m)
fit_served l m k = by_less (length m) (length l)
    (λ h. rw (lt-ltb (length m) (length l) h) (λ e. let f : Refused lines_no_room (length l) ≡ Served k = e in impossible cc))
    (λ h. rw (le-ltb (length m) (length l) h) (λ e. (h, refl)))

if_good_served : (v : Option ℕ) (l m : List ℕ) (k : ℕ) → (if_good v l m).answer ≡ Served k → (v ≡ None) × (length l ≤ length m) × ((if_good v l m).memory ≡ written l m)
if_good_served None l m k = λ e. let f = fit_served l m k e in (refl, f.0, f.1)
if_good_served (Some p) l m k = λ e. let f : Refused not_utf8 p ≡ Served k = e in impossible cc

build_served : (s m : List ℕ) (k : ℕ) → (build_of s m).answer ≡ Served k
    → (length s ≤ limit) × (first_bad s ≡ None) × (length (starts s) ≤ length m) × ((build_of s m).memory ≡ written (starts s) m)
unfolding build_of
build_served s m k = by_less limit (length s)
    (λ h. rw (lt-ltb limit (length s) h) (λ e. let f : Refused over_long limit ≡ Served k = e in impossible cc))
    (λ h. rw (le-ltb limit (length s) h) (λ e. let f = if_good_served (first_bad s) (starts s) m k e in (h, f.0, f.1, f.2)))

pub same_index : (s m : List ℕ) (k : ℕ) → (build_of s m).answer ≡ Served k → (fed_of fresh s (set m 0 0)).memory ≡ (build_of s m).memory
unfolding first_bad
same_index s m k e =
    let v = build_served s m k e in
    let a : take (shown (sequences 0 0 s) (length s)) s ≡ s = ap (λ (n : ℕ). take n s) (shown_good (sequences 0 0 s) (length s) v.1)
    ∙ take_all (length s) s (let q : length s ≤ length s = omega arith in q) in
    let b : before s ≡ s = ap (take limit) a ∙ take_all limit s v.0 in
    held s m ∙ ap (λ (l : List ℕ). laid (starts l) m) b ∙ ap (λ (l : List ℕ). l ++ drop (length (starts s)) m) (take_all (length m) (starts s) v.2) ∙ sym v.3
