-- In pieces the same answer and the same index as in one.
use mathlib.Core.Path.{◌≡◌, refl, sym, ap, ◌∙◌}
use mathlib.Core.List.{List, [], ◌∷◌, ◌++◌}
use Prim.Native.Nat.{ℕ, suc, ◌+◌, ◌≤◌, ◌<◌}
use native.Mathlib.Omega.{arith}
use native.Mathlib.Nat.{add-zero}
use lib.ListN.{length, set}
use lib.Dec.{eqb, ltb}
use borrow.Author.Tests.{lt-ltb, le-ltb, eq-eqb, ne_eqb}
use Rattle.chars.specs.Utf8.{read, broken, verdict, first_bad}
use Rattle.chars.specs.Machine.{step, start, told, run}
use Rattle.chars.specs.declared.Begun as begun
use Rattle.chars.specs.declared.Step.{Step}
use Rattle.chars.specs.declared.Step.TheVariants as steps
use Rattle.chars.proofs.Run.{run_bad}
use Rattle.std.specs.Prelude.{if◌then◌else◌, None, Option, Some}
use Rattle.refusal.specs.Refusals.{limit}
use Rattle.lines.specs.Starts.{newline, starts_from, starts, if_good, build_of}
use Rattle.lines.specs.Pieces.{Fed, fed, fresh, open_of, moved_of, stopped_of, step_of, noted, fed_of, end_of, pieces, joined}
use Rattle.lines.specs.declared.LineState.{LineState}
use Rattle.lines.specs.Starts.{Told, Served, Refused}
use Rattle.lines.proofs.Tests.{by_less, by_equal}
use Rattle.laws.proofs.Choice.{by_bool}
use Rattle.refusal.specs.Refusals.{over_long, not_utf8, lines_no_room}
use Rattle.lines.proofs.Feeding.{step_stands, step_full, step_counts, step_did, step_low, piece_feeds}

-- ---- any cutting

fed_low : (s : List ℕ) (t : LineState) (m : List ℕ) → t.lines ≤ t.at → (fed_of t s m).state.lines ≤ (fed_of t s m).state.at
unfolding fed_of
fed_low [] t m h = h
fed_low (b ∷ s) t m h = fed_low s (step_of t b) (noted t (step_of t b) m) (step_low t b h)

fed_append : (p q : List ℕ) (t : LineState) (m : List ℕ) → fed_of t (p ++ q) m ≡ fed_of (fed_of t p m).state q (fed_of t p m).memory
unfolding fed_of
fed_append [] q t m = refl
fed_append (b ∷ p) q t m = fed_append p q (step_of t b) (noted t (step_of t b) m)

cut_from : (ps : List (List ℕ)) (f : Fed) → f.state.lines ≤ f.state.at → pieces f ps ≡ fed_of f.state (joined ps) f.memory
unfolding fed_of
cut_from [] f h = refl
cut_from (p ∷ ps) f h =
    ap (λ (g : Fed). pieces g ps) (sym (piece_feeds f.state p f.memory h))
    ∙ cut_from ps (fed_of f.state p f.memory) (fed_low p f.state f.memory h)
    ∙ sym (fed_append p (joined ps) f.state f.memory)

-- however a text is cut, the pieces leave what the text in one piece leaves
pub cut : (ps : List (List ℕ)) (m : List ℕ) → pieces (open_of m) ps ≡ fed_of fresh (joined ps) (set m 0 0)
cut ps m = cut_from ps (open_of m) (omega arith)

-- ---- the answer at the declared end

abbrev fits : ℕ → ℕ → Told
fits k n = if ltb n k then Refused lines_no_room k else Served k

abbrev by : Option ℕ → ℕ → ℕ → Told
by (Some p) k n = Refused not_utf8 p
by None k n = fits k n

abbrev said : ℕ → Option ℕ → ℕ → ℕ → Told
said len v k n = if ltb limit len then Refused over_long limit else by v k n

no_grow : (t : LineState) (m : List ℕ) → noted t t m ≡ m
no_grow t m = rw (le-ltb t.lines t.lines (let h : t.lines ≤ t.lines = omega arith in h))

pub stands : (s : List ℕ) (t : LineState) (m : List ℕ) → t.stop ≡ over_long → fed_of t s m ≡ fed t m
unfolding fed_of
stands [] t m e = refl
stands (b ∷ s) t m e = rw (step_stands t b e, no_grow t m) (stands s t m e)

end_long : (t : LineState) (n : ℕ) → t.lines ≤ t.at → t.stop ≡ over_long → end_of t n ≡ Refused over_long limit
unfolding end_of
end_long t n h e = rw (le-ltb t.at t.lines h, eq-eqb t.stop over_long e)

ends_full : (s : List ℕ) (t : LineState) (m : List ℕ) (n : ℕ) → t.lines ≤ limit → end_of (fed_of (stopped_of t limit over_long) s m).state n ≡ Refused over_long limit
ends_full s t m n h = rw (stands s (stopped_of t limit over_long) m refl) (end_long (stopped_of t limit over_long) n h refl)

pub fed_cons : (t : LineState) (b : ℕ) {u : LineState} (s m : List ℕ) → step_of t b ≡ u → fed_of t (b ∷ s) m ≡ fed_of u s (noted t u m)
unfolding fed_of
fed_cons t b s m e = ap (λ (u : LineState). fed_of u s (noted t u m)) e

pub fed_nil : (t : LineState) (m : List ℕ) → fed_of t [] m ≡ fed t m
unfolding fed_of
fed_nil t m = refl

pub below : (x : ℕ) → x ≤ limit → (x ≡ limit → ⊥) → x + 1 ≤ limit
below x a q = by_less x limit (λ l. omega arith) (λ l. absurd (q (omega arith)))

said_same : {l l' : ℕ} {v v' : Option ℕ} {k k' : ℕ} (n : ℕ) → l ≡ l' → v ≡ v' → k ≡ k' → said l v k n ≡ said l' v' k' n
said_same n a b c = rw (a, b, c)

said_as : (v : Option ℕ) {l l' : ℕ} {k k' : ℕ} (n : ℕ) → l ≡ l' → k ≡ k' → said l v k n ≡ said l' v k' n
said_as v n a c = rw (a, c)

end_bad : (t : LineState) (n : ℕ) → t.lines ≤ t.at → t.stop ≡ not_utf8 → end_of t n ≡ Refused not_utf8 t.from
unfolding end_of
end_bad t n h e =
    let z : t.stop ≡ over_long → ⊥ = λ q. omega arith in
    rw (le-ltb t.at t.lines h, ne_eqb t.stop over_long z, eq-eqb t.stop not_utf8 e)

end_0 : (t : LineState) (n : ℕ) → t.lines ≤ t.at → t.stop ≡ 0 → end_of t n ≡ by (verdict (run t.begun t.from t.at [])) (t.lines + 1) n
unfolding end_of run
end_0 t n h e =
    let z : t.stop ≡ over_long → ⊥ = λ q. omega arith in
    let y : t.stop ≡ not_utf8 → ⊥ = λ q. omega arith in
    rw (le-ltb t.at t.lines h, ne_eqb t.stop over_long z, ne_eqb t.stop not_utf8 y)
    (by_bool (eqb t.begun.need 0) (λ a. rw a) (λ a. rw a))

counts : (s : List ℕ) (t : LineState) (m : List ℕ) (n : ℕ) → t.lines ≤ t.at → t.at ≤ limit → t.stop ≡ not_utf8
    → end_of (fed_of t s m).state n ≡ (if ltb limit (t.at + length s) then Refused over_long limit else Refused not_utf8 t.from)
counts [] t m n h a e =
    let y : t.at + 0 ≤ limit = omega arith in
    ap (λ (f : Fed). end_of f.state n) (fed_nil t m) ∙ end_bad t n h e ∙ rw (le-ltb limit (t.at + 0) y)
counts (b ∷ s) t m n h a e =
    let z : t.stop ≡ over_long → ⊥ = λ q. omega arith in
    by_equal t.at limit
    (λ q.
    let y : limit < t.at + suc (length s) = omega arith in
    ap (λ (f : Fed). end_of f.state n) (fed_cons t b s m (step_full t b z q)) ∙ ends_full s t (noted t (stopped_of t limit over_long) m) n (omega arith) ∙ rw (lt-ltb limit (t.at + suc (length s)) y))
    (λ q.
    let y : t.at + 1 + length s ≡ t.at + suc (length s) = omega arith in
    ap (λ (f : Fed). end_of f.state n) (fed_cons t b s m (step_counts t b z q e))
    ∙ counts s (stopped_of t (t.at + 1) not_utf8) (noted t (stopped_of t (t.at + 1) not_utf8) m) n (omega arith) (below t.at a q) refl
    ∙ rw y)

-- a newline byte is a start more
more_lines : (t : LineState) (b : ℕ) (s : List ℕ) (u : begun.Begun) (f : ℕ) → (moved_of t b u f).lines + 1 + length (starts_from (t.at + 1) s) ≡ t.lines + 1 + length (starts_from t.at (b ∷ s))
unfolding starts_from
more_lines t b s u f = by_equal b newline (λ e. rw (eq-eqb b newline e) (omega arith)) (λ e. rw (ne_eqb b newline e))

pub moved_low : (t : LineState) (b : ℕ) (u : begun.Begun) (f : ℕ) → t.lines ≤ t.at → (moved_of t b u f).lines ≤ t.at + 1
moved_low t b u f h = by_equal b newline (λ e. rw (eq-eqb b newline e) (omega arith)) (λ e. rw (ne_eqb b newline e) (omega arith))

abbrev Answers : List ℕ → Type 0
Answers s = (t : LineState) (m : List ℕ) (n : ℕ) → t.lines ≤ t.at → t.at ≤ limit → t.stop ≡ 0
    → end_of (fed_of t s m).state n ≡ said (t.at + length s) (verdict (run t.begun t.from t.at s)) (t.lines + 1 + length (starts_from t.at s)) n

by_step : (o : Step) (b : ℕ) (s : List ℕ) (t : LineState) (m : List ℕ) (n : ℕ) → Answers s → t.lines ≤ t.at → t.at ≤ limit → t.stop ≡ 0 → (t.at ≡ limit → ⊥) → step t.begun b ≡ o
    → end_of (fed_of t (b ∷ s) m).state n ≡ said (t.at + suc (length s)) (verdict (run t.begun t.from t.at (b ∷ s))) (t.lines + 1 + length (starts_from t.at (b ∷ s))) n
unfolding run
by_step o b s t m n ih h a e q d =
    let z : t.stop ≡ over_long → ⊥ = λ x. omega arith in
    let y : t.stop ≡ not_utf8 → ⊥ = λ x. omega arith in
    let len : t.at + 1 + length s ≡ t.at + suc (length s) = omega arith in
    ap (λ (f : Fed). end_of f.state n) (fed_cons t b s m (step_did t b z q y d)) ∙ rw d (go o len)
  where
    go : (o : Step) → t.at + 1 + length s ≡ t.at + suc (length s)
        → let u = told o (λ v. moved_of t b v t.from) (λ c. moved_of t b start (t.at + 1)) (stopped_of t (t.at + 1) not_utf8) in
        end_of (fed_of u s (noted t u m)).state n
        ≡ said (t.at + suc (length s)) (verdict (told o (λ v. run v t.from (t.at + 1) s)
        (λ c. read c t.from (t.at + 1) ∷ run start (t.at + 1) (t.at + 1) s) (broken t.from (t.at + 1) ∷ [])))
        (t.lines + 1 + length (starts_from t.at (b ∷ s))) n
    go (steps.More v) len =
        ih (moved_of t b v t.from) (noted t (moved_of t b v t.from) m) n (moved_low t b v t.from h) (below t.at a q) refl
        ∙ said_as (verdict (run v t.from (t.at + 1) s)) n len (more_lines t b s v t.from)
    go (steps.Char c) len =
        ih (moved_of t b start (t.at + 1)) (noted t (moved_of t b start (t.at + 1)) m) n (moved_low t b start (t.at + 1) h) (below t.at a q) refl
        ∙ said_as (verdict (run start (t.at + 1) (t.at + 1) s)) n len (more_lines t b s start (t.at + 1))
    go steps.Bad len =
        counts s (stopped_of t (t.at + 1) not_utf8) (noted t (stopped_of t (t.at + 1) not_utf8) m) n (omega arith) (below t.at a q) refl
        ∙ rw len

answers : (s : List ℕ) → Answers s
unfolding fed_of starts_from
answers [] t m n h a e =
    let y : t.at + 0 ≤ limit = omega arith in
    end_0 t n h e ∙ rw (le-ltb limit (t.at + 0) y, add-zero (t.lines + 1))
answers (b ∷ s) t m n h a e =
    let z : t.stop ≡ over_long → ⊥ = λ x. omega arith in
    by_equal t.at limit
    (λ q.
    let y : limit < t.at + suc (length s) = omega arith in
    ap (λ (f : Fed). end_of f.state n) (fed_cons t b s m (step_full t b z q)) ∙ ends_full s t (noted t (stopped_of t limit over_long) m) n (omega arith) ∙ rw (lt-ltb limit (t.at + suc (length s)) y))
    (λ q. by_step (step t.begun b) b s t m n (answers s) h a e q refl)

given : (v : Option ℕ) (l m : List ℕ) → (if_good v l m).answer ≡ by v (length l) (length m)
given (Some p) l m = refl
given None l m = by_bool (ltb (length m) (length l)) (λ e. rw e) (λ e. rw e)

build_answer : (s m : List ℕ) → (build_of s m).answer ≡ said (length s) (first_bad s) (length (starts s)) (length m)
unfolding build_of
build_answer s m = by_bool (ltb limit (length s)) (λ e. rw e) (λ e. rw e (given (first_bad s) (starts s) m))

-- the declared end answers what the whole text's call answers
pub same_answer : (s m : List ℕ) → end_of (fed_of fresh s (set m 0 0)).state (length m) ≡ (build_of s m).answer
same_answer s m =
    answers s fresh (set m 0 0) (length m) (omega arith) (omega arith) refl
    ∙ said_same (length m) (let q : 0 + length s ≡ length s = omega arith in q) (run_bad s) (let r : 0 + 1 + length (starts_from 0 s) ≡ suc (length (starts_from 0 s)) = omega arith in r)
    ∙ sym (build_answer s m)
