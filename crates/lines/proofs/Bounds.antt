-- A line starts where a character starts: the characters of a UTF-8 text are those before a line's start and those from it on.
use Rattle.std.proofs.Common.{None}
use mathlib.Core.Path.{◌≡◌, refl, sym, ap, ◌∙◌}
use mathlib.Core.Bool.{◌&&◌}
use mathlib.Core.List.{List, [], ◌∷◌, ◌++◌}
use mathlib.Core.Logic.{◌⊎◌, ⊎_elim, inl, inr}
use Prim.Native.Nat.{ℕ, zero, suc, ◌+◌, ◌≤◌, ◌<◌}
use native.Mathlib.Omega.{arith}
use lib.ListN.{length, get_or, drop}
use lib.Dec.{eqb, leb}
use borrow.Author.Tests.{lt-ltb, le-ltb, lt-leb, eq-eqb, ne_eqb}
use Rattle.chars.specs.Utf8.{ascii, first, Front, char, bad, cut, none, after, front, onward, Sequence, read, broken, sequences, verdict, first_bad}
use Rattle.chars.specs.Machine.{step, start, told, run}
use Rattle.chars.specs.declared.Begun.{Begun}
use Rattle.chars.specs.declared.Step.{Step}
use Rattle.chars.specs.declared.Step.TheVariants as steps
use Rattle.laws.specs.Quoted.{within}
use Rattle.laws.proofs.Choice.{if_all, impossible}
use Rattle.chars.proofs.Run.{run-sequences, run_bad}
use Rattle.lines.specs.Starts.{newline, starts_from, starts}
use Rattle.lines.specs.Place.{since}
use Rattle.lines.proofs.Tests.{by_equal}

-- within a character the next byte is no ASCII
abbrev Low : Begun → Type 0
Low t = (t.need ≡ 0) ⊎ (128 ≤ t.low)

abbrev After : Step → Type 0
After (steps.More u) = 128 ≤ u.low
After (steps.Char c) = Unit {0}
After steps.Bad = Unit {0}

first_low : (b : ℕ) → After (first b)
unfolding first
first_low b =
    if_all After (ascii b) tt
    (if_all After (within 0xC2 0xDF b) (omega arith)
    (if_all After (within 0xE0 0xE0 b) (omega arith)
    (if_all After (within 0xE1 0xEC b) (omega arith)
    (if_all After (within 0xED 0xED b) (omega arith)
    (if_all After (within 0xEE 0xEF b) (omega arith)
    (if_all After (within 0xF0 0xF0 b) (omega arith)
    (if_all After (within 0xF1 0xF3 b) (omega arith)
    (if_all After (within 0xF4 0xF4 b) (omega arith) tt))))))))

step_low : (t : Begun) (b : ℕ) → After (step t b)
unfolding step
step_low t b =
    if_all After (eqb t.need 0) (first_low b)
    (if_all After (within t.low t.high b && leb t.code 0x7FFF) (if_all After (eqb t.need 1) tt (omega arith)) tt)

-- a newline byte is a character by itself, or it is bad
step-newline : (t : Begun) → Low t → (step t newline ≡ steps.Char newline) ⊎ (step t newline ≡ steps.Bad)
unfolding step first within
step-newline t l =
    by_equal t.need 0 (λ e. inl (rw (eq-eqb t.need 0 e))) (λ n.
    ⊎_elim (λ e. absurd (n e)) (λ h. inr (rw (ne_eqb t.need 0 n, lt-leb t.low newline (let q : newline < t.low = omega arith in q)))) l)

-- sequences that all start before a place
pub data Early (a : ℕ) : List Sequence → Type 0 where
  first_of_case : Early a []
  with_early : {c f t : ℕ} {l : List Sequence} → f < a → Early a l → Early a (read c f t ∷ l)

abbrev Split : List Sequence → ℕ → List ℕ → Type 0
Split l a s = (pre : List Sequence) × (l ≡ pre ++ sequences 0 a s) × Early a pre

abbrev Splitting : List ℕ → Type 0
Splitting s = (t : Begun) (f at i : ℕ) → f ≤ at → Low t → verdict (run t f at s) ≡ None → i < length s → get_or s i 0 ≡ newline
    → Split (run t f at s) (at + suc i) (drop (suc i) s)

turns : (o : Step) (b : ℕ) (s : List ℕ) (f at i : ℕ) → Splitting s → f ≤ at → After o → i < length s → get_or s i 0 ≡ newline
    → verdict (told o (λ u. run u f (at + 1) s) (λ c. read c f (at + 1) ∷ run start (at + 1) (at + 1) s) (broken f (at + 1) ∷ [])) ≡ None
    → Split (told o (λ u. run u f (at + 1) s) (λ c. read c f (at + 1) ∷ run start (at + 1) (at + 1) s) (broken f (at + 1) ∷ [])) (at + 1 + suc i) (drop (suc i) s)
turns (steps.More u) b s f at i ih w l h e g = ih u f (at + 1) i (omega arith) (inr l) g h e
turns (steps.Char c) b s f at i ih w l h e g =
    let v = ih start (at + 1) (at + 1) i (omega arith) (inl refl) g h e in
    let early : f < at + 1 + suc i = omega arith in
    (read c f (at + 1) ∷ v.0, ap (λ (x : List Sequence). read c f (at + 1) ∷ x) v.1, with_early early v.2)
turns steps.Bad b s f at i ih w l h e g = impossible cc

passes : (o : Step) (s : List ℕ) (f at : ℕ) → f ≤ at → (o ≡ steps.Char newline) ⊎ (o ≡ steps.Bad)
    → verdict (told o (λ u. run u f (at + 1) s) (λ c. read c f (at + 1) ∷ run start (at + 1) (at + 1) s) (broken f (at + 1) ∷ [])) ≡ None
    → Split (told o (λ u. run u f (at + 1) s) (λ c. read c f (at + 1) ∷ run start (at + 1) (at + 1) s) (broken f (at + 1) ∷ [])) (at + 1) s
passes o s f at w (inl e) =
    let early : f < at + 1 = omega arith in
    rw e (λ g. (read newline f (at + 1) ∷ [], ap (λ (x : List Sequence). read newline f (at + 1) ∷ x) (run-sequences s (at + 1)), with_early early first_of_case))
passes o s f at w (inr e) = rw e (λ g. impossible cc)

splitting : (s : List ℕ) → Splitting s
unfolding run
splitting [] t f at i w l g h e = absurd (omega arith)
splitting (b ∷ s) t f at zero w l g h e = passes (step t b) s f at w (rw e (step-newline t l)) g
splitting (b ∷ s) t f at (suc i) w l g h e =
    let y : at + suc (suc i) ≡ at + 1 + suc i = omega arith in
    rw y (turns (step t b) b s f at i (splitting s) w (step_low t b) (omega arith) e g)

-- the place after a newline byte of a UTF-8 text is one where a character starts, or the end
pub line_bound : (s : List ℕ) (i : ℕ) → first_bad s ≡ None → i < length s
    → get_or s i 0 ≡ newline → (pre : List Sequence) × (sequences 0 0 s ≡ pre ++ sequences 0 (suc i) (drop (suc i) s)) × Early (suc i) pre
line_bound s i g h e =
    let y : 0 + suc i ≡ suc i = omega arith in
    rw (← run-sequences s 0) (rw y at (splitting s start 0 0 i (omega arith) (inl refl) (run_bad s ∙ g) h e))

since_early : (a : ℕ) (pre l : List Sequence) → Early a pre → since a (pre ++ l) ≡ since a l
unfolding since
since_early a [] l first_of_case = refl
since_early a (x ∷ pre) l (with_early {f = f} h r) = rw (lt-ltb f a h) (since_early a pre l r)

since_here : (a : ℕ) (s : List ℕ) → since a (sequences 0 a s) ≡ sequences 0 a s
unfolding since sequences front
since_here a [] = refl
since_here a (b ∷ s) = go (after (first b) s)
  where
    go : (F : Front) → since a (onward a F (λ k. sequences k (a + 1) s)) ≡ onward a F (λ k. sequences k (a + 1) s)
    go (char d k) = rw (le-ltb a a (let q : a ≤ a = omega arith in q))
    go (bad k) = rw (le-ltb a a (let q : a ≤ a = omega arith in q))
    go cut = rw (le-ltb a a (let q : a ≤ a = omega arith in q))
    go none = refl

-- every start but the first stands after a newline byte
newlines : (s : List ℕ) (at k : ℕ) → k < length (starts_from at s) → (i : ℕ) × (get_or (starts_from at s) k 0 ≡ at + suc i) × (i < length s) × (get_or s i 0 ≡ newline)
unfolding starts_from
newlines [] at = λ k h. absurd (omega arith)
newlines (b ∷ s) at = go (newlines s (at + 1))
  where
    later : (k : ℕ) → (i : ℕ) × (get_or (starts_from (at + 1) s) k 0 ≡ at + 1 + suc i) × (i < length s) × (get_or s i 0 ≡ newline)
        → (i : ℕ) × (get_or (starts_from (at + 1) s) k 0 ≡ at + suc i) × (i < suc (length s)) × (get_or (b ∷ s) i 0 ≡ newline)
    later k v = (suc v.0, v.1 ∙ omega arith, omega (arith, v.2), v.3)

    hit : ((k : ℕ) → k < length (starts_from (at + 1) s) → (i : ℕ) × (get_or (starts_from (at + 1) s) k 0 ≡ at + 1 + suc i) × (i < length s) × (get_or s i 0 ≡ newline))
        → b ≡ 10 → (k : ℕ) → k < suc (length (starts_from (at + 1) s)) → (i : ℕ) × (get_or ((at + 1) ∷ starts_from (at + 1) s) k 0 ≡ at + suc i) × (i < suc (length s)) × (get_or (b ∷ s) i 0 ≡ newline)
    hit ih e zero h = (0, omega arith, omega arith, e)
    hit ih e (suc k) h = later k (ih k (omega arith))

    go : ((k : ℕ) → k < length (starts_from (at + 1) s) → (i : ℕ) × (get_or (starts_from (at + 1) s) k 0 ≡ at + 1 + suc i) × (i < length s) × (get_or s i 0 ≡ newline))
        → (k : ℕ) → k < length (starts_from at (b ∷ s)) → (i : ℕ) × (get_or (starts_from at (b ∷ s)) k 0 ≡ at + suc i) × (i < suc (length s)) × (get_or (b ∷ s) i 0 ≡ newline)
    go ih k = by_equal b newline (λ e. rw (eq-eqb b newline e) (hit ih e k)) (λ e. rw (ne_eqb b newline e) (λ h. later k (ih k h)))

-- from a line's start on, the text's characters are those of the rest
pub since_line : (s : List ℕ) (k : ℕ) → first_bad s ≡ None → k < length (starts s) → since (get_or (starts s) k 0) (sequences 0 0 s) ≡ sequences 0 (get_or (starts s) k 0) (drop (get_or (starts s) k 0) s)
since_line s zero g h = since_here 0 s
since_line s (suc k) g h =
    let v = newlines s 0 k (omega arith) in
    let w = line_bound s v.0 g v.2 v.3 in
    let a : get_or (starts_from 0 s) k 0 ≡ suc v.0 = v.1 ∙ omega arith in
    ap (λ (x : ℕ). since x (sequences 0 0 s)) a
    ∙ ap (since (suc v.0)) w.1
    ∙ since_early (suc v.0) w.0 (sequences 0 (suc v.0) (drop (suc v.0) s)) w.2
    ∙ since_here (suc v.0) (drop (suc v.0) s)
    ∙ ap (λ (x : ℕ). sequences 0 x (drop x s)) (sym a)
