-- Which refusals nested lists have of records whose kinds and details are the layout's and of which none is an error: 40 to 44, each at a
-- record, but 40, 42 and 43 at the end too.
use Prim.Native.Nat.{ℕ, zero, suc, ◌+◌, ◌-◌, ◌≤◌, ◌<◌}
use mathlib.Core.Path.{◌≡◌, refl, sym, ap, ◌∙◌, subst}
use mathlib.Core.Bool.{Bool, true, false, cond}
use mathlib.Core.List.{List, [], ◌∷◌}
use mathlib.Core.Logic.{◌⊎◌, inl, inr, ⊎_elim}
use lib.ListN.{length}
use lib.Dec.{eqb, ltb, leb}
use native.Mathlib.Omega.{arith}
use borrow.Author.Tests.{le-leb}
use Rattle.laws.proofs.Choice.{by_bool, impossible}
use Rattle.items.specs.Kinds as kind
use Rattle.items.proofs.Every.{Every}
use Rattle.nested.specs.Items.{Item, item, sort_of, class_of, count_of, class_at, items_from, items_of}
use Rattle.nested.specs.Grammar.{is_list, closer, deepest}
use Rattle.nested.specs.Reader.{level, Levels, state, Nodes, No, deep, tailed, starting, closing, dotting, ending, wrong, after, read_on}
use Rattle.nested.specs.declared.Class.{Class}
use Rattle.nested.specs.declared.Class.TheVariants.{Alien, Fails, Passes, Drops, Marks, Simple, Opens, Closes, Dots}
use Rattle.nested.specs.declared.Frame.{Frame}
use Rattle.nested.specs.declared.Frame.TheVariants.{Plan, Quoting, Dropping, Fresh, Holds, Dotted, Tailed}
use Rattle.findings_theorems.proofs.Sorts.{Sorted}

-- neither an error nor alien
abbrev pub Known : Class → Type 0
Known Alien = ⊥
Known Fails = ⊥
Known Passes = Unit {0}
Known Drops = Unit {0}
Known Marks = Unit {0}
Known (Simple k) = Unit {0}
Known (Opens s) = Unit {0}
Known (Closes b) = Unit {0}
Known Dots = Unit {0}

-- a choice by `cond`
cond_all : {A : Type 0} (P : A → Type 0) (b : Bool) {x y : A} → P x → P y → P (cond b x y)
cond_all P true p q = p
cond_all P false p q = q

sort_known : (k d : ℕ) → Known (sort_of k d)
unfolding sort_of
sort_known k d =
    cond_all Known (eqb k kind.OpenParen) tt (cond_all Known (eqb k kind.CloseParen) tt (cond_all Known (leb k kind.UnquoteSpliceSyntax) tt
    (cond_all Known (leb k kind.Require) tt (cond_all Known (eqb k kind.CharacterLiteral) tt (cond_all Known (eqb k kind.DatumComment) tt
    (cond_all Known (eqb k kind.Comment) tt (cond_all Known (eqb k kind.BooleanLiteral) tt (cond_all Known (leb k kind.Keyword) tt
    (cond_all Known (eqb k kind.Number) tt (cond_all Known (eqb k kind.StringLiteral) tt tt))))))))))

pub sorted_known : (k d : ℕ) → Sorted k d → Known (class_of k d)
unfolding class_of
sorted_known k d h = rw (le-leb k kind.Dot h.0, h.1) (sort_known k d)

-- ---- the numbers

-- what a record may be refused for, and the end
abbrev pub AtRecord : ℕ → Type 0
AtRecord n = (41 ≤ n) × (n ≤ 44)

abbrev pub AtEnd : ℕ → Type 0
AtEnd n = (n ≡ 40) ⊎ ((n ≡ 42) ⊎ (n ≡ 43))

-- nothing, or such a refusal
abbrev Number : ℕ → Type 0
Number n = (n ≡ 0) ⊎ AtRecord n

deep_number : (d : ℕ) → Number (deep d)
deep_number d = cond_all Number (ltb d deepest) (inl refl) (inr (omega arith, omega arith))

tailed_number : (f : Frame) → Number (tailed f)
tailed_number Plan = inl refl
tailed_number Quoting = inl refl
tailed_number Dropping = inl refl
tailed_number (Fresh s) = inl refl
tailed_number (Holds s) = inl refl
tailed_number (Dotted s) = inl refl
tailed_number (Tailed s) = inr (omega arith, omega arith)

starting_number : (f : Frame) (d : ℕ) → Number (starting f d)
starting_number f d = cond_all Number (eqb (tailed f) 0) (deep_number d) (tailed_number f)

closing_number : (b : ℕ) (f : Frame) → Number (closing b f)
closing_number b Plan = inr (omega arith, omega arith)
closing_number b Quoting = inr (omega arith, omega arith)
closing_number b Dropping = inr (omega arith, omega arith)
closing_number b (Fresh s) = cond_all Number (eqb b (closer s)) (inl refl) (inr (omega arith, omega arith))
closing_number b (Holds s) = cond_all Number (eqb b (closer s)) (inl refl) (inr (omega arith, omega arith))
closing_number b (Dotted s) = inr (omega arith, omega arith)
closing_number b (Tailed s) = cond_all Number (eqb b (closer s)) (inl refl) (inr (omega arith, omega arith))

dotting_number : (f : Frame) → Number (dotting f)
dotting_number Plan = inr (omega arith, omega arith)
dotting_number Quoting = inr (omega arith, omega arith)
dotting_number Dropping = inr (omega arith, omega arith)
dotting_number (Fresh s) = inr (omega arith, omega arith)
dotting_number (Holds s) = cond_all Number (is_list s) (inl refl) (inr (omega arith, omega arith))
dotting_number (Dotted s) = inr (omega arith, omega arith)
dotting_number (Tailed s) = inr (omega arith, omega arith)

wrong_number_lem : (c : Class) (f : Frame) (d : ℕ) → Known c → Number (wrong c f d)
wrong_number_lem Alien f d k = absurd k
wrong_number_lem Fails f d k = absurd k
wrong_number_lem Passes f d k = inl refl
wrong_number_lem Drops f d k = deep_number d
wrong_number_lem Marks f d k = starting_number f d
wrong_number_lem (Simple x) f d k = tailed_number f
wrong_number_lem (Opens s) f d k = starting_number f d
wrong_number_lem (Closes b) f d k = closing_number b f
wrong_number_lem Dots f d k = dotting_number f

ending_number : (f : Frame) → (ending f ≡ 0) ⊎ AtEnd (ending f)
ending_number Plan = inl refl
ending_number Quoting = inr (inr (inr refl))
ending_number Dropping = inr (inr (inr refl))
ending_number (Fresh s) = inr (inl refl)
ending_number (Holds s) = inr (inl refl)
ending_number (Dotted s) = inr (inr (inl refl))
ending_number (Tailed s) = inr (inl refl)

-- ---- a reading that stops

-- at a record before e, or at the end e
abbrev pub Stop : ℕ → ℕ → ℕ → Type 0
Stop e n p = ((p < e) × AtRecord n) ⊎ ((p ≡ e) × AtEnd n)

-- an item at a place before e, of a known class
abbrev KnownItem : ℕ → Item → Type 0
KnownItem e (item p c) = (p < e) × Known c

no_number : {n p m q : ℕ} → No n p ≡ No m q → (n ≡ m) × (p ≡ q)
no_number e = (cc, cc)

stops_at : (xs : List Item) (e : ℕ) (st : Levels) (n p : ℕ) → Every (KnownItem e) xs → read_on xs e st ≡ No n p → Stop e n p
unfolding read_on
stops_at [] e (state (level f i ns) ls) n p k h = by_bool (eqb (ending f) 0)
    (λ b. let z : Nodes ns ≡ No n p = rw b at h in impossible cc)
    (λ b. let z : No (ending f) e ≡ No n p = rw b at h in
    let q = no_number z in
    ⊎_elim (λ w. let y : eqb (ending f) 0 ≡ true = rw w in no_both b y) (λ w. inr (sym q.1, subst AtEnd q.0 w)) (ending_number f))
  where
    no_both : {P : Type 0} {b : Bool} → b ≡ false → b ≡ true → P
    no_both {P} {b} x y = let z : false ≡ true = sym x ∙ y in impossible cc
stops_at (item q c ∷ xs) e (state (level f i ns) ls) n p k h = by_bool (eqb (wrong c f (length ls)) 0)
    (λ b. stops_at xs e (after c q f i ns ls) n p k.1 (rw b at h))
    (λ b. let z : No (wrong c f (length ls)) q ≡ No n p = rw b at h in
    let r = no_number z in
    ⊎_elim (λ w. let y : eqb (wrong c f (length ls)) 0 ≡ true = rw w in no_both b y)
    (λ w. inl (omega (arith, k.0.0, r.1), subst AtRecord r.0 w)) (wrong_number_lem c f (length ls) k.0.1))
  where
    no_both : {P : Type 0} {b : Bool} → b ≡ false → b ≡ true → P
    no_both {P} {b} x y = let z : false ≡ true = sym x ∙ y in impossible cc

items_known : (s : List ℕ) (e n p : ℕ) → p + n ≤ e → ((q : ℕ) → q < e → Known (class_at s q)) → Every (KnownItem e) (items_from n p s)
unfolding items_from
items_known s e zero p h k = tt
items_known s e (suc n) p h k = ((omega arith, k p (omega arith)), items_known s e n (p + 1) (omega arith) k)

pub stop_of : (s : List ℕ) (st : Levels) (n p : ℕ) → ((q : ℕ) → q < count_of s → Known (class_at s q)) → read_on (items_of s) (count_of s) st ≡ No n p → Stop (count_of s) n p
stop_of s st n p k h = stops_at (items_of s) (count_of s) st n p (items_known s (count_of s) (count_of s - 0) 0 (omega arith) k) h

-- ---- the classes are all that the reading asks for

pub same_items : (s t : List ℕ) (n p : ℕ) → ((q : ℕ) → q < p + n → class_at s q ≡ class_at t q) → items_from n p s ≡ items_from n p t
unfolding items_from
same_items s t zero p h = refl
same_items s t (suc n) p h =
    ap (λ (c : Class). item p c ∷ items_from n (p + 1) s) (h p (omega arith))
    ∙ ap (λ (l : List Item). item p (class_at t p) ∷ l) (same_items s t n (p + 1) (λ q l. h q (omega arith)))
