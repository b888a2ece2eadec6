-- Error 13 exactly where 10 would stand and a delimiter stands after the name's first character.
use Rattle.std.proofs.Common.{Ok, Err, Result}
use Prim.Native.Nat.{ℕ, zero, suc, ◌-◌, ◌<◌}
use mathlib.Core.Path.{◌≡◌, refl, sym, ap, subst}
use mathlib.Core.Bool.{Bool, true, false, ◌&&◌, ◌||◌}
use mathlib.Core.List.{List, [], ◌∷◌, map}
use lib.ListN.{length, get_or, take, drop}
use lib.Dec.{eqb, ltb}
use native.Mathlib.Omega.{arith}
use borrow.Author.Tests.{lt-ltb, ltb-true, ltb-false}
use Rattle.laws.specs.Quoted.{code}
use Rattle.laws.specs.Texts.{span}
use Rattle.laws.proofs.Choice.{by_bool, if_all, impossible}
use Rattle.chars.specs.Encode.{is_scalar}
use Rattle.chars.specs.Utf8.{front, Front}
use Rattle.chars.specs.Utf8 as Utf8
use Rattle.digits.specs.Hex.{hex_value, Hex}
use Rattle.items.specs.Kinds as kind
use Rattle.items.specs.declared.CharError.{CharError}
use Rattle.items.specs.declared.CharError.TheVariants.{Wrong, WrongAt}
use Rattle.items.specs.Meaning.{lookup, lower, char_names, unnamed, is_delimiter, before_delimiter, nameless, only_one, later, hex_named, spelled_out, character_of}
use Rattle.items.specs.Readers.{first_is, last_is, scalar_of}
use Rattle.items_errors.specs.Delimited.{Delimited, Undelimited, Ten, Thirteen}

-- ---- the first delimiter

before_none : (l : List ℕ) (j : ℕ) → j < before_delimiter l → is_delimiter (get_or l j 0) ≡ false
unfolding span
before_none [] j h = absurd (omega arith)
before_none (c ∷ l) j h = by_bool (is_delimiter c)
    (λ e. absurd (let g : j < 0 = rw (e, span) at h in omega arith))
    (λ e. go (λ k g. before_none l k g) j (rw (e, span) at h) e)
  where
    go : ((k : ℕ) → k < before_delimiter l → is_delimiter (get_or l k 0) ≡ false) → (j : ℕ) → j < suc (before_delimiter l) → is_delimiter c ≡ false
        → is_delimiter (get_or (c ∷ l) j 0) ≡ false
    go on zero g e = e
    go on (suc j) g e = on j (omega arith)

there_one : (l : List ℕ) → before_delimiter l < length l → is_delimiter (get_or l (before_delimiter l) 0) ≡ true
unfolding span
there_one [] h = absurd (omega arith)
there_one (c ∷ l) h = by_bool (is_delimiter c)
    (λ e. rw (e, span) e)
    (λ e. rw (e, span) (there_one l (let g = rw (e, span) at h in omega arith)))

first_is_lem : (l : List ℕ) (n : ℕ) → n < length l → is_delimiter (get_or l n 0) ≡ true → ((j : ℕ) → j < n → is_delimiter (get_or l j 0) ≡ false) → before_delimiter l ≡ n
unfolding span
first_is_lem [] n h e f = absurd (omega arith)
first_is_lem (c ∷ l) zero h e f = rw (e, span)
first_is_lem (c ∷ l) (suc n) h e f =
    let g : is_delimiter c ≡ false = f 0 (omega arith) in
    rw (g, span) (ap suc (first_is_lem l n (omega arith) e (λ j k. f (suc j) (omega arith))))

-- the first after the first byte, if there is one
found : (t : List ℕ) (p : ℕ) → p ≡ suc (before_delimiter (drop 1 t)) → p < length t → Delimited t p
found [] p e h = absurd (omega arith)
found (c ∷ l) p e h =
    let small : before_delimiter l < length l = omega arith in
    record {
      after = omega arith;
      inside = h;
      one = rw e (there_one l small);
      first = λ j a b. go j a (omega arith);
    }
  where
    go : (j : ℕ) → 0 < j → j < suc (before_delimiter l) → is_delimiter (get_or (c ∷ l) j 0) ≡ false
    go zero a b = absurd (omega arith)
    go (suc j) a b = before_none l j (omega arith)

place_is : (t : List ℕ) (p : ℕ) → Delimited t p → suc (before_delimiter (drop 1 t)) ≡ p
place_is [] p d = absurd (omega (arith, d.inside))
place_is (c ∷ l) zero d = absurd (omega (arith, d.after))
place_is (c ∷ l) (suc n) d = ap suc (first_is_lem l n (omega (arith, d.inside)) d.one (λ j h. d.first (suc j) (omega arith) (omega arith)))

-- ---- the two modes part only on a name that is none

-- neither 10 nor 13
abbrev Apart : Result ℕ CharError → Type 0
Apart (Ok c) = Unit {0}
Apart (Err (Wrong n d)) = (n ≡ kind.InvalidCharName → ⊥)
Apart (Err (WrongAt n d p)) = (n ≡ kind.InvalidCharDelimiter → ⊥)

data Modes (t : List ℕ) : Result ℕ CharError → Result ℕ CharError → Type 0 where
  same : (v : Result ℕ CharError) → Apart v → Modes t v v
  none : Modes t (nameless true t) (nameless false t)

apart_hex : (n : ℕ) (h : Hex) → Apart (later n (scalar_of h))
unfolding scalar_of
apart_hex n (Ok v) = if_all (λ (c : Result ℕ CharError). Apart (later n c)) (is_scalar v) tt (λ e. omega arith)
apart_hex n (Err w) = λ e. omega arith

apart_named : (t : List ℕ) → Apart (hex_named t)
unfolding hex_named
apart_named t =
    if_all Apart (first_is (code "u") t && eqb (get_or t 1 0) (code "{"))
    (if_all Apart (last_is (code "}") t) (apart_hex 2 (hex_value (take (length t - 3) (drop 2 t)))) (λ e. omega arith))
    (apart_hex 1 (hex_value (drop 1 t)))

only_modes : (f : Front) (t : List ℕ) → Modes t (only_one true f t) (only_one false f t)
only_modes (Utf8.char c n) t = by_bool (eqb n (length t)) (λ e. rw e (Modes.same (Ok c) tt)) (λ e. rw e Modes.none)
only_modes (Utf8.bad n) t = Modes.none
only_modes Utf8.cut t = Modes.none
only_modes Utf8.none t = Modes.none

modes : (t : List ℕ) → Modes t (character_of true t) (character_of false t)
unfolding character_of spelled_out
modes t = by_bool (eqb (lookup char_names (map lower t) unnamed) unnamed)
    (λ e. rw e (by_bool ((first_is (code "u") t || first_is (code "x") t) && ltb 1 (length t))
    (λ f. rw f (Modes.same (hex_named t) (apart_named t)))
    (λ f. rw f (only_modes (front t) t))))
    (λ e. rw e (Modes.same (Ok (lookup char_names (map lower t) unnamed)) tt))

-- ---- the theorem, each way

thirteen_from : (t : List ℕ) (p : ℕ) → Delimited t p → {v w : Result ℕ CharError} → Modes t v w → w ≡ Err (Wrong kind.InvalidCharName 0)
    → v ≡ Err (WrongAt kind.InvalidCharDelimiter 0 p)
unfolding nameless
thirteen_from t p d (Modes.same v a) e = absurd (subst Apart e a refl)
thirteen_from t p d Modes.none e = let n = place_is t p d in rw (n, lt-ltb p (length t) d.inside)

pub thirteen_if : (t : List ℕ) (p : ℕ) → Ten t → Delimited t p → Thirteen t p
thirteen_if t p ten d = thirteen_from t p d (modes t) ten

delimited_from : (t : List ℕ) (d p : ℕ) {v w : Result ℕ CharError} → Modes t v w → v ≡ Err (WrongAt kind.InvalidCharDelimiter d p)
    → (w ≡ Err (Wrong kind.InvalidCharName 0)) × Delimited t p
unfolding nameless
delimited_from t d p (Modes.same v a) e = absurd (subst Apart e a refl)
delimited_from t d p Modes.none e =
    let n : ℕ = suc (before_delimiter (drop 1 t)) in
    by_bool (ltb n (length t))
    (λ f. let g : Err (WrongAt kind.InvalidCharDelimiter 0 n) ≡ Err (WrongAt kind.InvalidCharDelimiter d p) = rw f at e in
    let z : n ≡ p = cc in
    (refl, found t p (sym z) (rw z at (ltb-true n (length t) f))))
    (λ f. let g : Err (Wrong kind.InvalidCharName 0) ≡ Err (WrongAt kind.InvalidCharDelimiter d p) = rw f at e in
    impossible cc)

-- with any detail
pub delimited_there : (t : List ℕ) (d p : ℕ) → character_of true t ≡ Err (WrongAt kind.InvalidCharDelimiter d p) → Delimited t p
delimited_there t d p e = (delimited_from t d p (modes t) e).1

pub thirteen_only : (t : List ℕ) (p : ℕ) → Thirteen t p → Ten t × Delimited t p
thirteen_only t p e = delimited_from t 0 p (modes t) e

-- ---- error 10 in report mode: no delimiter

none_after : (t : List ℕ) → ltb (suc (before_delimiter (drop 1 t))) (length t) ≡ false → Undelimited t
none_after [] e j a b = absurd (omega arith)
none_after (c ∷ l) e zero a b = absurd (omega arith)
none_after (c ∷ l) e (suc j) a b = before_none l j (omega (arith, ltb-false (suc (before_delimiter l)) (length (c ∷ l)) e))

undelimited_from : (t : List ℕ) (d : ℕ) {v w : Result ℕ CharError} → Modes t v w → v ≡ Err (Wrong kind.InvalidCharName d) → Undelimited t
unfolding nameless
undelimited_from t d (Modes.same v a) e = absurd (subst Apart e a refl)
undelimited_from t d Modes.none e =
    let n : ℕ = suc (before_delimiter (drop 1 t)) in
    by_bool (ltb n (length t))
    (λ f. let g : Err (WrongAt kind.InvalidCharDelimiter 0 n) ≡ Err (Wrong kind.InvalidCharName d) = rw f at e in
    impossible cc)
    (λ f. none_after t f)

pub undelimited_there : (t : List ℕ) (d : ℕ) → character_of true t ≡ Err (Wrong kind.InvalidCharName d) → Undelimited t
undelimited_there t d e = undelimited_from t d (modes t) e

-- only a hex form or a name sets a place within the name; only 12, 9 and 10 none
abbrev pub Numbers : Result ℕ CharError → Type 0
Numbers (Ok c) = Unit {0}
Numbers (Err (Wrong n d)) = (n ≡ kind.InvalidCharDelimiter → ⊥)
Numbers (Err (WrongAt n d p)) = (n ≡ kind.InvalidCharName → ⊥)

numbers_hex : (n : ℕ) (h : Hex) → Numbers (later n (scalar_of h))
unfolding scalar_of
numbers_hex n (Ok v) = if_all (λ (c : Result ℕ CharError). Numbers (later n c)) (is_scalar v) tt (λ e. omega arith)
numbers_hex n (Err w) = λ e. omega arith

numbers_nameless : (report : Bool) (t : List ℕ) → Numbers (nameless report t)
unfolding nameless
numbers_nameless report t = if_all Numbers (report && ltb (suc (before_delimiter (drop 1 t))) (length t)) (λ e. omega arith) (λ e. omega arith)

numbers_only : (report : Bool) (f : Front) (t : List ℕ) → Numbers (only_one report f t)
numbers_only report (Utf8.char c n) t = if_all Numbers (eqb n (length t)) tt (numbers_nameless report t)
numbers_only report (Utf8.bad n) t = numbers_nameless report t
numbers_only report Utf8.cut t = numbers_nameless report t
numbers_only report Utf8.none t = numbers_nameless report t

pub numbers : (report : Bool) (t : List ℕ) → Numbers (character_of report t)
unfolding character_of spelled_out hex_named
numbers report t =
    if_all Numbers (eqb (lookup char_names (map lower t) unnamed) unnamed)
    (if_all Numbers ((first_is (code "u") t || first_is (code "x") t) && ltb 1 (length t))
    (if_all Numbers (first_is (code "u") t && eqb (get_or t 1 0) (code "{"))
    (if_all Numbers (last_is (code "}") t) (numbers_hex 2 (hex_value (take (length t - 3) (drop 2 t)))) (λ e. omega arith))
    (numbers_hex 1 (hex_value (drop 1 t))))
    (numbers_only report (front t) t))
    tt

-- in plain mode no place within a name is told but of a hex form
pub plain_never : (t : List ℕ) (d p : ℕ) → character_of false t ≡ Err (WrongAt kind.InvalidCharDelimiter d p) → ⊥
unfolding nameless
plain_never t d p e = go (modes t) e
  where
    go : {v w : Result ℕ CharError} → Modes t v w → w ≡ Err (WrongAt kind.InvalidCharDelimiter d p) → ⊥
    go (Modes.same v a) e = subst Apart e a refl
    go Modes.none e = never e
      where
        never : nameless false t ≡ Err (WrongAt kind.InvalidCharDelimiter d p) → ⊥
        never e = impossible cc
