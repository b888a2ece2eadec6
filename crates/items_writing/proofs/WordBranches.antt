-- What each branch of the test of a word says.
use Rattle.std.proofs.Common.{None, Option, Some}
use Prim.Native.Nat.{ℕ, ◌+◌, ◌-◌, ◌≤◌}
use mathlib.Core.Path.{◌≡◌, refl, sym, ap, subst, ◌∙◌}
use mathlib.Core.Bool.{Bool, true, false, ◌&&◌}
use mathlib.Core.List.{List, [], ◌∷◌}
use lib.ListN.{take, drop}
use lib.Dec.{eqb}
use native.Mathlib.Omega.{arith}
use Rattle.laws.specs.Quoted.{code, codes}
use Rattle.laws.specs.Texts.{begins}
use Rattle.laws.proofs.Choice.{by_bool, and_true, no_yes}
use borrow.Author.Tests.{eq-eqb, eqb-true}
use Rattle.chars.specs.Blank.{is_blank}
use Rattle.chars.specs.Encode.{utf8, width, bytes_of}
use Rattle.chars.specs.Utf8.{chars, first_bad}
use Rattle.chars.proofs.Chars.{CharAt}
use Rattle.chars.proofs.Good.{good_bytes_lem, good_scalars}
use Rattle.items.specs.declared.Outcome.{Outcome}
use Rattle.items.specs.declared.Phase.{Phase}
use Rattle.items.specs.Classes.{first_of, First, semicolon, quote, comma, hash, number, single, vertical, backslash, wordy}
use Rattle.items.specs.Machine.{on_first, depth_of}
use Rattle.items.specs.Readers.{so_far, eat, first_is}
use Rattle.items_writing.specs.Written.{bare}
use Rattle.items_writing.specs.Decide.{stand_from, stands_as, is_name, decide}
use Rattle.items_r7rs.proofs.Bytes.{bytes_ascii}
use Rattle.items_writing.proofs.FirstLine.{first_is_lem}
use Rattle.items_writing.proofs.WordTable.{line_chars}
use Rattle.items_writing.proofs.BareDecided.{bare_decided}

-- `#!` is seen in the bytes and in the characters alike
begins_first : (x : ℕ) (p l : List ℕ) → begins (x ∷ p) l ≡ true → (first_is x l ≡ true) × (begins p (drop 1 l) ≡ true)
unfolding begins
begins_first x p [] h = no_yes h
begins_first x p (y ∷ l) h = let k = and_true (eqb x y) (begins p l) h in (eq-eqb y x (sym (eqb-true x y k.0)), k.1)

mark_there : (t : List ℕ) → begins (codes "!") (bytes_of t) ≡ true → begins (codes "!") t ≡ true
unfolding begins bytes_of
mark_there [] h = h
mark_there (d ∷ u) h = let e : d ≡ code "!" = first_is_lem (code "!") d u refl (begins_first (code "!") [] (bytes_of (d ∷ u)) h).0 in rw e

line_in : (c : ℕ) (t : List ℕ) → begins (codes "#!") (bytes_of (c ∷ t)) ≡ true → begins (codes "#!") (c ∷ t) ≡ true
unfolding begins
line_in c t h =
    let k = begins_first (code "#") (codes "!") (bytes_of (c ∷ t)) h in
    let e : c ≡ code "#" = first_is_lem (code "#") c t refl k.0 in
    let r : bytes_of (c ∷ t) ≡ code "#" ∷ bytes_of t = ap (λ (x : ℕ). bytes_of (x ∷ t)) e ∙ bytes_ascii (code "#") t refl in
    rw e (mark_there t (rw r at k.1))

module _ (s : List ℕ) (good : first_bad s ≡ None) (first last : Bool) where
  by_chars : bare first last s ≡ decide first last (chars s)
  by_chars = subst (λ (x : List ℕ). bare first last x ≡ decide first last (chars s)) (good_bytes_lem s good) (bare_decided first last (chars s) (good_scalars s good))

  pub bare_none : chars s ≡ [] → false ≡ bare first last s
  unfolding decide
  bare_none e = sym (by_chars ∙ rw e)

  module _ (c next : ℕ) (k : CharAt s 0 c next) where
    spelled_so : bytes_of (c ∷ chars (drop next s)) ≡ s
    spelled_so = ap bytes_of (sym k.first) ∙ good_bytes_lem s good

    pub bare_blank : is_blank c ≡ true → false ≡ bare first last s
    unfolding decide
    bare_blank b = sym (by_chars ∙ rw k.first (rw b))

    line_there : begins (codes "#!") s ≡ true → begins (codes "#!") (c ∷ chars (drop next s)) ≡ true
    line_there h = line_in c (chars (drop next s)) (rw spelled_so h)

    line_not : begins (codes "#!") s ≡ false → begins (codes "#!") (c ∷ chars (drop next s)) ≡ false
    line_not h = line_chars (c ∷ chars (drop next s)) (rw spelled_so h)

    line_same : begins (codes "#!") (c ∷ chars (drop next s)) ≡ begins (codes "#!") s
    line_same = by_bool (begins (codes "#!") s) (λ h. line_there h ∙ sym h) (λ h. line_not h ∙ sym h)

    pub bare_line : is_blank c ≡ false → (first && begins (codes "#!") s) ≡ true → false ≡ bare first last s
    unfolding decide
    bare_line b f =
        let g : (first && begins (codes "#!") (c ∷ chars (drop next s))) ≡ true = rw line_same f in
        sym (by_chars ∙ rw k.first (rw (b, g)))

    -- neither: the machine says
    abbrev its_stand : Option Outcome
    its_stand = stand_from last (on_first (first_of c)) (so_far (take next s) next) (chars (drop next s))

    starts_so : so_far (take next s) next ≡ eat (so_far [] 0) c
    starts_so =
        let z : next - 0 ≡ next = omega arith in
        let b : take next s ≡ utf8 c = subst (λ (n : ℕ). take n s ≡ utf8 c) z k.bytes in
        let w : next ≡ 0 + width c = k.on in
        λ i. so_far (b i) (w i)

    pub bare_stands : is_blank c ≡ false → (first && begins (codes "#!") s) ≡ false → {r : Bool} → r ≡ stands_as its_stand s → r ≡ bare first last s
    unfolding decide
    bare_stands b f {r} e =
        let g : (first && begins (codes "#!") (c ∷ chars (drop next s))) ≡ false = rw line_same f in
        e ∙ sym (by_chars ∙ rw k.first (rw (b, g) (rw (← starts_so, spelled_so))))

    -- what the loop said, and the answer that goes with it
    pub bare_ends : {p : Phase} {w : Option Outcome} {o : Outcome} {r : Bool} → is_blank c ≡ false → (first && begins (codes "#!") s) ≡ false
        → p ≡ on_first (first_of c) → w ≡ stand_from last p (so_far (take next s) next) (chars (drop next s)) → w ≡ Some o → r ≡ is_name o s → r ≡ bare first last s
    bare_ends {p} {w} {o} {r} b f q e g h =
        bare_stands b f (h ∙ (ap (λ (x : Option Outcome). stands_as x s)
        (sym g ∙ (e ∙ ap (λ (x : Phase). stand_from last x (so_far (take next s) next) (chars (drop next s))) q))))

    pub bare_apart : {p : Phase} {w : Option Outcome} → is_blank c ≡ false → (first && begins (codes "#!") s) ≡ false
        → p ≡ on_first (first_of c) → w ≡ stand_from last p (so_far (take next s) next) (chars (drop next s)) → w ≡ None → false ≡ bare first last s
    bare_apart {p} {w} b f q e g = bare_stands b f (ap (λ (x : Option Outcome). stands_as x s) (sym g ∙ (e ∙ ap (λ (x : Phase). stand_from last x (so_far (take next s) next) (chars (drop next s))) q)))

-- an item's first phase is in no nested comment
pub first_flat : (c : ℕ) (n : ℕ) {p : Phase} → p ≡ on_first (first_of c) → depth_of p ≤ n
first_flat c n {p} e = subst (λ (q : Phase). depth_of q ≤ n) (sym e) (flat_first (first_of c))
  where
    flat_first : (f : First) → depth_of (on_first f) ≤ n
    flat_first semicolon = omega arith
    flat_first quote = omega arith
    flat_first comma = omega arith
    flat_first hash = omega arith
    flat_first number = omega arith
    flat_first (single k d) = omega arith
    flat_first vertical = omega arith
    flat_first backslash = omega arith
    flat_first wordy = omega arith
