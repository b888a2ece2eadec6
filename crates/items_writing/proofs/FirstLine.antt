-- A text whose first line is passed over begins with `#!`.
use Prim.Native.Nat.{ℕ}
use mathlib.Core.Path.{◌≡◌, refl, sym, ◌∙◌}
use mathlib.Core.Bool.{Bool, true, false}
use mathlib.Core.List.{List, [], ◌∷◌, ◌++◌}
use lib.Dec.{eqb, ltb}
use borrow.Author.Tests.{eqb-true, eqb-false, ne_eqb}
use Rattle.laws.proofs.Choice.{by_bool, and_no, no_yes}
use Rattle.laws.specs.Quoted.{code, codes}
use Rattle.laws.specs.Texts.{begins}
use Rattle.chars.specs.Encode.{bytes_of}
use Rattle.items.specs.Readers.{first_is}
use Rattle.items.specs.Items.{items, items_at, items_from, after_pound}
use Rattle.items_r7rs.proofs.Bytes.{first_differs}
use Rattle.items_writing.specs.Written.{gap}

differ : (a b : ℕ) → eqb a b ≡ false → eqb b a ≡ false
differ a b e = ne_eqb b a (λ q. eqb-false a b e (sym q))

pub other_start : (c : ℕ) (cs : List ℕ) → eqb c (code "#") ≡ false → begins (codes "#!") (c ∷ cs) ≡ false
unfolding begins
other_start c cs e = rw (differ c (code "#") e)

pub other_next : (c x : ℕ) (cs : List ℕ) → eqb x (code "!") ≡ false → begins (codes "#!") (c ∷ x ∷ cs) ≡ false
unfolding begins
other_next c x cs e = rw (differ x (code "!") e) (and_no (eqb (code "#") c))

pub lone_start : (c : ℕ) → begins (codes "#!") (c ∷ []) ≡ false
unfolding begins
lone_start c = and_no (eqb (code "#") c)

-- what follows a text makes it none
pub line_gap : (c : ℕ) (t : List ℕ) (last : Bool) → begins (codes "#!") (c ∷ t) ≡ false → begins (codes "#!") (c ∷ t ++ gap last) ≡ false
unfolding begins
line_gap c [] true h = h
line_gap c [] false h = and_no (eqb (code "#") c)
line_gap c (x ∷ t) last h = h

-- a text whose first byte is an ASCII character starts with it
pub first_is_lem : (b c : ℕ) (t : List ℕ) → ltb b 0x80 ≡ true → first_is b (bytes_of (c ∷ t)) ≡ true → c ≡ b
first_is_lem b c t l h = by_bool (eqb c b)
    (λ e. eqb-true c b e)
    (λ e. no_yes (sym (first_differs b c t l e) ∙ h))

-- a text that begins with no `#!` is read from its start on
pub from_start : (cs : List ℕ) → begins (codes "#!") cs ≡ false → items true cs ≡ items_at true 0 cs
unfolding items after_pound begins items_from
from_start [] h = refl
from_start (c ∷ []) h = by_bool (eqb c (code "#"))
    (λ e. rw (e, items) (rw (eqb-true c (code "#") e)))
    (λ e. rw (e, items))
from_start (c ∷ x ∷ cs) h = by_bool (eqb c (code "#"))
    (λ e. by_bool (eqb x (code "!"))
    (λ f. no_yes (sym (rw (eqb-true c (code "#") e, eqb-true x (code "!") f) at h)))
    (λ f. rw (e, items) (rw (f, after_pound) (rw (eqb-true c (code "#") e)))))
    (λ e. rw (e, items))
