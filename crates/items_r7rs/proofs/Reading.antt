-- From what a reader gives to the items of a text.
use Prim.Native.Nat.{ℕ, zero, suc, ◌+◌, ◌≤◌}
use mathlib.Core.Path.{◌≡◌, refl, ap, ◌∙◌}
use mathlib.Core.Bool.{Bool, false}
use mathlib.Core.List.{List, [], ◌∷◌, ◌++◌, append_assoc, append-nil}
use lib.ListN.{length, length-append}
use lib.Dec.{eqb, leb}
use native.Mathlib.Nat.{add_assoc, add-zero, le_refl, le_of_suc-le-suc}
use native.Mathlib.Omega.{arith}
use borrow.Author.Tests.{eqb-true}
use Rattle.laws.specs.Quoted.{codes, code}
use Rattle.laws.specs.Texts.{begins}
use Rattle.laws.proofs.Choice.{by_bool}
use Rattle.chars.specs.Blank.{is_blank}
use Rattle.chars.specs.Encode.{utf8, width, bytes_of}
use Rattle.items.specs.declared.Outcome.{Outcome}
use Rattle.items.specs.declared.Outcome.TheVariants.{Token}
use Rattle.items.specs.Items.{Item, Place, unset, range_after, extent_items, items_from, after_pound, items, byte_count}
use Rattle.items.specs.Meaning.{one, meaning_of, Text, none}
use Rattle.items.specs.Readers.{so_far, eat, got, read_item, SoFar}
use Rattle.items.specs.Kinds as kind
use Rattle.items_r7rs.specs.Reading.{item, nothing, ReadAs, Reads, ends, blank, reads}

-- the item with some characters more
abbrev pub eats : SoFar → List ℕ → SoFar
eats i [] = i
eats i (c ∷ t) = eats (eat i c) t

pub eats_all : (i : SoFar) (t : List ℕ) → eats i t ≡ so_far (i.bytes ++ bytes_of t) (i.at + byte_count t)
unfolding bytes_of
eats_all i [] = rw (append-nil i.bytes, add-zero i.at)
eats_all i (c ∷ t) = eats_all (eat i c) t ∙ rw (append_assoc i.bytes (utf8 c) (bytes_of t), add_assoc i.at (width c) (byte_count t))

pub eats_append : (i : SoFar) (t u : List ℕ) → eats i (t ++ u) ≡ eats (eats i t) u
eats_append i [] u = refl
eats_append i (c ∷ t) u = eats_append (eat i c) t u

-- the item that some characters are, from the place `at` on
abbrev pub whole : ℕ → List ℕ → SoFar
whole at t = so_far (bytes_of t) (at + byte_count t)

pub eats-whole : (at : ℕ) (t : List ℕ) → eats (so_far [] at) t ≡ whole at t
eats-whole at t = eats_all (so_far [] at) t

pub got-whole : (o : Outcome) (at : ℕ) (t cs : List ℕ) → got o (eats (so_far [] at) t) cs ≡ got o (whole at t) cs
got-whole o at t cs = rw (eats-whole at t)

-- a reader that takes t and leaves cs, with an outcome that means one item, reads t as that item
module _ (report : Bool) (c : ℕ) (t cs : List ℕ) (o : Outcome) (k d : ℕ) (text : ℕ → Text) where
  pub read_one : is_blank c ≡ false → leb kind.first_error k ≡ false
      → ((at : ℕ) → read_item report at c (t ++ cs) ≡ got o (whole at (c ∷ t)) cs)
      → ((last : Place) (at : ℕ) → range_after report last at o (whole at (c ∷ t)) ≡ last)
      → ((at : ℕ) → meaning_of report o at (at + byte_count (c ∷ t)) (bytes_of (c ∷ t)) ≡ one k d (text at))
      → (turns at : ℕ) (last : Place)
      → items_from report (suc turns) last at (c ∷ t ++ cs)
      ≡ item k d at (at + byte_count (c ∷ t)) (text at) ∷ items_from report turns last (at + byte_count (c ∷ t)) cs
  unfolding items_from extent_items
  read_one nonblank good took keeps meant turns at last = rw (nonblank, items_from) (rw (took at) (rw (keeps last at, meant at) (rw good)))

-- an outcome that says kind and detail itself
pub read_token : (report : Bool) (c : ℕ) (t cs : List ℕ) (k d : ℕ) → is_blank c ≡ false → leb kind.first_error k ≡ false
    → ((at : ℕ) → read_item report at c (t ++ cs) ≡ got (Token k d) (whole at (c ∷ t)) cs)
    → ReadAs report (c ∷ t) cs k d nothing
read_token report c t cs k d nonblank good took =
    record { text = λ at. none; one = read_one report c t cs (Token k d) k d (λ at. none) nonblank good took (λ last at. refl) (λ at. refl); spells = λ at. refl }

-- ---- a whole text

nothing_left : (report : Bool) (turns at : ℕ) (last : Place) → items_from report turns last at [] ≡ []
unfolding items_from
nothing_left report zero at last = refl
nothing_left report (suc turns) at last = refl

-- each turn takes a blank or an item, so there are turns enough
pub turns_on : (report : Bool) (turns : ℕ) (last : Place) {at : ℕ} {cs : List ℕ} {is : List Item} → Reads report at cs is → length cs ≤ turns
    → items_from report turns last at cs ≡ is
unfolding items_from
turns_on report turns last (ends {at = at}) h = nothing_left report turns at last
turns_on report zero last (blank e r) h = absurd (omega arith)
turns_on report (suc turns) last (blank {cs = cs} e r) h = rw (e, items_from) (turns_on report turns last r (le_of_suc-le-suc h))
turns_on report zero last (reads t cs r rs) h = absurd (omega arith)
turns_on report (suc turns) last (reads {at = at} {c = c} {k = k} {d = d} t cs r rs) h =
    let shorter : length cs ≤ turns = omega (arith, length-append t cs) in
    r.one turns at last ∙ ap (λ is. item k d at (at + byte_count (c ∷ t)) (r.text at) ∷ is) (turns_on report turns last rs shorter)

-- the items of a text that is so made, but for one whose first line starts with `#!`
pub text_items : (report : Bool) (cs : List ℕ) {is : List Item} → begins (codes "#!") cs ≡ false → Reads report 0 cs is → items report cs ≡ is
unfolding items after_pound begins items_from
text_items report [] h r = turns_on report 0 unset r (omega arith)
text_items report (c ∷ []) h r =
    by_bool (eqb c (code "#"))
    (λ e. rw (e, items) (rw (← eqb-true c (code "#") e) (turns_on report _ unset r (le_refl _))))
    (λ e. rw (e, items) (turns_on report _ unset r (le_refl _)))
text_items report (c ∷ x ∷ cs) h r =
    by_bool (eqb c (code "#"))
    (λ e. by_bool (eqb x (code "!"))
    (λ f. let g = rw (eqb-true c (code "#") e, eqb-true x (code "!") f) at h in cc)
    (λ f. rw (e, items) (rw (f, after_pound) (rw (← eqb-true c (code "#") e) (turns_on report _ unset r (le_refl _))))))
    (λ e. rw (e, items) (turns_on report _ unset r (le_refl _)))
