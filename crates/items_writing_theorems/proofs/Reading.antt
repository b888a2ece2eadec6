-- Reading a text from left to right: which shapes its items have.
use Rattle.std.proofs.Common.{Err}
use Prim.Native.Nat.{ℕ, zero, suc, ◌+◌, ◌≤◌}
use mathlib.Core.Path.{◌≡◌, refl, sym, ap, subst, ◌∙◌}
use mathlib.Core.Bool.{true}
use mathlib.Core.List.{List, [], ◌∷◌, ◌++◌, append_assoc}
use lib.ListN.{length, length-append}
use native.Mathlib.Omega.{arith}
use native.Mathlib.Nat.{le_refl, le_of_suc-le-suc}
use Rattle.laws.specs.Quoted.{code}
use Rattle.chars.specs.Blank.{is_blank}
use Rattle.chars.specs.Encode.{utf8, width, bytes_of}
use Rattle.chars.proofs.Bytes.{bytes_append}
use Rattle.chars.proofs.Width.{width-utf8}
use Rattle.numbers.specs.declared.ParseError.TheVariants.{NoNumber}
use Rattle.items.specs.Kinds as kind
use Rattle.items.specs.Items.{Place, unset, items_from, byte_count}
use Rattle.items.specs.Meaning.{Text, none, source, decoded}
use Rattle.items.proofs.Every.{every_any}
use Rattle.items.proofs.Meanings.{Inside}
use Rattle.items.proofs.Order.{from_laws}
use Rattle.items_r7rs.specs.Reading.{Spelling, bytes, spelling, item, ReadAs}
use Rattle.items.proofs.Splits.{length_bytes}
use Rattle.items_writing.specs.Written.{part}
use Rattle.items_writing.specs.Shapes.{Shape, shape, spells, number_of, shape_of, shapes}
use Rattle.items_writing.proofs.ReadsBack.{ReadTwo}
use Rattle.items_writing_theorems.proofs.Parts.{part_in, part_all}

-- the characters cs, wherever they stand, are read as items of these shapes
abbrev pub Reading : List ℕ → List Shape → Type 0
Reading cs ss = (pre : List ℕ) (turns : ℕ) (last : Place) → length cs ≤ turns → shapes (pre ++ bytes_of cs) (items_from true turns last (length pre) cs) ≡ ss

pub reading_none : Reading [] []
unfolding items_from
reading_none pre zero last h = refl
reading_none pre (suc turns) last h = refl

-- a text where a character more has been passed
passed : (pre : List ℕ) (c : ℕ) (cs : List ℕ) → (pre ++ utf8 c) ++ bytes_of cs ≡ pre ++ bytes_of (c ∷ cs)
unfolding bytes_of
passed pre c cs = append_assoc pre (utf8 c) (bytes_of cs)

pub reading_blank : (c : ℕ) (cs : List ℕ) {ss : List Shape} → is_blank c ≡ true → Reading cs ss → Reading (c ∷ cs) ss
unfolding items_from
reading_blank c cs b r pre zero last h = absurd (omega arith)
reading_blank c cs {ss} b r pre (suc turns) last h =
    let e : length (pre ++ utf8 c) ≡ length pre + width c = length-append pre (utf8 c) ∙ rw (width-utf8 c) in
    rw (b, items_from)
    (subst (λ (n : ℕ). shapes (pre ++ bytes_of (c ∷ cs)) (items_from true turns last n cs) ≡ ss) e
    (subst (λ (l : List ℕ). shapes l (items_from true turns last (length (pre ++ utf8 c)) cs) ≡ ss) (passed pre c cs)
    (r (pre ++ utf8 c) turns last (le_of_suc-le-suc h))))

-- ---- an item

-- an item's text lies in its extent
pub read_inside : {c k d : ℕ} {t cs : List ℕ} {w : Spelling} (r : ReadAs true (c ∷ t) cs k d w) (at : ℕ) → Inside at (at + byte_count (c ∷ t)) (r.text at)
read_inside {c} {k} {d} {t} {cs} r at =
    let n : ℕ = at + byte_count (c ∷ t ++ cs) in
    let l = (from_laws (λ (x : ℕ). Unit {0}) (λ x h. tt) true n 1 unset at (c ∷ t ++ cs) (omega arith, omega arith) (le_refl n)
    (every_any (λ (x : ℕ). Unit {0}) (λ x. tt) (c ∷ t ++ cs))).sorted.placed in
    (rw (r.one 0 at unset) at l).0.text

pub spells_in : (pre raw post : List ℕ) (x : Text) → Inside (length pre) (length pre + length raw) x → spells (pre ++ (raw ++ post)) x ≡ spelling (length pre) raw x
spells_in pre raw post none h = refl
spells_in pre raw post (source a b) h = ap bytes (part_in pre raw post a b h.0 h.1.0 h.1.1)
spells_in pre raw post (decoded bs) h = refl

-- the text put together otherwise
pub regrouped : (pre t cs : List ℕ) → pre ++ bytes_of (t ++ cs) ≡ pre ++ (bytes_of t ++ bytes_of cs)
regrouped pre t cs = rw (bytes_append t cs)

pub further : (pre t : List ℕ) → length (pre ++ bytes_of t) ≡ length pre + byte_count t
further pre t = length-append pre (bytes_of t) ∙ rw (length_bytes t)

-- what is read after some characters
onward : (pre t cs : List ℕ) {ss : List Shape} → Reading cs ss → (turns : ℕ) (last : Place) → length cs ≤ turns
    → shapes (pre ++ (bytes_of t ++ bytes_of cs)) (items_from true turns last (length pre + byte_count t) cs) ≡ ss
onward pre t cs {ss} r turns last h =
    subst (λ (n : ℕ). shapes (pre ++ (bytes_of t ++ bytes_of cs)) (items_from true turns last n cs) ≡ ss) (further pre t)
    (subst (λ (l : List ℕ). shapes l (items_from true turns last (length (pre ++ bytes_of t)) cs) ≡ ss) (append_assoc pre (bytes_of t) (bytes_of cs))
    (r (pre ++ bytes_of t) turns last h))

-- the shape of an item that is all of a text in the middle
shape_in : (pre t post : List ℕ) (k d : ℕ) (x : Text) {w : Spelling} → Inside (length pre) (length pre + byte_count t) x → spelling (length pre) (bytes_of t) x ≡ w
    → shape_of (pre ++ (bytes_of t ++ post)) (item k d (length pre) (length pre + byte_count t) x) ≡ shape k d w (number_of k (bytes_of t))
shape_in pre t post k d x {w} h e =
    let l : byte_count t ≡ length (bytes_of t) = sym (length_bytes t) in
    let i : Inside (length pre) (length pre + length (bytes_of t)) x = rw l at h in
    rw (l, spells_in pre (bytes_of t) post x i, e, part_all pre (bytes_of t) post)

pub reading_one : {c k d : ℕ} {t cs : List ℕ} {w : Spelling} {ss : List Shape} → ReadAs true (c ∷ t) cs k d w → Reading cs ss
    → Reading (c ∷ t ++ cs) (shape k d w (number_of k (bytes_of (c ∷ t))) ∷ ss)
reading_one {c} {k} {d} {t} {cs} {w} {ss} r q pre zero last h = absurd (omega arith)
reading_one {c} {k} {d} {t} {cs} {w} {ss} r q pre (suc turns) last h =
    let n : length cs ≤ turns = omega (arith, length-append t cs) in
    rw (regrouped pre (c ∷ t) cs, r.one turns (length pre) last)
    (cc (shape_in pre (c ∷ t) (bytes_of cs) k d (r.text (length pre)) (read_inside r (length pre)) (r.spells (length pre)), onward pre (c ∷ t) cs q turns last n))

-- ---- a pair

module _ (pre t post : List ℕ) where
  abbrev whole_text : List ℕ
  whole_text = pre ++ (bytes_of (code "+" ∷ t) ++ post)

  plus_bytes : bytes_of (code "+" ∷ t) ≡ code "+" ∷ bytes_of t
  unfolding bytes_of utf8
  plus_bytes = refl

  plus_count : byte_count (code "+" ∷ t) ≡ 1 + byte_count t
  unfolding width
  plus_count = refl

  pub first_part : part (length pre) (length pre + 1) whole_text ≡ code "+" ∷ []
  first_part = rw plus_bytes (part_all pre (code "+" ∷ []) (bytes_of t ++ post))

  pub second-part : part (length pre + 1) (length pre + byte_count (code "+" ∷ t)) whole_text ≡ bytes_of t
  second-part =
      let front : List ℕ = pre ++ (code "+" ∷ []) in
      let e : length front ≡ length pre + 1 = length-append pre (code "+" ∷ []) in
      let f : length pre + byte_count (code "+" ∷ t) ≡ length front + length (bytes_of t) = omega (arith, plus_count, length_bytes t) in
      let g : whole_text ≡ front ++ (bytes_of t ++ post) = rw (plus_bytes, append_assoc pre (code "+" ∷ []) (bytes_of t ++ post)) in
      ap (λ (l : List ℕ). part (length pre + 1) (length pre + byte_count (code "+" ∷ t)) l) g
      ∙ (ap (λ (n : ℕ). part (length pre + 1) n (front ++ (bytes_of t ++ post))) f
      ∙ (ap (λ (n : ℕ). part n (length front + length (bytes_of t)) (front ++ (bytes_of t ++ post))) (sym e) ∙ part_all front (bytes_of t) post))

-- an identifier
abbrev pub name_shape : List ℕ → Shape
name_shape t = shape kind.Identifier 0 (bytes t) (Err NoNumber)

pub reading_two : {t cs : List ℕ} {ss : List Shape} → ReadTwo t cs → Reading cs ss
    → Reading (code "+" ∷ t ++ cs) (name_shape (code "+" ∷ []) ∷ name_shape (bytes_of t) ∷ ss)
unfolding number_of
reading_two {t} {cs} {ss} r q pre zero last h = absurd (omega arith)
reading_two {t} {cs} {ss} r q pre (suc turns) last h =
    let n : length cs ≤ turns = omega (arith, length-append t cs) in
    rw (regrouped pre (code "+" ∷ t) cs, r.two turns (length pre) last)
    (cc (first_part pre t (bytes_of cs), second-part pre t (bytes_of cs), onward pre (code "+" ∷ t) cs q turns last n))
