-- The words of a record, with those of the next records after them: its numbers in the file, and whether one of them goes back.
use mathlib.Core.Path.{◌≡◌, refl, sym, ap, ◌∙◌}
use mathlib.Core.Bool.{true, false}
use mathlib.Core.List.{List, ◌∷◌, ◌++◌, append_assoc}
use Prim.Native.Nat.{ℕ, ◌+◌, ◌-◌, ◌/◌, ◌%◌, ◌≤◌, ◌<◌}
use native.Mathlib.Omega.{arith}
use lib.ListN.{length, get_or, drop}
use lib.Dec.{ltb}
use borrow.Author.Tests.{le-ltb, ltb-false}
use Rattle.laws.proofs.Choice.{by_bool, yes_no, impossible}
use Rattle.std.specs.Prelude.{Ok, Err}
use Rattle.laws.proofs.Places.{here}
use Rattle.items.specs.Items.{record_words, words_of}
use Rattle.items.specs.declared.Nine.{Nine}
use Rattle.items.specs.declared.Record.{Record}
use Rattle.items_files.specs.Groups.{image, images}
use Rattle.items_files.specs.Layout.{base, after, before, numbers_of, goes_back}
use Rattle.items_files.specs.Write.{file, Goes, on, back, goes, found}
use Rattle.items_files.specs.declared.StoreError.TheVariants.{Back}

-- ---- the ten words at a place

module _ (s : List ℕ) (i : ℕ) where
  abbrev at : ℕ → ℕ
  at k = get_or s (i + k) 0

  word_at : (k n : ℕ) → n ≡ k + 1 → i + k < length s → drop (i + k) s ≡ at k ∷ drop (i + n) s
  word_at k n e h = here s (i + k) h ∙ ap (λ (m : ℕ). at k ∷ drop m s) (let q : i + k + 1 ≡ i + n = omega (arith, e) in q)

  pub ten_at : i + record_words ≤ length s
      → drop i s ≡ get_or s i 0 ∷ at 1 ∷ at 2 ∷ at 3 ∷ at 4 ∷ at 5 ∷ at 6 ∷ at 7 ∷ at 8 ∷ at 9 ∷ drop (i + record_words) s
  ten_at h =
      here s i (omega arith)
      ∙ rw (
        word_at 1 2 refl (omega arith),
        word_at 2 3 refl (omega arith),
        word_at 3 4 refl (omega arith),
        word_at 4 5 refl (omega arith),
        word_at 5 6 refl (omega arith),
        word_at 6 7 refl (omega arith),
        word_at 7 8 refl (omega arith),
        word_at 8 9 refl (omega arith),
        word_at 9 10 refl (omega arith),
      )

-- ---- none goes back

pub record Onward (p : ℕ) (r : Nine) : Type 0 where
  pub start : p ≤ r.start
  pub extent : r.start ≤ r.end
  pub place : r.from ≤ r.to
  pub text : r.first ≤ r.past

pub onward : (p : ℕ) (r : Nine) → goes_back p r ≡ false → Onward p r
unfolding goes_back
onward p r =
    by_bool (ltb r.start p) (λ a. rw a (λ h. yes_no h)) (λ a.
    rw a
    (by_bool (ltb r.end r.start) (λ b. rw b (λ h. yes_no h)) (λ b.
    rw b
    (by_bool (ltb r.to r.from) (λ c. rw c (λ h. yes_no h)) (λ c.
    rw c (λ h.
    record {
      start = ltb-false r.start p a;
      extent = ltb-false r.end r.start b;
      place = ltb-false r.to r.from c;
      text = ltb-false r.past r.first h;
    }))))))

module _ (k d s e f t c x y z l p : ℕ) (rest : List ℕ) (a : p ≤ s) (b : s ≤ e) (o : f ≤ t) (h : x ≤ y) where
  pub ten_goes : (j : ℕ) → goes (before 0 l p) j (k ∷ d ∷ s ∷ e ∷ f ∷ t ∷ c ∷ x ∷ y ∷ z ∷ rest) ≡ goes (before 0 z s) (j + record_words) rest
  unfolding goes base after
  ten_goes j =
      let q : j + 1 + 1 + 1 + 1 + 1 + 1 + 1 + 1 + 1 + 1 ≡ j + record_words = omega arith in
      rw (
        le-ltb k 0 (omega arith),
        le-ltb d 0 (omega arith),
        le-ltb s p a,
        le-ltb e s b,
        le-ltb f 0 (omega arith),
        le-ltb t f o,
        le-ltb c 0 (omega arith),
        le-ltb x 0 (omega arith),
        le-ltb y x h,
        le-ltb z 0 (omega arith),
      )
      (ap (λ (n : ℕ). goes (before 0 z s) n rest) q)

module _ (r : Record) (l p : ℕ) (rest : List ℕ) where
  pub record_goes : Onward p r.nine → (j : ℕ) → goes (before 0 l p) j (words_of r ++ rest) ≡ goes (before 0 r.depth r.nine.start) (j + record_words) rest
  record_goes o j =
      ten_goes r.nine.kind r.nine.detail r.nine.start r.nine.end r.nine.from r.nine.to r.nine.source r.nine.first r.nine.past
      r.depth l p rest o.start o.extent o.place o.text j

  -- ---- one goes back: the record is told

  -- the word at which it goes back
  abbrev words : ℕ → Goes
  words j = goes (before 0 l p) j (words_of r ++ rest)

  start_back : (j : ℕ) → ltb r.nine.start p ≡ true → words j ≡ back (j + 1 + 1)
  unfolding goes base after
  start_back j a = rw (le-ltb r.nine.kind 0 (omega arith), le-ltb r.nine.detail 0 (omega arith), a)

  module _ (a : ltb r.nine.start p ≡ false) where
    extent_back : (j : ℕ) → ltb r.nine.end r.nine.start ≡ true → words j ≡ back (j + 1 + 1 + 1)
    unfolding goes base after
    extent_back j b = rw (le-ltb r.nine.kind 0 (omega arith), le-ltb r.nine.detail 0 (omega arith), a, b)

    module _ (b : ltb r.nine.end r.nine.start ≡ false) where
      place_back : (j : ℕ) → ltb r.nine.to r.nine.from ≡ true → words j ≡ back (j + 1 + 1 + 1 + 1 + 1)
      unfolding goes base after
      place_back j c =
          rw (le-ltb r.nine.kind 0 (omega arith), le-ltb r.nine.detail 0 (omega arith), a, b, le-ltb r.nine.from 0 (omega arith), c)

      text_back : (j : ℕ) → ltb r.nine.to r.nine.from ≡ false → ltb r.nine.past r.nine.first ≡ true
          → words j ≡ back (j + 1 + 1 + 1 + 1 + 1 + 1 + 1 + 1)
      unfolding goes base after
      text_back j c d =
          rw (
            le-ltb r.nine.kind 0 (omega arith),
            le-ltb r.nine.detail 0 (omega arith),
            a,
            b,
            le-ltb r.nine.from 0 (omega arith),
            c,
            le-ltb r.nine.source 0 (omega arith),
            le-ltb r.nine.first 0 (omega arith),
            d,
          )

  module _ (j n : ℕ) (tens : j % record_words ≡ 0) where
    told : (m : ℕ) → m / record_words ≡ j / record_words → words j ≡ back m → found (words j) n ≡ Err (Back (j / record_words))
    told m e q = rw q (ap (λ (k : ℕ). Err (Back k)) e)

    pub record_back : goes_back p r.nine ≡ true → found (words j) n ≡ Err (Back (j / record_words))
    unfolding goes_back
    record_back =
        by_bool (ltb r.nine.start p) (λ a. rw a (λ h. told (j + 1 + 1) (omega (arith, tens)) (start_back j a))) (λ a.
        rw a
        (by_bool (ltb r.nine.end r.nine.start) (λ b. rw b (λ h. told (j + 1 + 1 + 1) (omega (arith, tens)) (extent_back a j b))) (λ b.
        rw b
        (by_bool (ltb r.nine.to r.nine.from)
        (λ c. rw c (λ h. told (j + 1 + 1 + 1 + 1 + 1) (omega (arith, tens)) (place_back a b j c)))
        (λ c. rw c (λ h. told (j + 1 + 1 + 1 + 1 + 1 + 1 + 1 + 1) (omega (arith, tens)) (text_back a b j c h)))))))

  -- where no word goes back the record does not
  pub record_forth : (j : ℕ) → j % record_words ≡ 0 → words j ≡ on → goes_back p r.nine ≡ false
  record_forth j tens e =
      by_bool (goes_back p r.nine)
      (λ h.
      let q : Ok 0 ≡ Err (Back (j / record_words)) = sym (ap (λ (g : Goes). found g 0) e) ∙ record_back j 0 tens h in
      impossible cc)
      (λ h. h)

  -- ---- its bytes

  less_none : (w : ℕ) → w - 0 ≡ w
  less_none w = omega arith

  pub record_file : file (before 0 l p) (words_of r ++ rest) ≡ images (numbers_of p r) ++ file (before 0 r.depth r.nine.start) rest
  unfolding file base after
  record_file =
      rw (
        less_none r.nine.kind,
        less_none r.nine.detail,
        less_none r.nine.from,
        less_none r.nine.source,
        less_none r.nine.first,
        less_none r.depth,
        append_assoc (image r.nine.kind),
        append_assoc (image r.nine.detail),
        append_assoc (image (r.nine.start - p)),
        append_assoc (image (r.nine.end - r.nine.start)),
        append_assoc (image r.nine.from),
        append_assoc (image (r.nine.to - r.nine.from)),
        append_assoc (image r.nine.source),
        append_assoc (image r.nine.first),
        append_assoc (image (r.nine.past - r.nine.first)),
        append_assoc (image r.depth),
      )
