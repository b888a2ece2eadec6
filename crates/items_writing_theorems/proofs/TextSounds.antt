-- The items of a text, none of them an error or a comment, may be written back (`Sounds`): an extent at a time.
use Rattle.std.proofs.Common.{Ok, Err, Result}
use Prim.Native.Nat.{ℕ, zero, suc, ◌+◌, ◌<◌}
use mathlib.Core.Path.{◌≡◌, refl, sym, ap, subst, ◌∙◌}
use mathlib.Core.Bool.{Bool, true, false, not, ◌&&◌}
use mathlib.Core.List.{List, [], ◌∷◌, ◌++◌, append_assoc}
use mathlib.Core.Logic.{◌⊎◌, inl, inr}
use lib.ListN.{length, length-append}
use lib.Dec.{eqb, ltb}
use native.Mathlib.Omega.{arith}
use native.Mathlib.Nat.{le_refl}
use borrow.Author.Tests.{ltb-true, eqb-true}
use Rattle.laws.specs.Quoted.{code}
use Rattle.laws.proofs.Choice.{by_bool, and_true, no_yes, and_no, impossible}
use Rattle.chars.specs.Blank.{is_blank}
use Rattle.chars.specs.Encode.{utf8, width, bytes_of}
use Rattle.chars.proofs.Bytes.{bytes_append}
use Rattle.chars.proofs.Good.{Scalars}
use Rattle.chars.proofs.Width.{width-utf8}
use Rattle.numbers.specs.declared.ParseError.TheVariants as parsed
use Rattle.numbers.specs.Grammar.{parse_number, Parsed}
use Rattle.items.specs.declared.Outcome.{Outcome}
use Rattle.items.specs.declared.Outcome.TheVariants.{Token, Str, HereStr, Word, Run, Lined, Keyword, Character, Error, ErrorAt}
use Rattle.items.specs.declared.CharError.{CharError}
use Rattle.items.specs.declared.CharError.TheVariants.{Wrong, WrongAt}
use Rattle.items.specs.Readers.{Read, SoFar, first_is, read_item}
use Rattle.items.specs.Meaning.{source, Meaning, means, meaning_of, word_kind, word_means, run_means, character_of, char_inside, character_means}
use Rattle.items.specs.Items.{Item, Place, unset, range_after, item_of, items_of, extent_items, items_from, items_at, past_line, after_pound, items, kept, byte_count}
use Rattle.items.specs.Kinds as kind
use Rattle.items.proofs.Every.{Every, every_any}
use Rattle.items.proofs.Outcomes.{read_fine}
use Rattle.items.proofs.Splits.{length_bytes}
use Rattle.items_writing.specs.Written.{entries}
use Rattle.items_writing.specs.Shapes.{shapes, clean}
use Rattle.items_writing.proofs.Trace.{Traced, traced}
use Rattle.items_writing.proofs.ReadsBack.{kind_in}
use Rattle.items_writing_theorems.proofs.Sound.{Sounds, more, one as one-sound}
use Rattle.items_writing_theorems.proofs.Extents.{AllSound, Right, extent_sounds}
use Rattle.items_writing_theorems.proofs.OwnExtents.{other_sound}
use Rattle.items_writing_theorems.proofs.Reread.{reread}

-- ---- an extent has one item, or the two of a word that begins with a plus

abbrev pair_of : ℕ → ℕ → List Meaning
pair_of s e = means kind.Identifier 0 (source s (s + 1)) ∷ means kind.Identifier 0 (source (s + 1) e) ∷ []

record Single (ms : List Meaning) : Type 0 where
  meaning : Meaning
  is : ms ≡ meaning ∷ []

abbrev OneOrPair : ℕ → ℕ → List Meaning → Type 0
OneOrPair s e ms = Single ms ⊎ (ms ≡ pair_of s e)

single : {s e : ℕ} (m : Meaning) → OneOrPair s e (m ∷ [])
single m = inl (record { meaning = m; is = refl })

word_one : (s e : ℕ) (raw : List ℕ) → OneOrPair s e (word_means s e raw)
unfolding word_means
word_one s e raw = by_bool (eqb (word_kind raw) kind.Identifier)
    (λ f. by_bool (first_is (code "+") raw && ltb 1 (length raw))
    (λ g. rw (f, g) (inr refl))
    (λ g. rw (f, g) (single _)))
    (λ f. rw f (single _))

run_one : (p : Parsed) (s e : ℕ) (raw : List ℕ) → OneOrPair s e (run_means p s e raw)
unfolding run_means
run_one (Ok p) s e raw = single _
run_one (Err parsed.NoNumber) s e raw = word_one s e raw
run_one (Err parsed.ZeroDenominator) s e raw = single _

character_one : (v : Result ℕ CharError) (s e : ℕ) → OneOrPair s e (character_means v)
character_one (Ok c) s e = single _
character_one (Err (Wrong n d)) s e = single _
character_one (Err (WrongAt n d q)) s e = single _

means_one : (o : Outcome) (s e : ℕ) (raw : List ℕ) → OneOrPair s e (meaning_of true o s e raw)
means_one (Token k d) s e raw = single _
means_one Str s e raw = single _
means_one HereStr s e raw = single _
means_one Word s e raw = word_one s e raw
means_one Run s e raw = run_one (parse_number raw) s e raw
means_one Lined s e raw = single _
means_one Keyword s e raw = single _
means_one Character s e raw = character_one (character_of true (char_inside raw)) s e
means_one (Error n d) s e raw = single _
means_one (ErrorAt n d a b) s e raw = single _

-- ---- the items of a text that are to be written

abbrev pub AllSounds : List ℕ → List Item → Type 0
AllSounds s [] = Unit {0}
AllSounds s (i ∷ is) = Sounds (entries s (i ∷ is)) (shapes s (i ∷ is)) × Every (Right s) (i ∷ is)

abbrev LastOf : List Item → Bool → Type 0
LastOf is last = is ≡ [] → last ≡ true

attach_one : (s : List ℕ) (i : Item) (is : List Item) → ((last : Bool) → LastOf is last → AllSound last s (i ∷ [])) → AllSounds s is → AllSounds s (i ∷ is)
attach_one s i [] f r = let g = f true (λ e. refl) in (one-sound g.0, (g.1, tt))
attach_one s i (j ∷ is) f r = let g = f false (λ e. impossible cc) in (more g.0 r.0, (g.1, r.1))

attach_two : (s : List ℕ) (i j : Item) (is : List Item) → ((last : Bool) → LastOf is last → AllSound last s (i ∷ j ∷ [])) → AllSounds s is → AllSounds s (i ∷ j ∷ is)
attach_two s i j [] f r = let g = f true (λ e. refl) in (more g.0.0 (one-sound g.1.0), (g.0.1, (g.1.1, tt)))
attach_two s i j (k ∷ is) f r =
    let g = f false (λ e. impossible cc) in
    (more g.0.0 (more g.1.0 r.0), (g.0.1, (g.1.1, r.1)))

-- ---- what is kept, and what is clean

pub clean_head : (i : Item) (is : List Item) → clean (i ∷ is) ≡ true → (i.kind < kind.first_error) × (clean is ≡ true)
unfolding clean
clean_head i is h = by_bool (ltb i.kind kind.first_error && not (eqb i.kind kind.Comment))
    (λ e. (ltb-true _ _ (and_true (ltb i.kind kind.first_error) _ e).0, rw e at h))
    (λ e. no_yes (rw e at h))

module _ (skip : Bool) (s : List ℕ) (p : Place) (a e : ℕ) where
  -- one item: left out, or kept and then clean
  one_kept : (m : Meaning) (is : List Item) → clean (kept skip (items_of true p a e (m ∷ []) ++ is)) ≡ true
      → (m.kind < kind.first_error → (last : Bool) → LastOf (kept skip is) last → AllSound last s (items_of true p a e (m ∷ [])))
      → (clean (kept skip is) ≡ true → AllSounds s (kept skip is))
      → AllSounds s (kept skip (items_of true p a e (m ∷ []) ++ is))
  unfolding kept
  one_kept m is h f r = by_bool (skip && eqb m.kind kind.Comment)
      (λ g. rw g (r (rw g at h)))
      (λ g. let k = clean_head (item_of true p a e m) (kept skip is) (rw g at h) in
      rw g (attach_one s (item_of true p a e m) (kept skip is) (f k.0) (r k.1)))

  two_kept : (is : List Item) → clean (kept skip (items_of true p a e (pair_of a e) ++ is)) ≡ true
      → ((last : Bool) → LastOf (kept skip is) last → AllSound last s (items_of true p a e (pair_of a e)))
      → (clean (kept skip is) ≡ true → AllSounds s (kept skip is))
      → AllSounds s (kept skip (items_of true p a e (pair_of a e) ++ is))
  unfolding kept
  two_kept is h f r =
      let g : (skip && false) ≡ false = and_no skip in
      let i : Item = item_of true p a e (means kind.Identifier 0 (source a (a + 1))) in
      let j : Item = item_of true p a e (means kind.Identifier 0 (source (a + 1) e)) in
      let k = clean_head i (j ∷ kept skip is) (rw g at h) in
      let l = clean_head j (kept skip is) k.1 in
      rw g (attach_two s i j (kept skip is) f (r l.1))

-- ---- one extent of the text, and the items after it

scalars_front : (t u : List ℕ) → Scalars (t ++ u) → Scalars t × Scalars u
scalars_front [] u h = (tt, h)
scalars_front (c ∷ t) u h = let r = scalars_front t u h.1 in ((h.0, r.0), r.1)

module _ (pre : List ℕ) (c : ℕ) (cs : List ℕ) (b : is_blank c ≡ false) (h : Scalars (c ∷ cs)) where
  abbrev at : ℕ
  at = length pre

  abbrev it : Read
  it = read_item true at c cs

  abbrev l : Traced true at c cs it
  l = traced true at c cs

  abbrev v : List ℕ
  v = c ∷ l.ate

  abbrev end : ℕ
  end = at + byte_count v

  abbrev full : List ℕ
  full = pre ++ (bytes_of v ++ bytes_of it.rest)

  both : Scalars v × Scalars it.rest
  both = scalars_front v it.rest (h.0, subst Scalars l.splits h.1)

  full_is : pre ++ bytes_of (c ∷ cs) ≡ full
  full_is = ap (λ (x : List ℕ). pre ++ bytes_of (c ∷ x)) l.splits ∙ ap (λ (x : List ℕ). pre ++ x) (bytes_append v it.rest)

  ends_there : it.item.at ≡ end
  ends_there = ap (λ (i : SoFar). i.at) l.item

  bytes_there : it.item.bytes ≡ bytes_of v
  bytes_there = ap (λ (i : SoFar). i.bytes) l.item

  -- its items, by what it means
  sounds_there : (p : Place) → kind_in (meaning_of true it.what at end (bytes_of v)) < kind.first_error → (last : Bool) → (it.rest ≡ [] → last ≡ true)
      → AllSound last full (items_of true p at end (meaning_of true it.what at end (bytes_of v)))
  sounds_there p good last f =
      let n : ℕ = at + byte_count (c ∷ cs) in
      let D : ℕ → Type 0 = λ x. Unit {0} in
      let fine = read_fine D (λ x g. tt) n true at c cs (le_refl n) (every_any D (λ x. tt) (c ∷ cs)) in
      extent_sounds pre c l.ate (bytes_of it.rest) both.0 p last it.what n l.told (rw bytes_there at fine)
      (λ oth. other_sound pre c l.ate (bytes_of it.rest) p it.what last both.0 l.told oth
      (λ us g. rw ends_there at (reread at c cs b oth last f g)))
      good

  -- the same by the places that were read
  sounds_item : (p : Place) → kind_in (meaning_of true it.what at it.item.at it.item.bytes) < kind.first_error → (last : Bool) → (it.rest ≡ [] → last ≡ true)
      → AllSound last full (items_of true p at it.item.at (meaning_of true it.what at it.item.at it.item.bytes))
  sounds_item p good last f =
      let P : ℕ → List ℕ → Type 0
      = λ e raw. kind_in (meaning_of true it.what at e raw) < kind.first_error → AllSound last full (items_of true p at e (meaning_of true it.what at e raw)) in
      let x : P end (bytes_of v) = λ g. sounds_there p g last f in
      subst (λ (e : ℕ). P e it.item.bytes) (sym ends_there) (subst (P end) (sym bytes_there) x) good

extent_kept : (skip : Bool) (s : List ℕ) (p : Place) (a e : ℕ) (ms : List Meaning) (is : List Item) → OneOrPair a e ms
    → clean (kept skip (items_of true p a e ms ++ is)) ≡ true
    → (kind_in ms < kind.first_error → (last : Bool) → LastOf (kept skip is) last → AllSound last s (items_of true p a e ms))
    → (clean (kept skip is) ≡ true → AllSounds s (kept skip is))
    → AllSounds s (kept skip (items_of true p a e ms ++ is))
extent_kept skip s p a e ms is (inl x) h f r =
    let P : List Meaning → Type 0
    = λ ms. clean (kept skip (items_of true p a e ms ++ is)) ≡ true → (kind_in ms < kind.first_error → (last : Bool) → LastOf (kept skip is) last → AllSound last s (items_of true p a e ms))
    → AllSounds s (kept skip (items_of true p a e ms ++ is)) in
    subst P (sym x.is) (λ g k. one_kept skip s p a e x.meaning is g k r) h f
extent_kept skip s p a e ms is (inr x) h f r =
    let P : List Meaning → Type 0
    = λ ms. clean (kept skip (items_of true p a e ms ++ is)) ≡ true → (kind_in ms < kind.first_error → (last : Bool) → LastOf (kept skip is) last → AllSound last s (items_of true p a e ms))
    → AllSounds s (kept skip (items_of true p a e ms ++ is)) in
    subst P (sym x) (λ g k. two_kept skip s p a e is g (k (omega arith)) r) h f

-- no items where nothing is left
nothing_left : (skip : Bool) (turns : ℕ) (p : Place) (a : ℕ) (cs : List ℕ) → cs ≡ [] → kept skip (items_from true turns p a cs) ≡ []
unfolding kept items_from
nothing_left skip zero p a cs e = refl
nothing_left skip (suc turns) p a cs e = rw e

module _ (skip : Bool) where
  -- after an item
  extent_on : (turns : ℕ) (lp : Place) (pre : List ℕ) (c : ℕ) (cs : List ℕ) (b : is_blank c ≡ false) (h : Scalars (c ∷ cs))
      → ((p : Place) (front : List ℕ) → Scalars (it pre c cs b h).rest → clean (kept skip (items_from true turns p (length front) (it pre c cs b h).rest)) ≡ true
      → AllSounds (front ++ bytes_of (it pre c cs b h).rest) (kept skip (items_from true turns p (length front) (it pre c cs b h).rest)))
      → clean (kept skip (items_from true (suc turns) lp (length pre) (c ∷ cs))) ≡ true
      → AllSounds (pre ++ bytes_of (c ∷ cs)) (kept skip (items_from true (suc turns) lp (length pre) (c ∷ cs)))
  unfolding items_from extent_items
  extent_on turns lp pre c cs b h r w =
      let o : Outcome = (it pre c cs b h).what in
      let rest : List ℕ = (it pre c cs b h).rest in
      let p : Place = range_after true lp (length pre) o (it pre c cs b h).item in
      let own : Place = range_after true unset (length pre) o (it pre c cs b h).item in
      let e : ℕ = (it pre c cs b h).item.at in
      let raw : List ℕ = (it pre c cs b h).item.bytes in
      let front : List ℕ = pre ++ bytes_of (v pre c cs b h) in
      let there : length front ≡ e = length-append pre (bytes_of (v pre c cs b h)) ∙ (rw (length_bytes (v pre c cs b h)) (sym (ends_there pre c cs b h))) in
      let is : List Item = items_from true turns p e rest in
      let on : clean (kept skip is) ≡ true → AllSounds (full pre c cs b h) (kept skip is)
      = subst (λ (x : ℕ). clean (kept skip (items_from true turns p x rest)) ≡ true → AllSounds (full pre c cs b h) (kept skip (items_from true turns p x rest))) there
      (subst (λ (x : List ℕ). clean (kept skip (items_from true turns p (length front) rest)) ≡ true → AllSounds x (kept skip (items_from true turns p (length front) rest)))
      (append_assoc pre (bytes_of (v pre c cs b h)) (bytes_of rest)) (r p front (both pre c cs b h).1)) in
      rw (full_is pre c cs b h) (rw (b, items_from)
      (extent_kept skip (full pre c cs b h) own (length pre) e (meaning_of true o (length pre) e raw) is (means_one o (length pre) e raw) (rw (b, items_from) at w)
      (λ good last f. sounds_item pre c cs b h own good last (λ q. f (nothing_left skip turns p e rest q))) on))

  -- after a character that is passed over
  passed_on : (f : ℕ → List ℕ → List Item) (pre : List ℕ) (c : ℕ) (cs : List ℕ)
      → (clean (kept skip (f (length (pre ++ utf8 c)) cs)) ≡ true → AllSounds ((pre ++ utf8 c) ++ bytes_of cs) (kept skip (f (length (pre ++ utf8 c)) cs)))
      → clean (kept skip (f (length pre + width c) cs)) ≡ true → AllSounds (pre ++ bytes_of (c ∷ cs)) (kept skip (f (length pre + width c) cs))
  unfolding bytes_of
  passed_on f pre c cs r =
      let e : length (pre ++ utf8 c) ≡ length pre + width c = length-append pre (utf8 c) ∙ rw (width-utf8 c) in
      subst (λ (n : ℕ). clean (kept skip (f n cs)) ≡ true → AllSounds (pre ++ (utf8 c ++ bytes_of cs)) (kept skip (f n cs))) e
      (subst (λ (l : List ℕ). clean (kept skip (f (length (pre ++ utf8 c)) cs)) ≡ true → AllSounds l (kept skip (f (length (pre ++ utf8 c)) cs))) (append_assoc pre (utf8 c) (bytes_of cs)) r)

  from_sounds : (turns : ℕ) (lp : Place) (pre cs : List ℕ) → Scalars cs → clean (kept skip (items_from true turns lp (length pre) cs)) ≡ true
      → AllSounds (pre ++ bytes_of cs) (kept skip (items_from true turns lp (length pre) cs))
  unfolding items_from kept
  from_sounds zero lp pre cs h w = tt
  from_sounds (suc turns) lp pre [] h w = tt
  from_sounds (suc turns) lp pre (c ∷ cs) h w = by_bool (is_blank c)
      (λ b. rw (b, items_from) (passed_on (items_from true turns lp) pre c cs (from_sounds turns lp (pre ++ utf8 c) cs h.1) (rw (b, items_from) at w)))
      (λ b. extent_on turns lp pre c cs b h (λ p front g k. from_sounds turns p front (it pre c cs b h).rest g k) w)

  -- a first line
  line_sounds : (pre cs : List ℕ) → Scalars cs → clean (kept skip (past_line true (length pre) cs)) ≡ true → AllSounds (pre ++ bytes_of cs) (kept skip (past_line true (length pre) cs))
  unfolding past_line kept
  line_sounds pre [] h w = tt
  line_sounds pre (c ∷ cs) h w = by_bool (eqb c (code "\n"))
      (λ e. rw (e, past_line) (from_sounds (length (c ∷ cs)) unset pre (c ∷ cs) h (rw (e, past_line) at w)))
      (λ e. rw (e, past_line) (passed_on (past_line true) pre c cs (line_sounds (pre ++ utf8 c) cs h.1) (rw (e, past_line) at w)))

  at_sounds : (cs : List ℕ) → Scalars cs → clean (kept skip (items_at true 0 cs)) ≡ true → AllSounds (bytes_of cs) (kept skip (items_at true 0 cs))
  at_sounds cs h w = from_sounds (length cs) unset [] cs h w

  mark_bytes : (cs : List ℕ) → bytes_of (code "#" ∷ code "!" ∷ cs) ≡ (code "#" ∷ code "!" ∷ []) ++ bytes_of cs
  unfolding bytes_of utf8
  mark_bytes cs = refl

  marked_sounds : (cs : List ℕ) → Scalars cs → clean (kept skip (items true (code "#" ∷ code "!" ∷ cs))) ≡ true
      → AllSounds (bytes_of (code "#" ∷ code "!" ∷ cs)) (kept skip (items true (code "#" ∷ code "!" ∷ cs)))
  unfolding items after_pound
  marked_sounds cs h w = rw (mark_bytes cs) (line_sounds (code "#" ∷ code "!" ∷ []) cs h w)

  pound_sounds : (x : ℕ) (cs : List ℕ) → Scalars (code "#" ∷ x ∷ cs) → clean (kept skip (items true (code "#" ∷ x ∷ cs))) ≡ true
      → AllSounds (bytes_of (code "#" ∷ x ∷ cs)) (kept skip (items true (code "#" ∷ x ∷ cs)))
  unfolding items after_pound
  pound_sounds x cs h w = by_bool (eqb x (code "!"))
      (λ f. subst (λ (y : ℕ). clean (kept skip (items true (code "#" ∷ y ∷ cs))) ≡ true → AllSounds (bytes_of (code "#" ∷ y ∷ cs)) (kept skip (items true (code "#" ∷ y ∷ cs))))
      (sym (eqb-true x (code "!") f)) (marked_sounds cs h.1.1) w)
      (λ f. rw (f, after_pound) (at_sounds (code "#" ∷ x ∷ cs) h (rw (f, after_pound) at w)))

  -- the items of a text
  pub text_sounds : (cs : List ℕ) → Scalars cs → clean (kept skip (items true cs)) ≡ true → AllSounds (bytes_of cs) (kept skip (items true cs))
  unfolding items after_pound kept
  text_sounds [] h w = tt
  text_sounds (c ∷ []) h w = by_bool (eqb c (code "#"))
      (λ e. let q : c ≡ code "#" = eqb-true c (code "#") e in
      subst (λ (x : ℕ). clean (kept skip (items true (x ∷ []))) ≡ true → AllSounds (bytes_of (x ∷ [])) (kept skip (items true (x ∷ [])))) (sym q) (at_sounds (code "#" ∷ []) (rw q at h)) w)
      (λ e. rw (e, items) (at_sounds (c ∷ []) h (rw (e, items) at w)))
  text_sounds (c ∷ x ∷ cs) h w = by_bool (eqb c (code "#"))
      (λ e. let q : c ≡ code "#" = eqb-true c (code "#") e in
      subst (λ (y : ℕ). Scalars (y ∷ x ∷ cs) → clean (kept skip (items true (y ∷ x ∷ cs))) ≡ true → AllSounds (bytes_of (y ∷ x ∷ cs)) (kept skip (items true (y ∷ x ∷ cs))))
      (sym q) (pound_sounds x cs) h w)
      (λ e. rw (e, items) (at_sounds (c ∷ x ∷ cs) h (rw (e, items) at w)))
