-- What is known of records that are not refused, and how the records from a place on go.
use Rattle.std.proofs.Common.{None, Option, Some, Result, Err}
use Prim.Native.Nat.{ℕ, zero, suc, ◌+◌, ◌-◌, ◌≤◌, ◌<◌}
use mathlib.Core.Path.{◌≡◌, refl}
use mathlib.Core.Bool.{true, false, ◌&&◌}
use mathlib.Core.List.{List, [], ◌∷◌}
use lib.ListN.{length, drop, length-drop}
use lib.Seq.{length-take-le}
use lib.Dec.{eqb, leb}
use native.Mathlib.Omega.{arith}
use borrow.Author.Tests.{leb-true, eq-eqb, ne_eqb, eqb-true, eqb-false}
use Rattle.laws.proofs.Choice.{by_bool, and_true, no_yes, impossible}
use Rattle.chars.specs.Utf8.{first_bad, sequences}
use Rattle.items.specs.Kinds as kind
use Rattle.items_writing.specs.declared.WriteWords.{WriteWords}
use Rattle.items_writing.specs.declared.WriteError.{WriteError}
use Rattle.items_writing.specs.declared.WriteError.TheVariants.{Alien, Unwritten}
use Rattle.items_writing.specs.Written.{part}
use Rattle.items_writing.specs.Records.{count_of, words_at, records_from, rest, records_in, is_good, is_whole, is_kind, text_right, is_right, is_left, fine, judge, text_of, entry_of}
use Rattle.items_writing.specs.Pieces.{is_extent, body_of, AllRight}

-- ---- a part that is whole characters

pub record Whole (s : List ℕ) (a b : ℕ) : Type 0 where
  pub forward : a ≤ b
  pub inside : b ≤ length s
  pub good : first_bad (part a b s) ≡ None

good_is : (u : Option ℕ) → is_good u ≡ true → u ≡ None
good_is None h = refl
good_is (Some p) h = no_yes h

module _ (s : List ℕ) (a b : ℕ) where
  pub whole_is : is_whole s a b ≡ true → Whole s a b
  unfolding is_whole
  whole_is h = by_bool (leb a b)
      (λ e. by_bool (leb b (length s))
      (λ f. record { forward = leb-true a b e; inside = leb-true b (length s) f; good = good_is (first_bad (part a b s)) (rw (e, f) at h) })
      (λ f. no_yes (rw (e, f) at h)))
      (λ e. no_yes (rw e at h))

-- a text that is all of an extent is whole with it
pub extent_right : (source text : List ℕ) (r : WriteWords) → is_extent r ≡ true → is_whole source r.start r.«end» ≡ true → text_right source text r ≡ true
unfolding text_right
extent_right source text r h w =
    let a = and_true (eqb r.origin 1) (eqb r.first r.start && eqb r.past r.«end») h in
    let b = and_true (eqb r.first r.start) (eqb r.past r.«end») a.1 in
    rw (a.0, eqb-true r.first r.start b.0, eqb-true r.past r.«end» b.1) w

pub part_length : (s : List ℕ) (a b : ℕ) → a ≤ b → b ≤ length s → length (part a b s) ≡ b - a
part_length s a b h g = length-take-le (b - a) (drop a s) (omega (arith, length-drop a s))

-- ---- a record

module _ (source text : List ℕ) (r : WriteWords) where
  pub record Right : Type 0 where
    pub kind_right : is_kind r.kind ≡ true
    pub extent_right : is_whole source r.start r.«end» ≡ true
    pub text_right_holds : text_right source text r ≡ true

  pub right_is : is_right source text r ≡ true → Right
  unfolding is_right
  right_is h = by_bool (is_kind r.kind)
      (λ e. by_bool (is_whole source r.start r.«end»)
      (λ f. record { kind_right = e; extent_right = f; text_right_holds = rw (e, f) at h })
      (λ f. no_yes (rw (e, f) at h)))
      (λ e. no_yes (rw e at h))

  pub text_in_source : r.origin ≡ 1 → text_right source text r ≡ true → is_whole source r.first r.past ≡ true
  unfolding text_right
  text_in_source e h = rw (eq-eqb r.origin 1 e) at h

  pub text_in_memory : (r.origin ≡ 1 → ⊥) → r.origin ≡ 2 → text_right source text r ≡ true → is_whole text r.first r.past ≡ true
  unfolding text_right
  text_in_memory n e h = rw (ne_eqb r.origin 1 n, eq-eqb r.origin 2 e) at h

  -- its text is whole characters, and short
  nothing_good : first_bad [] ≡ None
  unfolding first_bad sequences
  nothing_good = refl

  pub text_good : text_right source text r ≡ true → first_bad (text_of source text r) ≡ None
  unfolding text_of
  text_good h = by_bool (eqb r.origin 1)
      (λ e. rw e (whole_is source r.first r.past (text_in_source (eqb-true r.origin 1 e) h)).good)
      (λ e. by_bool (eqb r.origin 2)
      (λ f. rw (e, f) (whole_is text r.first r.past (text_in_memory (eqb-false r.origin 1 e) (eqb-true r.origin 2 f) h)).good)
      (λ f. rw (e, f) nothing_good))

  pub text_short : (m : ℕ) → r.past ≤ m → text_right source text r ≡ true → length (text_of source text r) ≤ m
  unfolding text_of
  text_short m l h = by_bool (eqb r.origin 1)
      (λ e. let w : Whole source r.first r.past = whole_is source r.first r.past (text_in_source (eqb-true r.origin 1 e) h) in
      rw e (omega (arith, part_length source r.first r.past w.forward w.inside)))
      (λ e. by_bool (eqb r.origin 2)
      (λ f. let w : Whole text r.first r.past = whole_is text r.first r.past (text_in_memory (eqb-false r.origin 1 e) (eqb-true r.origin 2 f) h) in
      rw (e, f) (omega (arith, part_length text r.first r.past w.forward w.inside)))
      (λ f. rw (e, f) (omega arith)))

  module _ (h : is_right source text r ≡ true) where
    pub body_good : first_bad (body_of (entry_of source text r)) ≡ None
    body_good = by_bool (eqb r.kind kind.Identifier)
        (λ e. rw e (text_good (right_is h).text_right_holds))
        (λ e. by_bool (eqb r.kind kind.StringLiteral)
        (λ f. rw (e, f) (text_good (right_is h).text_right_holds))
        (λ f. rw (e, f) (whole_is source r.start r.«end» (right_is h).extent_right).good))

    pub body_short : (m : ℕ) → r.past ≤ m → r.«end» ≤ m → length (body_of (entry_of source text r)) ≤ m
    body_short m l g = by_bool (eqb r.kind kind.Identifier)
        (λ e. rw e (text_short m l (right_is h).text_right_holds))
        (λ e. by_bool (eqb r.kind kind.StringLiteral)
        (λ f. rw (e, f) (text_short m l (right_is h).text_right_holds))
        (λ f. let w : Whole source r.start r.«end» = whole_is source r.start r.«end» (right_is h).extent_right in
        rw (e, f) (omega (arith, part_length source r.start r.«end» w.forward w.inside))))

-- ---- the records from a place on

module _ (s : List ℕ) (p : ℕ) where
  pub rest_cons : p < count_of s → rest s p ≡ words_at s p ∷ rest s (p + 1)
  unfolding records_from
  rest_cons h = let e : count_of s - p ≡ suc (count_of s - (p + 1)) = omega arith in rw e

  pub rest_end : count_of s ≤ p → rest s p ≡ []
  unfolding records_from
  rest_end h = let e : count_of s - p ≡ 0 = omega arith in rw e

module _ (records source text : List ℕ) where
  -- what a judge says from a place on
  abbrev pub judged : ℕ → Result (Unit {0}) WriteError
  judged p = judge source text p (rest records p)

  module _ (p : ℕ) (h : p < count_of records) where
    pub judged_alien : false ≡ is_right source text (words_at records p) → judged p ≡ Err (Alien p)
    unfolding judge
    judged_alien e = rw (rest_cons records p h, ← e)

    pub judged_left : true ≡ is_right source text (words_at records p) → true ≡ is_left (words_at records p).kind → judged p ≡ Err (Unwritten p)
    unfolding judge
    judged_left e f = rw (rest_cons records p h, ← e, ← f)

    pub judged_on : true ≡ is_right source text (words_at records p) → false ≡ is_left (words_at records p).kind → judged p ≡ judged (p + 1)
    unfolding judge
    judged_on e f = rw (rest_cons records p h, ← e, ← f)

  pub judged_end : (p : ℕ) → count_of records ≤ p → judged p ≡ fine
  unfolding judge
  judged_end p h = rw (rest_end records p h)

  -- records that are fine are right
  fine_right : (n : ℕ) (rs : List WriteWords) → judge source text n rs ≡ fine → AllRight source text rs
  unfolding judge
  fine_right n [] h = tt
  fine_right n (r ∷ rs) h = by_bool (is_right source text r)
      (λ e. by_bool (is_left r.kind)
      (λ f. let z = rw (e, f) at h in impossible cc)
      (λ f. (e, fine_right (n + 1) rs (rw (e, f) at h))))
      (λ e. let z = rw e at h in impossible cc)

  pub all_right : judged 0 ≡ fine → AllRight source text (records_in records)
  all_right h = fine_right 0 (records_in records) h

  right_from : (n a p : ℕ) → AllRight source text (records_from n a records) → a ≤ p → p < a + n → is_right source text (words_at records p) ≡ true
  unfolding records_from
  right_from zero a p h l g = absurd (omega arith)
  right_from (suc n) a p h l g = by_bool (eqb p a)
      (λ e. rw (eqb-true p a e) h.0)
      (λ e. right_from n (a + 1) p h.1 (omega (arith, eqb-false p a e)) (omega arith))

  pub right_at : (p : ℕ) → AllRight source text (records_in records) → p < count_of records → is_right source text (words_at records p) ≡ true
  right_at p h l = right_from (count_of records - 0) 0 p h (omega arith) (omega arith)
