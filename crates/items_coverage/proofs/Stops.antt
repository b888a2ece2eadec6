-- Where a text stops: the whole characters before a stop are a front of it, within the limit, and stop 23 names the item that they break off in; a
-- text without a stop is its characters. One induction over the sequences of the text.
use Rattle.refusal.specs.Refusals as refusal
use Rattle.items.specs.Items.{items, byte_count}
use Rattle.items.specs.Whole.{limit}
use Rattle.laws.proofs.Choice.{if_all, if_is}
use Rattle.chars.specs.Encode.{utf8, width, bytes_of}
use Rattle.chars.specs.Utf8.{Front, char, bad, cut, none, front, sequences, chars}
use Rattle.chars.proofs.Chars.{chars-char}
use Rattle.chars.proofs.Good.{Scalars}
use Rattle.chars.proofs.Sequences.{char_some, not_none, sequences-char, sequences-bad, sequences-cut}
use Rattle.chars.proofs.Spells.{Spells, spells}
use Rattle.chars.proofs.Width.{width-utf8}
use Rattle.pieces.specs.Expected.{Unfinished, nothing, from, unfinished, Ending, clean, stop, grown, ending_of, longest}
use Rattle.pieces.proofs.Kept.{count_snoc, scalars_snoc}
use Rattle.items_coverage.proofs.Long.{begun_before}
use Prim.Native.Nat.{ℕ, zero, suc, ◌+◌, ◌-◌, ◌≤◌}
use mathlib.Core.Path.{◌≡◌, refl, sym, ap, subst, ◌∙◌}
use mathlib.Core.Bool.{Bool}
use mathlib.Core.List.{List, [], ◌∷◌, ◌++◌, append_assoc, append-nil}
use lib.ListN.{length, drop, length-drop, take-append-drop}
use lib.Seq.{length-take-le}
use lib.Dec.{ltb}
use native.Mathlib.Omega.{arith}
use borrow.Author.Tests.{ltb-true, ltb-false}

-- the whole characters q before a stop: with 23 they break off in the item that it names
pub record Halts (report : Bool) (number place : ℕ) (q : List ℕ) : Type 0 where
  pub scalars : Scalars q
  pub short : byte_count q ≤ limit
  pub named : number ≡ refusal.long_item → unfinished (byte_count q) (items report q) ≡ from place

-- q are the characters before the bytes l
pub data Told (report : Bool) (l q : List ℕ) : Ending → Type 0 where
  all : bytes_of (chars l) ≡ l → Told report l q clean
  up_to : (number place : ℕ) (p u v : List ℕ) → p ≡ q ++ u → bytes_of u ++ v ≡ l → Halts report number place p → Told report l q (stop number place p)

-- characters that were read, and the place past them
record Been (q : List ℕ) (at : ℕ) : Type 0 where
  scalars : Scalars q
  count : at ≡ byte_count q
  short : at ≤ limit

module _ (report : Bool) where
  told_here : (l q : List ℕ) (at : ℕ) → Been q at → (number place : ℕ) → (number ≡ refusal.long_item → unfinished (byte_count q) (items report q) ≡ from place)
      → Told report l q (stop number place q)
  unfolding bytes_of
  told_here l q at z number place h =
      up_to number place q [] l (sym (append-nil q)) refl (record { scalars = z.scalars; short = omega (arith, z.count, z.short); named = h })

  told_on : (l q : List ℕ) (c m : ℕ) → Spells l (char c m) → front l ≡ char c m → {e : Ending} → Told report (drop m l) (q ++ (c ∷ [])) e → Told report l q e
  unfolding bytes_of
  told_on l q c m w f (all h) = all (rw (chars-char l c m f) (rw (h, ← w.0) (take-append-drop m l)))
  told_on l q c m w f (up_to number place p u v g h k) =
      up_to number place p (c ∷ u) v (g ∙ append_assoc q (c ∷ []) u)
      (append_assoc (utf8 c) (bytes_of u) v ∙ rw (h, ← w.0) (take-append-drop m l)) k

  -- 23 at the character c, which ends at t: the item that it names was begun before c
  told_grown : (l q : List ℕ) (at : ℕ) → Been q at → (c t : ℕ) (on : Ending) → t ≡ byte_count (q ++ (c ∷ [])) → Told report l q on
      → Told report l q (grown (unfinished t (items report (q ++ (c ∷ [])))) t q on)
  told_grown l q at z c t on e h = go (unfinished t (items report (q ++ (c ∷ [])))) refl
    where
      go : (here : Unfinished) → unfinished t (items report (q ++ (c ∷ []))) ≡ here → Told report l q (grown here t q on)
      go nothing f = h
      go (from s) f = if_is (Told report l q) (ltb longest (t - s))
          (λ g. told_here l q at z refusal.long_item s (λ _. begun_before report q c t s e f (ltb-true longest (t - s) g)))
          (λ g. h)

module _ (report : Bool) (n : ℕ) where
  abbrev TellsOf : List ℕ → ℕ → List ℕ → Type 0
  TellsOf l at q = Told report l q (ending_of report n q (sequences 0 at l))

  too_long : (l q : List ℕ) (at : ℕ) → Been q at → Told report l q (stop refusal.over_long limit q)
  too_long l q at z = told_here report l q at z refusal.over_long limit (λ e. absurd (omega arith))

  not_utf8_holds : (l q : List ℕ) (at : ℕ) → Been q at → Told report l q (stop refusal.not_utf8 at q)
  not_utf8_holds l q at z = told_here report l q at z refusal.not_utf8 at (λ e. absurd (omega arith))

  -- the front of the bytes, and what is told of fewer of them
  told_front : (b : ℕ) (l : List ℕ) (at : ℕ) (q : List ℕ) → Been q at
      → ((m : List ℕ) (k : ℕ) (p : List ℕ) → Been p k → length m ≤ length l → TellsOf m k p)
      → (F : Front) → front (b ∷ l) ≡ F → TellsOf (b ∷ l) at q
  unfolding ending_of
  told_front b l at q z fewer (char c m) f =
      let w : Spells (b ∷ l) (char c m) = subst (Spells (b ∷ l)) f (spells (b ∷ l)) in
      let wide : m ≡ width c = sym (length-take-le m (b ∷ l) w.2) ∙ ap length w.0 ∙ width-utf8 c in
      let e : at + m ≡ byte_count (q ++ (c ∷ [])) = omega (arith, count_snoc q c, z.count) in
      rw (sequences-char at (b ∷ l) c m f)
      (if_is (Told report (b ∷ l) q) (ltb limit (at + m)) (λ _. too_long (b ∷ l) q at z)
      (λ h. told_grown report (b ∷ l) q at z c (at + m) _ e
      (told_on report (b ∷ l) q c m w f
      (fewer (drop m (b ∷ l)) (at + m) (q ++ (c ∷ [])) (record { scalars = scalars_snoc q c z.scalars w.1; count = e; short = ltb-false limit (at + m) h })
      (omega (arith, length-drop m (b ∷ l), char_some (b ∷ l) c m f))))))
  told_front b l at q z fewer (bad m) f =
      rw (sequences-bad at (b ∷ l) m f) (if_all (Told report (b ∷ l) q) (ltb limit (at + m)) (too_long (b ∷ l) q at z) (not_utf8_holds (b ∷ l) q at z))
  told_front b l at q z fewer cut f =
      rw (sequences-cut at (b ∷ l) f) (if_all (Told report (b ∷ l) q) (ltb limit n) (too_long (b ∷ l) q at z) (not_utf8_holds (b ∷ l) q at z))
  told_front b l at q z fewer none f = absurd (not_none b l f)

  told_within : (fuel : ℕ) (l : List ℕ) (at : ℕ) (q : List ℕ) → Been q at → length l ≤ fuel → TellsOf l at q
  unfolding ending_of sequences chars bytes_of
  told_within zero [] at q z h = all refl
  told_within zero (b ∷ l) at q z h = absurd (omega arith)
  told_within (suc fuel) l at q z h = turn l (λ m k p e g. told_within fuel m k p e g) h
    where
      turn : (l : List ℕ) → ((m : List ℕ) (k : ℕ) (p : List ℕ) → Been p k → length m ≤ fuel → TellsOf m k p) → length l ≤ suc fuel → TellsOf l at q
      turn [] fewer h = all refl
      turn (b ∷ l) fewer h = told_front b l at q z (λ m k p e g. fewer m k p e (omega arith)) (front (b ∷ l)) refl

-- of all bytes of a text
pub told : (report : Bool) (bytes : List ℕ) → Told report bytes [] (ending_of report (length bytes) [] (sequences 0 0 bytes))
told report bytes =
    told_within report (length bytes) (length bytes) bytes 0 [] (record { scalars = tt; count = refl; short = omega arith }) (omega arith)
