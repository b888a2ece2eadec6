-- Reading a quoted text element by element: w was given so far, and w with what is still to come makes up the whole text. The decoder
-- writes w, the count counts it.
use Prim.Native.Nat.{ℕ, ◌+◌, ◌-◌, ◌≤◌, ◌<◌}
use mathlib.Core.Path.{◌≡◌, refl, sym, ap, ◌∙◌}
use mathlib.Core.List.{List, [], ◌∷◌, ◌++◌, append_assoc, append-nil}
use mathlib.Core.Bool.{true}
use native.Mathlib.Omega.{arith}
use lib.ListN.{length, get_or, take, drop, set, length-append, drop_of_length-le}
use lib.Seq.{length-take-le, take-suc, take_all}
use native.Mathlib.Numerals.{add-one}
use borrow.Author.Tests.{le-ltb}
use borrow.Rule.Slice.PartMut.{put_mid}
use Rattle.laws.specs.Lent.{written}
use Rattle.laws.proofs.Lent.{length-written, written_push, length_part, part_written}
use Rattle.chars.specs.Encode.{width, is_scalar, encode, lay, laid}
use Rattle.chars.proofs.Width.{width-utf8}
use Rattle.chars.proofs.Round.{encode_scalar}
use Rattle.items.specs.declared.Quotes.{Quotes}
use Rattle.items.specs.Meaning.{unescape}
use Rattle.escapes.specs.declared.Element.{Element}
use Rattle.escapes.specs.Elements.{bytes_given, Unescapes}

pub record Reading (k : Quotes) (raw all : List ℕ) (n i : ℕ) : Type 0 where
  pub w : List ℕ
  pub count : length w ≡ n
  pub inside : i ≤ length raw
  pub whole : w ++ unescape k (drop i raw) ≡ all

pub reading_start : (k : Quotes) (raw : List ℕ) (from : ℕ) → from ≤ length raw → Reading k raw (unescape k (drop from raw)) 0 from
reading_start k raw from h = record { w = []; count = refl; inside = h; whole = refl }

module _ {k : Quotes} {raw all : List ℕ} {n i : ℕ} (r : Reading k raw all n i) where
  -- what is given and what is to come
  sum : length all ≡ n + length (unescape k (drop i raw))
  sum = sym (ap length r.whole) ∙ length-append r.w (unescape k (drop i raw)) ∙ ap (λ (j : ℕ). j + length (unescape k (drop i raw))) r.count

  pub reading_all : length raw ≤ i → r.w ≡ all
  unfolding unescape
  reading_all h = sym (append-nil r.w) ∙ ap (λ (l : List ℕ). r.w ++ unescape k l) (sym (drop_of_length-le raw h)) ∙ r.whole

  pub reading_end : length raw ≤ i → n ≡ length all
  reading_end h = sym r.count ∙ ap length (reading_all h)

  pub reading_le : n ≤ length all
  reading_le = omega (arith, sum)

  -- v more, up to the place `next`
  module _ (v : List ℕ) (next : ℕ) (inside : next ≤ length raw) (more : unescape k (drop i raw) ≡ v ++ unescape k (drop next raw)) where
    pub more_fits : n + length v ≤ length all
    more_fits = omega (arith, sum, ap length more, length-append v (unescape k (drop next raw)))

    unfoldable pub reading_more : (m : ℕ) → m ≡ length v → Reading k raw all (n + m) next
    reading_more m p = record {
      w = r.w ++ v;
      count = length-append r.w v ∙ ap (λ (j : ℕ). j + length v) r.count ∙ ap (λ (j : ℕ). n + j) (sym p);
      inside = inside;
      whole = append_assoc r.w v _ ∙ ap (λ (l : List ℕ). r.w ++ l) (sym more) ∙ r.whole;
    }

  module _ (e : Element) (u : Unescapes k raw (unescape k (drop i raw)) (i + 1) e) where
    pub reading_fits : n + length (bytes_given e.given) ≤ length all
    reading_fits = more_fits (bytes_given e.given) e.next u.inside u.whole

    pub reading_on : (m : ℕ) → m ≡ length (bytes_given e.given) → Reading k raw all (n + m) e.next
    reading_on m p = reading_more (bytes_given e.given) e.next u.inside u.whole m p

-- ---- the same, laid into the free memory, which was `old`

pub record Laying (k : Quotes) (raw all old free : List ℕ) (n i : ℕ) : Type 0 where
  pub reading : Reading k raw all n i
  pub laid : free ≡ written reading.w old

pub laying_start : (k : Quotes) (raw : List ℕ) (from : ℕ) (old : List ℕ) → from ≤ length raw → Laying k raw (unescape k (drop from raw)) old old 0 from
unfolding reading_start
laying_start k raw from old h = record { reading = reading_start k raw from h; laid = refl }

module _ {k : Quotes} {raw all old free : List ℕ} {n i : ℕ} (l : Laying k raw all old free n i) (fit : length all ≤ length old) where
  w_fits : length l.reading.w ≤ length old
  w_fits = omega (arith, reading_le l.reading, l.reading.count, fit)

  pub laying_length : length free ≡ length old
  laying_length = ap length l.laid ∙ length-written l.reading.w old w_fits

  pub laying_le : n ≤ length free
  laying_le = omega (arith, reading_le l.reading, laying_length, fit)

  pub laying_end : length raw ≤ i → (n ≡ length all) × (free ≡ written all old)
  laying_end h = (reading_end l.reading h, l.laid ∙ ap (λ (w : List ℕ). written w old) (reading_all l.reading h))

  module _ (v : List ℕ) (next : ℕ) (inside : next ≤ length raw) (more : unescape k (drop i raw) ≡ v ++ unescape k (drop next raw)) where
    pub more_room : length v ≤ length (take (length free - n) (drop n free))
    more_room = rw (length_part free n) (omega (arith, more_fits l.reading v next inside more, laying_length, fit))

    pub laying_more : (m : ℕ) (last : List ℕ) → m ≡ length v → last ≡ written v (take (length free - n) (drop n free))
        → Laying k raw all old (put_mid n (length free - n) free last) (n + m) next
    unfolding reading_more
    laying_more m last p q = record {
      reading = reading_more l.reading v next inside more m p;
      laid = part_written l.reading.w v old l.laid l.reading.count w_fits q;
    }

  module _ (e : Element) (u : Unescapes k raw (unescape k (drop i raw)) (i + 1) e) where
    pub laying_fits : n + length (bytes_given e.given) ≤ length free
    laying_fits = omega (arith, reading_fits l.reading e u, laying_length, fit)

    pub laying_room : length (bytes_given e.given) ≤ length (take (length free - n) (drop n free))
    laying_room = more_room (bytes_given e.given) e.next u.inside u.whole

    pub laying_on : (m : ℕ) (last : List ℕ) → m ≡ length (bytes_given e.given) → last ≡ written (bytes_given e.given) (take (length free - n) (drop n free))
        → Laying k raw all old (put_mid n (length free - n) free last) (n + m) e.next
    laying_on m last p q = laying_more (bytes_given e.given) e.next u.inside u.whole m last p q

-- ---- a copy, byte by byte

pub copied_next : (run old now : List ℕ) (i : ℕ) → i < length run → i < length old → now ≡ written (take i run) old
    → set now i (get_or run i 0) ≡ written (take (i + 1) run) old
copied_next run old now i h g e =
    let l : length (take i run) ≡ i = length-take-le i run (omega arith) in
    rw (e, add-one i, take-suc run i 0 h)
    (ap (λ (k : ℕ). set (written (take i run) old) k (get_or run i 0)) (sym l) ∙ written_push (take i run) old (get_or run i 0) (omega (arith, l)))

pub copied_end : (run old now : List ℕ) (i : ℕ) → length run ≤ i → now ≡ written (take i run) old → now ≡ written run old
copied_end run old now i h e = e ∙ ap (λ (l : List ℕ). written l old) (take_all i run h)

-- ---- one element's bytes

-- where they fit, what is laid is written
pub lay-written : (w memory : List ℕ) → length w ≤ length memory → (laid w memory ≡ length w) × (lay w memory ≡ written w memory)
unfolding lay laid
lay-written w memory h = (rw (le-ltb (length memory) (length w) h), rw (le-ltb (length memory) (length w) h))

pub byte_written : (old : List ℕ) (b : ℕ) → 0 < length old → set old 0 b ≡ written (b ∷ []) old
byte_written [] b h = absurd (omega arith)
byte_written (x ∷ t) b h = refl

pub code_length : (c : ℕ) → is_scalar c ≡ true → width c ≡ length (encode c)
code_length c e = rw (encode_scalar c e) (sym (width-utf8 c))
