-- A text in quotes as the loops count and lay it: its opening mark, then a byte at a time, with a backslash where one stands before it.
use Rattle.std.proofs.Common.{None, Option, Some}
use Prim.Native.Nat.{ℕ, ◌+◌, ◌-◌, ◌*◌, ◌≤◌, ◌<◌}
use mathlib.Core.Path.{◌≡◌, refl, sym, ap, subst, ◌∙◌}
use mathlib.Core.Bool.{Bool, true, false}
use mathlib.Core.List.{List, [], ◌∷◌, ◌++◌, append_assoc, append-nil}
use lib.ListN.{length, get_or, take, drop, set, length-append, take-append-drop}
use lib.Seq.{take-suc, take_all, length-take-le}
use lib.Dec.{eqb}
use native.Mathlib.Omega.{arith}
use native.Mathlib.Numerals.{add-one}
use borrow.Rule.Slice.PartMut.{put_mid}
use Rattle.laws.specs.Quoted.{code}
use Rattle.laws.specs.Lent.{written}
use Rattle.laws.proofs.Choice.{by_bool}
use Rattle.laws.proofs.Lent.{length-written, length_part, written_push, part_written}
use Rattle.items.specs.declared.Quotes.{Quotes}
use Rattle.items.specs.Classes.{delim_of}
use Rattle.items_writing.specs.Written.{escape, quoted}
use Rattle.items_writing.specs.Pieces.{is_marked, escaped_byte, escaped_by, quoted_by, lone, shown}

-- ---- one byte

module _ (mark b : ℕ) where
  pub two_bytes : is_marked mark b ≡ true → escaped_byte mark b ≡ code "\\" ∷ b ∷ []
  unfolding escaped_byte
  two_bytes e = rw e

  pub one_byte : is_marked mark b ≡ false → escaped_byte mark b ≡ b ∷ []
  unfolding escaped_byte
  one_byte e = rw e

  pub few_bytes : (1 ≤ length (escaped_byte mark b)) × (length (escaped_byte mark b) ≤ 2)
  few_bytes = by_bool (is_marked mark b)
      (λ e. rw (two_bytes e) (omega arith, omega arith))
      (λ e. rw (one_byte e) (omega arith, omega arith))

-- ---- some bytes

module _ (mark : ℕ) where
  more : (a b : List ℕ) → escaped_by mark (a ++ b) ≡ escaped_by mark a ++ escaped_by mark b
  unfolding escaped_by
  more [] b = refl
  more (x ∷ a) b = rw (more a b, append_assoc (escaped_byte mark x) (escaped_by mark a) (escaped_by mark b))

  one : (x : ℕ) → escaped_by mark (x ∷ []) ≡ escaped_byte mark x
  unfolding escaped_by
  one x = append-nil (escaped_byte mark x)

  pub none : escaped_by mark [] ≡ []
  unfolding escaped_by
  none = refl

  module _ (t : List ℕ) where
    -- what was laid before the place i
    abbrev pub front : ℕ → List ℕ
    front i = escaped_by mark (take i t)

    module _ (i : ℕ) (h : i < length t) where
      pub front_next : front (i + 1) ≡ front i ++ escaped_byte mark (get_or t i 0)
      front_next = rw (add-one i, take-suc t i 0 h) (more (take i t) (get_or t i 0 ∷ []) ∙ ap (λ (l : List ℕ). escaped_by mark (take i t) ++ l) (one (get_or t i 0)))

      pub front_size : length (front (i + 1)) ≡ length (front i) + length (escaped_byte mark (get_or t i 0))
      front_size = ap length front_next ∙ length-append (front i) (escaped_byte mark (get_or t i 0))

    pub front_room : (i : ℕ) → length (front i) ≤ length (escaped_by mark t)
    front_room i =
        let e : escaped_by mark t ≡ escaped_by mark (take i t) ++ escaped_by mark (drop i t) = ap (escaped_by mark) (sym (take-append-drop i t)) ∙ more (take i t) (drop i t) in
        omega (arith, ap length e, length-append (escaped_by mark (take i t)) (escaped_by mark (drop i t)))

    pub front_all : (i : ℕ) → length t ≤ i → front i ≡ escaped_by mark t
    front_all i h = rw (take_all i t h)

    -- ---- in the memory

    pub record Laid (old out : List ℕ) (n i : ℕ) : Type 0 where
      pub inside : i ≤ length t
      pub size : n ≡ length (front i)
      pub memory : out ≡ written (front i) old

    pub laid_start : (old : List ℕ) → Laid old old 0 0
    unfolding escaped_by
    laid_start old = record { inside = omega arith; size = refl; memory = refl }

    module _ {old out : List ℕ} {n i : ℕ} (l : Laid old out n i) (fit : length (escaped_by mark t) ≤ length old) where
      pub laid_length : length out ≡ length old
      laid_length = ap length l.memory ∙ length-written (front i) old (omega (arith, front_room i))

      pub laid_room : i < length t → n + length (escaped_byte mark (get_or t i 0)) ≤ length out
      laid_room h = omega (arith, laid_length, front_room (i + 1), front_size i h, l.size)

      pub laid_on : {last : List ℕ} {r : ℕ} → i < length t → last ≡ written (escaped_byte mark (get_or t i 0)) (take (length out - n) (drop n out))
          → r ≡ length (escaped_byte mark (get_or t i 0)) → Laid old (put_mid n (length out - n) out last) (n + r) (i + 1)
      laid_on {last} {r} h w e = record {
        inside = omega arith;
        size = omega (arith, front_size i h, l.size);
        memory =
            part_written (front i) (escaped_byte mark (get_or t i 0)) old l.memory (sym l.size) (omega (arith, front_room i)) w
            ∙ ap (λ (v : List ℕ). written v old) (sym (front_next i h));
      }

      pub laid_end : length t ≤ i → out ≡ written (escaped_by mark t) old
      laid_end h = l.memory ∙ ap (λ (v : List ℕ). written v old) (front_all i h)

      pub laid_size : length t ≤ i → n ≡ length (escaped_by mark t)
      laid_size h = l.size ∙ ap length (front_all i h)

  pub quoted_size : (t : List ℕ) → length (quoted_by mark t) ≡ 2 + length (escaped_by mark t)
  quoted_size t = omega (arith, length-append (mark ∷ escaped_by mark t) (mark ∷ []))

-- the definition's
escape_by : (k : Quotes) (t : List ℕ) → escape k t ≡ escaped_by (delim_of k) t
unfolding escape escaped_by escaped_byte
escape_by k [] = refl
escape_by k (x ∷ t) = by_bool (eqb x (delim_of k))
    (λ e. rw (e, escape_by k t))
    (λ e. by_bool (eqb x (code "\\")) (λ f. rw (e, f, escape_by k t)) (λ f. rw (e, f, escape_by k t)))

pub quoted_by_lem : (k : Quotes) (t : List ℕ) {m : ℕ} → m ≡ delim_of k → quoted k t ≡ quoted_by m t
unfolding quoted
quoted_by_lem k t e = rw (e, escape_by k t)

-- ---- a text as it is

module _ (t old : List ℕ) where
  pub copied_on : {out : List ℕ} (i : ℕ) → out ≡ written (take i t) old → i < length t → length t ≤ length old → set out i (get_or t i 0) ≡ written (take (i + 1) t) old
  copied_on {out} i e h g =
      let s : length (take i t) ≡ i = length-take-le i t (omega arith) in
      rw (e, add-one i, take-suc t i 0 h)
      (subst (λ (n : ℕ). set (written (take i t) old) n (get_or t i 0) ≡ written (take i t ++ (get_or t i 0 ∷ [])) old) s (written_push (take i t) old (get_or t i 0) (omega arith)))

  pub copied_all : {out : List ℕ} (i : ℕ) → out ≡ written (take i t) old → length t ≤ i → out ≡ written t old
  copied_all i e h = e ∙ ap (λ (v : List ℕ). written v old) (take_all i t h)

-- ---- a byte or two

module _ (old : List ℕ) where
  pub put_one : (x : ℕ) → 1 ≤ length old → set old 0 x ≡ written (x ∷ []) old
  put_one x h = written_push [] old x (omega arith)

  pub put_two : (x y : ℕ) → 2 ≤ length old → set (set old 0 x) 1 y ≡ written (x ∷ y ∷ []) old
  put_two x y h = rw (put_one x (omega arith)) (written_push (x ∷ []) old y (omega arith))

-- ---- three parts, one after the other

module _ (a b s old : List ℕ) (fit : length (a ++ (b ++ s)) ≤ length old) where
  pub sizes : length (a ++ (b ++ s)) ≡ length a + length b + length s
  sizes = omega (arith, length-append a (b ++ s), length-append b s)

  module _ {o₁ : List ℕ} {x : ℕ} (w₁ : o₁ ≡ written a old) (e₁ : x ≡ length a) where
    pub first_length : length o₁ ≡ length old
    first_length = ap length w₁ ∙ length-written a old (omega (arith, sizes))

    pub first_room : x + length b + length s ≤ length o₁
    first_room = omega (arith, sizes, first_length)

    -- the part that is lent next has room
    pub first_part : length b ≤ length (take (length o₁ - x) (drop x o₁))
    first_part = omega (arith, length_part o₁ x, first_room)

    module _ {l₂ : List ℕ} {y : ℕ} (w₂ : l₂ ≡ written b (take (length o₁ - x) (drop x o₁))) (e₂ : y ≡ length b) where
      abbrev pub second : List ℕ
      second = put_mid x (length o₁ - x) o₁ l₂

      second_is : second ≡ written (a ++ b) old
      second_is = part_written a b old w₁ (sym e₁) (omega (arith, sizes)) w₂

      pub second-length : length second ≡ length old
      second-length = ap length second_is ∙ length-written (a ++ b) old (omega (arith, sizes, length-append a b))

      pub second_room : x + y + length s ≤ length second
      second_room = omega (arith, sizes, second-length)

      pub second-part : length s ≤ length (take (length second - (x + y)) (drop (x + y) second))
      second-part = omega (arith, length_part second (x + y), second_room)

      module _ {l₃ : List ℕ} {z : ℕ} (w₃ : l₃ ≡ written s (take (length second - (x + y)) (drop (x + y) second))) (e₃ : z ≡ length s) where
        pub third_is : put_mid (x + y) (length second - (x + y)) second l₃ ≡ written (a ++ (b ++ s)) old
        third_is =
            part_written (a ++ b) s old second_is (omega (arith, length-append a b)) (omega (arith, sizes, length-append a b)) w₃
            ∙ ap (λ (v : List ℕ). written v old) (append_assoc a b s)

        pub third_length : length (put_mid (x + y) (length second - (x + y)) second l₃) ≡ length old
        third_length = ap length third_is ∙ length-written (a ++ (b ++ s)) old fit

        pub third_size : x + y + z ≡ length (a ++ (b ++ s))
        third_size = omega (arith, sizes)

-- ---- how long

pub lone_few : (there : Bool) (b : ℕ) → length (lone there b) ≤ 1
lone_few true b = omega arith
lone_few false b = omega arith

escaped_few : (mark : ℕ) (t : List ℕ) → length (escaped_by mark t) ≤ 2 * length t
unfolding escaped_by
escaped_few mark [] = omega arith
escaped_few mark (x ∷ t) = omega (arith, length-append (escaped_byte mark x) (escaped_by mark t), (few_bytes mark x).1, escaped_few mark t)

pub shown_few : (f : Option Quotes) (t : List ℕ) → length (shown f t) ≤ 2 * length t + 2
shown_few None t = omega arith
shown_few (Some k) t = omega (arith, ap length (quoted_by_lem k t refl), quoted_size (delim_of k) t, escaped_few (delim_of k) t)
