-- The tests `bare` and `splits` from the text that they read: first in the text, where a line that starts with `#!` is passed over, or after a space.
use Prim.Native.Nat.{ℕ, suc, ◌+◌, ◌≤◌}
use mathlib.Core.Path.{◌≡◌, refl, sym, ap, ◌∙◌}
use mathlib.Core.Bool.{Bool, true, false}
use mathlib.Core.List.{List, [], ◌∷◌, ◌++◌}
use lib.ListN.{length}
use lib.Dec.{eqb}
use native.Mathlib.Omega.{arith}
use borrow.Author.Tests.{eqb-true}
use Rattle.laws.specs.Quoted.{code, codes, within}
use Rattle.laws.specs.Texts.{begins}
use Rattle.laws.proofs.Choice.{by_bool, no_yes, and_no, impossible}
use Rattle.chars.specs.Blank.{is_blank}
use Rattle.chars.specs.Encode.{is_scalar, utf8, width, bytes_of}
use Rattle.chars.specs.Utf8.{chars, sequences, front, first as first_byte}
use Rattle.chars.proofs.Bytes.{bytes_append}
use Rattle.chars.proofs.Good.{Scalars, chars_encoded}
use Rattle.items.specs.Items.{Item, unset, items_from, items_at, past_line, after_pound, items}
use Rattle.items.specs.Kinds as kind
use Rattle.items.proofs.Every.{Every, every_then}
use Rattle.items_r7rs.specs.Reading.{bytes, ReadAs}
use Rattle.items.proofs.Splits.{length_bytes}
use Rattle.items_writing.specs.Written.{gap, is_word, is_pair, bare, splits}
use Rattle.items_writing.proofs.FirstLine.{other_start, other_next, lone_start}
use Rattle.items_writing.proofs.ReadsBack.{ReadTwo, later, word_starts, word_reads, pair_reads}
use Rattle.items_writing.proofs.Follows.{Follows, nothing, space}

pub scalars_append : (t u : List ℕ) → Scalars t → Scalars u → Scalars (t ++ u)
scalars_append [] u h g = g
scalars_append (c ∷ t) u h g = (h.0, scalars_append t u h.1 g)

-- ---- a first line that starts with `#!`

past_later : (at : ℕ) (cs : List ℕ) → Every (λ (i : Item). at ≤ i.start) (past_line true at cs)
unfolding past_line
past_later at [] = tt
past_later at (c ∷ cs) = by_bool (eqb c (code "\n"))
    (λ e. rw (e, past_line) (later (length (c ∷ cs)) at (c ∷ cs)))
    (λ e. rw (e, past_line)
    (every_then (λ (i : Item). at + width c ≤ i.start) (λ (i : Item). at ≤ i.start) (λ i h. omega arith) (past_line true (at + width c) cs)
    (past_later (at + width c) cs)))

-- a word that is first in the text is read from its start on
pub record First (c : ℕ) (cs : List ℕ) : Type 0 where
  pub same : items true (c ∷ cs) ≡ items_at true 0 (c ∷ cs)
  pub no_line : begins (codes "#!") (c ∷ cs) ≡ false

pub first_items : (c : ℕ) (cs : List ℕ) (b : ℕ) → is_word 0 b (items true (c ∷ cs)) ≡ true → First c cs
unfolding items after_pound
first_items c [] b w = by_bool (eqb c (code "#"))
    (λ e. let q : c ≡ code "#" = eqb-true c (code "#") e in record { same = rw (e, items) (rw q); no_line = lone_start c })
    (λ e. record { same = rw (e, items); no_line = other_start c [] e })
first_items c (x ∷ cs) b w = by_bool (eqb c (code "#"))
    (λ e. let q : c ≡ code "#" = eqb-true c (code "#") e in
    by_bool (eqb x (code "!"))
    (λ f. let v : is_word 0 b (past_line true 2 cs) ≡ true = rw (f, after_pound) at (rw (e, items) at w) in
    absurd (omega (arith, word_starts 2 0 b (past_line true 2 cs) (past_later 2 cs) v)))
    (λ f. record { same = rw (e, items) (rw (f, after_pound) (rw q)); no_line = other_next c x cs f }))
    (λ e. record { same = rw (e, items); no_line = other_start c (x ∷ cs) e })

-- ---- the text that a test reads

gap_bytes : (b : Bool) → bytes_of (gap b) ≡ gap b
unfolding bytes_of utf8
gap_bytes true = refl
gap_bytes false = refl

gap_scalars : (b : Bool) → Scalars (gap b)
unfolding is_scalar within
gap_scalars true = tt
gap_scalars false = (refl, tt)

pub tested : (first last : Bool) (v : List ℕ) → Scalars v → chars (gap first ++ bytes_of v ++ gap last) ≡ gap first ++ v ++ gap last
tested first last v h =
    let e : gap first ++ bytes_of v ++ gap last ≡ bytes_of (gap first ++ v ++ gap last)
    = rw (bytes_append (gap first ++ v) (gap last), bytes_append (gap first) v, gap_bytes first, gap_bytes last) in
    ap chars e ∙ chars_encoded (gap first ++ v ++ gap last) (scalars_append (gap first ++ v) (gap last) (scalars_append (gap first) v (gap_scalars first) h) (gap_scalars last))

-- ---- a word that is bare

-- what is known of it
pub record Stands (first last : Bool) (v : List ℕ) : Type 0 where
  pub head : ℕ
  pub tail : List ℕ
  pub is : v ≡ head ∷ tail
  pub reads : {cs : List ℕ} → Follows last cs → ReadAs true (head ∷ tail) cs kind.Identifier 0 (bytes (bytes_of (head ∷ tail)))
  pub no_line : first ≡ true → {cs : List ℕ} → Follows last cs → begins (codes "#!") (head ∷ tail ++ cs) ≡ false

no_items : (last : Bool) (at : ℕ) → items_from true (length (gap last)) unset at (gap last) ≡ []
unfolding items_from is_blank
no_items true at = refl
no_items false at = refl

-- `#!` is seen before what follows
pub line_follows : (c : ℕ) (t : List ℕ) (last : Bool) {cs : List ℕ} → begins (codes "#!") (c ∷ t ++ gap last) ≡ false → Follows last cs → begins (codes "#!") (c ∷ t ++ cs) ≡ false
unfolding begins
line_follows c t last h nothing = h
line_follows c [] last h (space u) = and_no (eqb (code "#") c)
line_follows c (x ∷ t) last h (space u) = h

stands_on : (last : Bool) (c : ℕ) (t : List ℕ) → is_word 1 (1 + length (bytes_of (c ∷ t))) (items true (code " " ∷ (c ∷ t ++ gap last))) ≡ true → Stands false last (c ∷ t)
unfolding items items_from is_blank width
stands_on last c t w = record {
  head = c;
  tail = t;
  is = refl;
  reads = λ f. word_reads c t last 1 (length (t ++ gap last)) (rw (length_bytes (c ∷ t)) at w) f;
  no_line = λ e. impossible cc;
}

stands_first : (last : Bool) (c : ℕ) (t : List ℕ) → is_word 0 (0 + length (bytes_of (c ∷ t))) (items true (c ∷ t ++ gap last)) ≡ true → Stands true last (c ∷ t)
stands_first last c t w =
    let f : First c (t ++ gap last) = first_items c (t ++ gap last) (0 + length (bytes_of (c ∷ t))) w in
    let v : is_word 0 (0 + length (bytes_of (c ∷ t))) (items_from true (suc (length (t ++ gap last))) unset 0 (c ∷ t ++ gap last)) ≡ true = rw f.same at w in
    record {
      head = c;
      tail = t;
      is = refl;
      reads = λ g. word_reads c t last 0 (length (t ++ gap last)) (rw (length_bytes (c ∷ t)) at v) g;
      no_line = λ e g. line_follows c t last f.no_line g;
    }

pub bare_empty : (first last : Bool) → bare first last (bytes_of []) ≡ false
unfolding bare items items_from is_blank chars sequences front first_byte within bytes_of
bare_empty true true = refl
bare_empty true false = refl
bare_empty false true = refl
bare_empty false false = refl

pub bare_stands : (first last : Bool) (v : List ℕ) → Scalars v → bare first last (bytes_of v) ≡ true → Stands first last v
unfolding bare
bare_stands first last [] h w = no_yes (sym (bare_empty first last) ∙ w)
bare_stands true last (c ∷ t) h w = stands_first last c t (rw (tested true last (c ∷ t) h) at w)
bare_stands false last (c ∷ t) h w = stands_on last c t (rw (tested false last (c ∷ t) h) at w)

-- ---- a pair

pub plus_spelled : (v : List ℕ) → bytes_of (code "+" ∷ v) ≡ code "+" ∷ bytes_of v
unfolding bytes_of utf8
plus_spelled v = refl

pub plus_scalars : (v : List ℕ) → Scalars v → Scalars (code "+" ∷ v)
unfolding is_scalar within
plus_scalars v h = (refl, h)

pub splits_reads : (v : List ℕ) → Scalars v → splits (code "+" ∷ bytes_of v) ≡ true → (last : Bool) {cs : List ℕ} → Follows last cs → ReadTwo v cs
unfolding splits items
splits_reads v h w last f =
    let u : is_pair (length (bytes_of (code "+" ∷ v))) (items true (chars (bytes_of (code "+" ∷ v) ++ gap false))) ≡ true = rw (plus_spelled v) w in
    pair_reads v (length (v ++ gap false)) (rw (tested true false (code "+" ∷ v) (plus_scalars v h), length_bytes (code "+" ∷ v)) at u) last f
