-- What is written for entries that may be written back: a text that reads as their shapes. By kind of entry first, then for a list of them.
use Rattle.std.proofs.Common.{Err}
use Prim.Native.Nat.{ℕ}
use mathlib.Core.Path.{◌≡◌, refl, sym, ap, subst, ◌∙◌}
use mathlib.Core.Bool.{Bool, true, false}
use mathlib.Core.List.{List, [], ◌∷◌, ◌++◌, append_assoc, append-nil}
use lib.Dec.{eqb}
use native.Mathlib.Omega.{arith}
use borrow.Author.Tests.{eqb-true, eq-eqb}
use Rattle.laws.specs.Quoted.{code, codes, within}
use Rattle.laws.specs.Texts.{begins, same}
use Rattle.laws.proofs.Choice.{by_bool, and_true, no_yes}
use Rattle.laws.proofs.Compared.{same_is}
use Rattle.chars.specs.Blank.{is_blank}
use Rattle.chars.specs.Encode.{is_scalar, utf8, bytes_of, spelled}
use Rattle.chars.proofs.Bytes.{bytes_append}
use Rattle.chars.proofs.Good.{Scalars}
use Rattle.numbers.specs.declared.ParseError.TheVariants.{NoNumber}
use Rattle.items.specs.declared.Quotes.TheVariants.{Double, Lines}
use Rattle.items.specs.Kinds as kind
use Rattle.items_r7rs.specs.Reading.{Spelling, bytes, ReadAs}
use Rattle.items_r7rs.proofs.Between.{between}
use Rattle.items_writing.specs.Written.{Entry, escape, quoted, gap, bare, splits, identifier, word_of, twins, joined, written}
use Rattle.items_writing.specs.Shapes.{Shape, shape, number_of}
use Rattle.items_writing.proofs.FirstLine.{other_start}
use Rattle.items_writing_theorems.proofs.Reading.{Reading, reading_none, reading_blank, reading_one, reading_two, name_shape}
use Rattle.items_writing.proofs.Follows.{Follows, nothing, space}
use Rattle.items_writing.proofs.PieceByPiece.{written-joined, written_apart}
use Rattle.items_writing_theorems.proofs.Settling.{Settles, Rests, ended, goes, rests_follow, ReadFrom, word_settles, pair_settles}
use Rattle.items_writing_theorems.proofs.Quotes.{quoted_bytes, between_scalars, string_back, lined_back}
use Rattle.items_writing.proofs.Places.{scalars_append, Stands, bare_stands, splits_reads, plus_spelled, plus_scalars, line_follows}

-- An entry that may be written back, and the shape of its item: an identifier or a string whose text is characters; or an extent of
-- characters that is read as such an item where it will stand, and is no first line. `last` says that nothing follows it
pub data Sound (last : Bool) (e : Entry) : Shape → Type 0 where
  name : (v : List ℕ) → e.kind ≡ kind.Identifier → e.text ≡ bytes_of v → Scalars v → Sound last e (name_shape e.text)
  string : (v : List ℕ) → e.kind ≡ kind.StringLiteral → e.text ≡ bytes_of v → Scalars v → Sound last e (shape kind.StringLiteral 0 (bytes e.text) (Err NoNumber))
  extent : (c : ℕ) (t : List ℕ) (d : ℕ) (w : Spelling) → eqb e.kind kind.Identifier ≡ false → eqb e.kind kind.StringLiteral ≡ false
      → e.raw ≡ bytes_of (c ∷ t) → Scalars (c ∷ t) → begins (codes "#!") (c ∷ t ++ gap last) ≡ false
      → ((cs : List ℕ) → Follows last cs → ReadAs true (c ∷ t) cs e.kind d w)
      → Sound last e (shape e.kind d w (number_of e.kind e.raw))

-- ---- a word

-- the characters of a word that was written, how they are read, and that they are written again as they are
pub record Wrote (first last : Bool) (bs : List ℕ) (ws : List Shape) : Type 0 where
  pub word : List ℕ
  pub scalars : Scalars word
  pub bytes_are : bs ≡ bytes_of word
  pub reads : {cs : List ℕ} {ss : List Shape} → Follows last cs → Reading cs ss → Reading (word ++ cs) (ws ++ ss)
  pub no_line : first ≡ true → {cs : List ℕ} → Follows last cs → begins (codes "#!") (word ++ cs) ≡ false
  pub settles : {cs : List ℕ} → Rests last cs → Settles first (word ++ cs)

name_number : (raw : List ℕ) → number_of kind.Identifier raw ≡ Err NoNumber
unfolding number_of
name_number raw = refl

string_number : (raw : List ℕ) → number_of kind.StringLiteral raw ≡ Err NoNumber
unfolding number_of
string_number raw = refl

-- the word of an entry that was read from one
name_again : (first last : Bool) (b : List ℕ) {raw : List ℕ} (e : Entry) → ReadFrom kind.Identifier raw (bytes b) e → word_of first last e ≡ identifier first last b
unfolding word_of
name_again first last b e r = rw (r.kind_is, r.text_is b refl)

string_again : (first last : Bool) (b : List ℕ) {raw : List ℕ} (e : Entry) → ReadFrom kind.StringLiteral raw (bytes b) e → word_of first last e ≡ quoted Double b
unfolding word_of
string_again first last b e r = rw (r.kind_is, r.text_is b refl)

extent_again : (first last : Bool) {k : ℕ} {raw : List ℕ} {w : Spelling} (e : Entry) → eqb k kind.Identifier ≡ false → eqb k kind.StringLiteral ≡ false → ReadFrom k raw w e
    → word_of first last e ≡ raw
unfolding word_of
extent_again first last e i s r = rw r.kind_is (rw (i, s) r.raw_is)

module _ (first last : Bool) (v : List ℕ) (h : Scalars v) where
  name_bare : bare first last (bytes_of v) ≡ true → identifier first last (bytes_of v) ≡ bytes_of v
  unfolding identifier
  name_bare w = rw w

  name_lined : bare first last (bytes_of v) ≡ false → identifier first last (bytes_of v) ≡ quoted Lines (bytes_of v)
  unfolding identifier
  name_lined w = rw w

  bare_wrote : bare first last (bytes_of v) ≡ true → Wrote first last (bytes_of v) (name_shape (bytes_of v) ∷ [])
  bare_wrote w =
      let x : Stands first last v = bare_stands first last v h w in
      record {
        word = v;
        scalars = h;
        bytes_are = refl;
        reads =
            λ {cs} {ss} f r. rw x.is
            (subst (λ n. Reading (x.head ∷ x.tail ++ cs) (shape kind.Identifier 0 (bytes (bytes_of (x.head ∷ x.tail))) n ∷ ss)) (name_number _)
            (reading_one (x.reads f) r));
        no_line = λ e {cs} f. rw x.is (x.no_line e f);
        settles = λ {cs} r. rw x.is (word_settles first (x.reads (rests_follow r)) (λ e q. name_again first last (bytes_of (x.head ∷ x.tail)) e q ∙ rw x.is at (name_bare w)) r);
      }

  lined_wrote : bare first last (bytes_of v) ≡ false → Wrote first last (quoted Lines (bytes_of v)) (name_shape (bytes_of v) ∷ [])
  lined_wrote w = record {
    word = between Lines (escape Lines v);
    scalars = between_scalars Lines v h;
    bytes_are = quoted_bytes Lines v;
    reads = λ {cs} {ss} f r. subst (λ n. Reading (between Lines (escape Lines v) ++ cs) (shape kind.Identifier 0 (bytes (bytes_of v)) n ∷ ss)) (name_number _) (reading_one (lined_back v cs) r);
    no_line = λ e {cs} f. other_start (code "|") _ refl;
    settles = λ {cs} r. word_settles first (lined_back v cs) (λ e q. name_again first last (bytes_of v) e q ∙ (name_lined w ∙ quoted_bytes Lines v)) r;
  }

  name_wrote : Wrote first last (identifier first last (bytes_of v)) (name_shape (bytes_of v) ∷ [])
  unfolding identifier
  name_wrote = by_bool (bare first last (bytes_of v)) (λ w. rw w (bare_wrote w)) (λ w. rw w (lined_wrote w))

  string_wrote : Wrote first last (quoted Double (bytes_of v)) (shape kind.StringLiteral 0 (bytes (bytes_of v)) (Err NoNumber) ∷ [])
  string_wrote = record {
    word = between Double (escape Double v);
    scalars = between_scalars Double v h;
    bytes_are = quoted_bytes Double v;
    reads =
        λ {cs} {ss} f r. subst (λ n. Reading (between Double (escape Double v) ++ cs) (shape kind.StringLiteral 0 (bytes (bytes_of v)) n ∷ ss)) (string_number _)
        (reading_one (string_back v cs) r);
    no_line = λ e {cs} f. other_start (code "\"") _ refl;
    settles = λ {cs} r. word_settles first (string_back v cs) (λ e q. string_again first last (bytes_of v) e q ∙ quoted_bytes Double v) r;
  }

pub word_wrote : (first last : Bool) {e : Entry} {s : Shape} → Sound last e s → Wrote first last (word_of first last e) (s ∷ [])
unfolding word_of
word_wrote first last {e} (name v k t h) = rw (eq-eqb _ _ k, t) (name_wrote first last v h)
word_wrote first last {e} (string v k t h) = rw (k, t) (string_wrote first last v h)
word_wrote first last {e} (extent c t d w i s r h l f) = rw (i, s) (record {
  word = c ∷ t;
  scalars = h;
  bytes_are = r;
  reads = λ {cs} {ss} g q. rw r (reading_one (f cs g) q);
  no_line = λ x {cs} g. line_follows c t last l g;
  settles = λ {cs} g. word_settles first (f cs (rests_follow g)) (λ a q. extent_again first last a i s q) g;
})

-- ---- a list of entries

pub data Sounds : List Entry → List Shape → Type 0 where
  one : {e : Entry} {s : Shape} → Sound true e s → Sounds (e ∷ []) (s ∷ [])
  more : {e f : Entry} {es : List Entry} {s : Shape} {ss : List Shape} → Sound false e s → Sounds (f ∷ es) ss → Sounds (e ∷ f ∷ es) (s ∷ ss)

-- the characters that were written, after a gap
pub record Writes (first : Bool) (bs : List ℕ) (ss : List Shape) : Type 0 where
  pub body : List ℕ
  pub scalars : Scalars body
  pub bytes_are : bs ≡ gap first ++ bytes_of body
  pub reads : Reading body ss
  pub no_line : first ≡ true → begins (codes "#!") body ≡ false
  pub settles : Settles first body

-- an entry that is an identifier
record Name (e : Entry) (s : Shape) : Type 0 where
  text : List ℕ
  is : e.text ≡ bytes_of text
  scalars : Scalars text
  shape_is : s ≡ name_shape e.text

sound_name : {last : Bool} {e : Entry} {s : Shape} → Sound last e s → eqb e.kind kind.Identifier ≡ true → Name e s
sound_name (name v k t h) q = record { text = v; is = t; scalars = h; shape_is = refl }
sound_name {e = e} (string v k t h) q = absurd (omega (arith, eqb-true e.kind kind.Identifier q))
sound_name (extent c t d w i s r h l f) q = no_yes (sym i ∙ q)

-- the last word, and one that others follow
ends_with_lem : (first : Bool) {bs : List ℕ} {ws : List Shape} → Wrote first true bs ws → Writes first (gap first ++ bs) (ws ++ [])
ends_with_lem first {bs} {ws} w = record {
  body = w.word;
  scalars = w.scalars;
  bytes_are = ap (λ (l : List ℕ). gap first ++ l) w.bytes_are;
  reads = subst (λ (l : List ℕ). Reading l (ws ++ [])) (append-nil w.word) (w.reads nothing reading_none);
  no_line = λ e. subst (λ (l : List ℕ). begins (codes "#!") l ≡ false) (append-nil w.word) (w.no_line e nothing);
  settles = subst (Settles first) (append-nil w.word) (w.settles ended);
}

space_scalars : (cs : List ℕ) → Scalars cs → Scalars (code " " ∷ cs)
unfolding is_scalar within
space_scalars cs h = (refl, h)

space_bytes : (cs : List ℕ) → bytes_of (code " " ∷ cs) ≡ code " " ∷ bytes_of cs
unfolding bytes_of utf8
space_bytes cs = refl

space_blank : is_blank (code " ") ≡ true
unfolding is_blank
space_blank = refl

goes_on : (first : Bool) {bs rest : List ℕ} {ws ss : List Shape} → Wrote first false bs ws → Writes false rest ss → Writes first (gap first ++ bs ++ rest) (ws ++ ss)
goes_on first {bs} {rest} {ws} {ss} w r = record {
  body = w.word ++ (code " " ∷ r.body);
  scalars = scalars_append w.word (code " " ∷ r.body) w.scalars (space_scalars r.body r.scalars);
  bytes_are = rw (w.bytes_are, r.bytes_are, bytes_append w.word (code " " ∷ r.body), space_bytes r.body, append_assoc (gap first) (bytes_of w.word) (code " " ∷ bytes_of r.body));
  reads = w.reads (space r.body) (reading_blank (code " ") r.body space_blank r.reads);
  no_line = λ e. w.no_line e (space r.body);
  settles = w.settles (goes r.body r.settles);
}

-- a pair that is written as one word
module _ (e f : Entry) (q : joined e f ≡ true) where
  both : (eqb e.kind kind.Identifier ≡ true) × ((eqb f.kind kind.Identifier ≡ true) × ((e.text ≡ code "+" ∷ []) × (splits (e.text ++ f.text) ≡ true)))
  unfolding joined twins bytes_of utf8
  both =
      let a = and_true (twins e f) (splits (e.text ++ f.text)) q in
      let b = and_true _ (same e.text (spelled "+")) a.0 in
      let c = and_true _ (eqb e.end f.end) b.0 in
      let d = and_true _ (eqb e.start f.start) c.0 in
      let k = and_true (eqb e.kind kind.Identifier) (eqb f.kind kind.Identifier) d.0 in
      (k.0, (k.1, (same_is e.text (spelled "+") b.1, a.1)))

-- over plain texts
plus_wrote : (first last : Bool) (x y v : List ℕ) {s r : Shape} → x ≡ code "+" ∷ [] → y ≡ bytes_of v → Scalars v → splits (x ++ y) ≡ true → s ≡ name_shape x → r ≡ name_shape y
    → Wrote first last (x ++ y) (s ∷ r ∷ [])
plus_wrote first last x y v {s} {r} t u h q a b =
    let p : splits (code "+" ∷ bytes_of v) ≡ true = rw (t, u) at q in
    record {
      word = code "+" ∷ v;
      scalars = plus_scalars v h;
      bytes_are = rw (t, u) (sym (plus_spelled v));
      reads = λ {cs} {ss} g k. rw (a, b, t, u) (reading_two (splits_reads v h p last g) k);
      no_line = λ i {cs} g. other_start (code "+") _ refl;
      settles = λ {cs} k. pair_settles first (splits_reads v h p last (rests_follow k)) p k;
    }

pair_wrote : (e f : Entry) → joined e f ≡ true → (first last : Bool) {x y : Bool} {s r : Shape} → Sound x e s → Sound y f r → Wrote first last (e.text ++ f.text) (s ∷ r ∷ [])
pair_wrote e f q first last {s = s} {r = r} a b =
    let k = both e f q in
    let n : Name f r = sound_name b k.1.0 in
    let m : Name e s = sound_name a k.0 in
    plus_wrote first last e.text f.text n.text k.1.1.0 n.is n.scalars k.1.1.1 m.shape_is n.shape_is

-- two entries, and what follows the second
two_last : (first : Bool) {e f : Entry} {s r : Shape} → Sound false e s → Sound true f r → Writes false (written false (f ∷ [])) (r ∷ [])
    → Writes first (written first (e ∷ f ∷ [])) (s ∷ r ∷ [])
unfolding written
two_last first {e} {f} {s} {r} a b w = by_bool (joined e f)
    (λ q. subst (λ (l : List ℕ). Writes first l (s ∷ r ∷ [])) (sym (written-joined first e f [] q ∙ append-nil (gap first ++ (e.text ++ f.text))))
    (ends_with_lem first (pair_wrote e f q first true a b)))
    (λ q. subst (λ (l : List ℕ). Writes first l (s ∷ r ∷ [])) (sym (written_apart first e f [] q)) (goes_on first (word_wrote first false a) w))

two_more : (first : Bool) {e f : Entry} (es : List Entry) {s r : Shape} {rs : List Shape} → Sound false e s → Sound false f r
    → Writes false (written false (f ∷ es)) (r ∷ rs) → Writes false (written false es) rs → Writes first (written first (e ∷ f ∷ es)) (s ∷ r ∷ rs)
two_more first {e} {f} es {s} {r} {rs} a b w v = by_bool (joined e f)
    (λ q. subst (λ (l : List ℕ). Writes first l (s ∷ r ∷ rs)) (sym (written-joined first e f es q)) (goes_on first (pair_wrote e f q first false a b) v))
    (λ q. subst (λ (l : List ℕ). Writes first l (s ∷ r ∷ rs)) (sym (written_apart first e f es q)) (goes_on first (word_wrote first false a) w))

one_last : (first : Bool) {e : Entry} {s : Shape} → Sound true e s → Writes first (written first (e ∷ [])) (s ∷ [])
unfolding written
one_last first a = ends_with_lem first (word_wrote first true a)

pub writes : {es : List Entry} {ss : List Shape} → Sounds es ss → (first : Bool) → Writes first (written first es) ss
writes (one a) first = one_last first a
writes (more a (one b)) first = two_last first a b (writes (one b) false)
writes (more a (more {f = f} {es = es} b r)) first = two_more first (f ∷ es) a b (writes (more b r) false) (writes r false)
