-- What is written is a piece a turn.
use Rattle.std.proofs.Common.{None, Option}
use Rattle.items.specs.declared.Quotes.{Quotes}
use Prim.Native.Nat.{ℕ, ◌+◌, ◌≤◌, ◌<◌}
use mathlib.Core.Path.{◌≡◌, refl, sym, ap, ◌∙◌}
use mathlib.Core.Bool.{Bool, true, false, not, ◌&&◌}
use mathlib.Core.List.{List, [], ◌∷◌, ◌++◌, append-nil}
use lib.Dec.{eqb}
use native.Mathlib.Omega.{arith}
use borrow.Author.Tests.{eq-eqb}
use Rattle.laws.specs.Quoted.{code, codes}
use Rattle.laws.specs.Texts.{same}
use Rattle.laws.proofs.Choice.{by_bool, and_true}
use Rattle.laws.proofs.Compared.{same_is}
use Rattle.chars.specs.Encode.{utf8, bytes_of, spelled}
use Rattle.items.specs.Kinds as kind
use Rattle.items_writing.specs.declared.WriteWords.{WriteWords}
use Rattle.items_writing.specs.Written.{Entry, gap, bare, splits, identifier, word_of, twins, joined, written}
use Rattle.items_writing.specs.Records.{count_of, words_at, rest, records_in, is_right, entry_of, entries_of}
use Rattle.items_writing.specs.Pieces.{body_of, form_for, shown, lone, piece, AllRight, entry_at, onward, TurnSaid}
use Rattle.items_writing.proofs.RightRecords.{rest_cons, rest_end, right_at}

-- ---- two entries in a row

module _ (first : Bool) (e f : Entry) (es : List Entry) where
  pub written-joined : joined e f ≡ true → written first (e ∷ f ∷ es) ≡ gap first ++ (e.text ++ f.text) ++ written false es
  unfolding written
  written-joined q = rw q

  pub written_apart : joined e f ≡ false → written first (e ∷ f ∷ es) ≡ gap first ++ word_of first false e ++ written false (f ∷ es)
  unfolding written
  written_apart q = rw q

-- ---- an item's word

gap-lone : (first : Bool) → gap first ≡ lone (not first) (code " ")
gap-lone true = refl
gap-lone false = refl

word_shown : (first last : Bool) (e : Entry) → word_of first last e ≡ shown (form_for e.kind first last (body_of e)) (body_of e)
unfolding word_of identifier form_for
word_shown first last e = by_bool (eqb e.kind kind.Identifier)
    (λ f. by_bool (bare first last e.text) (λ g. rw (f, g)) (λ g. rw (f, g)))
    (λ f. by_bool (eqb e.kind kind.StringLiteral) (λ g. rw (f, g)) (λ g. rw (f, g)))

-- ---- pieces

module _ (first : Bool) (e : Entry) where
  abbrev its_piece : Bool → List ℕ
  its_piece last = piece first false (form_for e.kind first last (body_of e)) (body_of e)

  its_word : (last : Bool) → gap first ++ word_of first last e ≡ its_piece last
  unfolding piece
  its_word last = rw (gap-lone first, word_shown first last e)

  last_piece : written first (e ∷ []) ≡ its_piece true ++ []
  unfolding written
  last_piece = its_word true ∙ sym (append-nil (its_piece true))

  module _ (f : Entry) (es : List Entry) where
    more_piece : joined e f ≡ false → written first (e ∷ f ∷ es) ≡ its_piece false ++ written false (f ∷ es)
    more_piece q = written_apart first e f es q ∙ ap (λ (l : List ℕ). l ++ written false (f ∷ es)) (its_word false)

    module _ (q : joined e f ≡ true) where
      the_plus : e.text ≡ code "+" ∷ []
      unfolding joined twins bytes_of utf8
      the_plus =
          let a = and_true (twins e f) (splits (e.text ++ f.text)) q in
          let b = and_true (eqb e.kind kind.Identifier && eqb f.kind kind.Identifier && eqb e.start f.start && eqb e.end f.end) (same e.text (spelled "+")) a.0 in
          same_is e.text (spelled "+") b.1

      its_kind : eqb f.kind kind.Identifier ≡ true
      unfolding joined twins
      its_kind =
          let a = and_true (twins e f) (splits (e.text ++ f.text)) q in
          let b = and_true (eqb e.kind kind.Identifier && eqb f.kind kind.Identifier && eqb e.start f.start && eqb e.end f.end) (same e.text (spelled "+")) a.0 in
          let c = and_true (eqb e.kind kind.Identifier && eqb f.kind kind.Identifier && eqb e.start f.start) (eqb e.end f.end) b.0 in
          let d = and_true (eqb e.kind kind.Identifier && eqb f.kind kind.Identifier) (eqb e.start f.start) c.0 in
          (and_true (eqb e.kind kind.Identifier) (eqb f.kind kind.Identifier) d.0).1

      pair_word : gap first ++ (e.text ++ f.text) ≡ piece first true None (body_of f)
      unfolding piece
      pair_word = rw (the_plus, its_kind, gap-lone first)

      pair_piece : written first (e ∷ f ∷ es) ≡ piece first true None (body_of f) ++ written false es
      pair_piece = written-joined first e f es q ∙ ap (λ (l : List ℕ). l ++ written false es) pair_word

-- ---- by places

module _ (records source text : List ℕ) (first : Bool) (p : ℕ) (h : p < count_of records) where
  abbrev entry_here : ℕ → Entry
  entry_here n = entry_at records source text n

  abbrev after : ℕ → List ℕ
  after n = onward records source text false n

  pub at_last : count_of records ≤ p + 1
      → onward records source text first p ≡ piece first false (form_for (entry_here p).kind first true (body_of (entry_here p))) (body_of (entry_here p)) ++ after (p + 1)
  unfolding written
  at_last g = rw (rest_cons records p h, rest_end records (p + 1) g) (last_piece first (entry_here p))

  module _ (g : p + 1 < count_of records) where
    pub at_more : joined (entry_here p) (entry_here (p + 1)) ≡ false
        → onward records source text first p ≡ piece first false (form_for (entry_here p).kind first false (body_of (entry_here p))) (body_of (entry_here p)) ++ after (p + 1)
    at_more q = rw (rest_cons records p h, rest_cons records (p + 1) g) (more_piece first (entry_here p) (entry_here (p + 1)) (entries_of source text (rest records (p + 1 + 1))) q)

    pub at_pair : joined (entry_here p) (entry_here (p + 1)) ≡ true
        → onward records source text first p ≡ piece first true None (body_of (entry_here (p + 1))) ++ after (p + 1 + 1)
    at_pair q = rw (rest_cons records p h, rest_cons records (p + 1) g) (pair_piece first (entry_here p) (entry_here (p + 1)) (entries_of source text (rest records (p + 1 + 1))) q)

pub at_end_case : (records source text : List ℕ) (first : Bool) (p : ℕ) → count_of records ≤ p → onward records source text first p ≡ []
unfolding written
at_end_case records source text first p h = rw (rest_end records p h)

-- ---- two that are joined

pub joined_so : (e f : Entry) → e.kind ≡ kind.Identifier → f.kind ≡ kind.Identifier → e.start ≡ f.start → e.end ≡ f.end → same e.text (codes "+") ≡ true
    → {y : List ℕ} {s : Bool} → y ≡ f.text → s ≡ splits (code "+" ∷ y) → s ≡ joined e f
unfolding joined twins bytes_of utf8
joined_so e f a b c d z g k =
    let t : e.text ≡ codes "+" = same_is e.text (codes "+") z in
    rw (eq-eqb e.kind kind.Identifier a, eq-eqb f.kind kind.Identifier b, eq-eqb e.start f.start c, eq-eqb e.end f.end d, z)
    (k ∙ (ap (λ (l : List ℕ). splits (code "+" ∷ l)) g ∙ ap (λ (l : List ℕ). splits (l ++ f.text)) (sym t)))

-- ---- a turn

module _ (records source text : List ℕ) (first : Bool) (p : ℕ) (h : p < count_of records) (all : AllRight source text (records_in records)) {w : WriteWords} (e : w ≡ words_at records p) where
  pub here_right : is_right source text w ≡ true
  here_right = ap (is_right source text) e ∙ right_at records source text p all h

  module _ (last : Bool) {b : List ℕ} {f : Option Quotes} (y : b ≡ body_of (entry_of source text w)) (x : f ≡ form_for w.kind first last b) where
    form_is : f ≡ form_for (words_at records p).kind first last (body_of (entry_at records source text p))
    form_is = x ∙ (ap (form_for w.kind first last) y ∙ ap (λ (u : WriteWords). form_for u.kind first last (body_of (entry_of source text u))) e)

    said : onward records source text first p
        ≡ piece first false (form_for (words_at records p).kind first last (body_of (entry_at records source text p))) (body_of (entry_at records source text p)) ++
        onward records source text false (p + 1)
        → TurnSaid records source text first p (record { last = p; pair = false; form = f })
    said g = record {
      from = omega arith;
      inside = h;
      body_right = right_at records source text p all h;
      goes = g ∙ ap (λ (q : Option Quotes). piece first false q (body_of (entry_at records source text p)) ++ onward records source text false (p + 1)) (sym form_is);
    }

  pub said_last : count_of records ≤ p + 1 → {b : List ℕ} {f : Option Quotes} → b ≡ body_of (entry_of source text w) → f ≡ form_for w.kind first true b
      → TurnSaid records source text first p (record { last = p; pair = false; form = f })
  said_last g y x = said true y x (at_last records source text first p h g)

  module _ (g : p + 1 < count_of records) {v : WriteWords} (d : v ≡ words_at records (p + 1)) {j : Bool} (q : j ≡ joined (entry_of source text w) (entry_of source text v)) where
    asked : j ≡ joined (entry_at records source text p) (entry_at records source text (p + 1))
    asked = q ∙ (ap (λ (u : WriteWords). joined (entry_of source text u) (entry_of source text v)) e ∙ ap (λ (u : WriteWords). joined (entry_at records source text p) (entry_of source text u)) d)

    pub said_more : j ≡ false → {b : List ℕ} {f : Option Quotes} → b ≡ body_of (entry_of source text w) → f ≡ form_for w.kind first false b
        → TurnSaid records source text first p (record { last = p; pair = false; form = f })
    said_more z y x = said false y x (at_more records source text first p h g (sym asked ∙ z))

    pub said_pair : j ≡ true → TurnSaid records source text first p (record { last = p + 1; pair = true; form = None })
    said_pair z = record {
      from = omega arith;
      inside = g;
      body_right = right_at records source text (p + 1) all g;
      goes = at_pair records source text first p h g (sym asked ∙ z);
    }
