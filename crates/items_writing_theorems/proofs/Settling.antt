-- Writing again what is read from a text that was written gives that text: what a word, and a pair, adds to what follows it.
use Prim.Native.Nat.{ℕ, zero, suc, ◌+◌, ◌≤◌, ◌<◌}
use mathlib.Core.Path.{◌≡◌, refl, sym, ap, subst, ◌∙◌}
use mathlib.Core.Bool.{Bool, true, false, ◌&&◌}
use mathlib.Core.List.{List, [], ◌∷◌, ◌++◌, append_assoc, append-nil}
use lib.ListN.{length, length-append}
use lib.Dec.{eqb}
use native.Mathlib.Omega.{arith}
use native.Mathlib.Nat.{le_of_suc-le-suc}
use borrow.Author.Tests.{eq-eqb, ne_eqb, ltb-true}
use Rattle.laws.specs.Quoted.{code}
use Rattle.laws.specs.Texts.{same}
use Rattle.laws.proofs.Choice.{and_no, impossible}
use Rattle.chars.specs.Blank.{is_blank}
use Rattle.chars.specs.Encode.{utf8, width, bytes_of}
use Rattle.chars.proofs.Bytes.{bytes_append}
use Rattle.items.specs.Kinds as kind
use Rattle.items.specs.Meaning.{Text, none, source, decoded}
use Rattle.items.specs.Items.{Item, unset, items_from, byte_count}
use Rattle.items.proofs.Every.{Every}
use Rattle.items.proofs.Splits.{length_bytes}
use Rattle.items_r7rs.specs.Reading.{Spelling, bytes, item, ReadAs}
use Rattle.items_r7rs.proofs.Bytes.{bytes_some, bytes_ascii}
use Rattle.items_writing.specs.Written.{Entry, text_bytes, entry, entries, gap, splits, word_of, twins, joined, written}
use Rattle.items_writing.specs.Shapes.{spells}
use Rattle.items_writing_theorems.proofs.Parts.{part_all}
use Rattle.items_writing.proofs.ReadsBack.{ReadTwo, later}
use Rattle.items_writing.proofs.PieceByPiece.{written-joined, written_apart}
use Rattle.items_writing.proofs.Follows.{Follows, nothing as nothing-follows, space}
use Rattle.items_writing_theorems.proofs.Reading.{read_inside, spells_in, regrouped, further, first_part, second-part}

-- ---- two entries in a row

-- those that start at different places are no pair
not_joined : (e f : Entry) → e.start < f.start → joined e f ≡ false
unfolding joined twins
not_joined e f h =
    let n : eqb e.start f.start ≡ false = ne_eqb e.start f.start (λ q. omega arith) in
    rw (n, and_no (eqb e.kind kind.Identifier && eqb f.kind kind.Identifier))

-- two identifiers of one extent, the first `+`, whose word reads back as the pair
are_joined : (e f : Entry) → e.kind ≡ kind.Identifier → f.kind ≡ kind.Identifier → e.start ≡ f.start → e.end ≡ f.end → e.text ≡ code "+" ∷ [] → splits (e.text ++ f.text) ≡ true
    → joined e f ≡ true
unfolding joined twins same bytes_of utf8
are_joined e f k l a b t q = rw (eq-eqb e.kind kind.Identifier k, eq-eqb f.kind kind.Identifier l, eq-eqb e.start f.start a, eq-eqb e.end f.end b, q, t)

-- ---- a text that settles

-- the characters cs, wherever they stand, written again as they are read, give themselves
abbrev pub Settles : Bool → List ℕ → Type 0
Settles first cs = (pre : List ℕ) (turns : ℕ) → length cs ≤ turns
    → written first (entries (pre ++ bytes_of cs) (items_from true turns unset (length pre) cs)) ≡ gap first ++ bytes_of cs

-- what follows a word: nothing, or a space and such a text
pub data Rests : Bool → List ℕ → Type 0 where
  ended : Rests true []
  goes : (u : List ℕ) → Settles false u → Rests false (code " " ∷ u)

pub rests_follow : {last : Bool} {cs : List ℕ} → Rests last cs → Follows last cs
rests_follow ended = nothing-follows
rests_follow (goes u s) = space u

no_items : (turns n : ℕ) → items_from true turns unset n [] ≡ []
unfolding items_from
no_items zero n = refl
no_items (suc turns) n = refl

-- the items after a space
module _ (pre : List ℕ) (turns : ℕ) (u : List ℕ) where
  past_space : items_from true (suc turns) unset (length pre) (code " " ∷ u) ≡ items_from true turns unset (length (pre ++ (code " " ∷ []))) u
  unfolding items_from is_blank width
  past_space = rw (length-append pre (code " " ∷ []))

  space_passed : (pre ++ (code " " ∷ [])) ++ bytes_of u ≡ pre ++ bytes_of (code " " ∷ u)
  unfolding bytes_of utf8
  space_passed = append_assoc pre (code " " ∷ []) (bytes_of u)

  space_bytes : bytes_of (code " " ∷ u) ≡ code " " ∷ bytes_of u
  unfolding bytes_of utf8
  space_bytes = refl

  -- are written again, and start later
  after_space : Settles false u → length u ≤ turns → written false
      (entries (pre ++ bytes_of (code " " ∷ u)) (items_from true (suc turns) unset (length pre) (code " " ∷ u))) ≡ bytes_of (code " " ∷ u)
  after_space s h = rw (past_space, ← space_passed, space_bytes) (s (pre ++ (code " " ∷ [])) turns h)

  start_later : Every (λ (i : Item). length pre + 1 ≤ i.start) (items_from true (suc turns) unset (length pre) (code " " ∷ u))
  start_later = rw past_space (subst (λ (n : ℕ). Every (λ (i : Item). n ≤ i.start) (items_from true turns unset (length (pre ++ (code " " ∷ []))) u)) (length-append pre (code " " ∷ []))
      (later turns (length (pre ++ (code " " ∷ []))) u))

-- what follows a word, written again
rest_again : {last : Bool} {cs : List ℕ} → Rests last cs → (pre : List ℕ) (turns : ℕ) → length cs ≤ turns
    → written false (entries (pre ++ bytes_of cs) (items_from true turns unset (length pre) cs)) ≡ bytes_of cs
unfolding written bytes_of
rest_again ended pre turns h = rw (no_items turns (length pre))
rest_again (goes u s) pre zero h = absurd (omega arith)
rest_again (goes u s) pre (suc turns) h = after_space pre turns u s (le_of_suc-le-suc h)

-- ---- an entry before what follows it

apart_again : (first : Bool) (e : Entry) (l : List ℕ) (is : List Item) (n x : ℕ) {xs : List ℕ} → e.start < n → Every (λ (i : Item). n ≤ i.start) is
    → written false (entries l is) ≡ x ∷ xs → written first (e ∷ entries l is) ≡ gap first ++ word_of first false e ++ (x ∷ xs)
unfolding written
apart_again first e l [] n x h g w = impossible cc
apart_again first e l (i ∷ is) n x h g w =
    written_apart first e (entry l i) (entries l is) (not_joined e (entry l i) (omega (arith, g.0))) ∙ ap (λ (y : List ℕ). gap first ++ word_of first false e ++ y) w

module _ (first : Bool) (e : Entry) where
  word_again : {last : Bool} {cs : List ℕ} → Rests last cs → (pre : List ℕ) (turns : ℕ) → length cs ≤ turns → e.start < length pre
      → written first (e ∷ entries (pre ++ bytes_of cs) (items_from true turns unset (length pre) cs)) ≡ gap first ++ word_of first last e ++ bytes_of cs
  unfolding written bytes_of utf8
  word_again ended pre turns h n = rw (no_items turns (length pre)) (sym (append-nil (gap first ++ word_of first true e)))
  word_again (goes u s) pre zero h n = absurd (omega arith)
  word_again (goes u s) pre (suc turns) h n =
      rw (space_bytes pre turns u)
      (apart_again first e (pre ++ bytes_of (code " " ∷ u)) (items_from true (suc turns) unset (length pre) (code " " ∷ u)) (length pre + 1) (code " ") (omega arith) (start_later pre turns u)
      (after_space pre turns u s (le_of_suc-le-suc h) ∙ space_bytes pre turns u))

-- ---- a word

-- an entry that was read from a word: its kind, its extent's bytes and its text
pub record ReadFrom (k : ℕ) (raw : List ℕ) (w : Spelling) (e : Entry) : Type 0 where
  pub kind_is : e.kind ≡ k
  pub raw_is : e.raw ≡ raw
  pub text_is : (b : List ℕ) → w ≡ bytes b → e.text ≡ b

text_spelled : (s : List ℕ) (x : Text) (b : List ℕ) → spells s x ≡ bytes b → text_bytes s x ≡ b
text_spelled s none b h = impossible cc
text_spelled s (source x y) b h = cc
text_spelled s (decoded bs) b h = cc

module _ {c k d : ℕ} {t cs : List ℕ} {w : Spelling} (r : ReadAs true (c ∷ t) cs k d w) (pre : List ℕ) where
  abbrev word : List ℕ
  word = c ∷ t

  abbrev all : List ℕ
  all = pre ++ (bytes_of word ++ bytes_of cs)

  abbrev read : Entry
  read = entry all (item k d (length pre) (length pre + byte_count word) (r.text (length pre)))

  read_from_lem : ReadFrom k (bytes_of word) w read
  read_from_lem =
      let l : byte_count word ≡ length (bytes_of word) = sym (length_bytes word) in
      record {
        kind_is = refl;
        raw_is = rw l (part_all pre (bytes_of word) (bytes_of cs));
        text_is =
            λ b e. text_spelled all (r.text (length pre)) b
            (spells_in pre (bytes_of word) (bytes_of cs) (r.text (length pre)) (rw l at (read_inside r (length pre))) ∙ (r.spells (length pre) ∙ e));
      }

pub word_settles : (first : Bool) {last : Bool} {c k d : ℕ} {t cs : List ℕ} {w : Spelling} → ReadAs true (c ∷ t) cs k d w
    → ((e : Entry) → ReadFrom k (bytes_of (c ∷ t)) w e → word_of first last e ≡ bytes_of (c ∷ t)) → Rests last cs → Settles first (c ∷ t ++ cs)
word_settles first {last} {c} {k} {d} {t} {cs} {w} r f s pre zero h = absurd (omega arith)
word_settles first {last} {c} {k} {d} {t} {cs} {w} r f s pre (suc turns) h =
    let front : List ℕ = pre ++ bytes_of (c ∷ t) in
    let n : length pre < length front = omega (arith, length-append pre (bytes_of (c ∷ t)), ltb-true 0 (length (bytes_of (c ∷ t))) (bytes_some c t)) in
    let e : Entry = read r pre in
    let x : written first (e ∷ entries (front ++ bytes_of cs) (items_from true turns unset (length front) cs)) ≡ gap first ++ word_of first last e ++ bytes_of cs
    = word_again first e s front turns (omega (arith, length-append t cs)) n in
    let y : gap first ++ word_of first last e ++ bytes_of cs ≡ gap first ++ bytes_of (c ∷ t ++ cs)
    = rw (f e (read_from_lem r pre), bytes_append (c ∷ t) cs) (append_assoc (gap first) (bytes_of (c ∷ t)) (bytes_of cs)) in
    rw (regrouped pre (c ∷ t) cs, r.one turns (length pre) unset)
    (subst (λ (m : ℕ). written first (e ∷ entries (all r pre) (items_from true turns unset m cs)) ≡ gap first ++ bytes_of (c ∷ t ++ cs)) (further pre (c ∷ t))
    (subst (λ (l : List ℕ). written first (e ∷ entries l (items_from true turns unset (length front) cs)) ≡ gap first ++ bytes_of (c ∷ t ++ cs))
    (append_assoc pre (bytes_of (c ∷ t)) (bytes_of cs)) (x ∙ y)))

-- ---- a pair

module _ {t cs : List ℕ} (r : ReadTwo t cs) (pre : List ℕ) where
  abbrev pair_text : List ℕ
  pair_text = pre ++ (bytes_of (code "+" ∷ t) ++ bytes_of cs)

  abbrev pair_end : ℕ
  pair_end = length pre + byte_count (code "+" ∷ t)

  abbrev plus : Entry
  plus = entry pair_text (item kind.Identifier 0 (length pre) pair_end (source (length pre) (length pre + 1)))

  abbrev name : Entry
  name = entry pair_text (item kind.Identifier 0 (length pre) pair_end (source (length pre + 1) pair_end))

  pair_joined : splits (code "+" ∷ bytes_of t) ≡ true → joined plus name ≡ true
  pair_joined q =
      are_joined plus name refl refl refl refl (first_part pre t (bytes_of cs)) (rw (first_part pre t (bytes_of cs), second-part pre t (bytes_of cs)) q)

  pair_bytes : (first : Bool) → gap first ++ (plus.text ++ name.text) ++ bytes_of cs ≡ gap first ++ bytes_of (code "+" ∷ t ++ cs)
  pair_bytes first =
      let b : bytes_of (code "+" ∷ t ++ cs) ≡ (code "+" ∷ bytes_of t) ++ bytes_of cs = bytes_append (code "+" ∷ t) cs ∙ rw (bytes_ascii (code "+") t refl) in
      rw (first_part pre t (bytes_of cs), second-part pre t (bytes_of cs), b) (append_assoc (gap first) (code "+" ∷ bytes_of t) (bytes_of cs))

pub pair_settles : (first : Bool) {last : Bool} {t cs : List ℕ} → ReadTwo t cs → splits (code "+" ∷ bytes_of t) ≡ true → Rests last cs → Settles first (code "+" ∷ t ++ cs)
pair_settles first {last} {t} {cs} r q s pre zero h = absurd (omega arith)
pair_settles first {last} {t} {cs} r q s pre (suc turns) h =
    let front : List ℕ = pre ++ bytes_of (code "+" ∷ t) in
    let x : written false (entries (front ++ bytes_of cs) (items_from true turns unset (length front) cs)) ≡ bytes_of cs
    = rest_again s front turns (omega (arith, length-append t cs)) in
    let y : written false (entries (pair_text r pre) (items_from true turns unset (pair_end r pre) cs)) ≡ bytes_of cs
    = subst (λ (m : ℕ). written false (entries (pair_text r pre) (items_from true turns unset m cs)) ≡ bytes_of cs) (further pre (code "+" ∷ t))
    (subst (λ (l : List ℕ). written false (entries l (items_from true turns unset (length front) cs)) ≡ bytes_of cs) (append_assoc pre (bytes_of (code "+" ∷ t)) (bytes_of cs)) x) in
    rw (regrouped pre (code "+" ∷ t) cs, r.two turns (length pre) unset)
    (written-joined first (plus r pre) (name r pre) (entries (pair_text r pre) (items_from true turns unset (pair_end r pre) cs)) (pair_joined r pre q)
    ∙ (ap (λ (l : List ℕ). gap first ++ ((plus r pre).text ++ (name r pre).text) ++ l) y ∙ pair_bytes r pre first))
