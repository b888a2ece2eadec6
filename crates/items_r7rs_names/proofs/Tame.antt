-- Of what is read as an identifier and begins with no vertical line, no character ends a word before the first odd one: a word and a run stop there.
use Prim.Native.Nat.{ℕ, ◌+◌}
use mathlib.Core.Path.{◌≡◌, refl, sym, ap, subst, ◌∙◌}
use mathlib.Core.Bool.{Bool, true, false}
use mathlib.Core.List.{List, [], ◌∷◌, ◌++◌}
use mathlib.Core.Logic.{◌⊎◌, inl, inr}
use lib.ListN.{length, length-append}
use lib.Dec.{eqb}
use native.Mathlib.Omega.{arith}
use borrow.Author.Tests.{eqb-true, ne_eqb}
use Rattle.laws.specs.Quoted.{codes, code, one_of}
use Rattle.laws.proofs.Choice.{by_bool, no_yes, if_is}
use Rattle.chars.specs.Blank.{is_blank}
use Rattle.items.specs.declared.Outcome.{Outcome}
use Rattle.items.specs.declared.Outcome.TheVariants.{Token, Str, HereStr, Word, Run, Lined, Keyword, Character, Error, ErrorAt}
use Rattle.items.specs.declared.Quotes.{Quotes}
use Rattle.items.specs.declared.Quotes.TheVariants.{Double, Lines}
use Rattle.items.specs.Classes.{First, semicolon, quote, comma, hash, number, single, vertical, backslash, wordy, first_of, starts_run, delim_of, in_quotes}
use Rattle.items.specs.Classes.{breaks_word, skips, goes, in_word, stays_run, stays, ends_run, bars_run, in_run}
use Rattle.items.specs.Kinds as kind
use Rattle.items.specs.Meaning.{Meaning, meaning_of}
use Rattle.items.specs.Readers.{SoFar, so_far, eat, Read, got, comment, closed, read_line, read_comma, read_word_on, read_word, read_run, read_quoted, read_item}
use Rattle.items.proofs.Cases.{by_first, by_word, by_run}
use Rattle.items.proofs.Every.{Every}
use Rattle.items_r7rs.proofs.Classes.{at_one_of}
use Rattle.items_r7rs.proofs.Reading.{eats}
use Rattle.items_r7rs_words.proofs.Readings.{In, every_in}
use Rattle.items_decoding.specs.Elements.{Ends, closing, text_over, Well, Decoded, written}
use Rattle.items_decoding.proofs.Reading.{reads_through}
use Rattle.items_decoding.proofs.Decoding.{quoted_item, same_way}
use Rattle.items_r7rs_names.specs.Names.{mark}
use Rattle.items_r7rs_names.proofs.Names.{Tame}
use Rattle.items_r7rs_names.proofs.Names as tame

-- ---- words and runs

word_breaks : (c : ℕ) → in_word c ≡ goes → breaks_word c ≡ false
unfolding in_word
word_breaks c h = by_bool (breaks_word c) (λ e. let z = rw e at h in cc) (λ e. e)

word_skips : (c : ℕ) → in_word c ≡ skips → one_of (codes "#|\\") c ≡ true
unfolding in_word
word_skips c h =
    by_bool (breaks_word c) (λ e. let z = rw e at h in cc)
    (λ e. by_bool (eqb c (code "\\")) (λ f. rw (eqb-true c (code "\\") f)) (λ f. let z = rw (e, f) at h in cc))

run_stays : (report : Bool) (raw : List ℕ) (c : ℕ) → in_run report raw c ≡ stays → breaks_word c ≡ false
unfolding in_run stays_run breaks_word is_blank
run_stays report raw c h =
    by_bool (stays_run c)
    (λ e. at_one_of breaks_word false (codes "+-./@0123456789aAbBcCdDeEfFin") c refl e)
    (λ e. by_bool (ends_run report c)
    (λ f. let z = rw (e, f) at h in cc)
    (λ f. by_bool (bars_run report raw c) (λ g. let z = rw (e, f, g) at h in cc) (λ g. let z = rw (e, f, g) at h in cc)))

-- what is left is not more than there was
no_more_left : {A : Type 0} (c : ℕ) (t rest : List ℕ) → c ∷ t ++ rest ≡ rest → A
no_more_left c t rest e = absurd (omega (arith, ap length e, length-append t rest))

word_tame : (i : SoFar) (t rest : List ℕ) → (read_word_on i (t ++ rest)).rest ≡ rest → Tame t
unfolding read_word_on
word_tame i [] rest h = tame.none
word_tame i (c ∷ t) rest h = by_word (in_word c)
    (λ e. no_more_left c t rest (rw (e, read_word_on) at h))
    (λ e. tame.stops (mark (word_skips c e)))
    (λ e. tame.goes (word_breaks c e) (word_tame (eat i c) t rest (rw (e, read_word_on) at h)))

run_tame : (report : Bool) (i : SoFar) (t rest : List ℕ) → (read_run report i (t ++ rest)).rest ≡ rest → Tame t
unfolding read_run read_word
run_tame report i [] rest h = tame.none
run_tame report i (c ∷ t) rest h = by_run (in_run report i.bytes c)
    (λ e. tame.goes (run_stays report i.bytes c e) (run_tame report (eat i c) t rest (rw (e, read_run) at h)))
    (λ e. no_more_left c t rest (rw (e, read_run) at h))
    (λ e. by_bool (eqb c (code "|"))
    (λ f. tame.stops (mark (rw (eqb-true c (code "|") f))))
    (λ f. word_tame i (c ∷ t) rest (rw (f, read_word) at (rw (e, read_run) at h))))

-- ---- the first character

-- what it is where it begins something; a token's kind is no identifier's
abbrev Begins : ℕ → First → Type 0
Begins c semicolon = Unit {0}
Begins c quote = c ≡ code "\""
Begins c comma = Unit {0}
Begins c hash = one_of (codes "#|\\") c ≡ true
Begins c number = one_of (codes "([)]{}'\"`;,") c ≡ false
Begins c (single k d) = eqb k kind.Identifier ≡ false
Begins c vertical = c ≡ code "|"
Begins c backslash = one_of (codes "#|\\") c ≡ true
Begins c wordy = one_of (codes "([)]{}'\"`;,") c ≡ false

begins : (c : ℕ) → Begins c (first_of c)
unfolding first_of starts_run
begins c =
    if_is (Begins c) (eqb c (code ";")) (λ _. tt) (λ e₁.
    if_is (Begins c) (eqb c (code "\"")) (λ e. eqb-true c (code "\"") e) (λ e₂.
    if_is (Begins c) (eqb c (code ",")) (λ _. tt) (λ e₃.
    if_is (Begins c) (eqb c (code "#")) (λ e. rw e) (λ e₄.
    if_is (Begins c) (eqb c (code "(")) (λ _. refl) (λ e₅.
    if_is (Begins c) (eqb c (code "[")) (λ _. refl) (λ e₆.
    if_is (Begins c) (eqb c (code "{")) (λ _. refl) (λ e₇.
    if_is (Begins c) (eqb c (code ")")) (λ _. refl) (λ e₈.
    if_is (Begins c) (eqb c (code "]")) (λ _. refl) (λ e₉.
    if_is (Begins c) (eqb c (code "}")) (λ _. refl) (λ e₁₀.
    if_is (Begins c) (eqb c (code "'")) (λ _. refl) (λ e₁₁.
    if_is (Begins c) (eqb c (code "`")) (λ _. refl) (λ e₁₂.
    let none : one_of (codes "([)]{}'\"`;,") c ≡ false = rw (e₁, e₂, e₃, e₅, e₆, e₇, e₈, e₉, e₁₀, e₁₁, e₁₂) in
    if_is (Begins c) (starts_run c) (λ _. none) (λ _.
    if_is (Begins c) (eqb c (code "|")) (λ e. eqb-true c (code "|") e) (λ f.
    if_is (Begins c) (eqb c (code "\\")) (λ e. rw (e₄, f, e)) (λ _. none)))))))))))))))

-- ---- what is read

-- a line is a comment
line_what : (i : SoFar) (cs : List ℕ) → (read_line i cs).what ≡ comment
unfolding read_line
line_what i [] = refl
line_what i (c ∷ cs) = by_bool (eqb c (code "\n")) (λ e. rw (e, read_line)) (λ e. rw (e, read_line) (line_what (eat i c) cs))

-- a comma is one or the other mark
comma_what : (i : SoFar) (cs : List ℕ) → ((read_comma i cs).what ≡ Token kind.Unquote 0) ⊎ ((read_comma i cs).what ≡ Token kind.UnquoteSplice 0)
unfolding read_comma
comma_what i [] = inl refl
comma_what i (c ∷ cs) = by_bool (eqb c (code "@")) (λ e. rw (e, read_comma) (inr refl)) (λ e. rw (e, read_comma) (inl refl))

-- what stands in quotes, at its end
module _ (report : Bool) where
  at_end_case : (k : Quotes) (j : SoFar) {after : List ℕ} → Ends k after → (read_quoted report k j after).what ≡ closed k (read_quoted report k j after).item.bytes
  unfolding read_quoted in_quotes
  at_end_case Double j (closing rest) = refl
  at_end_case Double j (text_over e) = cc
  at_end_case Lines j (closing rest) = refl
  at_end_case Lines j (text_over e) = refl

  pub quoted_what : (k : Quotes) (at : ℕ) (cs : List ℕ) → Decoded k cs (read_item report at (delim_of k) cs)
      → (read_item report at (delim_of k) cs).what ≡ closed k (read_item report at (delim_of k) cs).item.bytes
  quoted_what k at cs d =
      let i : SoFar = eat (so_far [] at) (delim_of k) in
      let same : read_item report at (delim_of k) cs ≡ read_quoted report k (eats i (written d.parts)) d.after
      = quoted_item report k at cs ∙ ap (read_quoted report k i) (sym d.text) ∙ reads_through report k d.elements i in
      subst (λ (r : Read). r.what ≡ closed k r.item.bytes) (sym same) (at_end_case k (eats i (written d.parts)) d.ends)

-- an item of kind Identifier, from s to e, with the bytes raw and the outcome `what`
module _ (report : Bool) (s e : ℕ) (raw rest : List ℕ) (what : Outcome) (m : Meaning) (meant : In m (meaning_of report what s e raw))
    (k : eqb m.kind kind.Identifier ≡ true) where
  -- it is no outcome that means something else
  other_kind : {A : Type 0} (o : Outcome) → Every (λ (n : Meaning). eqb n.kind kind.Identifier ≡ false) (meaning_of report o s e raw) → what ≡ o → A
  other_kind o h f =
      no_yes (sym (every_in (λ (n : Meaning). eqb n.kind kind.Identifier ≡ false) h (subst (λ (o : Outcome). In m (meaning_of report o s e raw)) f meant)) ∙ k)

  no_error_holds : (n d : ℕ) → eqb (kind.first_error + n) kind.Identifier ≡ false
  no_error_holds n d = ne_eqb (kind.first_error + n) kind.Identifier (λ z. omega arith)

  pub well : Well what
  well = go what refl
    where
      go : (o : Outcome) → what ≡ o → Well o
      go (Token n d) f = tt
      go Str f = tt
      go HereStr f = tt
      go Word f = tt
      go Run f = tt
      go Lined f = tt
      go Keyword f = tt
      go Character f = tt
      go (Error n d) f = other_kind (Error n d) (no_error_holds n d, tt) f
      go (ErrorAt n d a b) f = other_kind (ErrorAt n d a b) (no_error_holds n d, tt) f

  abbrev ReadSo : ℕ → List ℕ → Type 0
  ReadSo c t = read_item report s c (t ++ rest) ≡ got what (so_far raw e) rest

  -- no string
  quote_not : {A : Type 0} (t : List ℕ) → ReadSo (code "\"") t → A
  quote_not t h =
      let d : Decoded Double (t ++ rest) (read_item report s (code "\"") (t ++ rest)) = same_way report Double s (t ++ rest) (subst (λ (r : Read). Well r.what) (sym h) well) in
      other_kind Str (refl, tt) (sym (ap (λ (r : Read). r.what) h) ∙ quoted_what report Double s (t ++ rest) d)

  pub tame_item : (c : ℕ) (t : List ℕ) → is_blank c ≡ false → eqb c (code "|") ≡ false → ReadSo c t → Tame (c ∷ t)
  unfolding read_item breaks_word
  tame_item c t solid bar h =
      let i : SoFar = eat (so_far [] s) c in
      let b : Begins c (first_of c) = begins c in
      let told : (read_item report s c (t ++ rest)).what ≡ what = ap (λ (r : Read). r.what) h in
      let left : (read_item report s c (t ++ rest)).rest ≡ rest = ap (λ (r : Read). r.rest) h in
      by_first (first_of c)
      (λ f. other_kind comment (refl, tt) (sym (rw (f, read_item) at told) ∙ line_what i (t ++ rest)))
      (λ f. let q : c ≡ code "\"" = rw f at b in quote_not t (subst (λ (n : ℕ). ReadSo n t) q h))
      (λ f. by_comma (read_comma i (t ++ rest)).what (comma_what i (t ++ rest)) (rw (f, read_item) at told))
      (λ f. tame.stops (mark (rw f at b)))
      (λ f. let p : one_of (codes "([)]{}'\"`;,") c ≡ false = rw f at b in tame.goes (rw (p, solid)) (run_tame report i t rest (rw (f, read_item) at left)))
      (λ x y f. let p : eqb x kind.Identifier ≡ false = rw f at b in other_kind (Token x y) (p, tt) (sym (rw (f, read_item) at told)))
      (λ f. let p : c ≡ code "|" = rw f at b in no_yes (sym (rw p at bar)))
      (λ f. tame.stops (mark (rw f at b)))
      (λ f. let p : one_of (codes "([)]{}'\"`;,") c ≡ false = rw f at b in tame.goes (rw (p, solid)) (word_tame i t rest (rw (f, read_item) at left)))
    where
      by_comma : (o : Outcome) → (o ≡ Token kind.Unquote 0) ⊎ (o ≡ Token kind.UnquoteSplice 0) → o ≡ what → Tame (c ∷ t)
      by_comma o (inl f) g = other_kind (Token kind.Unquote 0) (refl, tt) (sym g ∙ f)
      by_comma o (inr f) g = other_kind (Token kind.UnquoteSplice 0) (refl, tt) (sym g ∙ f)
