-- Words: an identifier that starts with no sign and no dot is a word from its start on; one that does, and a number, starts as a
-- number run, which goes on as a word at the first character that no number has.
use Prim.Native.Nat.{ℕ, suc, ◌+◌, ◌≤◌}
use Prim.Native.String.{String}
use mathlib.Core.Path.{◌≡◌, refl, ◌∙◌}
use mathlib.Core.Bool.{Bool, true, false, ◌&&◌}
use mathlib.Core.List.{List, [], ◌∷◌, ◌++◌, map}
use lib.ListN.{length}
use lib.Dec.{eqb, leb, ltb}
use Rattle.std.specs.Prelude.{Err}
use Rattle.laws.specs.Quoted.{codes, code, one_of}
use Rattle.laws.proofs.Choice.{by_bool, impossible}
use Rattle.chars.specs.Blank.{is_blank}
use Rattle.chars.specs.Encode.{utf8, bytes_of}
use Rattle.numbers.specs.declared.ParseError.TheVariants as parsed
use Rattle.numbers.specs.Grammar.{parse_number}
use Rattle.items.specs.declared.Outcome.{Outcome}
use Rattle.items.specs.declared.Outcome.TheVariants.{Word, Run}
use Rattle.items.specs.Classes.{starts_run, first_of, breaks_word, in_word, stays_run, ends_run, in_run, number, wordy, breaks, goes}
use Rattle.items.specs.Items.{range_after, items_from, byte_count, Place}
use Rattle.items.specs.Meaning.{one, word_kind, word_means, run_means, meaning_of, Text, source}
use Rattle.items.specs.Readers.{so_far, eat, got, first_is, read_word_on, read_word, read_run, read_item, SoFar}
use Rattle.items.specs.Kinds as kind
use Rattle.items_r7rs.specs.Delimiter.{delimiters, Ends, at_end, before}
use Rattle.items_r7rs.specs.Escape.{digits}
use Rattle.items_r7rs.specs.Identifier.{letters, special_initials, Initial, letter, special, beyond, Subsequent, initial, numeral, Unsplit, plus, other}
use Rattle.items_r7rs.specs.Reading.{item}
use Rattle.items_r7rs.specs.Repeated.{Many, done, more}
use Rattle.items_r7rs.proofs.Bytes.{first_differs}
use Rattle.items_r7rs.proofs.Classes.{at_one_of, beyond_differs, beyond_none}
use Rattle.items_r7rs.proofs.Reading.{eats, got-whole, read_one}

-- ---- the characters of identifiers

-- it belongs to a word, and opens no vertical lines
pub record Goes (c : ℕ) : Type 0 where
  pub goes_on : in_word c ≡ goes
  pub no_line : eqb c (code "|") ≡ false

pub one_goes : (ks : List ℕ) {c : ℕ} → map in_word ks ≡ map (λ k. goes) ks → map (λ k. eqb k (code "|")) ks ≡ map (λ k. false) ks → one_of ks c ≡ true → Goes c
one_goes ks {c} e f h = record { goes_on = at_one_of in_word goes ks c e h; no_line = at_one_of (λ k. eqb k (code "|")) false ks c f h }

pub initial_goes : {c : ℕ} → Initial c → Goes c
unfolding in_word breaks_word is_blank
initial_goes (letter h) = one_goes letters refl refl h
initial_goes (special h) = one_goes special_initials refl refl h
initial_goes (beyond {c = c} h b) = record { goes_on = rw (beyond_none c h (codes "([)]{}'\"`;,") refl, b, beyond_differs c h (code "\\") refl); no_line = beyond_differs c h (code "|") refl }

pub subsequent_goes : {c : ℕ} → Subsequent c → Goes c
unfolding in_word breaks_word is_blank
subsequent_goes (initial h) = initial_goes h
subsequent_goes (numeral h) = one_goes digits refl refl h
subsequent_goes (special h) = one_goes (codes "+-.@") refl refl h

-- the first character of an identifier begins a word
module _ (c : ℕ) (h : 0x80 ≤ c) where
  differs : (s : String) → ltb (code s) 0x80 ≡ true → eqb c (code s) ≡ false
  differs s e = beyond_differs c h (code s) e

  beyond_begins : first_of c ≡ wordy
  unfolding first_of starts_run
  beyond_begins =
      rw (
        differs ";" refl,
        differs "\"" refl,
        differs "," refl,
        differs "#" refl,
        differs "(" refl,
        differs "[" refl,
        differs "{" refl,
        differs ")" refl,
        differs "]" refl,
        differs "}" refl,
        differs "'" refl,
        differs "`" refl,
        beyond_none c h (codes "+-.0123456789") refl,
        differs "|" refl,
        differs "\\" refl,
      )

pub initial_begins : {c : ℕ} → Initial c → first_of c ≡ wordy
unfolding first_of starts_run
initial_begins (letter {c = c} h) = at_one_of first_of wordy letters c refl h
initial_begins (special {c = c} h) = at_one_of first_of wordy special_initials c refl h
initial_begins (beyond {c = c} h b) = beyond_begins c h

pub initial_nonblank : {c : ℕ} → Initial c → is_blank c ≡ false
unfolding is_blank
initial_nonblank (letter {c = c} h) = at_one_of is_blank false letters c refl h
initial_nonblank (special {c = c} h) = at_one_of is_blank false special_initials c refl h
initial_nonblank (beyond {c = c} h b) = b

pub initial_no_plus : {c : ℕ} → Initial c → eqb c (code "+") ≡ false
initial_no_plus (letter {c = c} h) = at_one_of (λ k. eqb k (code "+")) false letters c refl h
initial_no_plus (special {c = c} h) = at_one_of (λ k. eqb k (code "+")) false special_initials c refl h
initial_no_plus (beyond {c = c} h b) = beyond_differs c h (code "+") refl

-- ---- words

pub all_go : {t : List ℕ} → Many Subsequent t → Many Goes t
all_go done = done
all_go (more h m) = more (subsequent_goes h) (all_go m)

pub word_on : (i : SoFar) (cs : List ℕ) {t : List ℕ} → Many Goes t → read_word_on i (t ++ cs) ≡ read_word_on (eats i t) cs
unfolding read_word_on
word_on i cs done = refl
word_on i cs (more {c = c} h m) = rw (h.goes_on, read_word_on) (word_on (eat i c) cs m)

breaks_word_lem : (c : ℕ) → one_of delimiters c ≡ true → in_word c ≡ breaks
unfolding in_word breaks_word is_blank
breaks_word_lem c h = at_one_of in_word breaks delimiters c refl h

pub word_ends : (i : SoFar) {cs : List ℕ} → Ends delimiters cs → read_word_on i cs ≡ got Word i cs
unfolding read_word_on
word_ends i at_end = refl
word_ends i (before {c = c} h) = rw (breaks_word_lem c h, read_word_on)

-- a word that begins here, in no vertical lines
word_begins : (report : Bool) (i : SoFar) (c : ℕ) (cs : List ℕ) → eqb c (code "|") ≡ false → read_word report i (c ∷ cs) ≡ read_word_on i (c ∷ cs)
unfolding read_word
word_begins report i c cs h = rw (h, read_word)

-- ---- number runs

-- a run that ends, and a word that it went on as, mean the same where the bytes are no number
pub data RunOrWord : Outcome → Type 0 where
  run : RunOrWord Run
  word : RunOrWord Word

delimits : (f : ℕ → Bool) → map f delimiters ≡ map (λ k. false) delimiters → (c : ℕ) → one_of delimiters c ≡ true → f c ≡ false
delimits f e c h = at_one_of f false delimiters c e h

-- what ends a run breaks a word
ends_breaks : (report : Bool) (c : ℕ) → ends_run report c ≡ true → breaks_word c ≡ true
unfolding ends_run breaks_word
ends_breaks report c h =
    by_bool (one_of (codes "([)]{}'\"`;,") c)
    (λ e. rw e)
    (λ e. rw e
    (by_bool (one_of (codes "()[]") c)
    (λ f. let z = at_one_of (λ k. one_of (codes "([)]{}'\"`;,") k) true (codes "()[]") c refl f in cc)
    (λ f. by_bool (one_of (codes ";\"") c)
    (λ g. let z = at_one_of (λ k. one_of (codes "([)]{}'\"`;,") k) true (codes ";\"") c refl g in cc)
    (λ g. rw (f, g) at h))))

module _ (report : Bool) where
  -- what the standard's delimiters do to a run: they end it, or take it on as a word, which they break
  run_ends : {cs : List ℕ} → Ends delimiters cs → (o : Outcome) × (RunOrWord o) × ((i : SoFar) → read_run report i cs ≡ got o i cs)
  unfolding read_run in_run stays_run
  run_ends at_end = (Run, run, λ i. refl)
  run_ends (before {c = c} {cs = cs} h) =
      by_bool (ends_run report c)
      (λ e. (Run, run, λ i. rw (delimits stays_run refl c h, e, read_run)))
      (λ e. (
        Word,
        word,
        λ i. rw (delimits stays_run refl c h, e, delimits (λ k. eqb k (code "|")) refl c h, read_run)
            (word_begins report i c cs (delimits (λ k. eqb k (code "|")) refl c h) ∙ word_ends i (before h)),
      ))

  -- a run goes on to the end of an identifier
  run_on : {t cs : List ℕ} → Many Goes t → Ends delimiters cs → (o : Outcome) × (RunOrWord o) × ((i : SoFar) → read_run report i (t ++ cs) ≡ got o (eats i t) cs)
  unfolding read_run in_run in_word
  run_on done e = run_ends e
  run_on {cs = cs} (more {c = c} {t = t} h m) e =
      let further = run_on m e in
      by_bool (stays_run c)
      (λ f. (further.0, further.1, λ i. rw (f, read_run) (further.2 (eat i c))))
      (λ f. by_bool (ends_run report c)
      (λ g. let z = ends_breaks report c g in let y = rw z at h.goes_on in impossible cc)
      (λ g. (Word, word, λ i. rw (f, g, h.no_line, read_run) (word_begins report i c (t ++ cs) h.no_line ∙ (word_on i cs (more h m) ∙ word_ends _ e)))))

-- ---- what words mean

abbrev pub split : List ℕ → Bool
split raw = first_is (code "+") raw && ltb 1 (length raw)

pub word_means_lem : (s e : ℕ) (raw : List ℕ) → word_kind raw ≡ kind.Identifier → split raw ≡ false → word_means s e raw ≡ one kind.Identifier 0 (source s e)
unfolding word_means
word_means_lem s e raw k h = rw (k, h)

run_means_lem : (report : Bool) {o : Outcome} (s e : ℕ) (raw : List ℕ) → RunOrWord o → parse_number raw ≡ Err parsed.NoNumber → meaning_of report o s e raw ≡ word_means s e raw
unfolding run_means
run_means_lem report s e raw run h = rw h
run_means_lem report s e raw word h = refl

run_keeps : (report : Bool) {o : Outcome} (last : Place) (s : ℕ) (i : SoFar) → RunOrWord o → range_after report last s o i ≡ last
run_keeps report last s i run = refl
run_keeps report last s i word = refl

pub unsplit_plain : (c : ℕ) (t : List ℕ) → eqb c (code "+") ≡ false → split (bytes_of (c ∷ t)) ≡ false
unsplit_plain c t h = rw (first_differs (code "+") c t refl h)

pub unsplit : {t : List ℕ} → Unsplit t → split (bytes_of t) ≡ false
unfolding bytes_of utf8
unsplit plus = refl
unsplit (other {c = c} {t = t} h) = unsplit_plain c t h

-- a word that starts as a number run and is no number
module _ (report : Bool) (c : ℕ) {t cs : List ℕ} (k : ℕ) (text : ℕ → Text) (starts-run : one_of (codes "+-.") c ≡ true) (on : Many Goes t) (end : Ends delimiters cs)
    (no_number : parse_number (bytes_of (c ∷ t)) ≡ Err parsed.NoNumber) (good : leb kind.first_error k ≡ false)
    (meant : (at : ℕ) → word_means at (at + byte_count (c ∷ t)) (bytes_of (c ∷ t)) ≡ one k 0 (text at)) where
  begins_run : first_of c ≡ number
  unfolding first_of starts_run
  begins_run = at_one_of first_of number (codes "+-.") c refl starts-run

  not_blank : is_blank c ≡ false
  unfolding is_blank
  not_blank = at_one_of is_blank false (codes "+-.") c refl starts-run

  pub run_read : (turns at : ℕ) (last : Place)
      → items_from report (suc turns) last at (c ∷ t ++ cs) ≡ item k 0 at (at + byte_count (c ∷ t)) (text at) ∷ items_from report turns last (at + byte_count (c ∷ t)) cs
  unfolding read_item
  run_read =
      let r = run_on report on end in
      read_one report c t cs r.0 k 0 text not_blank good
      (λ at. rw (begins_run, read_item) (r.2 (eats (so_far [] at) (c ∷ [])) ∙ got-whole r.0 at (c ∷ t) cs))
      (λ last at. run_keeps report last at _ r.1)
      (λ at. run_means_lem report _ _ _ r.1 no_number ∙ meant at)
