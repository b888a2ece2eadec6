-- An item that is neither an identifier nor a string, read again from its own extent's bytes.
use Rattle.std.proofs.Common.{Ok, Err, Result}
use Prim.Native.Nat.{ℕ, ◌+◌, ◌<◌}
use mathlib.Core.Path.{◌≡◌, refl, sym, ◌∙◌}
use mathlib.Core.Bool.{Bool, true, false}
use mathlib.Core.List.{List, [], ◌∷◌, ◌++◌}
use lib.Dec.{eqb}
use borrow.Author.Tests.{lt-leb}
use Rattle.laws.proofs.Choice.{no_yes}
use Rattle.chars.specs.Blank.{is_blank}
use Rattle.chars.specs.Encode.{bytes_of}
use Rattle.numbers.specs.declared.ParseError.TheVariants as parsed
use Rattle.numbers.specs.Grammar.{parse_number, Parsed}
use Rattle.items.specs.declared.Outcome.{Outcome}
use Rattle.items.specs.declared.Outcome.TheVariants.{Token, Str, HereStr, Word, Run, Lined, Keyword, Character, Error, ErrorAt}
use Rattle.items.specs.declared.CharError.{CharError}
use Rattle.items.specs.declared.CharError.TheVariants.{Wrong, WrongAt}
use Rattle.items.specs.declared.Phase.{Phase}
use Rattle.items.specs.Machine.{scan_of}
use Rattle.items.specs.Readers.{SoFar, Read, got, read_item}
use Rattle.items.specs.Meaning.{Text, none, source, Meaning, one, meaning_of, word_kind, word_means, run_means, character_of, char_inside, character_means}
use Rattle.items.specs.Items.{byte_count}
use Rattle.items.specs.Kinds as kind
use Rattle.items_r7rs.specs.Reading.{Spelling, nothing, bytes, spelling, ReadAs}
use Rattle.items_r7rs.proofs.Bytes.{spells_whole}
use Rattle.items_r7rs.proofs.Reading.{whole, read_one}
use Rattle.items_writing.proofs.Moved.{Placeless, read_moved}
use Rattle.items_writing.proofs.Trace.{Ended, Traced, traced, stops_here}
use Rattle.items_writing.proofs.Follows.{Follows, space, space_on, good_placeless, good_keeps, nothing as ends}
use Rattle.items_writing.proofs.ReadsBack.{kind_in}
use Rattle.items_writing_theorems.proofs.Stops.{Plainly, AtSpace, at_space_lem, word_is}

abbrev pub detail_in : List Meaning → ℕ
detail_in [] = 0
detail_in (m ∷ ms) = m.detail

-- ---- what it means, wherever it stands

-- a keyword is its own text; any other such item has none
abbrev pub text_for : Outcome → ℕ → ℕ → Text
text_for (Token k d) n at = none
text_for Str n at = none
text_for HereStr n at = none
text_for Word n at = none
text_for Run n at = none
text_for Lined n at = none
text_for Keyword n at = source at (at + n)
text_for Character n at = none
text_for (Error e d) n at = none
text_for (ErrorAt e d a b) n at = none

abbrev pub spelling_for : Outcome → List ℕ → Spelling
spelling_for (Token k d) raw = nothing
spelling_for Str raw = nothing
spelling_for HereStr raw = nothing
spelling_for Word raw = nothing
spelling_for Run raw = nothing
spelling_for Lined raw = nothing
spelling_for Keyword raw = bytes raw
spelling_for Character raw = nothing
spelling_for (Error e d) raw = nothing
spelling_for (ErrorAt e d a b) raw = nothing

spells_for : (o : Outcome) (at : ℕ) (t : List ℕ) → spelling at (bytes_of t) (text_for o (byte_count t) at) ≡ spelling_for o (bytes_of t)
spells_for (Token k d) at t = refl
spells_for Str at t = refl
spells_for HereStr at t = refl
spells_for Word at t = refl
spells_for Run at t = refl
spells_for Lined at t = refl
spells_for Keyword at t = spells_whole at t
spells_for Character at t = refl
spells_for (Error e d) at t = refl
spells_for (ErrorAt e d a b) at t = refl

-- neither an identifier, a string nor an error
abbrev pub Other : Outcome → List ℕ → Type 0
Other o raw = (s e : ℕ) → (kind_in (meaning_of true o s e raw) < kind.first_error)
    × ((eqb (kind_in (meaning_of true o s e raw)) kind.Identifier ≡ false) × (eqb (kind_in (meaning_of true o s e raw)) kind.StringLiteral ≡ false))

pub other_plainly : (o : Outcome) (raw : List ℕ) → Other o raw → Plainly o raw
other_plainly o raw h s e = ((h s e).0, (h s e).1.0)

module _ (raw : List ℕ) (s e n at : ℕ) where
  abbrev pub Anywhere : Outcome → Type 0
  Anywhere o = meaning_of true o at (at + n) raw ≡ one (kind_in (meaning_of true o s e raw)) (detail_in (meaning_of true o s e raw)) (text_for o n at)

  word_anywhere : eqb (word_kind raw) kind.Identifier ≡ false → Anywhere Word
  unfolding word_means
  word_anywhere w = rw w

  run_anywhere : (p : Parsed) → ((parse_number raw ≡ Err parsed.NoNumber) → eqb (word_kind raw) kind.Identifier ≡ false) → parse_number raw ≡ p → Anywhere Run
  unfolding run_means
  run_anywhere (Ok x) w q = rw q
  run_anywhere (Err parsed.NoNumber) w q = rw q (word_anywhere (w q))
  run_anywhere (Err parsed.ZeroDenominator) w q = rw q

  character_anywhere : (v : Result ℕ CharError) → character_means v ≡ one (kind_in (character_means v)) (detail_in (character_means v)) none
  character_anywhere (Ok c) = refl
  character_anywhere (Err (Wrong k d)) = refl
  character_anywhere (Err (WrongAt k d q)) = refl

-- a run that is no number is a word
run_other : (raw : List ℕ) → Other Run raw → parse_number raw ≡ Err parsed.NoNumber → eqb (word_kind raw) kind.Identifier ≡ false
unfolding run_means
run_other raw h q = word_is raw (λ s e. let z = rw q at (h s e) in (z.0, z.1.0))

pub other_anywhere : (o : Outcome) (raw : List ℕ) → Other o raw → (s e n at : ℕ) → Anywhere raw s e n at o
other_anywhere (Token k d) raw h s e n at = refl
other_anywhere Str raw h s e n at = no_yes (sym (h 0 0).1.1)
other_anywhere HereStr raw h s e n at = no_yes (sym (h 0 0).1.1)
other_anywhere Word raw h s e n at = word_anywhere raw s e n at (word_is raw (other_plainly Word raw h))
other_anywhere Run raw h s e n at = run_anywhere raw s e n at (parse_number raw) (run_other raw h) refl
other_anywhere Lined raw h s e n at = no_yes (sym (h 0 0).1.0)
other_anywhere Keyword raw h s e n at = refl
other_anywhere Character raw h s e n at = character_anywhere raw s e n at (character_of true (char_inside raw))
other_anywhere (Error k d) raw h s e n at = refl
other_anywhere (ErrorAt k d a b) raw h s e n at = refl

-- ---- what ends it

record Again (q : Phase) (j : SoFar) (o : Outcome) (last : Bool) : Type 0 where
  what : Outcome
  means_same : (s e : ℕ) → meaning_of true what s e j.bytes ≡ meaning_of true o s e j.bytes
  on : {cs : List ℕ} → Follows last cs → scan_of true q j cs ≡ got what j cs

at_end_case : (q : Phase) (j : SoFar) (o : Outcome) (last : Bool) → Ended true q j [] o → last ≡ true → {cs : List ℕ} → Follows last cs → scan_of true q j cs ≡ got o j cs
at_end_case q j o last h e ends = stops_here true q j ∙ rw h
at_end_case q j o last h e (space u) = no_yes e

-- the end of the text, where nothing will follow; or a character
again : (q : Phase) (j : SoFar) (rest : List ℕ) (o : Outcome) → Ended true q j rest o → Plainly o j.bytes → (last : Bool) → (rest ≡ [] → last ≡ true) → Again q j o last
again q j [] o h p last f = record { what = o; means_same = λ s e. refl; on = λ g. at_end_case q j o last h (f refl) g }
again q j (x ∷ rest) o h p last f =
    let a : AtSpace q j o = at_space_lem q j x o h p in
    record { what = a.what; means_same = a.means_same; on = λ g. space_on last q j a.what a.stops g }

-- ---- the item, read again

module _ (at c : ℕ) (cs : List ℕ) where
  abbrev pub it : Read
  it = read_item true at c cs

  -- its characters after the first
  abbrev pub ate : List ℕ
  ate = (traced true at c cs).ate

  abbrev pub raw_bytes : List ℕ
  raw_bytes = bytes_of (c ∷ ate)

  abbrev pub means_it : List Meaning
  means_it = meaning_of true it.what at it.item.at raw_bytes

  pub reread : is_blank c ≡ false → Other it.what raw_bytes → (last : Bool) → (it.rest ≡ [] → last ≡ true) → {us : List ℕ} → Follows last us
      → ReadAs true (c ∷ ate) us (kind_in means_it) (detail_in means_it) (spelling_for it.what raw_bytes)
  reread b h last f {us} g =
      let l : Traced true at c cs it = traced true at c cs in
      let o : Outcome = it.what in
      let n : ℕ = byte_count (c ∷ ate) in
      let e : ℕ = it.item.at in
      let a : Again l.phase (whole at (c ∷ ate)) o last = again l.phase (whole at (c ∷ ate)) it.rest o l.ended (other_plainly o raw_bytes h) last f in
      let m : (s : ℕ) → meaning_of true a.what s (s + n) raw_bytes ≡ one (kind_in means_it) (detail_in means_it) (text_for o n s)
      = λ s. a.means_same s (s + n) ∙ other_anywhere o raw_bytes h at e n s in
      let small : kind_in means_it < kind.first_error = (h at e).0 in
      let p : Placeless a.what = good_placeless a.what 0 (0 + n) raw_bytes (m 0) small in
      let took : (s : ℕ) → read_item true s c (ate ++ us) ≡ got a.what (whole s (c ∷ ate)) us
      = λ s. read_moved true at s c ate (ate ++ us) us a.what p (l.on us ∙ a.on g) in
      record {
        text = λ s. text_for o n s;
        one = read_one true c ate us a.what (kind_in means_it) (detail_in means_it) (λ s. text_for o n s) b (lt-leb kind.first_error (kind_in means_it) small) took
            (λ q s. good_keeps a.what 0 (0 + n) (whole s (c ∷ ate)) (m 0) small q s) m;
        spells = λ s. spells_for o s (c ∷ ate);
      }
