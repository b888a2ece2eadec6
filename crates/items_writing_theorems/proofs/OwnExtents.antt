-- An item of a text that is neither an identifier nor a string may be written back as its own extent.
use Rattle.std.proofs.Common.{Ok, Err, Result}
use Prim.Native.Nat.{ℕ, ◌+◌}
use mathlib.Core.Path.{◌≡◌, refl, sym, ap, subst, ◌∙◌}
use mathlib.Core.Bool.{Bool, true, false}
use mathlib.Core.List.{List, ◌∷◌, ◌++◌}
use lib.ListN.{length}
use lib.Dec.{eqb, leb}
use native.Mathlib.Omega.{arith}
use Rattle.laws.proofs.Choice.{no_yes}
use Rattle.laws.specs.Quoted.{codes}
use Rattle.laws.specs.Texts.{begins}
use Rattle.chars.specs.Encode.{bytes_of}
use Rattle.chars.proofs.Good.{Scalars}
use Rattle.items.specs.declared.Outcome.{Outcome}
use Rattle.items.specs.declared.Outcome.TheVariants.{Token, Str, HereStr, Word, Run, Lined, Keyword, Character, Error, ErrorAt}
use Rattle.numbers.specs.declared.ParseError.TheVariants as parsed
use Rattle.numbers.specs.Grammar.{parse_number, Parsed}
use Rattle.items.specs.declared.CharError.{CharError}
use Rattle.items.specs.declared.CharError.TheVariants.{Wrong, WrongAt}
use Rattle.items.specs.Meaning.{Meaning, means, one, meaning_of, word_kind, word_means, run_means, character_of, char_inside}
use Rattle.items.specs.Items.{Item, Place, item_of, items_of, byte_count}
use Rattle.items.specs.Kinds as kind
use Rattle.items_r7rs.specs.Reading.{Spelling, bytes, ReadAs}
use Rattle.items.proofs.Splits.{length_bytes}
use Rattle.items_writing.specs.Written.{part, entry, gap}
use Rattle.items_writing.specs.Shapes.{shape, spells, number_of}
use Rattle.items_writing_theorems.proofs.Parts.{part_all}
use Rattle.items_writing.proofs.FirstLine.{line_gap}
use Rattle.items_writing.proofs.OutcomeTells.{Known, calm_on, calm_line}
use Rattle.items_writing.proofs.Follows.{Follows}
use Rattle.items_writing.proofs.ReadsBack.{kind_in}
use Rattle.items_writing.specs.Records.{has_text}
use Rattle.items_writing.proofs.WordTable.{word_no_line, word_no_string, word_no_keyword, word_kind_lem}
use Rattle.items_writing_theorems.proofs.Stops.{word_is}
use Rattle.items_writing_theorems.proofs.Sound.{Sound, extent}
use Rattle.items_writing_theorems.proofs.Extents.{AllSound, Right, TextRight}
use Rattle.items_writing_theorems.proofs.Reread.{Other, detail_in, text_for, spelling_for, other_plainly, other_anywhere}

-- ---- it begins no first line

other_line : (o : Outcome) (c : ℕ) (t : List ℕ) (last : Bool) → Known (c ∷ t) o → Other o (bytes_of (c ∷ t)) → begins (codes "#!") (c ∷ t ++ gap last) ≡ false
other_line (Token k d) c t last known h = calm_line (calm_on (gap last) known.1)
other_line Str c t last known h = no_yes (sym (h 0 0).1.1)
other_line HereStr c t last known h = no_yes (sym (h 0 0).1.1)
other_line Word c t last known h = line_gap c t last (word_no_line (c ∷ t) (word_is (bytes_of (c ∷ t)) (other_plainly Word (bytes_of (c ∷ t)) h)))
other_line Run c t last known h = calm_line (calm_on (gap last) known)
other_line Lined c t last known h = no_yes (sym (h 0 0).1.0)
other_line Keyword c t last known h = calm_line (calm_on (gap last) known)
other_line Character c t last known h = calm_line (calm_on (gap last) known)
other_line (Error n d) c t last known h = absurd (omega (arith, (h 0 0).0))
other_line (ErrorAt n d a b) c t last known h = absurd (omega (arith, (h 0 0).0))

-- ---- what its text spells

module _ (pre : List ℕ) (c : ℕ) (t post : List ℕ) where
  abbrev place : ℕ
  place = length pre

  abbrev count : ℕ
  count = byte_count (c ∷ t)

  abbrev text : List ℕ
  text = pre ++ (bytes_of (c ∷ t) ++ post)

  extent_part : part place (place + count) text ≡ bytes_of (c ∷ t)
  extent_part = ap (λ (n : ℕ). part place (place + n) text) (sym (length_bytes (c ∷ t))) ∙ part_all pre (bytes_of (c ∷ t)) post

  spells_other : (o : Outcome) → spells text (text_for o count place) ≡ spelling_for o (bytes_of (c ∷ t))
  spells_other (Token k d) = refl
  spells_other Str = refl
  spells_other HereStr = refl
  spells_other Word = refl
  spells_other Run = refl
  spells_other Lined = refl
  spells_other Keyword = ap bytes extent_part
  spells_other Character = refl
  spells_other (Error e d) = refl
  spells_other (ErrorAt e d a b) = refl

  -- no refusal meets it: by what its outcome is
  abbrev Fits : Outcome → Type 0
  Fits o = (leb (kind_in (meaning_of true o place (place + count) (bytes_of (c ∷ t)))) kind.Dot ≡ true)
      × TextRight text (kind_in (meaning_of true o place (place + count) (bytes_of (c ∷ t)))) (text_for o count place)

  word_fits : Other Word (bytes_of (c ∷ t)) → Fits Word
  unfolding word_means has_text
  word_fits h =
      let raw : List ℕ = bytes_of (c ∷ t) in
      let w : eqb (word_kind raw) kind.Identifier ≡ false = word_is raw (other_plainly Word raw h) in
      rw w (word_kind_lem raw, rw (w, word_no_keyword raw, word_no_string raw))

  run_fits : (q : Parsed) → parse_number (bytes_of (c ∷ t)) ≡ q → Other Run (bytes_of (c ∷ t)) → Fits Run
  unfolding run_means has_text
  run_fits (Ok x) e h = rw e (refl, refl)
  run_fits (Err parsed.NoNumber) e h = rw e (word_fits (λ s y. rw e at (h s y)))
  run_fits (Err parsed.ZeroDenominator) e h = let z = rw e at (h 0 0).0 in absurd (omega arith)

  character_fits : (v : Result ℕ CharError) → character_of true (char_inside (bytes_of (c ∷ t))) ≡ v → Other Character (bytes_of (c ∷ t)) → Fits Character
  unfolding has_text
  character_fits (Ok x) e h = rw e (refl, refl)
  character_fits (Err (Wrong n d)) e h = let z = rw e at (h 0 0).0 in absurd (omega arith)
  character_fits (Err (WrongAt n d q)) e h = let z = rw e at (h 0 0).0 in absurd (omega arith)

  other_fits : (o : Outcome) → Scalars (c ∷ t) → Known (c ∷ t) o → Other o (bytes_of (c ∷ t)) → Fits o
  unfolding has_text
  other_fits (Token k d) s known h = (known.0.1.1, rw (known.0.0.0, known.0.1.0, known.0.0.1))
  other_fits Str s known h = no_yes (sym (h 0 0).1.1)
  other_fits HereStr s known h = no_yes (sym (h 0 0).1.1)
  other_fits Word s known h = word_fits h
  other_fits Run s known h = run_fits (parse_number (bytes_of (c ∷ t))) refl h
  other_fits Lined s known h = no_yes (sym (h 0 0).1.0)
  other_fits Keyword s known h = (refl, (c ∷ t, (extent_part, s)))
  other_fits Character s known h = character_fits (character_of true (char_inside (bytes_of (c ∷ t)))) refl h
  other_fits (Error n d) s known h = absurd (omega (arith, (h 0 0).0))
  other_fits (ErrorAt n d a b) s known h = absurd (omega (arith, (h 0 0).0))

  other_right : (p : Place) (o : Outcome) → Scalars (c ∷ t) → Known (c ∷ t) o → Other o (bytes_of (c ∷ t))
      → Right text (item_of true p place (place + count)
      (means (kind_in (meaning_of true o place (place + count) (bytes_of (c ∷ t)))) (detail_in (meaning_of true o place (place + count) (bytes_of (c ∷ t)))) (text_for o count place)))
  other_right p o s known h = let f = other_fits o s known h in record { kind_right = f.0; extent_right = (c ∷ t, (extent_part, s)); text_right_holds = f.1 }

  -- with what is known of its outcome, and how it is read again
  pub other_sound : (p : Place) (o : Outcome) (last : Bool) → Scalars (c ∷ t) → Known (c ∷ t) o → Other o (bytes_of (c ∷ t))
      → ((us : List ℕ) → Follows last us
      → ReadAs true (c ∷ t) us (kind_in (meaning_of true o place (place + count) (bytes_of (c ∷ t))))
      (detail_in (meaning_of true o place (place + count) (bytes_of (c ∷ t)))) (spelling_for o (bytes_of (c ∷ t))))
      → AllSound last text (items_of true p place (place + count) (meaning_of true o place (place + count) (bytes_of (c ∷ t))))
  other_sound p o last s known h f =
      let e : ℕ = place + count in
      let raw : List ℕ = bytes_of (c ∷ t) in
      let k : ℕ = kind_in (meaning_of true o place e raw) in
      let d : ℕ = detail_in (meaning_of true o place e raw) in
      let m : meaning_of true o place e raw ≡ one k d (text_for o count place) = other_anywhere o raw h place e count place in
      let i : Item = item_of true p place e (means k d (text_for o count place)) in
      let x : Sound last (entry text i) (shape k d (spelling_for o raw) (number_of k (entry text i).raw))
      = extent c t d (spelling_for o raw) (h place e).1.0 (h place e).1.1 extent_part s (other_line o c t last known h) f in
      subst (λ (ms : List Meaning). AllSound last text (items_of true p place e ms)) (sym m)
      (subst (λ (w : Spelling). Sound last (entry text i) (shape k d w (number_of k (entry text i).raw))) (sym (spells_other o)) x, other_right p o s known h)
