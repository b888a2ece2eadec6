-- <identifier>, but for those in vertical lines: words, and words that start as a number run.
use Rattle.std.proofs.Common.{Err}
use Prim.Native.Nat.{ℕ, ◌+◌}
use mathlib.Core.Path.{◌≡◌, refl, ◌∙◌}
use mathlib.Core.Bool.{Bool, true}
use mathlib.Core.List.{List, ◌∷◌}
use Rattle.laws.specs.Quoted.{codes, code, one_of}
use Rattle.chars.specs.Blank.{is_blank}
use Rattle.chars.specs.Encode.{bytes_of}
use Rattle.numbers.specs.declared.ParseError.TheVariants as parsed
use Rattle.numbers.specs.Grammar.{parse_number}
use Rattle.items.specs.declared.Outcome.TheVariants.{Word}
use Rattle.items.specs.Classes.{breaks_word, in_word}
use Rattle.items.specs.Items.{byte_count}
use Rattle.items.specs.Meaning.{word_kind, source}
use Rattle.items.specs.Readers.{read_item}
use Rattle.items.specs.Kinds as kind
use Rattle.items_r7rs.specs.Delimiter.{delimiters, Ends}
use Rattle.items_r7rs.specs.Identifier.{explicit_signs, special, initial, Plain, plain, SignSubsequent, DotSubsequent, sign, dot_again}
use Rattle.items_r7rs.specs.Identifier.{Peculiar, alone, signed, signed_dot, dotted, Unsplit}
use Rattle.items_r7rs.specs.Reading.{bytes, ReadAs}
use Rattle.items_r7rs.specs.Repeated.{Many, done, more}
use Rattle.items_r7rs.proofs.Bytes.{spells_whole}
use Rattle.items_r7rs.proofs.Classes.{at_one_of}
use Rattle.items_r7rs.proofs.Reading.{got-whole, read_one}
use Rattle.items_r7rs.proofs.Words.{one_goes, initial_goes, initial_begins, initial_nonblank, initial_no_plus, all_go, word_on, word_ends, word_means_lem, unsplit_plain, unsplit, run_read, Goes}

-- a sign or a dot, and characters that belong to a word
data Led : List ℕ → Type 0 where
  led : {c : ℕ} {t : List ℕ} → one_of (codes "+-.") c ≡ true → Many Goes t → Led (c ∷ t)

sign_subsequent_goes : {c : ℕ} → SignSubsequent c → Goes c
unfolding in_word breaks_word is_blank
sign_subsequent_goes (initial h) = initial_goes h
sign_subsequent_goes (special h) = one_goes (codes "+-@") refl refl h

dot_goes : Goes (code ".")
unfolding in_word breaks_word is_blank
dot_goes = record { goes_on = refl; no_line = refl }

dot_subsequent_goes : {c : ℕ} → DotSubsequent c → Goes c
dot_subsequent_goes (sign h) = sign_subsequent_goes h
dot_subsequent_goes dot_again = dot_goes

sign_leads : (c : ℕ) → one_of explicit_signs c ≡ true → one_of (codes "+-.") c ≡ true
sign_leads c h = at_one_of (λ k. one_of (codes "+-.") k) true explicit_signs c refl h

peculiar_led : {t : List ℕ} → Peculiar t → Led t
peculiar_led (alone {c = c} s) = led (sign_leads c s) done
peculiar_led (signed {c = c} s h m) = led (sign_leads c s) (more (sign_subsequent_goes h) (all_go m))
peculiar_led (signed_dot {c = c} s h m) = led (sign_leads c s) (more dot_goes (more (dot_subsequent_goes h) (all_go m)))
peculiar_led (dotted h m) = led refl (more (dot_subsequent_goes h) (all_go m))

module _ (report : Bool) where
  -- Departure: the Rust has kinds of their own for some identifiers. `if`
  pub plain_identifier : {t : List ℕ} (cs : List ℕ) → Plain t → word_kind (bytes_of t) ≡ kind.Identifier → Ends delimiters cs
      → ReadAs report t cs kind.Identifier 0 (bytes (bytes_of t))
  unfolding read_item
  plain_identifier cs (plain {c = c} {t = t} h m) k e = record {
    text = λ at. source at (at + byte_count (c ∷ t));
    one = read_one report c t cs Word kind.Identifier 0 (λ at. source at (at + byte_count (c ∷ t))) (initial_nonblank h) refl
        (λ at. rw (initial_begins h, read_item) (word_on _ cs (all_go m) ∙ (word_ends _ e ∙ got-whole Word at (c ∷ t) cs)))
        (λ last at. refl)
        (λ at. word_means_lem _ _ _ k (unsplit_plain c t (initial_no_plus h)));
    spells = λ at. spells_whole at (c ∷ t);
  }

  led_word : {t : List ℕ} (cs : List ℕ) → Led t → Unsplit t → parse_number (bytes_of t) ≡ Err parsed.NoNumber
      → word_kind (bytes_of t) ≡ kind.Identifier → Ends delimiters cs → ReadAs report t cs kind.Identifier 0 (bytes (bytes_of t))
  led_word cs (led {c = c} {t = t} s m) u n k e = record {
    text = λ at. source at (at + byte_count (c ∷ t));
    one = run_read report c kind.Identifier (λ at. source at (at + byte_count (c ∷ t))) s m e n refl (λ at. word_means_lem _ _ _ k (unsplit u));
    spells = λ at. spells_whole at (c ∷ t);
  }

  -- <peculiar identifier>. "Note that +i, -i and <infnan> below are exceptions to the <peculiar identifier> rule; they are parsed as
  -- numbers, not identifiers": so is any text that is also a number
  pub peculiar_identifier : {t : List ℕ} (cs : List ℕ) → Peculiar t → Unsplit t → parse_number (bytes_of t) ≡ Err parsed.NoNumber
      → word_kind (bytes_of t) ≡ kind.Identifier → Ends delimiters cs → ReadAs report t cs kind.Identifier 0 (bytes (bytes_of t))
  peculiar_identifier cs p u n k e = led_word cs (peculiar_led p) u n k e
