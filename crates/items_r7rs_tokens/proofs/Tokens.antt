-- Every token of the standard (specs/Standard) is one that crate items_r7rs reads, or meets a row: each condition of a production there holds or fails,
-- and where it fails its row is met.
use Rattle.std.proofs.Common.{Ok, Err}
use Prim.Native.Nat.{ℕ}
use mathlib.Core.Path.{◌≡◌, refl, sym, ap, subst, ◌∙◌}
use mathlib.Core.Bool.{Bool, true, false, ◌||◌}
use mathlib.Core.List.{List, [], ◌∷◌, ◌++◌, map, append_assoc}
use mathlib.Core.Logic.{◌⊎◌, inl, inr}
use lib.ListN.{length}
use lib.Dec.{eqb}
use native.Mathlib.Omega.{arith}
use borrow.Author.Tests.{eqb-true, eqb-false}
use Rattle.laws.specs.Quoted.{codes, code, one_of}
use Rattle.laws.specs.Texts.{same}
use Rattle.laws.proofs.Choice.{by_bool, impossible}
use Rattle.laws.proofs.Compared.{same_is}
use Rattle.chars.specs.Encode.{bytes_of}
use Rattle.numbers.specs.declared.ParseError.TheVariants as parsed
use Rattle.numbers.specs.declared.Parts.{Parts}
use Rattle.numbers.specs.Grammar.{parse_number, zero_parts, Parsed}
use Rattle.numbers_difference.specs.Conditions.{NumberText, SignBelowSlash, capital, sign_after_odd_e}
use Rattle.numbers_difference.specs.R7rs.{Number}
use Rattle.numbers_difference.proofs.Differs.{number_at}
use Rattle.items.specs.Kinds as kind
use Rattle.items.specs.Meaning.{word_kind}
use Rattle.items_r7rs.specs.Boolean.{truth}
use Rattle.items_r7rs.specs.Delimiter.{delimiters, hash_delimiters, number_delimiters, Ends, at_end, before}
use Rattle.items_r7rs.specs.Identifier.{Plain, Peculiar, alone, signed, signed_dot, dotted, Unsplit, plus, other, SymbolElements, empty, some, lined}
use Rattle.items_r7rs.specs.Punctuation as punctuation
use Rattle.items_r7rs.specs.Reading.{Spelling, nothing, bytes, ReadAs}
use Rattle.items_r7rs.specs.String.{StringElements, quoted}
use Rattle.items_r7rs.specs.Token.{Token}
use Rattle.items_r7rs.specs.Token as token
use Rattle.items_r7rs.specs.Written.{written}
use Rattle.items_r7rs.proofs.Classes.{at_one_of}
use Rattle.items_r7rs.proofs.NoNumber.{numeric_back, unslashed}
use Rattle.items_r7rs.proofs.Token.{read_as}
use Rattle.items_r7rs_words.proofs.Words.{word_among}
use Rattle.items_r7rs_tokens.specs.Standard.{Delimited, Standard, Behind, behind, Row}
use Rattle.items_r7rs_tokens.specs.Standard as standard
use Rattle.items_r7rs_tokens.proofs.Elements.{UpTo, all, departs, departure_on, string_up_to, symbols_up_to}

-- ---- what follows

-- a <delimiter> is one of the ks, or one of the others
module _ (ks others : List ℕ) (e : map (λ k. one_of ks k || one_of others k) (number_delimiters true) ≡ map (λ k. true) (number_delimiters true)) where
  ends_or : {cs : List ℕ} → Delimited cs → Ends ks cs ⊎ Behind others cs
  ends_or at_end = inl at_end
  ends_or (before {c = c} h) = by_bool (one_of ks c)
      (λ f. inl (before f))
      (λ f. inr (behind (rw f at (at_one_of (λ k. one_of ks k || one_of others k) true (number_delimiters true) c e h))))

module _ (report : Bool) (cs : List ℕ) where
  -- read as it says, or a row
  abbrev Either : List ℕ → ℕ → ℕ → Spelling → Type 0
  Either t k d w = Token report cs t k d w ⊎ Row report cs t

  after_hash_lem : {t : List ℕ} {k d : ℕ} {w : Spelling} → Delimited cs → (Ends hash_delimiters cs → Token report cs t k d w) → (Behind (codes "|\";") cs → Row report cs t)
      → Either t k d w
  after_hash_lem {t} {k} {d} {w} h f g = go (ends_or hash_delimiters (codes "|\";") refl h)
    where
      go : Ends hash_delimiters cs ⊎ Behind (codes "|\";") cs → Either t k d w
      go (inl h) = inl (f h)
      go (inr h) = inr (g h)

  after_name : {t : List ℕ} {k d : ℕ} {w : Spelling} → (Plain t ⊎ Peculiar t) ⊎ (t ≡ codes ".") → Delimited cs → (Ends delimiters cs → Token report cs t k d w)
      → Either t k d w
  after_name {t} {k} {d} {w} n h f = go (ends_or delimiters (codes "|") refl h)
    where
      go : Ends delimiters cs ⊎ Behind (codes "|") cs → Either t k d w
      go (inl h) = inl (f h)
      go (inr h) = inr (standard.behind_name n h)

  -- ---- identifiers

  abbrev Named : List ℕ → Type 0
  Named t = Either t kind.Identifier 0 (bytes (bytes_of t))

  -- of a kind of its own, or an identifier
  by_kind : (t : List ℕ) → Plain t ⊎ Peculiar t → (word_kind (bytes_of t) ≡ kind.Identifier → Named t) → Named t
  by_kind t n f =
      by_bool (eqb (word_kind (bytes_of t)) kind.Identifier)
      (λ e. f (eqb-true (word_kind (bytes_of t)) kind.Identifier e))
      (λ e. inr (standard.own_word n (word_among (bytes_of t) e)))

  by_plus : (t : List ℕ) → Peculiar t → (Unsplit t → Named t) → Named t
  by_plus [] p f = no_text p refl
    where
      no_text : {t : List ℕ} → Peculiar t → t ≡ [] → Named []
      no_text (alone h) e = absurd (omega (arith, ap length e))
      no_text (signed h g m) e = absurd (omega (arith, ap length e))
      no_text (signed_dot h g m) e = absurd (omega (arith, ap length e))
      no_text (dotted g m) e = absurd (omega (arith, ap length e))
  by_plus (c ∷ []) p f = by_bool (eqb c (code "+"))
      (λ e. f (subst (λ (n : ℕ). Unsplit (n ∷ [])) (sym (eqb-true c (code "+") e)) plus))
      (λ e. f (other e))
  by_plus (c ∷ d ∷ t) p f = by_bool (eqb c (code "+"))
      (λ e. let z : c ≡ code "+" = eqb-true c (code "+") e in
      inr (subst (λ (n : ℕ). Row report cs (n ∷ d ∷ t)) (sym z) (standard.plus_first (subst (λ (n : ℕ). Peculiar (n ∷ d ∷ t)) z p))))
      (λ e. f (other e))

  by_slash : (t : List ℕ) → Peculiar t → (NumberText (bytes_of t) → ⊥) → ((SignBelowSlash (bytes_of t) → ⊥) → Named t) → Named t
  by_slash t p n f = go (parse_number (bytes_of t)) refl
    where
      slashed : NumberText (bytes_of t) ⊎ SignBelowSlash (bytes_of t) → Named t
      slashed (inl x) = absurd (n x)
      slashed (inr x) = inr (standard.below_slash p x)

      go : (x : Parsed) → parse_number (bytes_of t) ≡ x → Named t
      go (Err parsed.NoNumber) e = f (unslashed (bytes_of t) e)
      go (Ok a) e = slashed (numeric_back (bytes_of t) (λ q. let z : Ok a ≡ Err parsed.NoNumber = sym e ∙ q in impossible cc))
      go (Err parsed.ZeroDenominator) e = slashed (numeric_back (bytes_of t) (λ q. let z : (Err parsed.ZeroDenominator) ≡ Err parsed.NoNumber = sym e ∙ q in impossible cc))

  named_lines : (t v : List ℕ) → SymbolElements t v → Either (code "|" ∷ t ++ codes "|") kind.Identifier 0 (bytes (bytes_of v))
  named_lines t (x ∷ v) s = inl (token.lined (lined s some))
  named_lines (c ∷ t) [] s = inr (standard.nothing_left s)
  named_lines [] [] s = inl (token.lined (lined s empty))

  in_lines : {t v : List ℕ} → UpTo SymbolElements t v → Either (code "|" ∷ t ++ codes "|") kind.Identifier 0 (bytes (bytes_of v))
  in_lines (all {u = u} {v = v} s) = named_lines u v s
  in_lines (departs p {t = t} s d) =
      inr (subst (λ (l : List ℕ). Row report cs (code "|" ∷ l)) (sym (append_assoc p t (codes "|"))) (standard.in_lines p s (departure_on (codes "|") d)))

  in_string_case : {t v : List ℕ} → UpTo StringElements t v → Either (code "\"" ∷ t ++ codes "\"") kind.StringLiteral 0 (bytes (bytes_of v))
  in_string_case (all s) = inl (token.string (quoted s))
  in_string_case (departs p {t = t} s d) =
      inr (subst (λ (l : List ℕ). Row report cs (code "\"" ∷ l)) (sym (append_assoc p t (codes "\""))) (standard.in_string_case p s (departure_on (codes "\"") d)))

  -- ---- numbers

  number_row : {t : List ℕ} {a : Parts} → Number t a → Ends (number_delimiters report) cs → Either t kind.Number 0 nothing
  number_row (Number.num {R = R} {s = s} {a = a} m d) e =
      by_bool (capital false s) (λ f. inr (standard.capital_letter m d f))
      (λ f. by_bool (zero_parts a) (λ z. inr (standard.zero_denominator_case m d z))
      (λ z. by_bool (sign_after_odd_e false s)
      (λ o. by_bool (eqb R 16) (λ r. inr (standard.odd_e_case m d (eqb-true R 16 r) o)) (λ r. inl (token.any_number (written m d f (λ q. absurd (eqb-false R 16 r q)) z) e)))
      (λ o. inl (token.any_number (written m d f (λ _. o) z) e))))

  after_number : {t : List ℕ} → NumberText t → Delimited cs → Either t kind.Number 0 nothing
  after_number {t} n d = go report refl (ends_or (number_delimiters false) (codes "|\";") refl d)
    where
      go : (r : Bool) → report ≡ r → Ends (number_delimiters false) cs ⊎ Behind (codes "|\";") cs → Either t kind.Number 0 nothing
      go true e h = number_row (number_at n).1 (subst (λ (r : Bool). Ends (number_delimiters r) cs) (sym e) d)
      go false e (inl h) = number_row (number_at n).1 (subst (λ (r : Bool). Ends (number_delimiters r) cs) (sym e) h)
      go false e (inr h) = inr (standard.behind_number n e h)

  -- ---- every token

  pub token_or_row : {t : List ℕ} {k d : ℕ} {w : Spelling} → Standard cs t k d w → Token report cs t k d w ⊎ Row report cs t
  token_or_row (standard.boolean t {u = u} {b = b} h e d) =
      by_bool (same t u)
      (λ f. subst (λ (l : List ℕ). Either l kind.BooleanLiteral (truth b) nothing) (sym (same_is t u f)) (after_hash_lem d (λ x. token.boolean h x) (λ x. standard.behind_boolean h x)))
      (λ f. inr (standard.upper_boolean h e f))
  token_or_row (standard.character h d) = after_hash_lem d (λ x. token.character h x) (λ x. standard.behind_character h x)
  token_or_row (standard.Standard.upper_hex h d) = inr (standard.Row.upper_hex h)
  token_or_row (standard.string h) = in_string_case (string_up_to h)
  token_or_row (standard.identifier {t = t} h d) = by_kind t (inl h) (λ k. after_name (inl (inl h)) d (λ x. token.identifier h k x))
  token_or_row (standard.peculiar {t = t} h n d) =
      by_kind t (inr h) (λ k. by_plus t h (λ u. by_slash t h n (λ b. after_name (inl (inr h)) d (λ x. token.peculiar h u n b k x))))
  token_or_row (standard.Standard.lined s) = in_lines (symbols_up_to s)
  token_or_row (standard.number n d) = after_number n d
  token_or_row (standard.Standard.exact_first e n d) = inr (standard.Row.exact_first e n)
  token_or_row (standard.Standard.exact_second c m e x d) = inr (standard.Row.exact_second c m e x)
  token_or_row (standard.punctuation p m) = inl (token.punctuation p m)
  token_or_row standard.Standard.upper_bytes = inr standard.Row.upper_bytes
  token_or_row (standard.dot d) = after_name (inr refl) d (λ x. token.punctuation punctuation.dot x)

-- A TOKEN OF THE STANDARD IS READ AS IT SAYS, wherever it stands, or meets one of these rows.
pub read_or_row : (report : Bool) (cs : List ℕ) {t : List ℕ} {k d : ℕ} {w : Spelling} → Standard cs t k d w → ReadAs report t cs k d w ⊎ Row report cs t
read_or_row report cs {t} {k} {d} {w} h = go (token_or_row report cs h)
  where
    go : Token report cs t k d w ⊎ Row report cs t → ReadAs report t cs k d w ⊎ Row report cs t
    go (inl x) = inl (read_as report cs x)
    go (inr x) = inr x
