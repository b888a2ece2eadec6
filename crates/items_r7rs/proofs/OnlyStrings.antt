-- An item of kind StringLiteral: a here-string, or quotes that were read to the closing one.
use Prim.Native.Nat.{ℕ, ◌+◌}
use mathlib.Core.Path.{◌≡◌, refl, sym, ap, subst, ◌∙◌}
use mathlib.Core.Bool.{Bool, true}
use mathlib.Core.List.{List, [], ◌∷◌, ◌++◌}
use lib.ListN.{get_or}
use lib.Dec.{eqb}
use native.Mathlib.Omega.{arith}
use borrow.Author.Tests.{eqb-true}
use Rattle.laws.specs.Quoted.{codes, code}
use Rattle.items.proofs.Splits.{length_bytes}
use Rattle.chars.specs.Encode.{utf8, bytes_of}
use Rattle.items_coverage.specs.Covered.{past}
use Rattle.items_coverage.proofs.Bytes.{first_char}
use Rattle.items.specs.declared.Outcome.TheVariants.{Str}
use Rattle.items.specs.declared.Phase.TheVariants as ph
use Rattle.items.specs.declared.Quotes.TheVariants.{Double}
use Rattle.items.specs.Classes.{first_of}
use Rattle.items.specs.Items.{items, byte_count}
use Rattle.items.specs.Kinds as kind
use Rattle.items.specs.Machine.{scan_of}
use Rattle.items.specs.Meaning.{Meaning, string_text}
use Rattle.items.specs.Readers.{SoFar, Read, so_far, eat, first_is, read_item}
use Rattle.items.proofs.Every.{Every}
use Rattle.items.proofs.Same.{item_same}
use Rattle.items_numbers.proofs.Spelled.{spelled_kinds, spelled_kind}
use Rattle.items_numbers.proofs.Stands.{Takes, takes, Meant, token, string, here_string, character, number, word, error, word_kinds, other, none_of, no_error_holds}
use Rattle.items_r7rs.specs.Converse.{ForeignString, StringRead, standard, foreign, StringIn}
use Rattle.items_r7rs.specs.Converse as foreign-string
use Rattle.items_r7rs.specs.Reading.{spelling}
use Rattle.items_r7rs.specs.String as standard-string
use Rattle.items_r7rs.proofs.Back.{begins_chars, same_front}
use Rattle.items_r7rs.proofs.Converse.{of_items}
use Rattle.items_r7rs.proofs.Inside.{Inside, closes, departs, is_str, scan_back}
use Rattle.items_r7rs.proofs.String.{elements, string_spells}

-- what follows the opening quote
inside : (report : Bool) (at : ℕ) (more rest : List ℕ) → (read_item report at (code "\"") (more ++ rest)).rest ≡ rest → (read_item report at (code "\"") (more ++ rest)).what ≡ Str
    → Inside more
unfolding first_of
inside report at more rest left is =
    let i : SoFar = eat (so_far [] at) (code "\"") in
    let same : scan_of report (ph.Quoted Double) i (more ++ rest) ≡ read_item report at (code "\"") (more ++ rest) = item_same report at (code "\"") (more ++ rest) in
    let h = scan_back report (ph.Quoted Double) i (more ++ rest) in
    let all : more ++ rest ≡ h.0 ++ rest = h.1 ∙ ap (λ (l : List ℕ). h.0 ++ l) (ap (λ (r : Read). r.rest) same ∙ left) in
    subst Inside (sym (same_front more h.0 rest all)) (h.2 (ap is_str (ap (λ (r : Read). r.what) same ∙ is)))

module _ (s e : ℕ) where
  quotes_read : {t : List ℕ} → Inside t → e ≡ past s (code "\"" ∷ t)
      → StringRead (code "\"" ∷ t) (spelling s (bytes_of (code "\"" ∷ t)) (string_text s e (bytes_of (code "\"" ∷ t))))
  quotes_read (closes u {v = v} h) p =
      let w : List ℕ = code "\"" ∷ u ++ codes "\"" in
      let end : e ≡ s + byte_count w = p ∙ ap (λ (n : ℕ). s + n) (length_bytes w) in
      rw (end, string_spells u (elements h) s) (standard (standard-string.quoted h))
  quotes_read (departs u h d) p = foreign (foreign-string.quoted u h d)

  string_takes : {report : Bool} {t : List ℕ} → Takes report s Str t → first_is (code "\"") (bytes_of t) ≡ true → e ≡ past s t
      → StringRead t (spelling s (bytes_of t) (string_text s e (bytes_of t)))
  unfolding bytes_of
  string_takes {report} (takes c more rest left is) f p =
      let q : c ≡ code "\"" = first_char (code "\"") (omega arith) c (bytes_of more) (eqb-true (get_or (utf8 c ++ bytes_of more) 0 0) (code "\"") f) in
      at_quote c q left is p
    where
      at_quote : (c : ℕ) → c ≡ code "\"" → (read_item report s c (more ++ rest)).rest ≡ rest → (read_item report s c (more ++ rest)).what ≡ Str → e ≡ past s (c ∷ more)
          → StringRead (c ∷ more) (spelling s (bytes_of (c ∷ more)) (string_text s e (bytes_of (c ∷ more))))
      at_quote c q =
          subst (λ (c : ℕ). (read_item report s c (more ++ rest)).rest ≡ rest → (read_item report s c (more ++ rest)).what ≡ Str → e ≡ past s (c ∷ more)
          → StringRead (c ∷ more) (spelling s (bytes_of (c ∷ more)) (string_text s e (bytes_of (c ∷ more))))) (sym q)
          (λ left is p. quotes_read (inside report s more rest left is) p)

string_meant : {report : Bool} {s e : ℕ} {t : List ℕ} {m : Meaning} → Meant report s e t m → e ≡ past s t → eqb m.kind kind.StringLiteral ≡ true
    → StringRead t (spelling s (bytes_of t) m.text)
unfolding bytes_of utf8
string_meant (token {k = n} h) p k = none_of spelled_kinds n kind.StringLiteral refl (spelled_kind h) k
string_meant {s = s} {e} (string h r) p k = string_takes s e r h p
string_meant {t = t} (here_string h) p k =
    let r = begins_chars (codes "#<<") t refl h in foreign (subst ForeignString (sym r.1) foreign-string.here_string)
string_meant (character f g h) p k = other refl k
string_meant (number n h) p k = other refl k
string_meant (word {k = n} h) p k = none_of word_kinds n kind.StringLiteral refl h k
string_meant (error n d) p k = no_error_holds n kind.StringLiteral (omega arith) k

-- of the items of a text, in both modes
pub string_items : (report : Bool) (cs : List ℕ) → Every (StringIn (bytes_of cs)) (items report cs)
string_items report cs = of_items report StringIn (λ whole i z k. (z.chars, z.bytes, string_meant z.meant z.ends k)) cs
