-- A whole quoted text, with its quotes: its bytes, and the text between them.
use Prim.Native.Nat.{ℕ, ◌+◌, ◌-◌}
use mathlib.Core.Path.{◌≡◌, refl, sym, ap, ◌∙◌}
use mathlib.Core.Bool.{true, false}
use mathlib.Core.List.{List, [], ◌∷◌, ◌++◌}
use lib.ListN.{length, drop, length-append}
use lib.Seq.{take_at}
use lib.Dec.{ltb}
use native.Mathlib.Omega.{arith}
use Rattle.items.proofs.Splits.{length_bytes}
use Rattle.chars.specs.Encode.{bytes_of}
use Rattle.chars.proofs.Bytes.{bytes_append}
use Rattle.items.specs.declared.Quotes.{Quotes}
use Rattle.items.specs.declared.Quotes.TheVariants.{Double, Lines}
use Rattle.items.specs.Classes.{delim_of}
use Rattle.items.specs.Items.{byte_count}
use Rattle.items.specs.Meaning.{escaped, unescape, source}
use Rattle.items_r7rs.specs.Reading.{spelling, bytes}
use Rattle.items_r7rs.proofs.Bytes.{utf8_low, bytes_ascii}
use Rattle.items_r7rs.proofs.Quoted.{Quoted}
use Rattle.items_r7rs.proofs.Unescaped.{unescaped, escaped_none}

module _ (k : Quotes) where
  closing_ascii : ltb (delim_of k) 0x80 ≡ true
  closing_ascii = elim k as (λ q. ltb (delim_of q) 0x80 ≡ true) [ Double ↦ refl | Lines ↦ refl ]

  -- the quotes and what stands between them
  abbrev pub between : List ℕ → List ℕ
  between t = delim_of k ∷ t ++ (delim_of k ∷ [])

  pub between_bytes : (t : List ℕ) → bytes_of (between t) ≡ delim_of k ∷ bytes_of t ++ (delim_of k ∷ [])
  unfolding bytes_of
  between_bytes t = bytes_ascii (delim_of k) (t ++ (delim_of k ∷ [])) closing_ascii ∙ rw (bytes_append t (delim_of k ∷ []), utf8_low (delim_of k) closing_ascii)

  between_count : (t : List ℕ) → byte_count (between t) ≡ length (bytes_of t) + 2
  between_count t = sym (length_bytes (between t)) ∙ rw (between_bytes t, length-append (bytes_of t) (delim_of k ∷ [])) (omega arith)

  -- its text, where that lies in the source
  pub spells_between : (at : ℕ) (t : List ℕ) → spelling at (bytes_of (between t)) (source (at + 1) (at + byte_count (between t) - 1)) ≡ bytes (bytes_of t)
  spells_between at t =
      let e : at + (length (bytes_of t) + 2) - 1 - (at + 1) ≡ length (bytes_of t) = omega arith in
      let f : at + 1 - at ≡ 1 = omega arith in
      rw (between_count t, between_bytes t, e, f) (ap bytes (take_at (bytes_of t) (delim_of k ∷ []) (length (bytes_of t)) refl))

  -- what it is with its escapes decoded
  pub between_unescaped : {t v : List ℕ} → Quoted k t v → unescape k (drop 1 (bytes_of (between t))) ≡ bytes_of v
  between_unescaped {t} q = rw (between_bytes t) (unescaped k [] q)

  opening_unescaped : (r : List ℕ) → escaped (delim_of k ∷ r) ≡ escaped r
  unfolding escaped
  opening_unescaped r = elim k as (λ q. escaped (delim_of q ∷ r) ≡ escaped r) [ Double ↦ refl | Lines ↦ refl ]

  pub between_same : {t v : List ℕ} → Quoted k t v → escaped (bytes_of (between t)) ≡ false → t ≡ v
  between_same {t} q h = escaped_none k (delim_of k ∷ []) q (sym (opening_unescaped (bytes_of t ++ (delim_of k ∷ []))) ∙ (rw (between_bytes t) at h))
