-- What starts with `#` is read up to a delimiter, and is then what its bytes say.
use Prim.Native.Nat.{ℕ}
use mathlib.Core.Path.{◌≡◌, refl, ◌∙◌}
use mathlib.Core.Bool.{Bool, true}
use mathlib.Core.List.{List, [], ◌∷◌, ◌++◌}
use Rattle.laws.specs.Quoted.{code, one_of}
use Rattle.chars.specs.Blank.{is_blank}
use Rattle.chars.specs.Encode.{bytes_of}
use Rattle.items.specs.declared.Outcome.{Outcome}
use Rattle.items.specs.declared.HashKind.TheVariants.{Decided}
use Rattle.items.specs.Classes.{first_of, after_hash, ends_hash, in_hash, value, stops_hash, stays_hash}
use Rattle.items.specs.Readers.{so_far, got, hash_kind, hash_at, hash_on, read_hash, read_item, SoFar, eat}
use Rattle.items_r7rs.specs.Delimiter.{hash_delimiters, Ends, at_end, before}
use Rattle.items_r7rs.specs.Repeated.{Many, done, more}
use Rattle.items_r7rs.proofs.Classes.{at_one_of}
use Rattle.items_r7rs.proofs.Reading.{eats, whole, eats-whole}

-- the characters of such a word
abbrev pub Staying : ℕ → Type 0
Staying c = in_hash c ≡ stays_hash

pub hash_on_lem : (report : Bool) (i : SoFar) (cs : List ℕ) {t : List ℕ} → Many Staying t → hash_on report i (t ++ cs) ≡ hash_on report (eats i t) cs
unfolding hash_on
hash_on_lem report i cs done = refl
hash_on_lem report i cs (more {c = c} h m) = rw (h, hash_on) (hash_on_lem report (eat i c) cs m)

stops_hash_lem : (c : ℕ) → one_of hash_delimiters c ≡ true → in_hash c ≡ stops_hash
unfolding in_hash ends_hash is_blank
stops_hash_lem c h = at_one_of in_hash stops_hash hash_delimiters c refl h

pub hash_ends : (report : Bool) (i : SoFar) {cs : List ℕ} → Ends hash_delimiters cs → hash_on report i cs ≡ hash_at report i cs
unfolding hash_on
hash_ends report i at_end = refl
hash_ends report i (before {c = c} h) = rw (stops_hash_lem c h, hash_on)

-- the word's end decides
pub hash_decided : (report : Bool) (i : SoFar) (cs : List ℕ) (o : Outcome) → hash_kind i.bytes ≡ Decided o → hash_at report i cs ≡ got o i cs
unfolding hash_at
hash_decided report i cs o e = rw (e, hash_at)

module _ (report : Bool) (at : ℕ) where
  pub after_hash_lem : (c : ℕ) (cs : List ℕ) → after_hash c ≡ value → read_item report at (code "#") (c ∷ cs) ≡ hash_on report (eats (so_far [] at) (code "#" ∷ [])) (c ∷ cs)
  unfolding read_item first_of read_hash
  after_hash_lem c cs h = rw (h, read_hash)

  pub hash_word : (c : ℕ) {t cs : List ℕ} (o : Outcome) → after_hash c ≡ value → Many Staying (c ∷ t) → Ends hash_delimiters cs
      → hash_kind (bytes_of (code "#" ∷ c ∷ t)) ≡ Decided o
      → read_item report at (code "#") (c ∷ t ++ cs) ≡ got o (whole at (code "#" ∷ c ∷ t)) cs
  hash_word c {t} {cs} o h m e k =
      after_hash_lem c (t ++ cs) h
      ∙ (hash_on_lem report _ cs m ∙ (hash_ends report _ e ∙ rw (eats-whole at (code "#" ∷ c ∷ t)) (hash_decided report _ cs o k)))
