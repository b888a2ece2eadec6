-- A word that is read as one extent before what `gap` stands for is read so before anything that follows there.
use Rattle.std.proofs.Common.{Err, Ok, Result}
use Prim.Native.Nat.{ℕ, ◌+◌, ◌<◌}
use mathlib.Core.Path.{◌≡◌, refl, sym, ap, ◌∙◌}
use mathlib.Core.Bool.{Bool, true, false}
use mathlib.Core.List.{List, [], ◌∷◌, ◌++◌}
use native.Mathlib.Omega.{arith}
use Rattle.laws.specs.Quoted.{code}
use Rattle.chars.specs.Encode.{bytes_of}
use Rattle.items.specs.declared.Outcome.{Outcome}
use Rattle.items.specs.declared.Outcome.TheVariants.{Token, Str, HereStr, Word, Run, Lined, Keyword, Character, Error, ErrorAt}
use Rattle.items.specs.declared.CharError.{CharError}
use Rattle.items.specs.declared.CharError.TheVariants.{Wrong, WrongAt}
use Rattle.items.specs.declared.Phase.{Phase}
use Rattle.items.specs.declared.Next.TheVariants.{Stop}
use Rattle.items.specs.Machine.{step_of, scan_of}
use Rattle.items.specs.Readers.{SoFar, Read, got, read_item}
use Rattle.items.specs.Meaning.{Meaning, meaning_of, character_of, char_inside, character_means}
use Rattle.items.specs.Items.{Place, range_after, character_sets, byte_count}
use Rattle.items.specs.Kinds as kind
use Rattle.items_r7rs.proofs.Reading.{whole}
use Rattle.items_writing.specs.Written.{gap}
use Rattle.items_writing.proofs.Moved.{Placeless, read_moved}
use Rattle.items_writing.proofs.Phases.{space_end}
use Rattle.items_writing.proofs.Trace.{Ended, Traced, traced, stops_at, stops_here, same_cut}

-- what follows a word: nothing where it is the last, else a space and whatever comes then
pub data Follows : Bool → List ℕ → Type 0 where
  nothing : Follows true []
  space : (u : List ℕ) → Follows false (code " " ∷ u)

-- an item that the gap ended is ended by what follows there; one that a space ended, by the end of the text too
ended_on : (last : Bool) (q : Phase) (j : SoFar) (o : Outcome) {cs : List ℕ} → Ended true q j (gap last) o → Follows last cs → scan_of true q j cs ≡ got o j cs
ended_on last q j o h nothing = stops_here true q j ∙ rw h
ended_on last q j o h (space u) = stops_at true q j (code " ") u o h

pub space_on : (last : Bool) (q : Phase) (j : SoFar) (o : Outcome) {cs : List ℕ} → step_of true q j (code " ") ≡ Stop o → Follows last cs → scan_of true q j cs ≡ got o j cs
space_on last q j o h nothing = stops_here true q j ∙ rw (space_end q j h)
space_on last q j o h (space u) = stops_at true q j (code " ") u o h

-- read at one place, before the gap, as all of t
module _ (a c : ℕ) (t : List ℕ) (last : Bool) (o : Outcome) where
  read_before : (read_item true a c (t ++ gap last)).what ≡ o → (read_item true a c (t ++ gap last)).item.at ≡ a + byte_count (c ∷ t) → Placeless o
      → (cs : List ℕ) → ((q : Phase) (j : SoFar) → Ended true q j (gap last) o → scan_of true q j cs ≡ got o j cs)
      → (at : ℕ) → read_item true at c (t ++ cs) ≡ got o (whole at (c ∷ t)) cs
  read_before w e h cs f at =
      let r : Read = read_item true a c (t ++ gap last) in
      let l : Traced true a c (t ++ gap last) r = traced true a c (t ++ gap last) in
      let n : a + byte_count (c ∷ l.ate) ≡ a + byte_count (c ∷ t) = sym (ap (λ (i : SoFar). i.at) l.item) ∙ e in
      let s = same_cut l.ate t r.rest (gap last) (sym l.splits) (omega arith) in
      let j : SoFar = whole a (c ∷ t) in
      let d : Ended true l.phase (whole a (c ∷ l.ate)) r.rest r.what = l.ended in
      let g : Ended true l.phase j (gap last) o = rw (s.0, s.1, w) at d in
      let x : read_item true a c (l.ate ++ cs) ≡ scan_of true l.phase (whole a (c ∷ l.ate)) cs = l.on cs in
      let y : read_item true a c (t ++ cs) ≡ scan_of true l.phase j cs = rw s.0 at x in
      read_moved true a at c t (t ++ cs) cs o h (y ∙ f l.phase j g)

  pub read_followed : (read_item true a c (t ++ gap last)).what ≡ o → (read_item true a c (t ++ gap last)).item.at ≡ a + byte_count (c ∷ t) → Placeless o
      → {cs : List ℕ} → Follows last cs → (at : ℕ) → read_item true at c (t ++ cs) ≡ got o (whole at (c ∷ t)) cs
  read_followed w e h {cs} f at = read_before w e h cs (λ q j g. ended_on last q j o g f) at

  pub read_bytes : (read_item true a c (t ++ gap last)).item.at ≡ a + byte_count (c ∷ t) → (read_item true a c (t ++ gap last)).item.bytes ≡ bytes_of (c ∷ t)
  read_bytes e =
      let r : Read = read_item true a c (t ++ gap last) in
      let l : Traced true a c (t ++ gap last) r = traced true a c (t ++ gap last) in
      let n : a + byte_count (c ∷ l.ate) ≡ a + byte_count (c ∷ t) = sym (ap (λ (i : SoFar). i.at) l.item) ∙ e in
      let s = same_cut l.ate t r.rest (gap last) (sym l.splits) (omega arith) in
      ap (λ (i : SoFar). i.bytes) l.item ∙ rw s.0

pub read_anyhow : (a c : ℕ) (t : List ℕ) (o : Outcome) → (read_item true a c (t ++ gap false)).what ≡ o → (read_item true a c (t ++ gap false)).item.at ≡ a + byte_count (c ∷ t)
    → Placeless o → (last : Bool) {cs : List ℕ} → Follows last cs → (at : ℕ) → read_item true at c (t ++ cs) ≡ got o (whole at (c ∷ t)) cs
read_anyhow a c t o w e h last {cs} f at = read_before a c t false o w e h cs (λ q j g. space_on last q j o g f) at

-- ---- an outcome that is no error

good_character : (v : Result ℕ CharError) {m : Meaning} {ms : List Meaning} → character_means v ≡ m ∷ ms → m.kind < kind.first_error
    → (last : Place) (s : ℕ) (i : SoFar) → character_sets true v last s i ≡ last
good_character (Ok c) e h last s i = refl
good_character (Err (Wrong n d)) {m} e h last s i =
    let f : kind.first_error + n ≡ m.kind = cc in absurd (omega arith)
good_character (Err (WrongAt n d p)) {m} e h last s i =
    let f : kind.first_error + n ≡ m.kind = cc in absurd (omega arith)

-- of an item that is no error the outcome sets no range
pub good_placeless : (o : Outcome) (s e : ℕ) (raw : List ℕ) {m : Meaning} {ms : List Meaning} → meaning_of true o s e raw ≡ m ∷ ms → m.kind < kind.first_error → Placeless o
good_placeless (Token k d) s e raw q h = tt
good_placeless Str s e raw q h = tt
good_placeless HereStr s e raw q h = tt
good_placeless Word s e raw q h = tt
good_placeless Run s e raw q h = tt
good_placeless Lined s e raw q h = tt
good_placeless Keyword s e raw q h = tt
good_placeless Character s e raw q h = tt
good_placeless (Error n d) s e raw q h = tt
good_placeless (ErrorAt n d a b) s e raw {m} q h = let f : kind.first_error + n ≡ m.kind = cc in absurd (omega arith)

pub good_keeps : (o : Outcome) (s e : ℕ) (i : SoFar) {m : Meaning} {ms : List Meaning} → meaning_of true o s e i.bytes ≡ m ∷ ms → m.kind < kind.first_error
    → (last : Place) (at : ℕ) → range_after true last at o i ≡ last
good_keeps (Token k d) s e i q h last at = refl
good_keeps Str s e i q h last at = refl
good_keeps HereStr s e i q h last at = refl
good_keeps Word s e i q h last at = refl
good_keeps Run s e i q h last at = refl
good_keeps Lined s e i q h last at = refl
good_keeps Keyword s e i q h last at = refl
good_keeps Character s e i q h last at = good_character (character_of true (char_inside i.bytes)) q h last at i
good_keeps (Error n d) s e i q h last at = refl
good_keeps (ErrorAt n d a b) s e i {m} q h last at = let f : kind.first_error + n ≡ m.kind = cc in absurd (omega arith)
