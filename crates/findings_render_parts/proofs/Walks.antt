-- Parts of a text, and walks over its characters.
use Prim.Native.Nat.{ℕ, zero, suc, ◌+◌, ◌-◌, ◌≤◌, ◌<◌}
use mathlib.Core.Bool.{true, false}
use mathlib.Core.List.{List, [], ◌∷◌, ◌++◌}
use mathlib.Core.Path.{◌≡◌, refl, sym, ap, ◌∙◌}
use native.Mathlib.Nat.{add-zero}
use native.Mathlib.Numerals.{add-one}
use native.Mathlib.Omega.{arith}
use lib.ListN.{length, get_or, take, drop, length-drop, drop_of_length-le}
use lib.Seq.{take-nil, take_all, drop-drop, drop-cons, get_or-drop}
use Rattle.laws.specs.Quoted.{within}
use Rattle.laws.proofs.Choice.{impossible}
use Rattle.laws.proofs.Lent.{part_rest}
use Rattle.laws.proofs.Places.{past, here}
use Rattle.chars.specs.Utf8.{Front, char, bad, cut, none, front, placed}
use Rattle.chars.specs.declared.Decoded.{Decoded}
use Rattle.chars.specs.declared.Decoded.TheVariants as decoded
use Rattle.chars.proofs.Sequences.{char_some, further}
use Rattle.chars.proofs.Chars.{char_at}
use Rattle.findings_render_parts.specs.declared.Seen.{Seen}
use Rattle.findings_render_parts.specs.declared.Showing.{Showing}
use Rattle.findings_render_parts.specs.declared.Showing.TheVariants.{NoColumn, OneColumn, TwoColumns, Tab, ByNumber, AsByte}
use Rattle.findings_render_parts.specs.Shown.{ranges, kind_in, kind_of, seen, seen_in, walked, shown_as, is_tab, is_byte}

-- ---- parts

module _ (t : List ℕ) (from to : ℕ) where
  pub part_past : length t < from → take (length t - length t) (drop (length t) t) ≡ take (to - from) (drop from t)
  part_past h = let e : length t - length t ≡ 0 = omega arith in rw (e, drop_of_length-le t {i = from} (omega arith)) (sym (take-nil (to - from)))

  pub part_none : to < from → take (from - from) (drop from t) ≡ take (to - from) (drop from t)
  part_none h = let e : from - from ≡ to - from = omega arith in rw e

  pub part_end : length t < to → take (length t - from) (drop from t) ≡ take (to - from) (drop from t)
  part_end h = part_rest t from ∙ sym (take_all (to - from) (drop from t) (omega (arith, length-drop from t)))

-- ---- how a character is shown, row by row

rows : length ranges ≡ 33
unfolding ranges
rows = refl

abbrev row : ℕ → ℕ × ℕ × Showing
row k = get_or ranges k (0, 0, NoColumn)

module _ (c k : ℕ) where
  pub kind_here : k < 33 → within (row k).0 (row k).1 c ≡ true → kind_in (drop k ranges) c ≡ (row k).2
  unfolding kind_in
  kind_here h y = rw (drop-cons ranges k (0, 0, NoColumn) (omega (arith, rows)), y)

  pub kind_later : k < 33 → within (row k).0 (row k).1 c ≡ false → kind_in (drop k ranges) c ≡ kind_in (drop (k + 1) ranges) c
  unfolding kind_in
  kind_later h y = rw (drop-cons ranges k (0, 0, NoColumn) (omega (arith, rows)), y, add-one k)

  pub kind_other : 33 ≤ k → kind_in (drop k ranges) c ≡ OneColumn
  unfolding kind_in
  kind_other h = rw (drop_of_length-le ranges {i = k} (omega (arith, rows)))

-- ---- what stands at a place

module _ (t : List ℕ) (at : ℕ) where
  pub seen_char : (f : Front) (c next : ℕ) → decoded.Char c next ≡ placed at f → record { size = next - at; kind = kind_of c; code = c } ≡ seen t f
  seen_char (char d n) c next e =
      let same : c ≡ d = cc in
      let far : next ≡ at + n = cc in
      let size : next - at ≡ n = omega arith in
      rw (same, size)
  seen_char (bad n) c next e = impossible cc
  seen_char cut c next e = impossible cc
  seen_char none c next e = impossible cc

  pub seen_else : (f : Front) (o : Decoded) → o ≡ placed at f → ((c n : ℕ) → o ≡ decoded.Char c n → ⊥)
      → record { size = 1; kind = AsByte; code = get_or t 0 0 } ≡ seen t f
  seen_else (char d n) o e never = absurd (never d (at + n) e)
  seen_else (bad n) o e never = refl
  seen_else cut o e never = refl
  seen_else none o e never = refl

size_of : (t : List ℕ) (f : Front) → front t ≡ f → 1 ≤ (seen t f).size
size_of t (char c n) e = char_some t c n e
size_of t (bad n) e = omega arith
size_of t cut e = omega arith
size_of t none e = omega arith

pub size_some : (t : List ℕ) → 1 ≤ (seen_in t).size
size_some t = size_of t (front t) refl

abbrev Stands : List ℕ → ℕ → Seen → Type 0
Stands t at u = (u ≡ seen_in (drop at t)) × (1 ≤ u.size) × (at + u.size ≤ length t)

module _ (t : List ℕ) (at : ℕ) {o : Decoded} (e : o ≡ placed at (front (drop at t))) (h : at < length t) where
  pub seen_good : (c next : ℕ) → o ≡ decoded.Char c next → {k : Showing} → k ≡ kind_of c → Stands t at (record { size = next - at; kind = k; code = c })
  seen_good c next f {k} y =
      let far = further t at c next (sym f ∙ e) in
      let within = (char_at t at c next (sym f ∙ e) (omega arith)).inside in
      (rw y (seen_char (drop at t) at (front (drop at t)) c next (sym f ∙ e)), omega arith, omega arith)

  pub seen_bad : ((c n : ℕ) → o ≡ decoded.Char c n → ⊥) → (u : Seen) → u ≡ record { size = 1; kind = AsByte; code = get_or t at 0 } → Stands t at u
  seen_bad never u y =
      let b : get_or (drop at t) 0 0 ≡ get_or t at 0 = get_or-drop at t 0 0 ∙ rw (add-zero at) in
      let one : u.size ≡ 1 = ap (λ (v : Seen). v.size) y in
      (y ∙ rw (← b) (seen_else (drop at t) at (front (drop at t)) o e never), omega arith, omega arith)

-- ---- walks

module _ (f : Seen → List ℕ → List ℕ) where
  walked_skip : (k : ℕ) (s : List ℕ) → walked f k s ≡ walked f 0 (drop k s)
  unfolding walked
  walked_skip zero s = refl
  walked_skip (suc k) [] = refl
  walked_skip (suc k) (b ∷ s) = walked_skip k s

  walked_cons : (b : ℕ) (s : List ℕ) → walked f 0 (b ∷ s) ≡ f (seen_in (b ∷ s)) (b ∷ s) ++ walked f 0 (drop ((seen_in (b ∷ s)).size - 1) s)
  unfolding walked
  walked_cons b s = rw (walked_skip ((seen_in (b ∷ s)).size - 1) s)

  cons_on : (t : List ℕ) (b : ℕ) (s : List ℕ) → t ≡ b ∷ s → walked f 0 t ≡ f (seen_in t) t ++ walked f 0 (drop (seen_in t).size t)
  cons_on t b s e =
      let size = size_some (b ∷ s) in
      let n : (seen_in (b ∷ s)).size ≡ suc ((seen_in (b ∷ s)).size - 1) = omega arith in
      rw e (walked_cons b s ∙ ap (λ (k : ℕ). f (seen_in (b ∷ s)) (b ∷ s) ++ walked f 0 (drop k (b ∷ s))) (sym n))

  -- a character more
  pub walked_on : (t : List ℕ) (i : ℕ) → i < length t → walked f 0 (drop i t) ≡ f (seen_in (drop i t)) (drop i t) ++ walked f 0 (drop (i + (seen_in (drop i t)).size) t)
  walked_on t i h = cons_on (drop i t) (get_or t i 0) (drop (i + 1) t) (here t i h) ∙ rw (drop-drop (seen_in (drop i t)).size i t)

  pub walked_end : (t : List ℕ) (i : ℕ) → length t ≤ i → walked f 0 (drop i t) ≡ []
  unfolding walked
  walked_end t i h = rw (past t i h)

-- ---- what is shown as it is

pub shown_else : (k : Showing) (u : Seen) (t : List ℕ) → (k ≡ ByNumber → ⊥) → (k ≡ AsByte → ⊥) → take u.size t ≡ shown_as k u t
shown_else NoColumn u t n b = refl
shown_else OneColumn u t n b = refl
shown_else TwoColumns u t n b = refl
shown_else Tab u t n b = refl
shown_else ByNumber u t n b = absurd (n refl)
shown_else AsByte u t n b = absurd (b refl)

pub no_tab : (k : Showing) → (k ≡ Tab → ⊥) → is_tab k ≡ false
no_tab Tab n = absurd (n refl)
no_tab NoColumn n = refl
no_tab OneColumn n = refl
no_tab TwoColumns n = refl
no_tab ByNumber n = refl
no_tab AsByte n = refl

pub no_byte : (k : Showing) → (k ≡ AsByte → ⊥) → is_byte k ≡ false
no_byte AsByte n = absurd (n refl)
no_byte NoColumn n = refl
no_byte OneColumn n = refl
no_byte TwoColumns n = refl
no_byte Tab n = refl
no_byte ByNumber n = refl
