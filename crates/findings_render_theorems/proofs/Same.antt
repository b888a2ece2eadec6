-- `same_spot`: where the question about lines answers a place, line and column are those that are rendered of it. `found_spot`: so they are of every
-- place of every finding that `find` writes, as `render` reads it (`cut`).
use Rattle.std.proofs.Common.{None, Option, Some}
use Prim.Native.Nat.{ℕ, ◌+◌, ◌-◌, ◌*◌, ◌≤◌, ◌<◌}
use mathlib.Core.Path.{◌≡◌, refl, sym, ap, subst, ◌∙◌}
use mathlib.Core.Bool.{true}
use mathlib.Core.List.{List}
use lib.ListN.{length, get_or, drop}
use native.Mathlib.Omega.{arith}
use borrow.Author.Tests.{lt-ltb, le-ltb}
use Rattle.laws.proofs.Choice.{by_bool, impossible}
use Rattle.chars.specs.Utf8.{sequences}
use Rattle.lines.specs.Starts.{starts}
use Rattle.lines.specs.Place.{is_index, column, answered, place_of, locate_of}
use Rattle.lines.specs.Place.{At}
use Rattle.lines.proofs.Back.{line_last}
use Rattle.lines.proofs.Bounds.{since_line}
use Rattle.lines.proofs.Index.{index_is}
use Rattle.lines.proofs.Tests.{by_less}
use Rattle.lines_theorems.proofs.Records.{Answered}
use Rattle.findings.specs.Finding.{finding_words}
use Rattle.findings.specs.Find.{found, call_of}
use Rattle.findings_theorems.proofs.Written.{first_place, place, places_answered}
use Rattle.findings_render_messages.specs.Messages.{cut}
use Rattle.findings_render_parts.specs.Spots.{newline, count_in, start_of, line_number, column_number}
use Rattle.findings_render_theorems.proofs.Counts.{count_le}
use Rattle.findings_render_theorems.proofs.Lines.{line_count, line_start_lem}
use Rattle.findings_render_theorems.proofs.Columns.{column_count}

abbrev Same : List ℕ → ℕ → ℕ → ℕ → Type 0
Same s p line col = (line ≡ line_number s p) × (col ≡ column_number s p)

module _ (s : List ℕ) (p : ℕ) (inside : p ≤ length s) (line col : ℕ) where
  by_column : (k : ℕ) (o : Option ℕ) → k ≡ count_in newline newline s 0 p → get_or (starts s) k 0 ≡ start_of s p → get_or (starts s) k 0 ≤ p
      → column p 1 (sequences 0 (get_or (starts s) k 0) (drop (get_or (starts s) k 0) s)) ≡ o → answered p (k + 1) o ≡ At line col → Same s p line col
  unfolding line_number column_number
  by_column k (Some n) a b c e q =
      let x : k + 1 ≡ line = cc in
      let y : n ≡ col = cc in
      let count : n + count_in 0x80 0xBF s (start_of s p) (p - start_of s p) ≡ 1 + (p - start_of s p) =
      subst (λ (from : ℕ). n + count_in 0x80 0xBF s from (p - from) ≡ 1 + (p - from)) b (column_count s p inside (get_or (starts s) k 0) 1 n c e) in
      (omega arith, omega (arith, count_le 0x80 0xBF s (start_of s p) (p - start_of s p)))
  by_column k None a b c e q = impossible cc

pub same_spot : (s index : List ℕ) (p line col : ℕ) → locate_of s index p ≡ At line col → (line ≡ line_number s p) × (col ≡ column_number s p)
unfolding locate_of place_of
same_spot s index p line col =
    by_bool (is_index s index)
    (λ i. let x = index_is s index i in rw i (rw x.2 (by_less (length s) p
    (λ h. rw (lt-ltb (length s) p h) (λ e. impossible cc))
    (λ h.
    let v = line_last s p in
    let d : v.0 + 1 - 1 ≡ v.0 = omega arith in
    let k : v.0 ≡ count_in newline newline s 0 p = omega (arith, v.1, line_count s p h) in
    rw (le-ltb (length s) p h, v.1, d, since_line s v.0 x.1 v.2)
    (by_column s p h line col v.0 (column p 1 (sequences 0 (get_or (starts s) v.0 0) (drop (get_or (starts s) v.0 0) s)))
    k (ap (λ (n : ℕ). get_or (starts s) n 0) k ∙ line_start_lem s p h) v.3 refl)))))
    (λ i. rw i (λ e. impossible cc))

-- a place that is answered lies in the text, so that it is rendered as it is
answered_cut : (s index : List ℕ) (p line col : ℕ) → locate_of s index p ≡ At line col → cut s p ≡ p
unfolding locate_of place_of
answered_cut s index p line col =
    by_bool (is_index s index)
    (λ i. rw i (by_less (length s) p
    (λ h. rw (lt-ltb (length s) p h) (λ e. impossible cc))
    (λ h _. rw (le-ltb (length s) p h))))
    (λ i. rw i (λ e. impossible cc))

-- finding j of those that are written, and its place in the word k
module _ (s rows memory : List ℕ) (n errors : ℕ) (answers : (call_of s rows memory).answer ≡ found n errors) (j : ℕ) (there : j < n)
    (fits : j * finding_words + finding_words ≤ length memory) (k : ℕ) (from : first_place ≤ k) (to : k < finding_words) where
  abbrev at : ℕ
  at = place s rows memory n errors answers j there fits k from to

  pub found_spot : (index : List ℕ) → is_index s index ≡ true → locate_of s index at ≡ At (line_number s (cut s at)) (column_number s (cut s at))
  found_spot index e =
      let a : Answered s index at = places_answered s rows memory n errors answers j there fits k from to index e in
      let same = same_spot s index at a.0 a.1 a.2 in
      a.2 ∙ ap (λ (x : ℕ). At x a.1) same.0 ∙ ap (At (line_number s at)) same.1
      ∙ ap (λ (x : ℕ). At (line_number s x) (column_number s x)) (sym (answered_cut s index at a.0 a.1 a.2))
