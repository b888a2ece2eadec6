-- The round trips and the one image, of the two calls.
use mathlib.Core.Path.{◌≡◌, refl, sym, ap, ◌∙◌}
use mathlib.Core.List.{List, [], ◌∷◌, ◌++◌}
use Prim.Native.Nat.{ℕ, ◌-◌, ◌*◌, ◌/◌, ◌%◌, ◌≤◌}
use native.Mathlib.Omega.{arith}
use lib.ListN.{length, take, drop}
use lib.Seq.{take_at, take_all, length-take-le}
use borrow.Author.Tests.{lt-ltb, le-ltb}
use Rattle.items.specs.Items.{record_words}
use Rattle.items_files.specs.Layout.{base, after, first, numbers}
use Rattle.std.specs.Prelude.{Result, Ok, Err}
use Rattle.items_files.specs.Groups.{image, images}
use Rattle.laws.specs.Lent.{written}
use Rattle.laws.proofs.Choice.{impossible}
use Rattle.refusal.specs.Refusals.{too_few, goes_back}
use Rattle.items_files.specs.Answers.{served, refused, Outcome, outcome}
use Rattle.items_files.specs.Write.{whole_records, file, on, goes, found, measured, write_of}
use Rattle.items_files.specs.Write as writer
use Rattle.items_files.specs.Read.{Found, all, fails, between, read_from, opening, read_of}
use Rattle.items_files.specs.Read as reader
use Rattle.items_files.specs.declared.Before.{Before}
use Rattle.items_files.specs.declared.StoreError.{StoreError}
use Rattle.items_files.specs.declared.StoreError.TheVariants as writes
use Rattle.lines.proofs.Tests.{by_less}
use Rattle.items_files.proofs.Calls.{measured_bytes}
use Rattle.items_files.proofs.Trips as trips

-- the ten numbers of an item, as the request lists them, after an item that starts at p
pub ten : (p l kind detail start «end» from to source text past depth : ℕ) (rest : List ℕ)
    → numbers (record { which = 0; last = l; start = p }) (kind ∷ detail ∷ start ∷ «end» ∷ from ∷ to ∷ source ∷ text ∷ past ∷ depth ∷ rest)
    ≡ (kind - 0) ∷ (detail - 0) ∷ (start - p) ∷ («end» - start) ∷ (from - 0) ∷ (to - from) ∷ (source - 0) ∷ (text - 0) ∷ (past - text) ∷ (depth - 0)
    ∷ numbers (record { which = 0; last = depth; start = start }) rest
unfolding numbers base after
ten p l kind detail start «end» from to source text past depth rest = refl

pub file-numbers : (b : Before) (ws : List ℕ) → file b ws ≡ images (numbers b ws)
unfolding file numbers
file-numbers b [] = refl
file-numbers b (w ∷ ws) = ap (λ (l : List ℕ). image (w - base b) ++ l) (file-numbers (after b w) ws)

-- a record list that can be written: whole records, words of 32 bits, none below its base
pub record Writable (ws : List ℕ) : Type 0 where
  pub tens : length ws % record_words ≡ 0
  pub words : trips.Words ws
  pub onward : goes first 0 ws ≡ on

-- reading what was written
pub read_written : (ws : List ℕ) → Writable ws → read_from opening 0 (file first ws) ≡ all ws
read_written ws g = trips.reads_file ws first 0 g.words g.onward (omega arith) (omega (arith, g.tens))

-- writing what was read
pub written_read : (s ws : List ℕ) → trips.Bytes s → read_from opening 0 s ≡ all ws → Writable ws × (file first ws ≡ s)
written_read s ws b e =
    let r = trips.read_back s ws b e in
    (record { tens = omega (arith, r.tens); words = r.words; onward = r.onward 0 }, sym r.same)

-- one image for each record list: a file that reads as it is its file; and two lists with one file are one
pub one_image : (s t ws : List ℕ) → trips.Bytes s → trips.Bytes t → read_from opening 0 s ≡ all ws → read_from opening 0 t ≡ all ws → s ≡ t
one_image s t ws b d e f = sym (written_read s ws b e).1 ∙ (written_read t ws d f).1

pub one_list : (ws vs : List ℕ) → Writable ws → Writable vs → file first ws ≡ file first vs → ws ≡ vs
one_list ws vs g h e =
    let q : all ws ≡ all vs = sym (read_written ws g) ∙ ap (read_from opening 0) e ∙ read_written vs h in
    let r : ws ≡ vs = cc in r

-- ---- the calls themselves

whole_length : (records : List ℕ) → length (whole_records records) ≡ length records / record_words * record_words
whole_length records = length-take-le (length records / record_words * record_words) records (omega arith)

store-served : (m : Result ℕ StoreError) (bytes out : List ℕ) (n : ℕ) (now : List ℕ) → writer.store m bytes out ≡ outcome (served n) now → (m ≡ Ok n) × (n ≤ length out) × (now ≡ written bytes out)
store-served (Err (writes.Back k)) bytes out n now = λ e. let f : refused goes_back k ≡ served n = ap (λ (o : Outcome). o.answer) e in impossible cc
store-served (Err (writes.TooFew k)) bytes out n now = λ e. let f : refused too_few k ≡ served n = ap (λ (o : Outcome). o.answer) e in impossible cc
store-served (Ok k) bytes out n now = by_less (length out) k
    (λ h. rw (lt-ltb (length out) k h) (λ e. let f : refused too_few k ≡ served n = ap (λ (o : Outcome). o.answer) e in impossible cc))
    (λ h. rw (le-ltb (length out) k h) (λ e. let f : served k ≡ served n = ap (λ (o : Outcome). o.answer) e in let q : k ≡ n = cc in
    (ap (λ (x : ℕ). Ok x) q, omega arith, sym (ap (λ (o : Outcome). o.memory) e))))

-- a call of the writer that was served, then one of the reader on the bytes written: the records come back
pub trip_there : (records out : List ℕ) (n : ℕ) (now memory : List ℕ) → trips.Words (whole_records records) → write_of records out ≡ outcome (served n) now
    → length records / record_words ≤ length memory / record_words
    → read_of (take n now) memory ≡ outcome (served (length records / record_words)) (written (whole_records records) memory)
unfolding write_of read_of
trip_there records out n now memory u e h =
    let ws : List ℕ = whole_records records in
    let v = store-served (measured ws) (file first ws) out n now e in
    let m = measured_bytes ws v.0 in
    let bytes : take n now ≡ file first ws = rw v.2 (take_at (file first ws) (drop (length (file first ws)) out) n m.1) in
    let size : length ws / record_words ≡ length records / record_words = omega (arith, whole_length records) in
    rw (bytes, read_written ws (record { tens = omega (arith, whole_length records); words = u; onward = m.0 }), size, le-ltb (length memory / record_words) (length records / record_words) h)

read_served : (f : Found) (memory : List ℕ) (k : ℕ) (now : List ℕ) → reader.load f memory ≡ outcome (served k) now
    → (ws : List ℕ) × (f ≡ all ws) × (length ws / record_words ≡ k) × (now ≡ written ws memory)
read_served (fails n j) memory k now = λ e. let f : refused n j ≡ served k = ap (λ (o : Outcome). o.answer) e in impossible cc
read_served (all ws) memory k now = by_less (length memory / record_words) (length ws / record_words)
    (λ h. rw (lt-ltb (length memory / record_words) (length ws / record_words) h) (λ e. let f : refused too_few (length ws / record_words) ≡ served k = ap (λ (o : Outcome). o.answer) e in impossible cc))
    (λ h. rw (le-ltb (length memory / record_words) (length ws / record_words) h)
    (λ e. let f : served (length ws / record_words) ≡ served k = ap (λ (o : Outcome). o.answer) e in let q : length ws / record_words ≡ k = cc in
    (ws, refl, q, sym (ap (λ (o : Outcome). o.memory) e))))

back_with : (s ws memory : List ℕ) (k : ℕ) (now out : List ℕ) → Writable ws → file first ws ≡ s → length ws / record_words ≡ k → now ≡ written ws memory → length s ≤ length out
    → write_of (take (k * record_words) now) out ≡ outcome (served (length s)) (written s out)
unfolding write_of measured
back_with s ws memory k now out g f e w h =
    let size : length ws ≡ k * record_words = omega (arith, e, g.tens) in
    let words : take (k * record_words) now ≡ ws = ap (take (k * record_words)) w ∙ take_at ws (drop (length ws) memory) (k * record_words) size in
    let whole : take (length ws / record_words * record_words) ws ≡ ws = take_all (length ws / record_words * record_words) ws (omega (arith, g.tens)) in
    rw (words, whole, g.onward, f, le-ltb (length out) (length s) h)

-- a call of the reader that was served, then one of the writer on the records read: the bytes come back
pub trip_back : (s memory : List ℕ) (k : ℕ) (now out : List ℕ) → trips.Bytes s → read_of s memory ≡ outcome (served k) now → length s ≤ length out
    → write_of (take (k * record_words) now) out ≡ outcome (served (length s)) (written s out)
unfolding read_of
trip_back s memory k now out b e h =
    let v = read_served (read_from opening 0 s) memory k now e in
    let r = written_read s v.0 b v.1 in
    back_with s v.0 memory k now out r.0 r.1 v.2 v.3 h
