-- The two calls, from what their passes find.
use mathlib.Core.Path.{◌≡◌, refl, sym, ap, ◌∙◌}
use mathlib.Core.Bool.{true}
use mathlib.Core.List.{List}
use Prim.Native.Nat.{ℕ, ◌*◌, ◌/◌, ◌%◌, ◌≤◌, ◌<◌}
use native.Mathlib.Omega.{arith}
use lib.ListN.{length}
use lib.Seq.{length-take-le}
use borrow.Author.Tests.{lt-ltb, le-ltb}
use Rattle.std.specs.Prelude.{Ok, Err}
use Rattle.items.specs.Items.{record_words}
use Rattle.items_files.specs.Layout.{first}
use Rattle.laws.specs.Lent.{written}
use Rattle.laws.proofs.Choice.{impossible}
use Rattle.refusal.specs.Refusals.{too_few}
use Rattle.items_files.specs.Answers.{served, refused, unwritten, unread, outcome}
use Rattle.items_files.specs.Write.{whole_records, file, Goes, on, back, goes, found, measured, write_of}
use Rattle.items_files.specs.Read.{Found, all, fails, read_from, opening, sizes, words_in, sound, load, read_of}
use Rattle.items_files.specs.declared.StoreError.{StoreError}
use Rattle.items_files.specs.declared.LoadError.{LoadError}
use Rattle.items_files.specs.declared.LoadError.TheVariants as reads
use Rattle.items_files.proofs.Trips as trips

pub whole_tens : (records : List ℕ) → length (whole_records records) % record_words ≡ 0
whole_tens records = omega (arith, length-take-le (length records / record_words * record_words) records (omega arith))

pub writes_refused : (records out : List ℕ) {e : StoreError} → measured (whole_records records) ≡ Err e → outcome (unwritten e) out ≡ write_of records out
unfolding write_of
writes_refused records out e = rw e

module _ (records out : List ℕ) {n : ℕ} where
  pub writes_short : measured (whole_records records) ≡ Ok n → length out < n → outcome (refused too_few n) out ≡ write_of records out
  unfolding write_of
  writes_short e h = rw (e, lt-ltb (length out) n h)

  pub writes_all : {now : List ℕ} → measured (whole_records records) ≡ Ok n → n ≤ length out → now ≡ written (file first (whole_records records)) out
      → outcome (served n) now ≡ write_of records out
  unfolding write_of
  writes_all e h w = rw (e, le-ltb (length out) n h, w)

found_bytes : (g : Goes) (k n : ℕ) → found g k ≡ Ok n → (g ≡ on) × (k ≡ n)
found_bytes on k n e = (refl, let q : k ≡ n = cc in q)
found_bytes (back j) k n e = impossible cc

pub measured_bytes : (ws : List ℕ) {n : ℕ} → measured ws ≡ Ok n → (goes first 0 ws ≡ on) × (length (file first ws) ≡ n)
unfolding measured
measured_bytes ws {n} e = found_bytes (goes first 0 ws) (length (file first ws)) n e

sizes-served : (f : Found) (n : ℕ) → served n ≡ sizes f → (f ≡ all (words_in f)) × (length (words_in f) ≡ n)
sizes-served (all ws) n e = (refl, let q : length ws ≡ n = cc in q)
sizes-served (fails k j) n e = impossible cc

sizes-refused : (f : Found) (k j : ℕ) → refused k j ≡ sizes f → f ≡ fails k j
sizes-refused (all ws) k j e = impossible cc
sizes-refused (fails a b) k j e = let q : fails a b ≡ fails k j = cc in q

module _ (bytes records : List ℕ) where
  reads_fails : {k j : ℕ} → refused k j ≡ sizes (read_from opening 0 bytes) → outcome (refused k j) records ≡ read_of bytes records
  unfolding read_of
  reads_fails {k} {j} e = rw (sizes-refused (read_from opening 0 bytes) k j e)

  pub reads_refused : (e : LoadError) → unread e ≡ sizes (read_from opening 0 bytes) → outcome (unread e) records ≡ read_of bytes records
  reads_refused (reads.Cut at) e = reads_fails e
  reads_refused (reads.Wrong at) e = reads_fails e
  reads_refused (reads.Over at) e = reads_fails e
  reads_refused (reads.TooFew items) e = reads_fails e

  module _ {n : ℕ} (e : served n ≡ sizes (read_from opening 0 bytes)) where
    pub reads_sound : sound (read_from opening 0 bytes) ≡ true
    reads_sound = ap sound (sizes-served (read_from opening 0 bytes) n e).0

    pub reads_size : length (words_in (read_from opening 0 bytes)) ≡ n
    reads_size = (sizes-served (read_from opening 0 bytes) n e).1

    reads_is : read_from opening 0 bytes ≡ all (words_in (read_from opening 0 bytes))
    reads_is = (sizes-served (read_from opening 0 bytes) n e).0

    pub reads_tens : trips.Bytes bytes → n % record_words ≡ 0
    reads_tens b = omega (arith, reads_size, (trips.read_back bytes (words_in (read_from opening 0 bytes)) b reads_is).tens)

    pub reads_fit : trips.Bytes bytes → n / record_words ≤ length records / record_words → length (words_in (read_from opening 0 bytes)) ≤ length records
    reads_fit b h = omega (arith, reads_size, reads_tens b)

    pub reads_short : length records / record_words < n / record_words → outcome (refused too_few (n / record_words)) records ≡ read_of bytes records
    unfolding read_of
    reads_short h = sym (ap (λ (f : Found). load f records) reads_is ∙ rw (reads_size, lt-ltb (length records / record_words) (n / record_words) h))

    pub reads_all : {now : List ℕ} → n / record_words ≤ length records / record_words → now ≡ written (words_in (read_from opening 0 bytes)) records
        → outcome (served (n / record_words)) now ≡ read_of bytes records
    unfolding read_of
    reads_all h w = rw w (sym (ap (λ (f : Found). load f records) reads_is ∙ rw (reads_size, le-ltb (length records / record_words) (n / record_words) h)))
