-- How a state becomes another: one law for each way, by which what `Kept` says of a state holds of the next.
use Rattle.std.proofs.Common.{Option}
use Rattle.chars.specs.Encode.{is_scalar, utf8, width, bytes_of}
use Rattle.items.specs.declared.Outcome.{Outcome}
use Rattle.items.specs.Items.{Place, range_after, byte_count}
use Rattle.items.specs.Readers.{SoFar}
use Rattle.items.specs.Whole.{limit}
use Rattle.items.proofs.Splits.{length_bytes}
use Rattle.chars.proofs.Bytes.{bytes_snoc}
use Rattle.chars.proofs.Width.{wide, width_le, width-utf8}
use Rattle.pieces.specs.declared.Part.{Part}
use Rattle.pieces.specs.declared.Stage.{Stage}
use Rattle.pieces.specs.declared.Stage.TheVariants.{Opening, Pound, FirstLine, Idle, Busy, Waiting, Stopped}
use Rattle.pieces.specs.declared.State.{State}
use Rattle.pieces.specs.Calls.{whole, becomes, at_depth, report, last_of, laid_at, partly, declared}
use Rattle.pieces.specs.Expected.{longest}
use Rattle.pieces.proofs.Parts.{BytesTaken}
use Rattle.pieces.proofs.Phases.{Ranges}
use Prim.Native.Nat.{ℕ, ◌+◌, ◌≤◌}
use mathlib.Core.Path.{◌≡◌, refl, sym, ap, ◌∙◌}
use mathlib.Core.Bool.{true}
use mathlib.Core.List.{List, [], ◌∷◌, ◌++◌}
use lib.ListN.{length, take, drop, drop_of_length-le}
use lib.Seq.{drop-append-le}
use native.Mathlib.Omega.{arith}
use Rattle.pieces.specs.Bounds.{Stops}
use Rattle.pieces.proofs.Kept.{laid_held, laid_long, count_snoc, scalars_snoc, Held, Beyonds, Staged, Calm}
use Rattle.pieces.proofs.Kept.{Within, range_within, Kept}

pub none_begun : BytesTaken [] whole
none_begun = record { count = refl; reached = λ s. refl; wants = refl; high = omega arith }

module _ {q g : List ℕ} {s : State} (k : Kept q g s) where
  -- with the next character, which is c
  module _ (c : ℕ) (scalar : is_scalar c ≡ true) (room : s.marks.at + width c ≤ limit) where
    next_place : s.marks.at + width c ≡ byte_count (q ++ (c ∷ []))
    next_place = omega (arith, count_snoc q c, k.place)

    -- no item is held
    pub kept_pass : (b : Stage) (last : Place) → Within last → Staged (q ++ (c ∷ [])) (becomes s s.buf b (s.marks.at + width c) 0 last) b
        → Kept (q ++ (c ∷ [])) [] (becomes s s.buf b (s.marks.at + width c) 0 last)
    kept_pass b last w h = record {
      mode = k.mode;
      full = k.full;
      small = omega arith;
      place = next_place;
      far = omega arith;
      last = w;
      scalars = scalars_snoc q c k.scalars scalar;
      begun = none_begun;
      staged = h;
    }

    -- it is laid behind the n bytes of the item that starts at st, which then are m
    pub laid_in : (b : Stage) (st n m : ℕ) (last : Place) → m ≡ n + width c → m ≤ longest → st + n ≡ s.marks.at → drop st (bytes_of q) ≡ take n s.buf
        → Held (q ++ (c ∷ [])) (becomes s (laid_at n (utf8 c) s.buf) b (s.marks.at + width c) m last) st
    laid_in b st n m last grown fits e h = let j : n + length (utf8 c) ≡ m = omega (arith, width-utf8 c) in record {
      ends = omega arith;
      bytes =
          ap (drop st) (bytes_snoc q c)
          ∙ drop-append-le st (bytes_of q) (utf8 c) (omega (arith, length_bytes q, k.place))
          ∙ ap (λ (l : List ℕ). l ++ utf8 c) h
          ∙ sym (laid_held n (utf8 c) s.buf (omega (arith, k.full)))
          ∙ ap (λ (i : ℕ). take i (laid_at n (utf8 c) s.buf)) j;
      some = omega (arith, wide c);
    }

    pub kept_laid : (b : Stage) (n m : ℕ) (last : Place) → Within last → m ≡ n + width c → m ≤ longest
        → Staged (q ++ (c ∷ [])) (becomes s (laid_at n (utf8 c) s.buf) b (s.marks.at + width c) m last) b
        → Kept (q ++ (c ∷ [])) [] (becomes s (laid_at n (utf8 c) s.buf) b (s.marks.at + width c) m last)
    kept_laid b n m last w grown fits h = record {
      mode = k.mode;
      full = laid_long n (utf8 c) s.buf (omega (arith, width-utf8 c, k.full)) ∙ k.full;
      small = fits;
      place = next_place;
      far = omega arith;
      last = w;
      scalars = scalars_snoc q c k.scalars scalar;
      begun = none_begun;
      staged = h;
    }

    -- it is the first of an item
    pub first_in : (b : Stage) (last : Place)
        → Held (q ++ (c ∷ [])) (becomes s (laid_at 0 (utf8 c) s.buf) b (s.marks.at + width c) (width c) last) s.marks.at
    first_in b last =
        laid_in b s.marks.at 0 (width c) last (omega arith) (omega (arith, width_le c)) (omega arith)
        (drop_of_length-le (bytes_of q) {i = s.marks.at} (omega (arith, length_bytes q, k.place)))

    pub kept_first : (b : Stage) (last : Place) → Within last
        → Staged (q ++ (c ∷ [])) (becomes s (laid_at 0 (utf8 c) s.buf) b (s.marks.at + width c) (width c) last) b
        → Kept (q ++ (c ∷ [])) [] (becomes s (laid_at 0 (utf8 c) s.buf) b (s.marks.at + width c) (width c) last)
    kept_first b last w h = kept_laid b 0 (width c) last w (omega arith) (omega (arith, width_le c)) h

  -- a stop
  pub kept_stopped : (n p : ℕ) → Stops n → p ≤ limit → Kept q [] (becomes s s.buf (Stopped n p) s.marks.at 0 (last_of s))
  kept_stopped n p h l = record {
    mode = k.mode;
    full = k.full;
    small = omega arith;
    place = k.place;
    far = omega arith;
    last = k.last;
    scalars = k.scalars;
    begun = none_begun;
    staged = (h, l);
  }

  -- the end
  pub kept_end : (last : Place) → Within last → Kept q [] (becomes s s.buf Idle s.marks.at 0 last)
  kept_end last w = record {
    mode = k.mode;
    full = k.full;
    small = omega arith;
    place = k.place;
    far = omega arith;
    last = w;
    scalars = k.scalars;
    begun = none_begun;
    staged = tt;
  }

  -- a character goes on
  pub kept_partly : (g' : List ℕ) (p : Part) → BytesTaken g' p → s.marks.at + p.count ≤ limit → Calm s.marks.stage → Kept q g' (partly s p)
  kept_partly g' p h far calm = record {
    mode = k.mode;
    full = k.full;
    small = k.small;
    place = k.place;
    far = far;
    last = k.last;
    scalars = k.scalars;
    begun = h;
    staged = on s.marks.stage calm k.staged;
  }
    where
      on : (b : Stage) → Calm b → Staged q s b → Staged q (partly s p) b
      on Opening c h = h
      on Pound c h = h
      on FirstLine c h = h
      on Idle c h = h
      on (Busy st p) c h = h
      on (Waiting st b) c h = absurd c
      on (Stopped n p) c h = absurd c

  -- another depth
  pub kept_depth : (d : ℕ) → Kept q g (at_depth d s)
  kept_depth d = record {
    mode = k.mode;
    full = k.full;
    small = k.small;
    place = k.place;
    far = k.far;
    last = k.last;
    scalars = k.scalars;
    begun = k.begun;
    staged = on s.marks.stage k.staged;
  }
    where
      on : (b : Stage) → Staged q s b → Staged q (at_depth d s) b
      on Opening h = h
      on Pound h = h
      on FirstLine h = h
      on Idle h = h
      on (Busy st p) h = h
      on (Waiting st b) h = h
      on (Stopped n p) h = h

  -- the end is declared
  pub kept_declared : Kept q g (declared s)
  kept_declared = record {
    mode = k.mode;
    full = k.full;
    small = k.small;
    place = k.place;
    far = k.far;
    last = k.last;
    scalars = k.scalars;
    begun = k.begun;
    staged = on s.marks.stage k.staged;
  }
    where
      on : (b : Stage) → Staged q s b → Staged q (declared s) b
      on Opening h = h
      on Pound h = h
      on FirstLine h = h
      on Idle h = h
      on (Busy st p) h = h
      on (Waiting st b) h = h
      on (Stopped n p) h = h

  -- one item of a pair was given
  pub kept_waiting : (st : ℕ) (b : Option ℕ) (last : Place) → Within last → Held q s st → 2 ≤ s.marks.len → Beyonds b s.marks.at
      → Kept q [] (becomes s s.buf (Waiting st b) s.marks.at s.marks.len last)
  kept_waiting st b last w h two ok = record {
    mode = k.mode;
    full = k.full;
    small = k.small;
    place = k.place;
    far = omega arith;
    last = w;
    scalars = k.scalars;
    begun = none_begun;
    staged = (h, (two, (refl, ok)));
  }

  -- the last range after an item that starts at st
  pub kept_range : (st : ℕ) (o : Outcome) (i : SoFar) → Ranges o → st ≤ limit → i.at ≤ limit → st + length i.bytes ≤ limit
      → Within (range_after (report s) (last_of s) st o i)
  kept_range st o i h l r f = range_within (report s) (last_of s) k.last st o i h l r f
