-- The round trip: what is written for the items of a text, none of them an error or a comment, reads back as they do, and is written
-- again as it is.
use Rattle.std.proofs.Common.{None}
use Prim.Native.Nat.{ℕ}
use mathlib.Core.Path.{◌≡◌, refl, ap, subst, ◌∙◌}
use lib.Dec.{eqb, ltb}
use borrow.Author.Tests.{not-true}
use Rattle.laws.proofs.Choice.{by_bool, and_true, and_no, no_yes, impossible}
use Rattle.items.specs.Kinds as kind
use mathlib.Core.Bool.{Bool, true, not, ◌&&◌}
use mathlib.Core.List.{List, [], ◌∷◌}
use lib.ListN.{length}
use native.Mathlib.Nat.{le_refl}
use Rattle.chars.specs.Encode.{bytes_of}
use Rattle.chars.specs.Utf8.{chars, first_bad, sequences}
use Rattle.chars.proofs.Good.{Scalars, chars_encoded, encoded_good, good_bytes_lem, good_scalars}
use Rattle.items.specs.Items.{Item, unset, items, kept, depth_after}
use Rattle.items_writing.specs.Written.{Entry, entries, written, reads}
use Rattle.items_writing.specs.Shapes.{Shape, shapes, depths, clean}
use Rattle.items_writing.proofs.FirstLine.{from_start}
use Rattle.items_writing_theorems.specs.Results.{result}
use Rattle.items_writing_theorems.proofs.Sound.{Sounds, Writes, writes}
use Rattle.items_writing_theorems.proofs.TextSounds.{AllSounds, text_sounds}

-- what was written reads back
pub reads_back : {es : List Entry} {ss : List Shape} → Sounds es ss → (first_bad (written true es) ≡ None) × (shapes (written true es) (reads (written true es)) ≡ ss)
reads_back {es} {ss} s =
    let w : Writes true (written true es) ss = writes s true in
    let b : List ℕ = w.body in
    let e : written true es ≡ bytes_of b = w.bytes_are in
    let c : chars (bytes_of b) ≡ b = chars_encoded b w.scalars in
    (rw e (encoded_good b w.scalars), rw (e, c, from_start b (w.no_line refl)) (w.reads [] (length b) unset (le_refl (length b))))

-- and is written again as it is
pub writes_back : {es : List Entry} {ss : List Shape} → Sounds es ss → written true (entries (written true es) (reads (written true es))) ≡ written true es
writes_back {es} {ss} s =
    let w : Writes true (written true es) ss = writes s true in
    let b : List ℕ = w.body in
    let e : written true es ≡ bytes_of b = w.bytes_are in
    let c : chars (bytes_of b) ≡ b = chars_encoded b w.scalars in
    rw e (rw (c, from_start b (w.no_line refl)) (w.settles [] (length b) (le_refl (length b))))

pub nothing_written : (first_bad (written true []) ≡ None) × (shapes (written true []) (reads (written true [])) ≡ [])
unfolding written first_bad sequences chars items
nothing_written = (refl, refl)

pub nothing_again : written true (entries (written true []) (reads (written true []))) ≡ written true []
unfolding written sequences chars items
nothing_again = refl

listed : (s : List ℕ) (is : List Item) → AllSounds s is → (first_bad (result s is) ≡ None) × (shapes (result s is) (reads (result s is)) ≡ shapes s is)
listed s [] h = nothing_written
listed s (i ∷ is) h = reads_back h.0

listed_again : (s : List ℕ) (is : List Item) → AllSounds s is → result (result s is) (reads (result s is)) ≡ result s is
listed_again s [] h = nothing_again
listed_again s (i ∷ is) h = writes_back h.0

-- For the items of any text, comments left out or not, none of them an error or a comment: what is written for them is UTF-8, and read in
-- report mode it has items of the same kinds, details, texts and number parts
pub round_trip : (cs : List ℕ) (skip : Bool) → Scalars cs → clean (kept skip (items true cs)) ≡ true
    → (first_bad (result (bytes_of cs) (kept skip (items true cs))) ≡ None)
    × (shapes (result (bytes_of cs) (kept skip (items true cs))) (reads (result (bytes_of cs) (kept skip (items true cs)))) ≡ shapes (bytes_of cs) (kept skip (items true cs)))
round_trip cs skip h w = listed (bytes_of cs) (kept skip (items true cs)) (text_sounds skip cs h w)

-- the items of a source that is UTF-8
pub source_sounds : (s : List ℕ) (skip : Bool) → first_bad s ≡ None → clean (kept skip (reads s)) ≡ true → AllSounds s (kept skip (reads s))
source_sounds s skip g w = subst (λ (x : List ℕ). AllSounds x (kept skip (reads s))) (good_bytes_lem s g) (text_sounds skip (chars s) (good_scalars s g) w)

-- the same of a source that is UTF-8
pub round_trip_bytes : (s : List ℕ) (skip : Bool) → first_bad s ≡ None → clean (kept skip (reads s)) ≡ true
    → (first_bad (result s (kept skip (reads s))) ≡ None) × (shapes (result s (kept skip (reads s))) (reads (result s (kept skip (reads s)))) ≡ shapes s (kept skip (reads s)))
round_trip_bytes s skip g w = listed s (kept skip (reads s)) (source_sounds s skip g w)

-- Writing again what is read from the result gives the result
pub settled : (s : List ℕ) (skip : Bool) → first_bad s ≡ None → clean (kept skip (reads s)) ≡ true
    → result (result s (kept skip (reads s))) (reads (result s (kept skip (reads s)))) ≡ result s (kept skip (reads s))
settled s skip g w = listed_again s (kept skip (reads s)) (source_sounds s skip g w)

-- ---- what has the same shapes has the same depths, and is clean alike

abbrev first_kind : List Shape → ℕ
first_kind [] = 0
first_kind (s ∷ ss) = s.kind

abbrev others : List Shape → List Shape
others [] = []
others (s ∷ ss) = ss

same_depths : (s t : List ℕ) (d : ℕ) (is js : List Item) → shapes s is ≡ shapes t js → depths d is ≡ depths d js
unfolding depths
same_depths s t d [] [] h = refl
same_depths s t d [] (j ∷ js) h = impossible cc
same_depths s t d (i ∷ is) [] h = impossible cc
same_depths s t d (i ∷ is) (j ∷ js) h =
    let e : i.kind ≡ j.kind = ap first_kind h in
    rw e (ap (λ (l : List ℕ). d ∷ l) (same_depths s t (depth_after j.kind d) is js (ap others h)))

-- nor has it an error or a comment
same_clean : (s t : List ℕ) (is js : List Item) → shapes s is ≡ shapes t js → clean is ≡ clean js
unfolding clean
same_clean s t [] [] h = refl
same_clean s t [] (j ∷ js) h = impossible cc
same_clean s t (i ∷ is) [] h = impossible cc
same_clean s t (i ∷ is) (j ∷ js) h =
    let e : i.kind ≡ j.kind = ap first_kind h in
    rw (e, same_clean s t is js (ap others h))

pub round_trip_clean : (s : List ℕ) (skip : Bool) → first_bad s ≡ None → clean (kept skip (reads s)) ≡ true → clean (reads (result s (kept skip (reads s)))) ≡ true
round_trip_clean s skip g w = same_clean (result s (kept skip (reads s))) s (reads (result s (kept skip (reads s)))) (kept skip (reads s)) (round_trip_bytes s skip g w).1 ∙ w

-- so that leaving comments out changes nothing
pub clean-kept : (skip : Bool) (is : List Item) → clean is ≡ true → kept skip is ≡ is
unfolding clean kept
clean-kept skip [] h = refl
clean-kept skip (i ∷ is) h = by_bool (ltb i.kind kind.first_error && not (eqb i.kind kind.Comment))
    (λ e. let k = not-true (eqb i.kind kind.Comment) (and_true (ltb i.kind kind.first_error) _ e).1 in rw (k, and_no skip) (ap (λ (l : List Item). i ∷ l) (clean-kept skip is (rw e at h))))
    (λ e. no_yes (rw e at h))

-- and so all ten words of each record but its places tell the same
pub round_trip_depths : (s : List ℕ) (skip : Bool) → first_bad s ≡ None → clean (kept skip (reads s)) ≡ true
    → depths 0 (reads (result s (kept skip (reads s)))) ≡ depths 0 (kept skip (reads s))
round_trip_depths s skip g w =
    same_depths (result s (kept skip (reads s))) s 0 (reads (result s (kept skip (reads s)))) (kept skip (reads s)) (round_trip_bytes s skip g w).1
