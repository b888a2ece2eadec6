-- Edited plans: with any texts of whole characters in place of its identifiers' and strings' own, what is written for the items of a text
-- reads back with these texts, and is written again as it is.
use Rattle.std.proofs.Common.{None}
use Prim.Native.Nat.{ℕ}
use mathlib.Core.Path.{◌≡◌, sym}
use mathlib.Core.Bool.{Bool, true}
use mathlib.Core.List.{List, [], ◌∷◌}
use Rattle.chars.specs.Utf8.{chars, first_bad}
use Rattle.chars.proofs.Good.{good_bytes_lem, good_scalars}
use Rattle.items.specs.Items.{Item, kept}
use Rattle.items.proofs.Every.{Every}
use Rattle.items_writing.specs.Written.{Entry, entries, written, reads}
use Rattle.items_writing.specs.Shapes.{Shape, shapes, clean}
use Rattle.items_writing_theorems.specs.Edited.{retext, edited, reshape, reshaped}
use Rattle.items_writing_theorems.proofs.Sound.{Sound, name, string, extent, Sounds, one, more}
use Rattle.items_writing_theorems.proofs.TextSounds.{AllSounds}
use Rattle.items_writing_theorems.proofs.Round.{reads_back, writes_back, nothing_written, nothing_again, source_sounds}

-- texts of whole characters
abbrev pub Goods : List (List ℕ) → Type 0
Goods ts = Every (λ (t : List ℕ). first_bad t ≡ None) ts

edited_sound : {last : Bool} {e : Entry} {s : Shape} → Sound last e s → (t : List ℕ) → first_bad t ≡ None → Sound last (retext e t) (reshape s t)
edited_sound (name v k x h) t g = name (chars t) k (sym (good_bytes_lem t g)) (good_scalars t g)
edited_sound (string v k x h) t g = string (chars t) k (sym (good_bytes_lem t g)) (good_scalars t g)
edited_sound (extent c u d w i s r h l f) t g = rw (i, s) (extent c u d w i s r h l f)

edited_sounds : {es : List Entry} {ss : List Shape} → Sounds es ss → (ts : List (List ℕ)) → Goods ts → Sounds (edited es ts) (reshaped ss ts)
unfolding edited reshaped
edited_sounds (one a) [] g = one a
edited_sounds (one a) (t ∷ []) g = one (edited_sound a t g.0)
edited_sounds (one a) (t ∷ u ∷ ts) g = one (edited_sound a t g.0)
edited_sounds (more a r) [] g = more a r
edited_sounds (more a r) (t ∷ []) g = more (edited_sound a t g.0) r
edited_sounds (more a r) (t ∷ u ∷ ts) g = more (edited_sound a t g.0) (edited_sounds r (u ∷ ts) g.1)

-- what is written for the items of a source with these texts
abbrev pub edited_result : List ℕ → List Item → List (List ℕ) → List ℕ
edited_result s is ts = written true (edited (entries s is) ts)

abbrev Back : List ℕ → List Shape → Type 0
Back w ss = (first_bad w ≡ None) × ((shapes w (reads w) ≡ ss) × (written true (entries w (reads w)) ≡ w))

listed : (s : List ℕ) (is : List Item) → AllSounds s is → (ts : List (List ℕ)) → Goods ts → Back (edited_result s is ts) (reshaped (shapes s is) ts)
unfolding edited reshaped
listed s [] h [] g = (nothing_written.0, (nothing_written.1, nothing_again))
listed s [] h (t ∷ ts) g = (nothing_written.0, (nothing_written.1, nothing_again))
listed s (i ∷ is) h ts g =
    let x : Sounds (edited (entries s (i ∷ is)) ts) (reshaped (shapes s (i ∷ is)) ts) = edited_sounds h.0 ts g in
    ((reads_back x).0, ((reads_back x).1, writes_back x))

module _ (s : List ℕ) (skip : Bool) (good : first_bad s ≡ None) (c : clean (kept skip (reads s)) ≡ true) (ts : List (List ℕ)) (g : Goods ts) where
  abbrev back : Back (edited_result s (kept skip (reads s)) ts) (reshaped (shapes s (kept skip (reads s))) ts)
  back = listed s (kept skip (reads s)) (source_sounds s skip good c) ts g

  pub edited_round_trip : (first_bad (edited_result s (kept skip (reads s)) ts) ≡ None)
      × (shapes (edited_result s (kept skip (reads s)) ts) (reads (edited_result s (kept skip (reads s)) ts)) ≡ reshaped (shapes s (kept skip (reads s))) ts)
  edited_round_trip = (back.0, back.1.0)

  pub edited_settled : written true (entries (edited_result s (kept skip (reads s)) ts) (reads (edited_result s (kept skip (reads s)) ts))) ≡ edited_result s (kept skip (reads s)) ts
  edited_settled = back.1.1
