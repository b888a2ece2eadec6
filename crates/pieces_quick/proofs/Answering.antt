-- What is answered from a spot on: all bytes taken, an item, or what the crate `pieces_lent` answers on the words of the spot.
use Prim.Native.Nat.{ℕ, suc, ◌+◌, ◌-◌, ◌≤◌, ◌<◌, ◌^◌}
use mathlib.Core.Path.{◌≡◌, refl, sym, ap, ◌∙◌, subst}
use mathlib.Core.List.{List, [], ◌∷◌}
use lib.ListN.{length, get_or, take, drop, length-drop, drop_of_length-le}
use lib.Seq.{drop-cons}
use native.Mathlib.Omega.{arith}
use Rattle.laws.proofs.Lent.{part_rest}
use Rattle.pieces.specs.declared.Marks.{Marks}
use Rattle.pieces.specs.declared.State.{State}
use Rattle.pieces.specs.declared.Got.TheVariants as got
use Rattle.pieces.specs.Expected.{longest}
use Rattle.pieces.specs.Calls.{text_after, feed_of}
use Rattle.pieces_turns.specs.Inner.{Sound}
use Rattle.pieces_lent.specs.declared.Words.{Words}
use Rattle.pieces_lent.specs.declared.Told.{Told}
use Rattle.pieces_lent.specs.Coding.{coded}
use Rattle.pieces_lent.specs.Stood.{Stood}
use Rattle.pieces_lent.proofs.Back.{standing-coded}
use Rattle.pieces_lent.specs.Calls.{Said, lent, said, worded, piece_for}
use Rattle.pieces_spots.specs.declared.PieceSpot.{PieceSpot}
use Rattle.std.proofs.Common.{Some}
use Rattle.pieces_quick.specs.declared.QuickItem.{QuickItem}
use Rattle.pieces_quick.specs.declared.Reached.{Reached}
use Rattle.pieces_quick.specs.declared.Reached.TheVariants.{More, Item, Before}
use Rattle.pieces_spots.specs.Spots.{marks_at, state_at, Fits, Goes, Onward}
use Rattle.pieces_quick.specs.Words.{Ready, base, spot_of, stood}
use Rattle.pieces_quick.specs.Gives.{told_at, Held, Finished, Feeds, Reaches, Comes, Says, later, Continues, Awaits, Answers}
use Rattle.pieces_quick.proofs.Worded.{stood-coded, spot_code, first_words, first_sound, call_feeds, feed_later, piece_most}

module _ (w : Words) (left : ℕ) (R : Ready w left) (s : PieceSpot) (buf text piece : List ℕ) (fits : Fits s buf piece) (sound : Sound (marks_at (base w) s) buf text) where
  abbrev S : State
  S = state_at (base w) s buf

  spot_words : (r : Words) → r ≡ stood w s w.depth → r ≡ coded (marks_at (base w) s)
  spot_words r e = e ∙ sym (stood-coded w left R s w.depth fits.rows)

  -- the call of `pieces_lent` on the words of the spot and the rest of the piece
  pub goes_on : later s.i (piece_for (lent (stood w s w.depth) buf) (drop s.i piece) (length text)) ≡ worded (feed_of S (drop s.i piece) s.i)
  goes_on =
      let z : 0 + s.i ≡ s.i = omega arith in
      ap (λ (x : Words). later s.i (piece_for (lent x buf) (drop s.i piece) (length text))) (spot_words (stood w s w.depth) refl)
      ∙ ap (later s.i) (call_feeds (marks_at (base w) s) buf text sound refl (spot_code w left R s fits.rows fits.which fits.detail) (drop s.i piece))
      ∙ feed_later (drop s.i piece) S 0 s.i
      ∙ ap (λ (k : ℕ). worded (feed_of S (drop s.i piece) k)) z

  -- all bytes were taken
  pub more_feeds : length piece ≤ s.i → Comes w s piece buf buf text text (More s)
  unfolding feed_of
  more_feeds h =
      let none : drop s.i piece ≡ [] = drop_of_length-le piece h in (
        ap (λ (x : Words). said (record { words = x; taken = s.i; got = got.More }) buf text) (spot_words (stood w s w.depth) refl)
            ∙ ap (λ (l : List ℕ). worded (feed_of S l s.i)) (sym none),
        ap (λ (l : List ℕ). text_after (feed_of S l s.i).what text) (sym none),
      )

  -- an item
  pub item_feeds : s.i < length piece → (q : QuickItem) (now then : List ℕ)
      → Finished w s (get_or piece s.i 0) buf now text then (Some q) → Comes w s piece buf now text then (Item q)
  item_feeds h q now then f =
      let front : get_or piece s.i 0 ∷ drop (suc s.i) piece ≡ drop s.i piece = sym (drop-cons piece s.i 0 h) in
      let g = f (drop (suc s.i) piece) in (
        g.0 ∙ ap (λ (l : List ℕ). worded (feed_of S l s.i)) front,
        g.1 ∙ ap (λ (l : List ℕ). text_after (feed_of S l s.i).what text) front,
      )

  -- what is asked before a byte
  pub before_byte : s.i < length piece → s.i + 1 < 2 ^ 64 → Held w s buf text
  before_byte h k = record {
    left = left;
    ready = R;
    sound = sound;
    far = omega (arith, fits.far);
    held = fits.held;
    small = fits.small;
    which = fits.which;
    detail = fits.detail;
    taken = k;
  }

-- from the words that were lent to the last spot
module _ (w : Words) (buf text piece : List ℕ) (full : length buf ≡ longest) (room : longest ≤ length text) (R : Ready w (length piece))
    (s : PieceSpot) (now : List ℕ) (on : Onward (spot_of w) buf s now piece) where
  goes : Goes (base w) text piece (spot_of w) buf s now
  goes = on (base w) text (first_sound w (length piece) R buf text full room)

  pub last_reached : Reaches w s now text
  last_reached = record { left = length piece; ready = R; sound = goes.sound }

  whole : worded (feed_of (state_at (base w) s now) (drop s.i piece) s.i) ≡ piece_for (lent w buf) piece (length text)
  whole =
      let start = first_sound w (length piece) R buf text full room in
      let coded_so : coded (marks_at (base w) (spot_of w)) ≡ w = stood-coded w (length piece) R (spot_of w) w.depth R.known.rows ∙ first_words w (length piece) R in
      ap worded goes.feeds
      ∙ sym (call_feeds (marks_at (base w) (spot_of w)) buf text start refl (spot_code w (length piece) R (spot_of w) R.known.rows R.known.narrow R.known.slim) piece)
      ∙ ap (λ (x : Words). piece_for (lent x buf) piece (length text)) coded_so

  says : (t : Told) (end then : List ℕ) → Feeds w s piece now end text then t → Says w piece buf end text then t
  says t end then f = (f.0 ∙ whole, f.1 ∙ ap (λ (x : Said). text_after x.what text) whole)

  -- the words of the last spot are those of a state that reads on
  reads : Fits s now piece → Stood (stood w s w.depth) now text
  reads fits =
      let spot : coded (marks_at (base w) s) ≡ stood w s w.depth = stood-coded w (length piece) R s w.depth fits.rows in
      subst (λ (x : Words). Stood x now text) spot (record {
        code = spot_code w (length piece) R s fits.rows fits.which fits.detail;
        sound = subst (λ (m : Marks). Sound m now text) (sym (standing-coded (marks_at (base w) s))) goes.sound;
      })

  -- from the last spot the plain call goes on
  awaits : Fits s now piece → Awaits w piece buf now text text s
  awaits fits =
      record { inside = fits.inside; same = refl; reads = reads fits; on = goes_on w (length piece) R s now text piece fits goes.sound ∙ whole }

  pub answers : Fits s now piece → (r : Reached) (end then : List ℕ) → Comes w s piece now end text then r → Answers w piece buf end text then r
  answers fits (More p) end then f = says (told_at w p w.depth got.More) end then f
  answers fits (Item q) end then f = says (told_at w q.spot q.depth (got.Item q.item)) end then f
  answers fits (Before p) end then f =
      subst (λ (x : PieceSpot). Awaits w piece buf end text then x) (sym f.0)
      (subst (λ (l : List ℕ). Awaits w piece buf l text then s) (sym f.1)
      (subst (λ (l : List ℕ). Awaits w piece buf now text l s) (sym f.2) (awaits fits)))

-- the plain call from a place of the piece on
module _ (w : Words) (from : ℕ) (piece buf now text then : List ℕ) (inside : from ≤ length piece) (t : Told)
    (says : said t now then ≡ piece_for (lent w buf) (take (length piece - from) (drop from piece)) (length text))
    (wrote : then ≡ text_after (piece_for (lent w buf) (take (length piece - from) (drop from piece)) (length text)).what text) where
  called : said t now then ≡ piece_for (lent w buf) (drop from piece) (length text)
  called = says ∙ ap (λ (l : List ℕ). piece_for (lent w buf) l (length text)) (part_rest piece from)

  pub plain_taken : t.taken + from ≤ length piece
  plain_taken =
      let k : t.taken ≡ (piece_for (lent w buf) (drop from piece) (length text)).taken = ap (λ (x : Said). x.taken) called in
      omega (arith, k, piece_most (lent w buf) (drop from piece) (length text), length-drop from piece)

  pub continues : Continues w from piece buf now text then (record { words = t.words; taken = t.taken + from; got = t.got })
  continues = (
    ap (later from) called,
    wrote ∙ ap (λ (l : List ℕ). text_after (piece_for (lent w buf) l (length text)).what text) (part_rest piece from),
  )
