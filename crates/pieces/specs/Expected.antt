-- What the calls give for a text that comes in pieces, on the definition of items alone: the same items however the text is cut, up to
-- its end or to the stop. Document 01, "Piecewise". `report` is the mode, `bytes` are all bytes of all pieces.
use Rattle.std.specs.Prelude.{ℕ, ◌-◌, Bool, List, [], ◌∷◌, ◌++◌, length, eqb, ltb, if◌then◌else◌}
use Rattle.refusal.specs.Refusals as refusal
use Rattle.chars.specs.Utf8.{Sequence, read, broken, short, sequences, chars}
use Rattle.items.specs.Items.{Item, items, kept, byte_count, ends_before}
use Rattle.items.specs.Whole.{limit}
use Rattle.pieces.specs.Given.{Given, given_all}

-- how many bytes an item may have
abbrev pub longest : ℕ
longest = 4096

-- the item that a text breaks off in: its last item, if that ends where the text of n bytes ends
pub data Unfinished : Type 0 where
  nothing : Unfinished
  from : ℕ → Unfinished

unfoldable pub unfinished : ℕ → List Item → Unfinished
unfinished n [] = nothing
unfinished n (i ∷ []) = if eqb i.end n then from i.start else nothing
unfinished n (i ∷ j ∷ is) = unfinished n (j ∷ is)

-- how a text ends: clean, or by a stop, with its number, its place and the whole characters before the character of the byte that
-- shows it
pub data Ending : Type 0 where
  clean : Ending
  stop : ℕ → ℕ → List ℕ → Ending

-- 23: "an item, a skipped comment too, grows past 4,096 bytes", with its start. q are the characters before c, `here` the item that the
-- text q with c breaks off in, n the bytes of that text; `on` is how the text ends otherwise
abbrev pub grown : Unfinished → ℕ → List ℕ → Ending → Ending
grown nothing n q on = on
grown (from s) n q on = if ltb longest (n - s) then stop refusal.long_item s q else on

-- "At one byte 20 goes before 21 and 23": the first byte too many lies in the sequence that passes the limit, or at its end.
-- q are the characters so far, n is the count of all bytes
unfoldable pub ending_of : Bool → ℕ → List ℕ → List Sequence → Ending
ending_of report n q [] = clean
ending_of report n q (read c f t ∷ more) =
    let on = ending_of report n (q ++ (c ∷ [])) more in
    if ltb limit t then stop refusal.over_long limit q else grown (unfinished t (items report (q ++ (c ∷ [])))) t q on
ending_of report n q (broken f t ∷ more) = if ltb limit t then stop refusal.over_long limit q else stop refusal.not_utf8 f q
ending_of report n q (short f ∷ more) = if ltb limit n then stop refusal.over_long limit q else stop refusal.not_utf8 f q

pub data LastWord : Type 0 where
  finished : LastWord
  refused : ℕ → ℕ → LastWord

-- all items given, in order, and the last word
pub record Expected : Type 0 where
  pub items : List Given
  pub last : LastWord

-- "Before it come exactly these items: of the text made of the whole characters before that byte's character, those whose extents end
-- before that text does."
abbrev pub expected_by : Bool → Bool → List ℕ → Ending → Expected
expected_by report skip bytes clean = record { items = given_all bytes 0 (kept skip (items report (chars bytes))); last = finished }
expected_by report skip bytes (stop number place q) =
    record { items = given_all bytes 0 (kept skip (ends_before (byte_count q) (items report q))); last = refused number place }

unfoldable pub expected : Bool → Bool → List ℕ → Expected
expected report skip bytes = expected_by report skip bytes (ending_of report (length bytes) [] (sequences 0 0 bytes))
