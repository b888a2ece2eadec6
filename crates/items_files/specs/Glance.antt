-- What the reader may pass at once: brief numbers, and items nearly all of whose numbers have one group. The relations below say what such
-- a number or item is to the reader of Read; a look that finds none says nothing, and the reader goes number by number.
use Rattle.std.specs.Prelude.{ℕ, ◌+◌, ◌-◌, ◌≤◌, ◌<◌, ◌≡◌, List, ◌++◌, length, drop, get_or, Option, Some, None}
use Rattle.items.specs.Items.{record_words, words_of}
use Rattle.items.specs.declared.Record.{Record}
use Rattle.items_files.specs.Groups.{most}
use Rattle.items_files.specs.Layout.{before}
use Rattle.items_files.specs.Numbers.{whole, number_of}
use Rattle.items_files.specs.Read.{Found, all, fails, between, read_from}
use Rattle.items_files.specs.declared.Before.{Before}
use Rattle.items_files.specs.declared.Number.{Number}
use Rattle.items_files.specs.declared.Light.{Light}

-- ---- brief numbers

-- how many groups a brief number has at most, and the least number that has more
abbrev pub brief_groups : ℕ
brief_groups = 4

abbrev pub brief_end : ℕ
brief_end = 268435456

-- a brief number stands at a place, and the next one at `next`
pub record BriefNumber (s : List ℕ) (at value next : ℕ) : Type 0 where
  pub is_whole : whole value next ≡ number_of 0 1 at (drop at s)
  pub low : value < brief_end
  pub near : next ≤ at + brief_groups

abbrev pub BriefAt : List ℕ → ℕ → Option Number → Type 0
BriefAt s at (Some n) = BriefNumber s at n.value n.next
BriefAt s at None = Unit {0}

-- two numbers of one group each
abbrev pub PairAt : List ℕ → ℕ → Type 0
PairAt s at = (get_or s at 0 < 128) × (get_or s (at + 1) 0 < 128)

-- ---- light items

-- ten numbers, two of which may be brief
abbrev pub light_bytes : ℕ
light_bytes = 16

-- the highest start that two numbers of one group do not take past 32 bits
abbrev pub low_start : ℕ
low_start = 4294967041

-- an item of four numbers of one group, and then more
pub record LightHead (s : List ℕ) (at : ℕ) (b : Before) : Type 0 where
  pub which : b.which ≡ 0
  pub start : b.start ≤ low_start
  pub room : at + light_bytes ≤ length s
  pub kind : get_or s at 0 < 128
  pub detail : get_or s (at + 1) 0 < 128
  pub step : get_or s (at + 2) 0 < 128
  pub extent : get_or s (at + 3) 0 < 128

-- all of it: the start of its place ends at i, that of its text at j
pub record LightParts (s : List ℕ) (at : ℕ) (b : Before) (from i first j : ℕ) : Type 0 where
  pub head : LightHead s at b
  pub place : BriefNumber s (at + 4) from i
  pub place_pair : PairAt s i
  pub text : BriefNumber s (i + 2) first j
  pub text_pair : PairAt s j

abbrev pub light_record : List ℕ → ℕ → Before → ℕ → ℕ → ℕ → ℕ → Record
light_record s at b from i first j = record {
  nine = record {
    kind = get_or s at 0;
    detail = get_or s (at + 1) 0;
    start = b.start + get_or s (at + 2) 0;
    end = b.start + get_or s (at + 2) 0 + get_or s (at + 3) 0;
    from = from;
    to = from + get_or s i 0;
    source = get_or s (i + 1) 0;
    first = first;
    past = first + get_or s j 0;
  };
  depth = get_or s (j + 1) 0;
}

-- words in front of those that are found
abbrev pub front : List ℕ → Found → Found
front done (all ws) = all (done ++ ws)
front done (fails n j) = fails n j

-- Reading goes through these words, from one place to another, whatever the number of the first.
pub record Through (s : List ℕ) (b : Before) (at : ℕ) (ws : List ℕ) (b' : Before) (next : ℕ) : Type 0 where
  pub same : (j : ℕ) → read_from (between b) j (drop at s) ≡ front ws (read_from (between b') (j + length ws) (drop next s))

-- an item's record stands at a place, and the next item at `next`
pub record ItemAt (s : List ℕ) (at : ℕ) (b : Before) (r : Record) (next : ℕ) : Type 0 where
  pub ahead : at + record_words ≤ next
  pub inside : next ≤ length s
  pub through : Through s b at (words_of r) (before 0 r.depth r.nine.start) next

abbrev pub LightAt : List ℕ → ℕ → Before → Option Light → Type 0
LightAt s at b (Some l) = ItemAt s at b l.record l.next
LightAt s at b None = Unit {0}

-- the same where only the places are told: its start and its depth are there to be read
pub record LightTo (s : List ℕ) (at : ℕ) (b : Before) (next : ℕ) : Type 0 where
  pub record_there : Record
  pub start : record_there.nine.start ≡ b.start + get_or s (at + 2) 0
  pub depth : record_there.depth ≡ get_or s (next - 1) 0
  pub fits : b.start + get_or s (at + 2) 0 ≤ most
  pub item : ItemAt s at b record_there next

abbrev pub EndAt : List ℕ → ℕ → Before → Option ℕ → Type 0
EndAt s at b (Some next) = LightTo s at b next
EndAt s at b None = Unit {0}
