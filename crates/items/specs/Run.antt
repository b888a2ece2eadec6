-- The machine over a text: what one character gives, and the end. A means of proof.
use Rattle.std.specs.Prelude.{ℕ, ◌+◌, Bool, List, [], ◌∷◌, ◌++◌, eqb, if◌then◌else◌}
use Rattle.laws.specs.Quoted.{code}
use Rattle.chars.specs.Encode.{width}
use Rattle.chars.specs.Blank.{is_blank}
use Rattle.items.specs.declared.Phase.{Phase}
use Rattle.items.specs.declared.Phase.TheVariants.{AfterHash}
use Rattle.items.specs.declared.Next.{Next}
use Rattle.items.specs.declared.Next.TheVariants.{Eat, Stop}
use Rattle.items.specs.Classes.{first_of}
use Rattle.items.specs.Readers.{SoFar, so_far, eat}
use Rattle.items.specs.Items.{Place, unset, range_after, Item, extent_items}
use Rattle.items.specs.Machine.{step_of, finish_of, on_first}

-- Where the machine stands between two characters: at the start of the text; after a `#` there; in a first line that starts with `#!`;
-- between items; in an item, with its start, its phase and what was read of it
pub data Mode : Type 0 where
  opening pound skipping idle : Mode
  busy : ℕ → Phase → List ℕ → Mode

-- the mode, the place, and the last `error` range
pub record Running : Type 0 where
  pub mode : Mode
  pub at : ℕ
  pub last : Place

abbrev pub state : Mode → ℕ → Place → Running
state m at last = record { mode = m; at = at; last = last }

abbrev pub fresh : Running
fresh = state opening 0 unset

-- a character between items: a blank is passed over, any other begins an item
abbrev pub begin_mode : ℕ → ℕ → Mode
begin_mode at c = if is_blank c then idle else busy at (on_first (first_of c)) (eat (so_far [] at) c).bytes

abbrev pub begin : ℕ → Place → ℕ → Running
begin at last c = state (begin_mode at c) (at + width c) last

-- what a character gives, items or none, and the state after it
pub record Fed : Type 0 where
  pub out : List Item
  pub after : Running

abbrev pub quietly : Running → Fed
quietly s = record { out = []; after = s }

-- in an item that started at s
abbrev pub on_next : Bool → Next → Place → ℕ → SoFar → ℕ → Fed
on_next report (Eat q) last s i c = quietly (state (busy s q (eat i c).bytes) (eat i c).at last)
on_next report (Stop o) last s i c = record { out = extent_items report last s o i; after = begin i.at (range_after report last s o i) c }

-- a `#` at the start of the text
abbrev pub pounded : ℕ → SoFar
pounded at = so_far (code "#" ∷ []) at

abbrev pub feed_mode : Bool → Mode → ℕ → Place → ℕ → Fed
feed_mode report opening at last c = quietly (if eqb c (code "#") then state pound (at + width c) last else begin at last c)
feed_mode report pound at last c =
    if eqb c (code "!")
    then quietly (state skipping (at + width c) last)
    else on_next report (step_of report AfterHash (pounded at) c) last 0 (pounded at) c
feed_mode report skipping at last c = quietly (if eqb c (code "\n") then begin at last c else state skipping (at + width c) last)
feed_mode report idle at last c = quietly (begin at last c)
feed_mode report (busy s p raw) at last c = on_next report (step_of report p (so_far raw at) c) last s (so_far raw at) c

abbrev pub feed : Bool → Running → ℕ → Fed
feed report s c = feed_mode report s.mode s.at s.last c

-- the end of the text
abbrev pub last_mode : Bool → Mode → ℕ → Place → List Item
last_mode report opening at last = []
last_mode report pound at last = extent_items report last 0 (finish_of AfterHash (pounded at).bytes) (pounded at)
last_mode report skipping at last = []
last_mode report idle at last = []
last_mode report (busy s p raw) at last = extent_items report last s (finish_of p raw) (so_far raw at)

abbrev pub finish : Bool → Running → List Item
finish report s = last_mode report s.mode s.at s.last

-- the items that are ready after some characters, and the state then
unfoldable pub advance : Bool → Running → List ℕ → Fed
advance report s [] = quietly s
advance report s (c ∷ cs) =
    let f : Fed = feed report s c in
    let g : Fed = advance report f.after cs in
    record { out = f.out ++ g.out; after = g.after }

-- the items of a text that ends after these characters
abbrev pub machine_items : Bool → Running → List ℕ → List Item
machine_items report s cs = (advance report s cs).out ++ finish report (advance report s cs).after
