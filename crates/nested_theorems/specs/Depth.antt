-- The depth of an item: how many brackets are open before it. A close with none open leaves it at 0.
use Rattle.std.specs.Prelude.{ℕ, zero, suc, ◌+◌, ◌*◌, Bool, true, false, cond, List, [], ◌∷◌, eqb, get_or}
use Rattle.items.specs.Kinds as kind
use Rattle.items.specs.Items.{record_words}
use Rattle.nested.specs.Items.{Item, item}
use Rattle.nested.specs.declared.Class.{Class}
use Rattle.nested.specs.declared.Class.TheVariants.{Alien, Fails, Passes, Drops, Marks, Simple, Opens, Closes, Dots}

abbrev pub one_less : ℕ → ℕ
one_less zero = 0
one_less (suc n) = n

-- the open brackets after a record of this kind, with n before it
abbrev pub after : ℕ → ℕ → ℕ
after k n = cond (eqb k kind.OpenParen) (suc n) (cond (eqb k kind.CloseParen) (one_less n) n)

-- the depth of a record, by the kinds of those before it
unfoldable pub depth_of : List ℕ → ℕ → ℕ
depth_of s zero = 0
depth_of s (suc p) = after (get_or s (p * record_words) 0) (depth_of s p)

-- the same by what a record is to the reader
abbrev pub deeper : Class → ℕ → ℕ
deeper Alien n = n
deeper Fails n = n
deeper Passes n = n
deeper Drops n = n
deeper Marks n = n
deeper (Simple k) n = n
deeper (Opens s) n = suc n
deeper (Closes b) n = one_less n
deeper Dots n = n

-- neither an error nor alien to the layout
abbrev pub ours : Class → Bool
ours Alien = false
ours Fails = false
ours Passes = true
ours Drops = true
ours Marks = true
ours (Simple k) = true
ours (Opens s) = true
ours (Closes b) = true
ours Dots = true

-- opening and closing records
abbrev pub opening : Class → ℕ
opening Alien = 0
opening Fails = 0
opening Passes = 0
opening Drops = 0
opening Marks = 0
opening (Simple k) = 0
opening (Opens s) = 1
opening (Closes b) = 0
opening Dots = 0

abbrev pub shutting : Class → ℕ
shutting Alien = 0
shutting Fails = 0
shutting Passes = 0
shutting Drops = 0
shutting Marks = 0
shutting (Simple k) = 0
shutting (Opens s) = 0
shutting (Closes b) = 1
shutting Dots = 0

unfoldable pub opens : List Item → ℕ
opens [] = 0
opens (item p c ∷ xs) = opening c + opens xs

unfoldable pub closes : List Item → ℕ
closes [] = 0
closes (item p c ∷ xs) = shutting c + closes xs
