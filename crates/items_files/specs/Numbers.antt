-- The number that stands at the start of some bytes, with the place after it. The reader of a file (Read) goes byte by byte; the code
-- goes number by number, and the two are one (proofs/Reader, `reads`).
use Rattle.std.specs.Prelude.{ℕ, ◌+◌, ◌-◌, ◌*◌, List, [], ◌∷◌, eqb, leb, ltb, if◌then◌else◌, Result, Ok, Err}
use Rattle.items_files.specs.Groups.{most}
use Rattle.items_files.specs.declared.Number.{Number}
use Rattle.items_files.specs.declared.NumberFault.{NumberFault}
use Rattle.items_files.specs.declared.NumberFault.TheVariants.{Wrong, Cut}

-- the weight of the fifth group
abbrev pub fifth : ℕ
fifth = 268435456

-- a number, and the place after it
abbrev pub whole : ℕ → ℕ → Result Number NumberFault
whole value next = Ok (record { value = value; next = next })

-- v is the value of the groups before, w the weight of the next group, `at` its place
unfoldable pub number_of : ℕ → ℕ → ℕ → List ℕ → Result Number NumberFault
number_of v w at [] = Err Cut
number_of v w at (c ∷ s) =
    let more = number_of (v + w * (c - 128)) (w * 128) (at + 1) s in
    if leb 128 c
    then (if eqb w fifth then Err Wrong else more)
    else
    (if eqb c 0
    then (if eqb w 1 then whole 0 (at + 1) else Err Wrong)
    else (if ltb most (v + w * c) then Err Wrong else whole (v + w * c) (at + 1)))
