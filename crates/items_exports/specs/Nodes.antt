-- What the questions about nodes mean, of any words. A node is three words: its kind, its item, and how many nodes lie beneath it, which
-- follow it; so the node past all these is its next sibling, if there is one.
use Rattle.std.specs.Prelude.{ℕ, ◌+◌, ◌*◌, ◌-◌, ◌/◌, List, eqb, leb, ltb, length, get_or, if◌then◌else◌}

-- words past the last whole node are none
abbrev pub nodes_of : List ℕ → ℕ
nodes_of s = length s / 3

abbrev pub beneath_of : List ℕ → ℕ → ℕ
beneath_of s at = get_or s (at * 3 + 2) 0

-- the node past a node and all that lies beneath it, at most as many as there are
unfoldable pub past_of : List ℕ → ℕ → ℕ
past_of s at = if leb (nodes_of s - at) (beneath_of s at) then nodes_of s else at + 1 + beneath_of s at

unfoldable pub child_of : List ℕ → ℕ → ℕ
child_of s at = if leb (nodes_of s) at then nodes_of s else if eqb (past_of s at) (at + 1) then nodes_of s else at + 1

-- past all that lies beneath a node; of no node, past all
unfoldable pub bound_of : List ℕ → ℕ → ℕ
bound_of s within = if leb (nodes_of s) within then nodes_of s else past_of s within

unfoldable pub sibling_of : List ℕ → ℕ → ℕ → ℕ
sibling_of s within at = if leb (nodes_of s) at then nodes_of s else if ltb (past_of s at) (bound_of s within) then past_of s at else nodes_of s
