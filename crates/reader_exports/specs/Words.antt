-- A position of the reader as the words that a caller keeps. docs/STATE.md is this page for whoever keeps one.
use Rattle.std.specs.Prelude.{ℕ, Bool, ◌&&◌, List, [], ◌∷◌, length, get_or, eqb, leb, if◌then◌else◌}
use Rattle.items.specs.Whole.{limit}
use Rattle.lexer.specs.declared.Position.{Position}

abbrev pub reader_words : ℕ
reader_words = 7

-- yes or no as a word
abbrev pub flag : Bool → ℕ
flag b = if b then 1 else 0

-- the words of a position as they stand in memory
abbrev pub listed : Position → List ℕ
listed p = p.spot.at ∷ p.spot.last.from ∷ p.spot.last.to ∷ flag p.spot.second ∷ flag p.spot.report ∷ flag p.spot.skip ∷ p.depth ∷ []

-- three numbers that are at most a fourth
abbrev pub are_at_most : ℕ → ℕ → ℕ → ℕ → Bool
are_at_most most a b c = leb a most && (leb b most && leb c most)

-- numbers of at most 32 bits
abbrev pub are_narrow : ℕ → ℕ → ℕ → Bool
are_narrow = are_at_most limit

-- words that are yes or no
abbrev pub are_flags : ℕ → ℕ → ℕ → Bool
are_flags = are_at_most 1

-- whether some words are those of a position
unfoldable pub is_position : List ℕ → Bool
is_position l = eqb (length l) reader_words && (are_narrow (get_or l 1 0) (get_or l 2 0) (get_or l 6 0) && are_flags (get_or l 3 0) (get_or l 4 0) (get_or l 5 0))

-- and which
abbrev pub position_in : List ℕ → Position
position_in l = record {
  spot = record {
    at = get_or l 0 0;
    last = record { from = get_or l 1 0; to = get_or l 2 0 };
    second = eqb (get_or l 3 0) 1;
    report = eqb (get_or l 4 0) 1;
    skip = eqb (get_or l 5 0) 1;
  };
  depth = get_or l 6 0;
}
