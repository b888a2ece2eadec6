-- Parts of what is lent to the programs' aids.
use Rattle.std.specs.Prelude.{ℕ, ◌+◌, ◌*◌, ◌/◌, List, [], length, nat_le, nat_lt, slice_index, slice_range, if◌then◌else◌}
use Rattle.items.specs.declared.Record.{Record}
use Rattle.items.specs.Items.{record_words}

-- the part of a text between two places; an empty part where they go back or pass it
abbrev pub part_of : List ℕ → ℕ → ℕ → List ℕ
part_of s from to = if nat_lt to from then [] else if nat_lt (length s) to then [] else slice_range s from to

-- a record of ten words from a place on
abbrev pub record_from : List ℕ → ℕ → Record
record_from words at = record {
  nine = record {
    kind = slice_index words at;
    detail = slice_index words (at + 1);
    start = slice_index words (at + 2);
    end = slice_index words (at + 3);
    from = slice_index words (at + 4);
    to = slice_index words (at + 5);
    source = slice_index words (at + 6);
    first = slice_index words (at + 7);
    past = slice_index words (at + 8);
  };
  depth = slice_index words (at + 9);
}

-- the record at so many records from the start; one of nothing but 0 where there is none
abbrev pub record_at : List ℕ → ℕ → Record
record_at words n = if nat_le (length words / record_words) n then record_from [] 0 else record_from words (n * record_words)
