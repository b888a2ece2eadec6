-- Theorems that stand in the docs
-- `run-sequences`, `run-chars`
pub mod Run
-- `pieces`
pub mod Pieces
-- `spells`
pub mod Spells
-- `good_bytes_lem`, `chars_encoded`
pub mod Good
-- `good_cut`
pub mod Cuts
-- `first_shown`, `run_first_shown`
pub mod FirstBad
-- What they stand on, and what other crates cite
pub mod Table
pub mod SixBits
pub mod Agree
pub mod Sequences
pub mod Scalar
pub mod Width
pub mod Round
pub mod Chars
pub mod Sharp
pub mod Ascii
pub mod Lay
pub mod Blanks
pub mod Wide
pub mod Walks
pub mod Pairs
pub mod Bytes
