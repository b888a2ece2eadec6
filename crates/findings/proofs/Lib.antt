-- Theorems that stand in the docs
-- `told_by_a_row`, `row_is_told`
pub mod Exactly
-- What they stand on, and what other crates cite
pub mod LineStarts
pub mod Searches
pub mod MisfitPass
pub mod OddNames
pub mod Swallows
pub mod AllTold
pub mod Calls
