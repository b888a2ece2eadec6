-- Theorems that stand in the docs
-- `read_depths`
pub mod Calls
-- `calls_depths`, `any_depths`
pub mod Pieces
-- What they stand on, and what other crates cite
pub mod Counts
