-- Theorems that stand in the docs
-- `read_seen_with`
pub mod Calls
-- `calls_seen_with`, `calls_finished_seen_with`
pub mod Pieces
-- What they stand on, and what other crates cite
pub mod Added
