-- Theorems that stand in the docs
-- `same_spot`, `found_spot`
pub mod Same
-- What they stand on, and what other crates cite
pub mod Counts
pub mod Lines
pub mod Columns
