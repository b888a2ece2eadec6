-- Theorems that stand in the docs
-- `extent_marked`, `items_answered`, `record_answered`, `extents_answered`
pub mod Records
-- What they stand on, and what other crates cite
pub mod Along
pub mod Outcomes
pub mod Bytes
pub mod Texts
pub mod First
pub mod Failing
