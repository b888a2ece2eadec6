-- Theorems that stand in the docs
-- `balanced`
pub mod Balanced
-- `tenth_word`
pub mod TenthWord
-- `around`
pub mod Deep
-- `next_sibling`
pub mod Siblings
-- `built`
pub mod Built
-- `refused_first`
pub mod Refused
-- What they stand on, and what other crates cite
pub mod Placed
