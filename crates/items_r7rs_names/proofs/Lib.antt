-- Theorems that stand in the docs
-- `identifier_items`
pub mod Identifiers
-- What they stand on, and what other crates cite
pub mod Names
pub mod Lines
pub mod Tame
