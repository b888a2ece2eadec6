-- Theorems that stand in the docs
-- `token_or_row`, `read_or_row`
pub mod Tokens
-- What they stand on, and what other crates cite
pub mod Elements
