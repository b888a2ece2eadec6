-- Theorems that stand in the docs
-- `never_27`, `held_on`, `open_held`, `calls_read_all`
pub mod Calls
-- `calls_read_all_lending`
pub mod Lending
-- What they stand on, and what other crates cite
pub mod Bounds
