-- Theorems that stand in the docs
-- `read_back`, `kept`
pub mod Left
-- `open_held`, `call_held`, `next_held`
pub mod Held
-- What they stand on, and what other crates cite
pub mod Whole
pub mod Spotted
pub mod Ended
