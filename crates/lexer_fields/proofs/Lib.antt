-- Theorems that stand in the docs
-- `fields_joined`, `fields_single`, `fields_one`
pub mod Singles
-- What they stand on, and what other crates cite
pub mod Parts
pub mod Progress
pub mod Cuts
pub mod OnePart
pub mod Writing
pub mod Ordered
pub mod Delivered
