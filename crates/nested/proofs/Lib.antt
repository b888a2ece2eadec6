-- Theorems that stand in the docs
-- `complete`, `unique`
pub mod Complete
-- `sound`
pub mod Sound
-- `stopped`, `first`
pub mod First
-- `in_order`, `end_in_order`
pub mod InOrder
-- `served`, `too_many`, `only`, `untouched`
pub mod Exactly
-- What they stand on, and what other crates cite
pub mod Steps
pub mod Places
pub mod Memory
pub mod Turns
pub mod Loops
pub mod Runs
pub mod Table
pub mod Shape
