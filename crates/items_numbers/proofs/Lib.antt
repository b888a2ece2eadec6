-- Theorems that stand in the docs
-- `items_stand`
pub mod Stands
-- `number_items`
pub mod Numbers
-- `read_parts`, `calls_parts`
pub mod Calls
-- What they stand on, and what other crates cite
pub mod Spelled
pub mod Comes
