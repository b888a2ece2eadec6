-- Theorems that stand in the docs
-- `cut`, `same_answer`
pub mod Joined
-- `held`, `same_index`
pub mod Held
-- `back`
pub mod Back
-- `answered_between`
pub mod Between
-- `lent_same`, `lent_held`, `lent_answer`
pub mod Words
-- `one_outcome`, `one_state`, `one_end`, `one_place`
pub mod Once
-- What they stand on, and what other crates cite
pub mod Tests
pub mod Line
pub mod Bounds
pub mod Columns
pub mod Feeding
pub mod Index
