-- Theorems that stand in the docs
-- `one_place`
pub mod One
