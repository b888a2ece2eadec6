-- Theorems that stand in the docs
-- `only`
pub mod OneAnswer
-- `none_nearer`
pub mod Nearer
-- `value_means`, `means_value`, `outside_exactly`, `means_not_outside`
pub mod Means
-- `outside_only`, `outside_if`, `record_outside_only`, `record_outside_if`
pub mod Outside
-- What they stand on, and what other crates cite
pub mod Floats
pub mod Scales
pub mod Totals
pub mod Counted
pub mod Rounding
pub mod Ascii
pub mod Calls
pub mod Wholes
pub mod Shapes
