-- Theorems that stand in the docs
-- `parts_is`, `parts_inv`, `unique`
pub mod Whole
-- `same_parts`
pub mod Compare
-- `differs`, `bought_alone`, `standard_alone`, `exclusive`
pub mod Differs
-- `shows_1`, `shows_2`, `shows_3`, `only_1`, `only_2`, `only_3`, `even_e`, `upper_nan`
pub mod Shown
-- `differs_by_choice`
pub mod Call
-- What they stand on, and what other crates cite
pub mod Runs
pub mod Derived
pub mod Sound
pub mod Walk
pub mod Somewhere
pub mod Letters
pub mod Reals
pub mod OddSigns
pub mod WithParts
pub mod Bought
pub mod LowerCase
