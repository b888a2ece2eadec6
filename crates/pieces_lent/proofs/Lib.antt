-- Theorems that stand in the docs
-- `standing-coded`, `coded-standing`
pub mod Back
-- `same_open`, `same_piece`, `same_end`, `never_27_lent`, `demand_3_lent`
pub mod Same
-- `refused_stays`, `end_refused_stays`
pub mod Stays
-- What they stand on, and what other crates cite
pub mod Served
pub mod Opens
pub mod SmallNumbers
pub mod Narrowness
pub mod Rows
pub mod Stood
