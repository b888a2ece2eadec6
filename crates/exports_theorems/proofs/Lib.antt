-- Theorems that stand in the docs
-- `call_means_lent`, `end_means_lent`, `late_means_lent`, `fewest_lent`, `stop_stands_lent`, `end_stop_stands_lent`, `finished_stays_lent`
pub mod Lent
-- `demand_3_flat`
pub mod Flat
-- `texts_same`
pub mod Texts
-- `same_calls`, `same_answer`, `items_begin_lent`, `finished_all_lent`, `stop_all_lent`, `short_refused_lent`, `refusals_lent`
pub mod After
-- What they stand on, and what other crates cite
pub mod Told
