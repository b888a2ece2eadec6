-- Theorems that stand in the docs
-- `items_begin`, `finished_all`, `stop_all`, `refusals`, `short_refused`
pub mod After
-- `resumes_lending`, `demand_3_lending`, `ends_lending`
pub mod Lend
-- What they stand on, and what other crates cite
pub mod Closing
