-- Theorems that stand in the docs
-- `ten`, `file-numbers`, `read_written`, `Written-Read`, `one_image`, `one_list`, `trip_there`, `trip_back`
pub mod Round
-- `file_few`, `stored`, `stored_fits`, `never_back`
pub mod Stored
-- What they stand on, and what other crates cite
pub mod Groups
pub mod Laid
pub mod Records
pub mod Writer
pub mod Reader
pub mod LightItems
pub mod Filler
pub mod Trips
pub mod Calls
