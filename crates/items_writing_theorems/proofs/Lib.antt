-- Theorems that stand in the docs
-- `round_trip`, `round_trip_bytes`, `settled`, `round_trip_depths`
pub mod Round
-- `edited_round_trip`, `edited_settled`
pub mod Edited
-- `written_back`
pub mod Calls
-- `read_written`, `Written-Read`, `written_again`
pub mod Trips
-- `writes`
pub mod Sound
-- What they stand on, and what other crates cite
pub mod TextSounds
pub mod Settling
pub mod Reading
pub mod Quotes
pub mod Parts
pub mod Characters
pub mod Fronts
pub mod HereBodies
pub mod Between
pub mod Stops
pub mod Reread
pub mod Extents
pub mod OwnExtents
