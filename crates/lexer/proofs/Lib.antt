-- Theorems that stand in the docs
-- `reads_all`
pub mod Opens
-- `reader_reads_all`
pub mod ReadsOn
-- `never_27`, `text_right_holds`
pub mod Placed
-- What they stand on, and what other crates cite
pub mod CharacterAt
pub mod Left
pub mod Turns
pub mod Extents
pub mod Cases
pub mod Spelled
pub mod Moves
pub mod Starts
pub mod Gives
pub mod Scans
pub mod Nexts
pub mod Glances
pub mod Stood
pub mod Strung
pub mod Tells
pub mod Quotings
pub mod Sharps
pub mod LoneCharacters
pub mod Skims
pub mod AllItems
pub mod Memory
pub mod ReadingOn
pub mod Writing
pub mod ToldTurns
pub mod Delivered
pub mod Texts
