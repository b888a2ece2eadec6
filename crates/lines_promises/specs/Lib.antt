pub mod Whole
pub mod Pieces
pub mod Told
