pub mod Pieces
pub mod Told
pub mod Whole
