pub mod Spots
pub mod Lines
