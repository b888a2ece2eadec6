pub mod Lasts
pub mod Resting
pub mod Ending
