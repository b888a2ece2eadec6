pub mod Lasts
pub mod Ends
