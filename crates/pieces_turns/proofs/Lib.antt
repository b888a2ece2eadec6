pub mod Told
pub mod Sounds
pub mod Passes
pub mod Stands
