pub mod Laid
pub mod Gives
pub mod Shown
pub mod Steps
