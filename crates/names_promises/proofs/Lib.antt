pub mod Entering
pub mod Exports
