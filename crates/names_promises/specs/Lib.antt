pub mod Opening
pub mod Entering
pub mod Naming
pub mod Exports
