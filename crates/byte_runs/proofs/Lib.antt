pub mod Blocks
pub mod Together
pub mod Searched
