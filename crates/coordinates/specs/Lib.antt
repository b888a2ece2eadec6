pub mod Answers
pub mod Coordinate
pub mod Inner
pub mod Nearest
pub mod Means
pub mod Values
pub mod Examples
