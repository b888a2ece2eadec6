pub mod Inner
pub mod Passed
