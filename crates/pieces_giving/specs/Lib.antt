pub mod Answers
pub mod Copied
pub mod Inner
