pub mod Fields
pub mod Answers
pub mod Examples
pub mod Each
