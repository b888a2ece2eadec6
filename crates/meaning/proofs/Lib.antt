pub mod Errors
pub mod Lines
