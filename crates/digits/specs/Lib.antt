pub mod Digits
pub mod Hex
pub mod Examples
