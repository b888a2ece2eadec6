pub mod Tells
pub mod Strings
