pub mod Depth
pub mod Trees
pub mod Refused
