pub mod Productions
pub mod R7rs
pub mod Conditions
