pub mod Letters
pub mod Cuts
pub mod Call
pub mod Plain
