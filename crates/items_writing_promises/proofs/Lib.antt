pub mod Write
pub mod Told
