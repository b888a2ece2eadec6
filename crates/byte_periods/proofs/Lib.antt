pub mod Greatest
pub mod Periodic
