pub mod Laid
pub mod Escapes
pub mod Mends
pub mod Lays
