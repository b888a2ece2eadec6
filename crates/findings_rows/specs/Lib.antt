pub mod Laid
pub mod Mended
pub mod Rows
pub mod Inner
pub mod Examples
