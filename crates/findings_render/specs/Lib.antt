pub mod Rendered
pub mod Summed
pub mod Json
pub mod Called
