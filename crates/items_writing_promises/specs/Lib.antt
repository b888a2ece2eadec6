pub mod Shapes
pub mod Texts
pub mod Write
pub mod Told
