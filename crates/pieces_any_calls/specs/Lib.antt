pub mod After
pub mod Lend
pub mod Examples
