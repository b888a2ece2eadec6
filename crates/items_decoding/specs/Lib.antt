pub mod Elements
pub mod Examples
