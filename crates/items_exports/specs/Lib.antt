pub mod Records
pub mod Nodes
pub mod Version
pub mod Examples
