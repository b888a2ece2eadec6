pub mod Written
pub mod Shapes
pub mod Records
pub mod Call
pub mod Decide
pub mod Pieces
pub mod Examples
