pub mod Starts
pub mod Place
pub mod Many
pub mod Pieces
pub mod Words
pub mod Numbers
pub mod Examples
