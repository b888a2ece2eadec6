pub mod Left
pub mod Stored
pub mod Compared
pub mod Answers
pub mod Words
