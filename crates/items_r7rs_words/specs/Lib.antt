pub mod Words
pub mod Follows
pub mod Comments
