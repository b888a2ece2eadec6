pub mod Number
pub mod Read
