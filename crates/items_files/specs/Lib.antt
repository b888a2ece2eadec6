pub mod Groups
pub mod Layout
pub mod Answers
pub mod Write
pub mod Numbers
pub mod Read
pub mod Glance
pub mod Examples
