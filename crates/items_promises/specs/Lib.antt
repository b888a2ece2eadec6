-- One file for each group of calls: `Rows` says what the calls must answer, `rows` computes it.
pub mod Shapes
pub mod Digits
pub mod Number
pub mod Words
pub mod Steps
pub mod Read
pub mod Table
