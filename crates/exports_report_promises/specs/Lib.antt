-- `Rows` of each file says what the calls must answer in report mode, `rows` computes it.
pub mod Read
pub mod Next
pub mod Pieces
