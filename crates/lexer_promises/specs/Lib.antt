-- One file for each group of calls: `Rows` says what the calls must answer, `rows` computes it. `One` says that contracts leave one answer.
pub mod One
pub mod Open
pub mod Next
pub mod Text
pub mod Meaning
