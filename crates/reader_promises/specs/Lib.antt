-- `Rows` of each file says what the call must answer, `rows` computes it. `One` says that the contracts leave one answer.
pub mod One
pub mod Open
pub mod Next
