-- `Rows` of each file says what the call must leave, `rows` computes it. `One` says that the contracts leave one answer.
pub mod One
pub mod Shapes
pub mod Open
pub mod Next
