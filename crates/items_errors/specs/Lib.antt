pub mod Failing
pub mod First
pub mod Delimited
