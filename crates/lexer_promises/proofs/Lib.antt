pub mod Meaning
pub mod Next
pub mod Text
pub mod Open
