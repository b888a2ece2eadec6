pub mod Next
pub mod Open
