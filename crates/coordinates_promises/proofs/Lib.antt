pub mod Record
pub mod Text
