pub mod Text
pub mod Record
pub mod Value
pub mod Told
pub mod Rounded
