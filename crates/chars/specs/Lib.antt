pub mod Utf8
pub mod Encode
pub mod Blank
pub mod Machine
pub mod Wide
pub mod Walk
pub mod Examples
