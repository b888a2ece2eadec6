pub mod Coding
pub mod Calls
pub mod Drive
pub mod Examples
pub mod Stood
