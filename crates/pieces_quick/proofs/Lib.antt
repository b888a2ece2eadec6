pub mod Knows
pub mod Worded
pub mod Giving
pub mod Answering
