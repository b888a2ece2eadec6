pub mod Choice
pub mod Places
pub mod Runs
pub mod Blocks
pub mod Compared
pub mod Lent
