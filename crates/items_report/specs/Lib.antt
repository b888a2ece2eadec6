pub mod AsPlain
pub mod Together
pub mod Records
