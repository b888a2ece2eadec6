pub mod OneByOne
pub mod Tables
pub mod Digits
pub mod Walks
pub mod Spotted
