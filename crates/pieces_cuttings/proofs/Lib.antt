pub mod Sized
pub mod Unwritten
pub mod Noted
pub mod Handed
