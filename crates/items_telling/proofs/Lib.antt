pub mod Firsts
pub mod WordKinds
pub mod Tells
pub mod Escaped
