pub mod Quoted
pub mod Texts
pub mod Lent
pub mod Letters
