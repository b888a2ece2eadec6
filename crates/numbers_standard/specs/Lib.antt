pub mod Reals
pub mod Grammar
pub mod Grammars
pub mod Call
pub mod Examples
