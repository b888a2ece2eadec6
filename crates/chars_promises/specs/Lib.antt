-- `Rows` says what the calls must answer, `rows` computes it.
pub mod Chars
pub mod Ascii
