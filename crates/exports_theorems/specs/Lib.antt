-- Texts in the midst of being read by calls on a lent state, and a caller over slices and numbers.
pub mod Lent
pub mod Flat
pub mod After
