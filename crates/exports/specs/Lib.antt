-- What the exported functions answer: the library's answers as plain numbers.
pub mod Utf8
pub mod Read
-- What the piece calls leave, over slices and numbers alone.
pub mod Piece
pub mod Held
pub mod Spotted
pub mod Ended
