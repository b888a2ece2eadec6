pub mod Turning
pub mod Begins
pub mod Runs
pub mod Ends
pub mod Moves
pub mod TwoBytes
pub mod CopiedLines
pub mod CommentLines
