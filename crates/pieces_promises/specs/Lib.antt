-- One answer for each call, all of it: the edits of must-fail/ put wrong ones in its place.
pub mod Rows
pub mod Expected
