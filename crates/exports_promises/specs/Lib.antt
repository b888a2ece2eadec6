-- One answer for each call, all of it: the edits of must-fail/ put wrong ones in its place.
pub mod Lent
pub mod Flat
pub mod Exports
