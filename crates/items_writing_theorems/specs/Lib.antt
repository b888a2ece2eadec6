pub mod Results
pub mod Edited
