pub mod Tabs
pub mod Newlines
