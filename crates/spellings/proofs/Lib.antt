pub mod Rows
pub mod Table
pub mod Case
pub mod Forms
pub mod PastFailing
