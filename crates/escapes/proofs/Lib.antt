pub mod Cases
pub mod Lines
pub mod Hex
pub mod Laying
pub mod PlainRuns
