pub mod BothTests
pub mod Back
