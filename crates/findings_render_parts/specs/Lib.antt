pub mod Laid
pub mod Printed
pub mod Shown
pub mod Spots
