-- Theorems that stand in the docs
-- `zeros_is`
pub mod Zeros
-- `no_integer`, `small_exactly`, `big_exactly`
pub mod SmallBig
-- What they stand on, and what other crates cite
pub mod Digits
pub mod Integers
pub mod HexDigits
pub mod DecimalRuns
pub mod RadixRuns
