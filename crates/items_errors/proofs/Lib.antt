-- Theorems that stand in the docs
-- `read_points_at_first`
pub mod First
-- `read_name_errors`, `read_never_thirteen`
pub mod NameErrors
-- What they stand on, and what other crates cite
pub mod Ascii
pub mod Digits
pub mod Phases
pub mod Steps
pub mod Characters
pub mod Marked
pub mod Eleven
pub mod Places
pub mod Rows
pub mod Names
pub mod Outcomes
