-- Theorems that stand in the docs
-- `covered`
pub mod Items
-- `in_order`, `in_text`, `none_unseen`, `not_more`
pub mod Sentences
-- `rows_put_back`
pub mod Skipped
-- `read_covered`, `read_skipped`, `read_put_back`, `read_in_order`, `read_none_unseen`, `read_not_more`
pub mod Calls
-- `calls_covered`, `calls_finished`, `calls_long`, `calls_put_back`, `calls_skipped`
pub mod Pieces
-- What they stand on, and what other crates cite
pub mod Bytes
pub mod Extents
pub mod Located
pub mod Records
pub mod Before
pub mod Long
pub mod Stops
pub mod Refused
