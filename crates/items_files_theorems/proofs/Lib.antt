-- Theorems that stand in the docs
-- `read_plans`, `read_never_32`
pub mod Whole
-- `piece_plans`, `piece_never_32`
pub mod Pieces
-- `reader_plans`, `reader_never_32`
pub mod Reader
-- What they stand on, and what other crates cite
pub mod Chain
pub mod Items
