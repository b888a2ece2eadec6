-- Theorems that stand in the docs
-- `same_piece_mut`, `same_end_mut`
pub mod Same
