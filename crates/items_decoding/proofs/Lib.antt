-- Theorems that stand in the docs
-- `reads_through`, `well_read`
pub mod Reading
-- `decodes_through`, `same_way`, `string_text_lem`, `lined_text_lem`, `unescaped_value`
pub mod Decoding
-- What they stand on, and what other crates cite
pub mod Letters
