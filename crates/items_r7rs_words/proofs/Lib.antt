-- Theorems that stand in the docs
-- `word_items`, `own_mark_items`, `keyword_items`
pub mod Words
-- `number_ended`, `name_ended`, `boolean_character_ended`
pub mod Behind
-- `comment_read`, `comment_items`, `nested_or_touching`, `nested_standard`
pub mod Comments
-- `number_kept`
pub mod Kept
-- What they stand on, and what other crates cite
pub mod Readings
pub mod Begun
pub mod Hashes
pub mod Follows
