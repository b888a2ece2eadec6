-- Theorems that stand in the docs
-- `written_parts`
pub mod Written
-- `no_number`
pub mod NoNumber
-- `read_as`
pub mod Token
-- `whole_items`
pub mod Whole
-- `boolean_items`, `bracket_items`, `mark_items`, `number_text_items`
pub mod Converse
-- `string_items`
pub mod OnlyStrings
-- `character_items`
pub mod OnlyCharacters
-- What they stand on, and what other crates cite
pub mod Classes
pub mod Bytes
pub mod Reading
pub mod Hash
pub mod Words
pub mod Computed
pub mod Hex
pub mod Quoted
pub mod Unescaped
pub mod Between
pub mod Reals
pub mod Ureal
pub mod Boolean
pub mod Punctuation
pub mod Comment
pub mod String
pub mod Character
pub mod Identifier
pub mod Lined
pub mod Number
pub mod BelowBound
pub mod Back
pub mod Inside
pub mod Example
pub mod Witness
pub mod Texts
