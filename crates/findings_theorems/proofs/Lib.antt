-- Theorems that stand in the docs
-- `unmended`
pub mod Unmended
-- `items_laid`
pub mod Layouts
-- `stop_of`
pub mod Numbers
-- `clean_exactly`
pub mod CleanExactly
-- `rows_in_order`
pub mod Order
-- `mended_placed`
pub mod Placed
-- `in_order`
pub mod InOrder
-- `places_within`
pub mod InText
-- `places_between`
pub mod PlacesBetween
-- `places_in_text`, `places_answered`
pub mod Written
-- What they stand on, and what other crates cite
pub mod Sorts
pub mod Turns
pub mod Words
pub mod Clean
pub mod Exactly
pub mod Records
pub mod Within
pub mod Spans
pub mod Places
pub mod Characters
pub mod Openers
pub mod Between
