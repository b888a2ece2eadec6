-- Theorems that stand in the docs
-- `given_unrefused`
pub mod Call
-- `decimal_inside`, `one_decimal_inside`, `places_inside`
pub mod Inside
-- `zero_denominator_case`
pub mod Zero
-- What they stand on, and what other crates cite
pub mod Decimals
pub mod RealParts
pub mod Cuts
pub mod Judged
pub mod Plain
pub mod Ascii
pub mod PlainReals
pub mod PlainPlaces
pub mod Outlines
pub mod RadixNumbers
pub mod BriefNumbers
pub mod BriefAnswers
pub mod AfterPlus
pub mod Grammars
pub mod Refused
