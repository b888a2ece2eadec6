-- Theorems that stand in the docs
-- `item_same`
pub mod Same
-- `cut`, `run_items`
pub mod Run
-- `read_splits`, `read_at`, `read_forward`
pub mod Splits
-- `decoded_shorter`
pub mod Shorter
-- `items_placed`, `items_order`, `items_count`, `items_memory`
pub mod Order
-- `depth_within`, `kept_past`, `depth_counts`, `nine`
pub mod Depth
-- `records_fit_lem`
pub mod Fit
-- `places_forget`
pub mod Places
-- `own_place`
pub mod Pointed
-- What they stand on, and what other crates cite
pub mod Cases
pub mod Every
pub mod Ready
pub mod Deep
pub mod Failing
pub mod Fine
pub mod Phases
pub mod OfClass
pub mod Walk
pub mod Outcomes
pub mod Meanings
pub mod LoneCharacters
pub mod Skipped
pub mod OneOrTwo
pub mod Own
pub mod OwnSteps
