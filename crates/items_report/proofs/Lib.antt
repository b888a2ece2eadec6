-- Theorems that stand in the docs
-- `report_plain`
pub mod AsPlain
-- `read_together`
pub mod Together
-- `records_together`, `thirteen_for_ten`
pub mod Records
