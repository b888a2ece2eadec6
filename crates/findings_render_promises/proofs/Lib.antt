-- Theorems that stand in the docs
-- `one_answer_written`
pub mod Answers
