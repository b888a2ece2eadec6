-- Theorems that stand in the docs
-- `one_answer_rows`, `one_answer_find`
pub mod Answers
