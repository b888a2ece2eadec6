-- Theorems that stand in the docs
-- `one_answer_write`, `one_answer_read`
pub mod Answers
-- `one_answer_write_told`, `one_answer_read_told`, `never_refuses_write`, `never_serves_write`, `never_unwritten`, `never_refuses_read`, `never_serves_read`, `never_unloaded`
pub mod Never
