-- Theorems that stand in the docs
-- `one_answer`, `never_refuses`, `never_accepts`, `never_unwritten`
pub mod Never
-- `told_one_answer`, `never_serves_all`, `never_untold`, `never_needs_values`
pub mod NeverTold
