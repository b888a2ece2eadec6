-- Theorems that stand in the docs
-- `one_answer`, `never_refuses_all`, `never_one_reader`, `never_unknown_standard`, `never_unknown-bought`, `never_text_first`
pub mod Never
