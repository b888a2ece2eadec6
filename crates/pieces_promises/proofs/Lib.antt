-- Theorems that stand in the docs
-- `never_refuses`, `never_reads_all`, `never_nods`, `never_takes_none`, `never_fixed`, `never_unwritten`, `never_finished`,
-- `never_refuses_end`, `never_undeclared`, `never_refuses_open`, `never_opens_all`
pub mod Never
-- `end_never_more`
pub mod Ends
