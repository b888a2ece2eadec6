-- Theorems that stand in the docs
-- `open_one_answer`, `piece_one_answer`, `end_one_answer`, `piece_call_one_answer`, `end_call_one_answer`, `other_buffer`, `other_buffer_end`
pub mod Pieces
-- `open_one_answer`, `open_words_one_answer`, `piece_words_one_answer`, `end_words_one_answer`, `piece_mut_one_answer`, `end_mut_one_answer`
pub mod Lent
-- `never_unstored`, `never_takes_none`, `never_ends`, `never_refuses`, `never_nods`, `never_lets_unused_through`,
-- `never_lets_unknown_through`, `never_unstored_end`, `never_finished`, `never_lets_unknown_through_end`, `never_roomless`,
-- `never_opens_all`, `never_refuses_otherwise`, `never_opens_none`, `never_uncleared`
pub mod NeverLent
-- `never_nods`, `never_refuses`, `never_untold`, `never_unwritten`, `never_unstored`, `never_placeless`, `never_finished`,
-- `never_unfinished`, `never_skips`, `never_keeps`, `never_opens_none`, `never_opens_all`, `never_unput`, `never_swapped`
pub mod NeverFlat
-- `never_ignores_skip`, `never_refuses_read`, `never_serves_all`, `never_swaps_needs`, `never_source_alone`, `never_the_other`,
-- `never_unroomed`, `never_few_first`, `never_second`, `never_none`, `never_none_before`, `never_all`, `never_cut_as_bad`,
-- `never_end_as_cut`, `never_stays`, `never_passes_bad`, `never_turned`, `never_by_half`, `never_unput`, `never_another`
pub mod NeverExports
