-- A word and a run end in themselves, at the end of the text and before a space; the rest is `close_step`.
use lib.ListN.{length}
use Rattle.items.specs.Readers.{so_far}
use Rattle.items_writing.proofs.WordTurns.{word_closes, run_closes}
use Rattle.items_writing.proofs.word.close.Goals as goal

pub returns-in-InWord : goal.returns-in-InWord
returns-in-InWord c = let f = c.args in word_closes f.last f.phase (so_far f.t.now (length f.t.now)) c.in-InWord.is

pub returns-in-InRun : goal.returns-in-InRun
returns-in-InRun c = let f = c.args in run_closes f.last f.phase (so_far f.t.now (length f.t.now)) c.in-InRun.is
