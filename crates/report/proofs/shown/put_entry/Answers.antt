-- The entry is a board, or it is none.
use Rattle.report.proofs.Part.{board-shown, others_hidden}
use Rattle.report.proofs.shown.put_entry.Goals as goal

pub returns-in-Board : goal.returns-in-Board
returns-in-Board c = search board-shown

pub returns-in_default : goal.returns-in_default
returns-in_default c = others_hidden _ _ c.in_default.not-Board
