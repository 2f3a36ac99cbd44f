-- The parts of the line, one after the other.
use Rattle.text.proofs.Puts.{◌▷◌}
use Rattle.report.specs.Lines.{board_line}
use Rattle.report.proofs.lines.put_board.Goals as goal

pub returns : goal.returns
unfolding board_line
returns c = c.word.ensures ▷ c.field.ensures ▷ c.put_items.ensures ▷ c.byte.ensures
