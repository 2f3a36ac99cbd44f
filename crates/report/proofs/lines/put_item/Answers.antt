-- The item where the board has it.
use Rattle.text.proofs.Puts.{kept, left_out}
use Rattle.report.specs.Lines.{board_item}
use Rattle.report.proofs.lines.put_item.Goals as goal

pub returns-then-has_bit : goal.returns-then-has_bit
unfolding board_item
returns-then-has_bit c = search kept depth 6

pub returns-else-has_bit : goal.returns-else-has_bit
unfolding board_item
returns-else-has_bit c = search left_out depth 6
