-- A line where there is a receipt.
use Rattle.text.proofs.Puts.{kept, left_out}
use Rattle.report.specs.State.{receipt_item}
use Rattle.report.proofs.shown.put_receipt_item.Goals as goal

pub returns-then-is_there : goal.returns-then-is_there
unfolding receipt_item
returns-then-is_there c = search kept depth 6

pub returns-else-is_there : goal.returns-else-is_there
unfolding receipt_item
returns-else-is_there c = search left_out depth 6
