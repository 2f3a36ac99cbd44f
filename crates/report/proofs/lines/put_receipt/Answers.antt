-- The parts of the line, one after the other.
use Rattle.text.proofs.Puts.{◌▷◌}
use Rattle.report.specs.Lines.{receipt_line}
use Rattle.report.proofs.lines.put_receipt.Goals as goal

pub returns : goal.returns
unfolding receipt_line
returns c = c.word.ensures ▷ c.field.ensures ▷ c.field-2.ensures ▷ c.byte.ensures
