-- The parts of the line, one after the other.
use Rattle.text.proofs.Puts.{◌▷◌}
use Rattle.report.specs.Lines.{totals_line}
use Rattle.report.proofs.lines.put_totals.Goals as goal

pub returns : goal.returns
unfolding totals_line
returns c = c.word.ensures ▷ c.field.ensures ▷ c.field-2.ensures ▷ c.field-3.ensures ▷ c.byte.ensures
