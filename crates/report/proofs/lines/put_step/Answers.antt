-- The parts of the line, one after the other.
use Rattle.text.proofs.Puts.{◌▷◌}
use Rattle.report.specs.Lines.{step_line}
use Rattle.report.proofs.lines.put_step.Goals as goal

pub returns : goal.returns
unfolding step_line
returns c = c.decimal.ensures ▷ c.field.ensures ▷ c.byte.ensures
