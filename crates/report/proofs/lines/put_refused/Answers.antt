-- The parts of the line, one after the other.
use mathlib.Core.Path.{ap}
use Rattle.text.specs.Decimal.{field}
use Rattle.text.proofs.Puts.{◌▷◌, renamed}
use Rattle.report.specs.Lines.{refused_line}
use Rattle.report.proofs.lines.put_refused.Goals as goal

pub returns : goal.returns
unfolding refused_line
returns c = c.word.ensures ▷ renamed (ap field c.number.ensures) c.field.ensures ▷ c.byte.ensures
