-- The parts of the line, one after the other.
use Rattle.text.proofs.Puts.{◌▷◌}
use Rattle.report.specs.Lines.{db_line}
use Rattle.report.proofs.lines.put_db.Goals as goal

pub returns : goal.returns
unfolding db_line
returns c = c.word.ensures ▷ c.field.ensures ▷ c.field-2.ensures ▷ c.field-3.ensures ▷ c.field-4.ensures ▷ c.byte.ensures
