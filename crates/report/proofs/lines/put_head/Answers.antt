-- The parts of the line, one after the other.
use Rattle.text.proofs.Puts.{◌▷◌}
use Rattle.report.specs.Lines.{head_line}
use Rattle.report.proofs.lines.put_head.Goals as goal

pub returns : goal.returns
unfolding head_line
returns c = c.word.ensures ▷ c.field.ensures ▷ c.word-2.ensures ▷ c.field-2.ensures ▷ c.word-3.ensures ▷ c.field-3.ensures ▷ c.byte.ensures
