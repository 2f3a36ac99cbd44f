-- The number, and the end of the line.
use Rattle.text.proofs.Puts.{◌▷◌}
use Rattle.shrinking.specs.Shrunk.{number_line}
use Rattle.shrinking.proofs.print.put_number.Goals as goal

pub returns : goal.returns
unfolding number_line
returns c = c.decimal.ensures ▷ c.byte.ensures
