-- The parts of the line, one after the other.
use Rattle.text.proofs.Puts.{◌▷◌}
use Rattle.gain_line.specs.Told.{gain_line}
use Rattle.gain_line.proofs.put_gain.Goals as goal

pub returns : goal.returns
unfolding gain_line
returns c = c.word.ensures ▷ c.field.ensures ▷ c.byte.ensures
