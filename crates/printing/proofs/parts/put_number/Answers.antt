-- One after the other.
use Rattle.text.proofs.Puts.{◌▷◌}
use Rattle.printing.proofs.parts.put_number.Goals as goal

pub returns : goal.returns
returns c = c.byte.ensures ▷ c.byte-2.ensures
