-- One after the other.
use Rattle.text.proofs.Puts.{◌▷◌}
use Rattle.printing.proofs.parts.put_pair.Goals as goal

pub returns : goal.returns
returns c = c.put_number.ensures ▷ c.put_number-2.ensures
