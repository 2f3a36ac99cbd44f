-- A blank, then the number.
use Rattle.text.specs.Decimal.{field}
use Rattle.text.proofs.Puts.{◌▷◌}
use Rattle.text.proofs.Printer.field.Goals as goal

pub returns : goal.returns
unfolding field
returns c = c.byte.ensures ▷ c.decimal.ensures
