-- The board has the item, or not.
use Rattle.printing.proofs.Measuring.{measured_skip, measured_more}
use Rattle.printing.proofs.parts.with_item.Goals as goal

pub returns-then-not-has_bit : goal.returns-then-not-has_bit
returns-then-not-has_bit c = search measured_skip

pub returns : goal.returns
returns c = search measured_more
