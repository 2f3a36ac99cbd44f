-- The pair where the board has the item, and else nothing.
use Rattle.printing.proofs.Measuring.{pair_written, pair_left_out}
use Rattle.printing.proofs.parts.put_pair_on.Goals as goal

pub returns-then-not-has_bit : goal.returns-then-not-has_bit
returns-then-not-has_bit c = search pair_left_out

pub returns : goal.returns
returns c = search pair_written
