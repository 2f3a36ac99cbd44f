-- The text where the board has the item, and else nothing.
use Rattle.printing.proofs.Measuring.{text_written, text_left_out}
use Rattle.printing.proofs.parts.put_text_on.Goals as goal

pub returns-then-not-has_bit : goal.returns-then-not-has_bit
returns-then-not-has_bit c = search text_left_out

pub returns : goal.returns
returns c = search text_written
