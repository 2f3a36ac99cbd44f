-- By `too_long` and `its_gain`.
use Rattle.gain_line.proofs.Lines.{too_long, its_gain}
use Rattle.gain_line.proofs.put_told.Goals as goal

pub returns-then-input-gt-INPUT_MOST : goal.returns-then-input-gt-INPUT_MOST
returns-then-input-gt-INPUT_MOST c = search too_long

pub returns : goal.returns
returns c = search its_gain
