-- The op that is read is the step's.
use Rattle.gains.proofs.Counted.{adds_some, adds_none}
use Rattle.gains.proofs.adds.Goals as goal

pub returns-in-9 : goal.returns-in-9
returns-in-9 c = search adds_some

pub returns-in_default : goal.returns-in_default
returns-in_default c = search adds_none
