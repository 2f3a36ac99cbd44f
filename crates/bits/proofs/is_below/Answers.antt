-- A number below 2 ^ m has nothing left when it is shifted by m.
use Rattle.bits.proofs.Below.{none_above_lem}
use Rattle.bits.proofs.is_below.Goals as goal

pub returns-else-m-eq64 : goal.returns-else-m-eq64
returns-else-m-eq64 c = search none_above_lem
