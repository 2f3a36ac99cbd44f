-- The byte that is stored has that bit set; or set, and then turned over.
use Rattle.bits.proofs.Written.{is_set, is_cleared}
use Rattle.bits.proofs.write.Goals as goal

pub returns-then-v : goal.returns-then-v
returns-then-v c = search is_set

pub returns-else-v : goal.returns-else-v
returns-else-v c = search is_cleared
