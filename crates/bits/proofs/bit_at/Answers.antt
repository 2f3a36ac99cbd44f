-- Past the end of the row no bit is set.
use Rattle.std.proofs.Common.{le-ltb}
use Rattle.bits.proofs.Written.{bit_at_past}
use Rattle.bits.proofs.bit_at.Goals as goal

pub returns-else-a-s : goal.returns-else-a-s
returns-else-a-s c = rw (le-ltb _ _ c.if-a-s.false) (bit_at_past _ _ c.if-a-s.false)
