-- By `store_done`: the byte stored is that of the number.
use native.Mathlib.Omega.{arith}
use Rattle.state.proofs.Holds.{store_done}
use Rattle.state.proofs.numbers.set_value.Goals as goal

pub returns : goal.returns
returns c = store_done _ c.args.n _ _ c.requires.0 c.requires.1 (omega arith) c.slot_of-at.ensures
