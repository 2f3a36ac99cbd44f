-- By `and_common`.
use native.Mathlib.Omega.{arith}
use Rattle.guard.proofs.Rows.{and_common}
use Rattle.guard.proofs.held.sets_meet.Goals as goal

pub returns : goal.returns
returns c = and_common c.args.a c.args.b (omega arith) (omega arith)
