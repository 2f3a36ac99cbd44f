-- The bits that are 1 are the members of the set: by `counted`.
use native.Mathlib.Omega.{arith}
use Rattle.header.proofs.Reach.{counted}
use Rattle.header.proofs.quorum.count.Goals as goal

pub returns : goal.returns
returns c = counted c.args.set (omega arith)
