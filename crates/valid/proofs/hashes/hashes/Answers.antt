-- The bits so far are the hashes among the entries so far.
use native.Mathlib.Omega.{arith}
use Rattle.valid.proofs.HashSet.{hashes_none, hashes_more, hashes_all}
use Rattle.valid.proofs.hashes.hashes.Goals as goal

pub loop-e-init : goal.loop-e-init
loop-e-init c = search hashes_none

pub loop-e-preserved : goal.loop-e-preserved
loop-e-preserved c = hashes_more _ _ _ _ (omega arith) c.loop-e.invariant c.put_if.ensures

pub returns : goal.returns
returns c = search hashes_all
