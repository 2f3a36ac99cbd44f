-- By `there_yes` and `there_no`: the bit at the place of `Signed k p i`.
use native.Mathlib.Omega.{arith}
use Rattle.state.proofs.Frame.{there_yes, there_no}
use Rattle.state.proofs.facts.is_signed.Goals as goal

pub returns-then-is_spot : goal.returns-then-is_spot
returns-then-is_spot c = there_yes _ _ c.is_spot.ensures _ c.if-is_spot.true c.has.ensures (omega arith)

pub returns-else-is_spot : goal.returns-else-is_spot
returns-else-is_spot c = search there_no
