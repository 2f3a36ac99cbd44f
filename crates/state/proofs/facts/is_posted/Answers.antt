-- By `there_yes` and `there_no`: the bit at the place of `Posted i`.
use native.Mathlib.Omega.{arith}
use Rattle.state.proofs.Frame.{there_yes, there_no}
use Rattle.state.proofs.facts.is_posted.Goals as goal

pub returns-then-is_item : goal.returns-then-is_item
returns-then-is_item c = there_yes _ _ c.is_item.ensures _ c.if-is_item.true c.has.ensures (omega arith)

pub returns-else-is_item : goal.returns-else-is_item
returns-else-is_item c = search there_no
