-- By `there_yes` and `there_no`: the bit at the place of `Heard j e`.
use native.Mathlib.Omega.{arith}
use Rattle.state.proofs.Frame.{there_yes, there_no}
use Rattle.state.proofs.facts.is_heard_by.Goals as goal

pub returns-then-is_heard : goal.returns-then-is_heard
returns-then-is_heard c = there_yes _ _ c.is_heard.ensures _ c.if-is_heard.true c.has.ensures (omega arith)

pub returns-else-is_heard : goal.returns-else-is_heard
returns-else-is_heard c = search there_no
