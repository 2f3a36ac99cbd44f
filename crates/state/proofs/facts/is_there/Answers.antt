-- By `there_yes` and `there_no`: a fact in range is the bit at its place; one out of range is not there.
use Rattle.state.proofs.Frame.{there_yes, there_no}
use Rattle.state.proofs.facts.is_there.Goals as goal

pub returns-then-in_range : goal.returns-then-in_range
returns-then-in_range c = search there_yes

pub returns-else-in_range : goal.returns-else-in_range
returns-else-in_range c = search there_no
