-- The line where the step is kept.
use Rattle.text.proofs.Puts.{kept, left_out}
use Rattle.shrinking.specs.Shrunk.{kept_line}
use Rattle.shrinking.proofs.print.put_kept.Goals as goal

pub returns-then-is_kept : goal.returns-then-is_kept
unfolding kept_line
returns-then-is_kept c = search kept depth 6

pub returns-else-is_kept : goal.returns-else-is_kept
unfolding kept_line
returns-else-is_kept c = search left_out depth 6
