-- The lines of the steps passed are written.
use Rattle.text.proofs.Puts.{each_none, each_more}
use Rattle.shrinking.proofs.print.put_all.Goals as goal

pub loop-k-init : goal.loop-k-init
loop-k-init c = each_none _

pub loop-k-preserved : goal.loop-k-preserved
loop-k-preserved c = search each_more depth 6
