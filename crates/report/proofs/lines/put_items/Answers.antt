-- The items passed are written.
use Rattle.text.proofs.Puts.{each_none, each_more}
use Rattle.report.proofs.lines.put_items.Goals as goal

pub loop-x-init : goal.loop-x-init
loop-x-init c = each_none _

pub loop-x-preserved : goal.loop-x-preserved
loop-x-preserved c = search each_more depth 6
