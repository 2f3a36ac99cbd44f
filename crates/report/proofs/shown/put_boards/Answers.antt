-- The entries passed are written.
use borrow.Author.Rules.{rules}
use Rattle.text.proofs.Puts.{each_none, each_more}
use Rattle.report.proofs.Part.{bag_read}
use Rattle.report.proofs.shown.put_boards.Goals as goal

pub loop-e-init : goal.loop-e-init
loop-e-init c = each_none _

pub loop-e-preserved : goal.loop-e-preserved
loop-e-preserved c = search each_more depth 6

pub returns : goal.returns
returns c = bag_read _ _ _ c.bag_len-e-end.ensures.0 (search rules)
