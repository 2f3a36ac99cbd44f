-- The items passed are written.
use borrow.Author.Rules.{rules}
use Rattle.text.proofs.Puts.{each_none, each_more}
use Rattle.report.specs.State.{receipt_period}
use Rattle.report.proofs.shown.put_receipt_period.Goals as goal

pub loop-x-init : goal.loop-x-init
loop-x-init c = each_none _

pub loop-x-preserved : goal.loop-x-preserved
loop-x-preserved c = search each_more depth 6

pub returns : goal.returns
unfolding receipt_period
returns c = search rules
