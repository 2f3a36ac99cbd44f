-- The items passed are written.
use borrow.Author.Rules.{rules}
use Rattle.text.proofs.Puts.{each_none, each_more}
use Rattle.report.specs.Rows.{row_item, row_lines}
use Rattle.report.proofs.shown.put_db_period.Goals as goal

pub loop-x-init : goal.loop-x-init
loop-x-init c = each_none _

pub loop-x-preserved : goal.loop-x-preserved
unfolding row_item
loop-x-preserved c = search each_more depth 6

pub returns : goal.returns
unfolding row_lines
returns c = search rules
