-- The peers passed are written.
use borrow.Author.Rules.{rules}
use Rattle.text.proofs.Puts.{each_none, each_more}
use Rattle.report.specs.State.{db_lines}
use Rattle.report.proofs.shown.put_dbs.Goals as goal

pub loop-k-init : goal.loop-k-init
loop-k-init c = each_none _

pub loop-k-preserved : goal.loop-k-preserved
loop-k-preserved c = search each_more depth 6

pub returns : goal.returns
unfolding db_lines
returns c = search rules
