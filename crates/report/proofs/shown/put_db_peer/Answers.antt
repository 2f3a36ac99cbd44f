-- The periods passed are written.
use borrow.Author.Rules.{rules}
use Rattle.text.proofs.Puts.{each_none, each_more}
use Rattle.report.specs.State.{db_peer}
use Rattle.report.proofs.Rows.{period_shown}
use Rattle.report.proofs.shown.put_db_peer.Goals as goal

pub loop-p-init : goal.loop-p-init
loop-p-init c = each_none _

pub loop-p-preserved : goal.loop-p-preserved
loop-p-preserved c = search (each_more, period_shown) depth 6

pub returns : goal.returns
unfolding db_peer
returns c = search rules
