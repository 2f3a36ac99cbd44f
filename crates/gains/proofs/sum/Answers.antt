-- The numbers passed are added up.
use borrow.Author.Rules.{rules}
use Rattle.base.proofs.Sums.{sum-none, sum_more}
use Rattle.gains.proofs.sum.Goals as goal

pub loop-k-init : goal.loop-k-init
loop-k-init c = (search sum-none, search rules)

pub loop-k-preserved : goal.loop-k-preserved
loop-k-preserved c = (search sum_more, search rules)
