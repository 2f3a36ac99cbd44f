-- The items of the entries passed are counted.
use native.Mathlib.Omega.{arith}
use Rattle.base.proofs.Sums.{sum-none, sum_more}
use Rattle.figures.proofs.Counted.{entry_counted, bag_all}
use Rattle.figures.proofs.items.Goals as goal

pub loop-e-init : goal.loop-e-init
loop-e-init c = (omega arith, sum-none _)

pub loop-e-preserved : goal.loop-e-preserved
loop-e-preserved c =
    let l = c.loop-e in
    let one = entry_counted _ c.entry_at.ensures c.published_by.ensures c.count_items-count.ensures.0 in
    (omega arith, sum_more _ l.e _ _ l.invariant.1 one)

pub returns : goal.returns
returns c = bag_all _ _ c.loop-e.e _ (omega (arith, c.bag_len-e-end.ensures.0)) c.loop-e.invariant.1
