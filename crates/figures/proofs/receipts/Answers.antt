-- The receipts of the periods passed are counted.
use native.Mathlib.Omega.{arith}
use Rattle.base.proofs.Sums.{sum-none, sum_more, sum-all}
use Rattle.sets.specs.Receipts.{receipted_of}
use Rattle.figures.specs.Totals.{receipt_count}
use Rattle.figures.proofs.Counted.{packed_counted}
use Rattle.figures.proofs.receipts.Goals as goal

pub loop-p-init : goal.loop-p-init
unfolding receipt_count
loop-p-init c = (omega arith, sum-none _)

pub loop-p-preserved : goal.loop-p-preserved
unfolding receipt_count receipted_of
loop-p-preserved c =
    let l = c.loop-p in
    let one = packed_counted _ _ c.requires.1 c.receipted_in.ensures c.count_items-count.ensures.0 in
    (omega arith, sum_more _ l.p _ _ l.invariant.1 one)

pub returns : goal.returns
unfolding receipt_count
returns c = let l = c.loop-p in sum-all _ l.p _ _ (omega arith) (omega arith) l.invariant.1
