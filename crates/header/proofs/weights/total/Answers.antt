-- The weights are added one after the other: the first k peers weigh `total`. Where there are none the peers are counted.
use mathlib.Core.Path.{sym, ◌∙◌}
use native.Mathlib.Omega.{arith}
use Rattle.header.proofs.Weighing.{total_counted, total_none, total_more, total_end, total_fits}
use Rattle.header.proofs.weights.total.Goals as goal

pub returns-then-weight_count-eq0 : goal.returns-then-weight_count-eq0
returns-then-weight_count-eq0 c =
    let count = c.weight_count.ensures.0 in
    c.peers-n.ensures ∙ sym (total_counted _ (sym count ∙ c.if-weight_count-eq0.true))

pub loop-k-init : goal.loop-k-init
loop-k-init c = total_none _

pub overflow_add-total : goal.overflow_add-total
overflow_add-total c =
    let l = c.loop-k in
    let right = c.requires in
    record {
      fits = total_fits _ right.1 l.k (omega (arith, right.0, c.peers-n.ensures)) l.invariant c.weight_in-total.ensures;
    }

pub loop-k-preserved : goal.loop-k-preserved
loop-k-preserved c = let l = c.loop-k in total_more _ l.k l.invariant c.weight_in-total.ensures

pub returns : goal.returns
returns c = let l = c.loop-k in total_end _ l.k c.peers-n.ensures (omega arith) l.invariant
