-- The steps passed are counted.
use borrow.Author.Rules.{rules}
use Rattle.gains.proofs.Counted.{counted_none, byte_digit, counted_more}
use Rattle.gains.proofs.count_added.Goals as goal

pub loop-k-init : goal.loop-k-init
loop-k-init c = (search counted_none, search rules)

pub loop-k-preserved : goal.loop-k-preserved
loop-k-preserved c = (counted_more _ _ _ _ c.loop-k.invariant.0 (byte_digit c.adds.ensures), search rules)
