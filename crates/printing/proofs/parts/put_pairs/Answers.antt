-- The pairs of the items passed are written, and their texts measured.
use Rattle.printing.proofs.Measuring.{measured_none, pairs-none, pairs_next}
use Rattle.printing.proofs.parts.put_pairs.Goals as goal

pub loop-x-init : goal.loop-x-init
loop-x-init c = (measured_none _ _, pairs-none _ _ _)

pub loop-x-preserved : goal.loop-x-preserved
loop-x-preserved c = (c.with_item-e.ensures, search pairs_next depth 6)
