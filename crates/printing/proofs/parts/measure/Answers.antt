-- The items passed are measured.
use Rattle.printing.proofs.Measuring.{measured_none}
use Rattle.printing.proofs.parts.measure.Goals as goal

pub loop-x-init : goal.loop-x-init
loop-x-init c = measured_none _ _
