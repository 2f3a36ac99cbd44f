use Rattle.printing.specs.Measured.{Measured}
use Rattle.printing.proofs.parts.measure.Given as goal

abbrev pub invariant-loop-x : goal.invariant-loop-x
invariant-loop-x l = Measured l.table l.board l.x l.e
