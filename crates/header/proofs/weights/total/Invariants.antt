use mathlib.Core.Path.{◌≡◌}
use Rattle.base.specs.Weight.{weight, all}
use Rattle.header.specs.Header.{weight_in}
use Rattle.header.proofs.weights.total.Given as goal

abbrev pub invariant-loop-k : goal.invariant-loop-k
invariant-loop-k l = l.total ≡ weight (weight_in l.table) l.k all
