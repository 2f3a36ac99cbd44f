use Rattle.clearing.proofs.Afresh.{Renumbered}
use Rattle.clearing.proofs.renumber.Given as goal

abbrev pub invariant-loop-b : goal.invariant-loop-b
invariant-loop-b l = Renumbered l.initial.s l.s l.old l.n l.b
