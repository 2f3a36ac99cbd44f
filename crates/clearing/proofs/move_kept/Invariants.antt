use Rattle.clearing.specs.Moves.{Moved}
use Rattle.clearing.proofs.move_kept.Given as goal

abbrev pub invariant-loop-w : goal.invariant-loop-w
invariant-loop-w l = Moved l.initial.s l.s l.old l.w
