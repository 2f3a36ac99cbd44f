use Rattle.gains.specs.File.{Turns}
use Rattle.gains.proofs.count_turns.Given as goal

abbrev pub invariant-loop-k : goal.invariant-loop-k
invariant-loop-k l = Turns l.s l.k l.turns
