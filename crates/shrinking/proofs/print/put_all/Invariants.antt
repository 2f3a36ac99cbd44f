use Rattle.text.specs.Wrote.{Put, each}
use Rattle.trials.specs.Flags.{kept}
use Rattle.shrinking.specs.Shrunk.{kept_line}
use Rattle.shrinking.proofs.print.put_all.Given as goal

abbrev pub invariant-loop-k : goal.invariant-loop-k
invariant-loop-k l = Put l.initial.out (each (kept_line (kept l.flags)) l.k) l.out
