use Rattle.trials.specs.Flags.{kept}
use Rattle.trials.specs.Running.{Stands}
use Rattle.trials.proofs.trial.Trial.run_kept.Given as goal

abbrev pub invariant-loop-k : goal.invariant-loop-k
invariant-loop-k l = Stands l.self.input.now (kept l.flags) l.k l.s
