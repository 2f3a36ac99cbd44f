use Rattle.rehearsal.specs.Running.{Ran}
use Rattle.rehearsal.proofs.run.Rehearsal.run.Given as goal

abbrev pub invariant-loop-k : goal.invariant-loop-k
invariant-loop-k l = Ran l.self.input.now l.k l.s l.initial.out l.out
