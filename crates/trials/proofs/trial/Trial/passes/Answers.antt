-- Passes lead from every step to what is kept, and end where one drops none.
use borrow.Author.Rules.{rules}
use Rattle.dropping.proofs.Passing.{between_none, between_more, between-all, less_to_do}
use Rattle.trials.proofs.Running.{steps_left_lem}
use Rattle.trials.proofs.trial.Trial.passes.Goals as goal

pub loop-again-init : goal.loop-again-init
loop-again-init c = (search rules, search rules, search between_none)

pub loop-again-smaller : goal.loop-again-smaller
loop-again-smaller c = search less_to_do

pub loop-again-preserved : goal.loop-again-preserved
loop-again-preserved c = (search rules, search rules, search between_more)

pub returns : goal.returns
returns c = steps_left_lem c.args.self.now.fixed (search between-all)
