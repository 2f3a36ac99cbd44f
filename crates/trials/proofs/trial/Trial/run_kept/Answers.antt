-- The steps passed were run, if they are kept.
use mathlib.Core.Path.{refl}
use Rattle.trials.proofs.Running.{step_few, same_long, none_ran, all_ran}
use Rattle.trials.proofs.trial.Trial.run_kept.Goals as goal

pub loop-k-init : goal.loop-k-init
loop-k-init c = search none_ran

pub run_if_kept-requires : goal.run_if_kept-requires
run_if_kept-requires c = (refl, step_few c.args.self.now.fixed _ c.loop-k-test.true, c.loop-k.invariant)

pub shape_of-s : goal.shape_of-s
shape_of-s c = same_long _ c.args.self.now.fixed.made.taken c.requires c.loop-k.invariant

pub returns : goal.returns
returns c = search all_ran
