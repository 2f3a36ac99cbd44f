-- The steps passed were run, and their lines are written.
use mathlib.Core.Path.{refl}
use Rattle.rehearsal.proofs.States.{few_steps, same_long, none_ran, more_ran, all_ran}
use Rattle.rehearsal.proofs.run.Rehearsal.run.Goals as goal

pub loop-k-init : goal.loop-k-init
loop-k-init c = none_ran c.requires

pub run_one-requires : goal.run_one-requires
run_one-requires c =
    (refl, few_steps c.args.self.now.made.taken c.step_count-k-end.ensures c.loop-k-test.true, c.loop-k.invariant.state)

pub loop-k-preserved : goal.loop-k-preserved
loop-k-preserved c = search more_ran

pub shape_of-s : goal.shape_of-s
shape_of-s c = search same_long

pub returns : goal.returns
returns c = search all_ran
