-- The step on the state that the steps before it left, then its line.
use mathlib.Core.Path.{◌∙◌}
use Rattle.rehearsal.proofs.States.{ready_now, one_ran}
use Rattle.rehearsal.proofs.run.Rehearsal.run_one.Goals as goal

pub run_step-requires : goal.run_step-requires
run_step-requires c =
    let M = c.args.self.now.made in
    rw c.requires.0 (M.prepared, ready_now M _ c.requires.2)

pub returns : goal.returns
returns c =
    one_ran c.args.self.now.made _ c.requires.2 c.call_at-step.ensures
    (c.answer-answer.ensures ∙ c.run_step.ensures.0, c.run_step.ensures.1) c.put_step.ensures
