-- The last step, on the state that the kept ones lead to.
use mathlib.Core.Path.{◌∙◌}
use Rattle.trials.proofs.Running.{table_ends, table_few, can_run, last_few, last_ran}
use Rattle.trials.proofs.trial.Trial.last_answer.Goals as goal

pub call_at-step-requires : goal.call_at-step-requires
call_at-step-requires c =
    let F = c.args.self.now.fixed in
    (table_ends F.made, table_few F.made, last_few F)

pub run_step-requires : goal.run_step-requires
run_step-requires c =
    let M = c.args.self.now.fixed.made in
    (M.prepared, can_run M c.run_kept.ensures)

pub returns : goal.returns
returns c =
    last_ran c.args.self.now.fixed c.run_kept.ensures c.call_at-step.ensures (c.answer.ensures ∙ c.run_step.ensures.0)
