-- A kept step leads to the next state, and one that is not kept leaves the state as it is.
use Rattle.trials.proofs.Running.{table_ends, table_few, can_run, step_ran, step_skipped}
use borrow.Author.Rules.{rules}
use Rattle.trials.proofs.trial.Trial.run_if_kept.Goals as goal

pub call_at-step-requires : goal.call_at-step-requires
call_at-step-requires c =
    let M = c.args.self.now.fixed.made in
    (table_ends M, table_few M, search rules)

pub run_step-requires : goal.run_step-requires
run_step-requires c =
    let M = c.args.self.now.fixed.made in
    rw c.requires.0 (M.prepared, can_run M c.requires.2)

pub returns-then-is_kept : goal.returns-then-is_kept
returns-then-is_kept c =
    step_ran c.args.self.now.fixed.made c.requires.2 c.is_kept.ensures c.if-is_kept.true c.call_at-step.ensures
    c.run_step.ensures.1

pub returns-else-is_kept : goal.returns-else-is_kept
returns-else-is_kept c = step_skipped c.args.self.now.fixed.made c.requires.2 c.is_kept.ensures c.if-is_kept.false
