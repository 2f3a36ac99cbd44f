-- The step is not there, is dropped, or is put back.
use Rattle.dropping.proofs.Trying.{not_there, was_dropped, was_put_back}
use mathlib.Core.Path.{ap}
use mathlib.Core.Bool.{not}
use Rattle.trials.proofs.trial.Trial.try_step.Goals as goal

pub returns-then-not-is_kept : goal.returns-then-not-is_kept
returns-then-not-is_kept c = search not_there

pub returns-then-last_answer-wanted : goal.returns-then-last_answer-wanted
returns-then-last_answer-wanted c =
    let given = c.requires in
    was_dropped _ _ _ c.is_kept.ensures _ (ap not c.if-not-is_kept.false) c.drop_step.ensures
    c.last_answer.ensures given.1 c.if-last_answer-wanted.true

pub returns : goal.returns
returns c =
    let given = c.requires in
    was_put_back _ _ _ c.is_kept.ensures _ (ap not c.if-not-is_kept.false) c.drop_step.ensures
    c.last_answer.ensures given.1 c.if-last_answer-wanted.false c.put_back.ensures
