-- No steps, and 18; or the table and its clashes are read, and its steps are cut down.
use Rattle.rehearsal.proofs.Taking.{taken}
use Rattle.shrinking.proofs.Printing.{no_steps, uncut}
use Rattle.trials.proofs.Running.{fixed}
use Rattle.shrinking.proofs.cut.cut.Goals as goal

pub step_count-n-requires : goal.step_count-n-requires
step_count-n-requires c =
    let T = taken _ c.requires.0 in
    record { input_in_bounds = T.there; input_len_bound = T.few }

pub returns-then-n-eq0 : goal.returns-then-n-eq0
returns-then-n-eq0 c = search no_steps

pub invariant_of-trial : goal.invariant_of-trial
invariant_of-trial c =
    let given = c.requires in
    record { fixed = fixed given.0 given.1 c.head_of.ensures c.clash_rows-rows.ensures c.step_count-n.ensures c.if-n-eq0.false }

pub cut_steps-requires : goal.cut_steps-requires
cut_steps-requires c =
    let given = c.requires in
    uncut given.0 given.2 given.3 given.4 c.step_count-n.ensures c.if-n-eq0.false
