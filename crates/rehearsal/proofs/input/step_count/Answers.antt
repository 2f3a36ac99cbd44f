-- What is left after the table, by the bytes of a step.
use Rattle.rehearsal.specs.Input.{step_count}
use Rattle.rehearsal.proofs.input.step_count.Goals as goal

pub returns : goal.returns
unfolding step_count
returns c = simp c.table_end.ensures
