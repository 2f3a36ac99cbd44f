-- The part of the input up to there.
use Rattle.rehearsal.specs.Input.{table_in}
use Rattle.rehearsal.proofs.input.table_in.Goals as goal

pub returns : goal.returns
unfolding table_in
returns c = rw c.table_end.ensures at c.part_of.ensures
