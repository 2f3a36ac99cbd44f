-- The last end of the table's own pairs.
use Rattle.rehearsal.proofs.input.table_end.Goals as goal

pub returns : goal.returns
returns c = simp c.pairs_of.ensures at c.last_end.ensures
