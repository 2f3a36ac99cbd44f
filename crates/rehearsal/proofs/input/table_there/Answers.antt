-- The pairs are judged first, and then the end.
use Rattle.rehearsal.specs.Input.{table_there}
use Rattle.rehearsal.proofs.input.table_there.Goals as goal

pub returns-then-fit : goal.returns-then-fit
unfolding table_there
returns-then-fit c = rw (← simp c.pairs_of.ensures at c.fit.ensures, c.if-fit.true) (simp c.table_end.ensures)

pub returns-else-fit : goal.returns-else-fit
unfolding table_there
returns-else-fit c = rw (← simp c.pairs_of.ensures at c.fit.ensures, c.if-fit.false)
