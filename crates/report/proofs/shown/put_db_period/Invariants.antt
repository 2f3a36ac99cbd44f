use Rattle.text.specs.Wrote.{Put, each}
use Rattle.report.specs.Rows.{row_item}
use Rattle.report.proofs.shown.put_db_period.Given as goal

abbrev pub invariant-loop-x : goal.invariant-loop-x
invariant-loop-x l = Put l.initial.out (each (row_item l.sets l.j l.p) l.x) l.out
